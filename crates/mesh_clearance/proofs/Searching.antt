-- Lemmas over lists: the least distance where one more edge or section is looked at.
use Rattle.std.proofs.Common.{◌≡◌, ℕ, ◌+◌, ◌<◌, ◌≤◌, ◌⊎◌, inl, inr, ⊎_elim, Bool, List, [], ◌∷◌, ◌++◌, length, take, get_or, refl, sym, ◌∙◌, ap, subst, arith, suc}
use Rattle.std.specs.Prelude.{min, Option, None, Some, MatchOption, IfSome}
use Rattle.std.specs.List.{All, flat_map}
use Rattle.std.proofs.lemmas.List.{get_or_default}
use Rattle.std.proofs.lemmas.List.Elements.{All-nil, All-cons, All-head, All-tail, All-weaker, All-more}
use Rattle.mesh_plane.specs.Plane.{Point, Edge}
use Rattle.mesh_plane.specs.Winding.{boundary, IsBalanced}
use Rattle.mesh_plane.proofs.Balance.{boundary_balanced, balanced_append}
use Rattle.mesh_clearance.specs.Boxes.{AreFar}
use Rattle.mesh_clearance.specs.Clearance.{AreApart, AreAllApart, IsClearance, IsSeparation, WindAsAtVertices, sections}
use Rattle.mesh_clearance.proofs.Paths.{near_points_wind}
use Rattle.mesh_clearance.proofs.Symmetries.{apart_less}

below_or_not : (k n : ℕ) → (k < n) ⊎ (n ≤ k)
below_or_not k n = grind arith

-- ---- the edges, run after run

-- `least` is the least of `most` and the distances of the edges
pub record IsNearest (most least : ℕ) (all : List Edge) (section : Edge) : Type 0 where
  pub less : least ≤ most
  pub apart : All (λ (e : Edge). AreApart least e section) all
  pub reached : (least ≡ most) ⊎ (All (λ (e : Edge). AreApart (suc least) e section) all → ⊥)

-- that of the edges before a place, and those behind are not all farther
pub record IsNearestBefore (most least at : ℕ) (all : List Edge) (section : Edge) : Type 0 where
  pub less : least ≤ most
  pub apart : AreFar least all 0 at section
  pub reached : (least ≡ most) ⊎ (All (λ (e : Edge). AreApart (suc least) e section) all → ⊥)

pub nearest_none : (most : ℕ) (all : List Edge) (section : Edge) → IsNearestBefore most most 0 all section
nearest_none most all section = record { less = omega arith; apart = λ i e low after before. absurd (omega (arith, before)); reached = inl refl }

-- what one step tells
pub record IsStep (least next at end : ℕ) (all : List Edge) (section : Edge) : Type 0 where
  pub less : next ≤ least
  pub apart : AreFar next all at end section
  pub reached : (next ≡ least) ⊎ (All (λ (e : Edge). AreApart (suc next) e section) all → ⊥)

pub nearest_more : (most least next at end : ℕ) (all : List Edge) (section : Edge) → IsStep least next at end all section →
    IsNearestBefore most least at all section → IsNearestBefore most next end all section
nearest_more most least next at end all section new h = record {
  less = let first = h.less in let second = new.less in omega (arith, first, second);
  apart = λ i e low after before. by i e low before (below_or_not i at);
  reached = from h.reached new.reached;
}
  where
    by : (i : ℕ) (e : Edge) → i < length all → i < end → (i < at) ⊎ (at ≤ i) → AreApart next (get_or all i e) section
    by i e low before (inl earlier) = apart_less next least (get_or all i e) section new.less (h.apart i e low (omega arith) earlier)
    by i e low before (inr later) = new.apart i e low later before

    from : (least ≡ most) ⊎ (All (λ (x : Edge). AreApart (suc least) x section) all → ⊥) → (next ≡ least) ⊎ (All (λ (x : Edge). AreApart (suc next) x section) all → ⊥) →
        (next ≡ most) ⊎ (All (λ (x : Edge). AreApart (suc next) x section) all → ⊥)
    from (inl x) (inl y) = inl (y ∙ x)
    from (inr x) (inl y) = inr (λ k. x (subst (λ (n : ℕ). All (λ (z : Edge). AreApart (suc n) z section) all) y k))
    from x (inr y) = inr y

pub nearest_all : (most least at : ℕ) (all : List Edge) (section : Edge) → length all ≤ at → IsNearestBefore most least at all section →
    All (λ (e : Edge). AreApart least e section) all
nearest_all most least at all section past h = λ k d low. h.apart k d low (omega arith) (omega (arith, low, past))

-- the edge at a place is measured
pub measured : (least s m at : ℕ) (all : List Edge) (d section : Edge) → m ≡ min least s → at < length all → IsSeparation (get_or all at d) section s →
    IsStep least m at (at + 1) all section
measured least s m at all d section is low found = record {
  less = omega (arith, is);
  apart = λ i e within after before. here i e within (omega (arith, after, before));
  reached = by (which m is);
}
  where
    here : (i : ℕ) (e : Edge) → i < length all → i ≡ at → AreApart m (get_or all i e) section
    here i e within same =
        subst (λ (x : Edge). AreApart m x section) (get_or_default all at d e low ∙ ap (λ (k : ℕ). get_or all k e) (sym same))
        (apart_less m s (get_or all at d) section (omega (arith, is)) found.apart)

    which : (x : ℕ) → x ≡ min least s → (x ≡ least) ⊎ (x ≡ s)
    which x e = grind (arith, e)

    by : (m ≡ least) ⊎ (m ≡ s) → (m ≡ least) ⊎ (All (λ (x : Edge). AreApart (suc m) x section) all → ⊥)
    by (inl x) = inl x
    by (inr x) = inr (λ k. found.greatest (subst (λ (n : ℕ). AreApart (suc n) (get_or all at d) section) x (k at d low)))

-- ---- the sections, one after another

pub record IsCleared (es seen all : List Edge) (least : ℕ) : Type 0 where
  pub apart : AreAllApart least es seen
  pub greatest : AreAllApart (suc least) es all → ⊥

pub cleared_none : (es all : List Edge) (e f : Edge) (s : ℕ) (rest others : List Edge) → es ≡ e ∷ rest → all ≡ f ∷ others → IsSeparation e f s → IsCleared es [] all s
cleared_none es all e f s rest others first second found = record {
  apart = λ k d low. All-nil (AreApart s (get_or es k d));
  greatest = λ h.
      found.greatest
      (All-head (AreApart (suc s) e) f others
      (subst (All (AreApart (suc s) e)) second
      (All-head (λ (x : Edge). All (AreApart (suc s) x) all) e rest (subst (All (λ (x : Edge). All (AreApart (suc s) x) all)) first h))));
}

pub cleared_more : (es all : List Edge) (i : ℕ) (d : Edge) (least r : ℕ) → i < length all → IsNearest least r es (get_or all i d) →
    IsCleared es (take i all) all least → IsCleared es (take (i + 1) all) all r
cleared_more es all i d least r low near h = record {
  apart = λ k c lower.
      All-more (AreApart r (get_or es k c)) all i d low
      (All-weaker (AreApart least (get_or es k c)) (AreApart r (get_or es k c)) (λ (x : Edge) (y : AreApart least (get_or es k c) x). apart_less r least (get_or es k c) x near.less y) (take i all) (h.apart k c lower))
      (near.apart k c lower);
  greatest = λ k.
      ⊎_elim (λ (e : r ≡ least). h.greatest (subst (λ (n : ℕ). AreAllApart (suc n) es all) e k))
      (λ (no_more : All (λ (x : Edge). AreApart (suc r) x (get_or all i d)) es → ⊥). no_more (λ j c lower. k j c lower i d low))
      near.reached;
}

-- ---- what it says of paths

pub balanced_all : (paths : List (List Point)) → IsBalanced (flat_map boundary paths)
balanced_all [] = λ p. refl
balanced_all (path ∷ paths) = balanced_append (boundary path) (flat_map boundary paths) (boundary_balanced path) (balanced_all paths)

left_apart : (t : ℕ) (es fs gs : List Edge) → AreAllApart t es (fs ++ gs) → AreAllApart t es fs
left_apart t es fs gs h =
    All-weaker (λ (e : Edge). All (AreApart t e) (fs ++ gs)) (λ (e : Edge). All (AreApart t e) fs) (λ (e : Edge) (k : All (AreApart t e) (fs ++ gs)). all_left (AreApart t e) fs gs k) es h
  where
    all_left : (P : Edge → Type 0) (xs ys : List Edge) → All P (xs ++ ys) → All P xs
    all_left P [] ys k = All-nil P
    all_left P (x ∷ xs) ys k = All-cons P x xs (All-head P x (xs ++ ys) k) (all_left P xs ys (All-tail P x (xs ++ ys) k))

right_apart : (t : ℕ) (es fs gs : List Edge) → AreAllApart t es (fs ++ gs) → AreAllApart t es gs
right_apart t es fs gs h =
    All-weaker (λ (e : Edge). All (AreApart t e) (fs ++ gs)) (λ (e : Edge). All (AreApart t e) gs) (λ (e : Edge) (k : All (AreApart t e) (fs ++ gs)). all_right (AreApart t e) fs gs k) es h
  where
    all_right : (P : Edge → Type 0) (xs ys : List Edge) → All P (xs ++ ys) → All P ys
    all_right P [] ys k = k
    all_right P (x ∷ xs) ys k = all_right P xs ys (All-tail P x (xs ++ ys) k)

pub all_wind : (t : ℕ) (are_closed : Bool) (es : List Edge) (paths : List (List Point)) → IsBalanced es → AreAllApart t es (flat_map (sections are_closed) paths) →
    All (WindAsAtVertices t are_closed es) paths
all_wind t are_closed es [] balanced h = All-nil (WindAsAtVertices t are_closed es)
all_wind t are_closed es (path ∷ paths) balanced h =
    All-cons (WindAsAtVertices t are_closed es) path paths
    (near_points_wind t are_closed es path balanced (left_apart t es (sections are_closed path) (flat_map (sections are_closed) paths) h))
    (all_wind t are_closed es paths balanced (right_apart t es (sections are_closed path) (flat_map (sections are_closed) paths) h))

pub winding_found : (found : Option ℕ) (P : Type 0) (contours paths : List (List Point)) (are_closed : Bool) (es fs : List Edge) → es ≡ flat_map boundary contours →
    fs ≡ flat_map (sections are_closed) paths → MatchOption found P (IsClearance es fs) →
    IfSome found (λ (t : ℕ). All (WindAsAtVertices t are_closed (flat_map boundary contours)) paths)
winding_found None P contours paths are_closed es fs e f h = tt
winding_found (Some t) P contours paths are_closed es fs e f h =
    all_wind t are_closed (flat_map boundary contours) paths (balanced_all contours)
    (subst (λ (l : List Edge × List Edge). AreAllApart t l.0 l.1) (λ i. (e i, f i)) h.apart)
