-- Lemmas over lists: what the first points of contours tell of two nets.
use Rattle.std.proofs.Common.{◌≡◌, ℕ, ◌*◌, ◌<◌, ◌≤◌, inl, inr, ⊎_elim, refl, sym, ◌∙◌, subst, arith, List, [], ◌∷◌, get_or, zero, suc}
use Rattle.std.specs.Prelude.{pos, true}
use Rattle.std.specs.List.{All, flat_map}
use Rattle.std.proofs.Math.Nat.{mul-le-mul_right}
use Rattle.std.proofs.lemmas.List.Elements.{All-nil, All-cons, All-head, All-tail}
use Rattle.mesh_plane.specs.Plane.{Point, Edge}
use Rattle.mesh_plane.specs.Winding.{boundary, refined, route, winding, IsBalanced}
use Rattle.mesh_lattice.specs.Clean.{IsOn, refined_edge}
use Rattle.mesh_clearance.specs.Clearance.{AreAllApart, AreApart, IsClearance, IsNearer, WindAsAt, WindAsAtVertices}
use Rattle.mesh_clearance.proofs.Searching.{all_wind, balanced_all}
use Rattle.mesh_clearance.proofs.Symmetries.{apart_swapped}
use Rattle.mesh_clearance.proofs.Ways.{no_distance}
use Rattle.mesh_nets.specs.Nets.{AreNetsApart, IsNetSeparation}
use Rattle.mesh_nets.specs.Private.Outlines.{IsStartOutside}
use Rattle.mesh_nets.proofs.Among.{Among, all_among, among_append, among_index, among_left, among_right, listed_among}
use Rattle.mesh_nets.proofs.Between.{one_refined, start_on}
use Rattle.mesh_nets.proofs.Descent.{AreParted}
use Rattle.mesh_nets.proofs.Distances.{nets_apart, nets_swapped, none_or_some}

-- ---- near the edges of contours whose first points are outside a net, all is outside it

outside_one : (t : ℕ) (es : List Edge) (contour : List Point) → WindAsAtVertices t true es contour → IsStartOutside es contour →
    (f : Edge) → Among f (boundary contour) → (m : ℕ) (q : Point) → IsNearer t m f q → winding m q es ≡ pos 0
outside_one t es [] winds start f h m q near = absurd h
outside_one t es (p ∷ ps) winds start f h m q near =
    all_among (WindAsAt t es p) (route p ps p) (All-head (λ (vertex : Point). All (WindAsAt t es vertex) (route p ps p)) p ps winds) f h m q near ∙ start

outside_all : (t : ℕ) (es : List Edge) (contours : List (List Point)) → All (WindAsAtVertices t true es) contours → All (IsStartOutside es) contours →
    (f : Edge) → Among f (flat_map boundary contours) → (m : ℕ) (q : Point) → IsNearer t m f q → winding m q es ≡ pos 0
outside_all t es [] winds starts f h m q near = absurd h
outside_all t es (c ∷ cs) winds starts f h m q near =
    ⊎_elim
    (λ (k : Among f (boundary c)).
    outside_one t es c (All-head (WindAsAtVertices t true es) c cs winds) (All-head (IsStartOutside es) c cs starts) f k m q near)
    (λ (k : Among f (flat_map boundary cs)).
    outside_all t es cs (All-tail (WindAsAtVertices t true es) c cs winds) (All-tail (IsStartOutside es) c cs starts) f k m q near)
    (among_append (boundary c) (flat_map boundary cs) f h)

all_swapped : (t : ℕ) (es fs : List Edge) → AreAllApart t es fs → AreAllApart t fs es
all_swapped t es fs h j c lower k d low = apart_swapped t (get_or es k d) (get_or fs j c) (h k d low j c lower)

pub parted_of : (t : ℕ) (first second : List (List Point)) → 0 < t → AreAllApart t (flat_map boundary first) (flat_map boundary second) →
    All (IsStartOutside (flat_map boundary first)) second → All (IsStartOutside (flat_map boundary second)) first →
    AreParted t (flat_map boundary first) (flat_map boundary second)
parted_of t first second some apart first_outside second_outside = record {
  positive = some;
  first_balanced = balanced_all first;
  second_balanced = balanced_all second;
  apart = λ e f h k.
      all_among (AreApart t e) (flat_map boundary second)
      (all_among (λ (x : Edge). All (AreApart t x) (flat_map boundary second)) (flat_map boundary first) apart e h) f k;
  first_outside = outside_all t (flat_map boundary first) second (all_wind t true (flat_map boundary first) second (balanced_all first) apart) first_outside;
  second_outside =
      outside_all t (flat_map boundary second) first
      (all_wind t true (flat_map boundary second) first (balanced_all second) (all_swapped t (flat_map boundary first) (flat_map boundary second) apart)) second_outside;
}

-- ---- the distance of two nets

-- nets that are apart have edges that are
edges_apart : (t : ℕ) (es fs : List Edge) → AreNetsApart t es fs → AreAllApart t es fs
edges_apart t es fs h k d low j c lower m p q first second =
    h m p q (inl (record { edge = get_or es k d; listed = listed_among es (get_or es k d) (among_index es k d low); on = first }))
    (inl (record { edge = get_or fs j c; listed = listed_among fs (get_or fs j c) (among_index fs j c lower); on = second }))

apart_none : (es fs : List Edge) → AreNetsApart 0 es fs
apart_none es fs m p q first second = omega arith

pub separation_of_edges : (t : ℕ) (first second : List (List Point)) → IsClearance (flat_map boundary first) (flat_map boundary second) t →
    All (IsStartOutside (flat_map boundary first)) second → All (IsStartOutside (flat_map boundary second)) first →
    IsNetSeparation (flat_map boundary first) (flat_map boundary second) t
separation_of_edges zero first second h first_outside second_outside = record {
  apart = apart_none (flat_map boundary first) (flat_map boundary second);
  greatest = λ k. h.greatest (edges_apart 1 (flat_map boundary first) (flat_map boundary second) k);
}
separation_of_edges (suc t) first second h first_outside second_outside = record {
  apart =
      nets_apart (suc t) (flat_map boundary first) (flat_map boundary second)
      (parted_of (suc t) first second (omega arith) h.apart first_outside second_outside);
  greatest = λ k. h.greatest (edges_apart (suc (suc t)) (flat_map boundary first) (flat_map boundary second) k);
}

-- where two nets are apart the first points of the contours of one are outside the other
starts_outside : (es fs : List Edge) (contours : List (List Point)) → AreNetsApart 1 es fs → ((f : Edge) → Among f (flat_map boundary contours) → Among f fs) →
    All (IsStartOutside es) contours
starts_outside es fs [] apart among = All-nil (IsStartOutside es)
starts_outside es fs (c ∷ cs) apart among =
    All-cons (IsStartOutside es) c cs (one c (λ f h. among f (among_left (boundary c) (flat_map boundary cs) f h)))
    (starts_outside es fs cs apart (λ f h. among f (among_right (boundary c) (flat_map boundary cs) f h)))
  where
    none : (p : Point) (f : Edge) → f.0 ≡ p → Among f fs → (winding 1 p es ≡ pos 0 → ⊥) → ⊥
    none p f same h inside =
        let on : IsOn (refined_edge 1 f) p = subst (λ (z : Point). IsOn (refined_edge 1 f) z) (one_refined f.0 ∙ same) (start_on (refined 1 f.0) (refined 1 f.1)) in
        let l = apart 1 p p (inr inside) (inl (record { edge = f; listed = listed_among fs f h; on = on })) in
        omega (arith, l, no_distance p)

    outside : (p : Point) (f : Edge) → f.0 ≡ p → Among f fs → winding 1 p es ≡ pos 0
    outside p f same h =
        ⊎_elim (λ (k : winding 1 p es ≡ pos 0). k) (λ (k : winding 1 p es ≡ pos 0 → ⊥). absurd (none p f same h k)) (none_or_some (winding 1 p es))

    one : (contour : List Point) → ((f : Edge) → Among f (boundary contour) → Among f fs) → IsStartOutside es contour
    one [] h = tt
    one (p ∷ []) h = outside p (p, p) refl (h (p, p) (inl refl))
    one (p ∷ (x ∷ xs)) h = outside p (p, x) refl (h (p, x) (inl refl))

pub separation_within : (es : List Edge) (second : List (List Point)) → (All (IsStartOutside es) second → ⊥) → IsNetSeparation es (flat_map boundary second) 0
separation_within es second h = record {
  apart = apart_none es (flat_map boundary second);
  greatest = λ k. h (starts_outside es (flat_map boundary second) second k (λ f l. l));
}

pub separation_round : (first : List (List Point)) (fs : List Edge) → (All (IsStartOutside fs) first → ⊥) → IsNetSeparation (flat_map boundary first) fs 0
separation_round first fs h = record {
  apart = apart_none (flat_map boundary first) fs;
  greatest = λ k. h (starts_outside fs (flat_map boundary first) first (nets_swapped 1 (flat_map boundary first) fs k) (λ f l. l));
}

-- ---- nets without points

-- ---- the first point of a contour

pub start_of : (es : List Edge) (contour : List Point) (p : Point) (ps : List Point) → contour ≡ p ∷ ps → IsStartOutside es contour → winding 1 p es ≡ pos 0
start_of es contour p ps is h = subst (IsStartOutside es) is h

-- ---- what is found of two nets

pub within_found : (es seen fs : List Edge) (second : List (List Point)) → seen ≡ es → fs ≡ flat_map boundary second → (All (IsStartOutside seen) second → ⊥) →
    IsNetSeparation es fs 0
within_found es seen fs second same is h =
    subst (λ (xs : List Edge). IsNetSeparation es xs 0) (sym is)
    (separation_within es second (λ k. h (subst (λ (xs : List Edge). All (IsStartOutside xs) second) (sym same) k)))

pub round_found : (es fs seen : List Edge) (first : List (List Point)) → seen ≡ fs → es ≡ flat_map boundary first → (All (IsStartOutside seen) first → ⊥) →
    IsNetSeparation es fs 0
round_found es fs seen first same is h =
    subst (λ (xs : List Edge). IsNetSeparation xs fs 0) (sym is)
    (separation_round first fs (λ k. h (subst (λ (xs : List Edge). All (IsStartOutside xs) first) (sym same) k)))

pub edges_found : (es fs seen_es seen_fs : List Edge) (first second held : List (List Point)) (t : ℕ) → seen_es ≡ es → seen_fs ≡ fs → held ≡ first →
    es ≡ flat_map boundary first → fs ≡ flat_map boundary second → IsClearance (flat_map boundary first) (flat_map boundary second) t →
    All (IsStartOutside seen_es) second → All (IsStartOutside seen_fs) held → IsNetSeparation es fs t
edges_found es fs seen_es seen_fs first second held t same_es same_fs same is_es is_fs found outside_es outside_fs =
    subst (λ (w : List Edge × List Edge). IsNetSeparation w.0 w.1 t) (λ i. (sym is_es i, sym is_fs i))
    (separation_of_edges t first second found
    (subst (λ (xs : List Edge). All (IsStartOutside xs) second) (same_es ∙ is_es) outside_es)
    (subst (λ (w : List Edge × List (List Point)). All (IsStartOutside w.0) w.1) (λ i. ((same_fs ∙ is_fs) i, same i)) outside_fs))

pub less_apart : (s t : ℕ) (es fs : List Edge) → s ≤ t → AreNetsApart t es fs → AreNetsApart s es fs
less_apart s t es fs less h m p q first second =
    let l = h m p q first second in
    let k = mul-le-mul_right (m * m) less in
    omega (arith, l, k)

pub balanced_edges : (es : List Edge) (contours : List (List Point)) → es ≡ flat_map boundary contours → IsBalanced es
balanced_edges es contours is = subst IsBalanced (sym is) (balanced_all contours)
