-- Lemmas over points and lists: the walk along the edges of a path.
use Rattle.std.proofs.Common.{◌≡◌, ℕ, zero, suc, ◌<◌, List, [], ◌∷◌, ◌++◌, Bool, true, false, cond, not, refl, sym, ◌∙◌, ap, subst, take, get_or, length, arith}
use Rattle.std.specs.Prelude.{pos, ◌≤ℤ◌}
use Rattle.std.specs.List.{All}
use Rattle.std.proofs.lemmas.Int.{ints}
use Rattle.std.proofs.lemmas.List.Elements.{All-head, All-tail, All-weaker, All-filter}
use Rattle.mesh_plane.specs.Plane.{Point, Edge}
use Rattle.mesh_plane.specs.Turning.{last_of}
use Rattle.mesh_plane.specs.Winding.{pairs_from, route, boundary, same_point}
use Rattle.mesh_plane.proofs.ClosedLists.{all_left, all_right, all_both}
use Rattle.mesh_num.specs.Segments.{proper_edges, edge_between}
use Rattle.mesh_offset.specs.Walks.{pairs}
use Rattle.mesh_offset.proofs.Padding.{safe_within_less}
use Rattle.mesh_offset.proofs.ProperEdges.{proper_append}
use Rattle.mesh_join.specs.Joins.{join_padding}
use Rattle.mesh_join.proofs.Joins.{padding_covers}
use Rattle.mesh_stroke.specs.Building.{IsStrokable}
use Rattle.mesh_stroke.specs.Paths.{neighbours, path_edges}
use Rattle.mesh_stroke.specs.Strokes.{EdgePair}
use Rattle.mesh_stroke.specs.Styles.{StrokeStyle, stroke_padding}
use Rattle.mesh_stroke.proofs.BuilderWalk.{IsFit, fit_radius}
use Rattle.mesh_stroke.proofs.Chains.{path_chain, neighbours_all}
use Rattle.mesh_stroke.proofs.Reach.{join_covered}
use Rattle.mesh_inner.specs.Private.Walks.{AreStrokable, IsFitEdge, IsFitCorner}

-- ---- pairs

pub pairs_are : {A : Type 0} (x : A) (xs : List A) → pairs (x ∷ xs) ≡ pairs_from x xs
pairs_are {A} x [] = refl
pairs_are {A} x (y ∷ ys) = ap (λ (l : List (A × A)). (x, y) ∷ l) (pairs_are y ys)

last_push : {A : Type 0} (a : A) (xs : List A) (x : A) → last_of a (xs ++ x ∷ []) ≡ x
last_push a [] x = refl
last_push a (y ∷ ys) x = last_push y ys x

pairs_push : {A : Type 0} (a : A) (xs : List A) (x : A) → pairs_from a (xs ++ x ∷ []) ≡ pairs_from a xs ++ (last_of a xs, x) ∷ []
pairs_push a [] x = refl
pairs_push {A} a (y ∷ ys) x = ap (λ (es : List (A × A)). (a, y) ∷ es) (pairs_push y ys x)

pub round_is : {A : Type 0} (a : A) (xs : List A) → boundary (a ∷ xs) ≡ pairs_from a xs ++ (last_of a xs, a) ∷ []
round_is {A} a xs = along a xs a
  where
    along : (p : A) (ys : List A) (z : A) → route p ys z ≡ pairs_from p ys ++ (last_of p ys, z) ∷ []
    along p [] z = refl
    along p (y ∷ ys) z = ap (λ (es : List (A × A)). (p, y) ∷ es) (along y ys z)

-- where the walk stands after so many of a list, it goes on to the next
pub last_grown : {A : Type 0} (a : A) (xs ys : List A) (x : A) → ys ≡ xs ++ x ∷ [] → last_of a ys ≡ x
last_grown a xs ys x e = ap (last_of a) e ∙ last_push a xs x

pub pairs_grown : {A : Type 0} (a from : A) (xs ys : List A) (x : A) → ys ≡ xs ++ x ∷ [] → from ≡ last_of a xs
    → pairs_from a ys ≡ pairs_from a xs ++ (from, x) ∷ []
pairs_grown {A} a from xs ys x e at =
    ap (pairs_from a) e ∙ pairs_push a xs x ∙ ap (λ (p : A). pairs_from a xs ++ (p, x) ∷ []) (sym at)

-- what holds of all pairs of neighbours holds of those so far as the walk comes
pub all_along : {A : Type 0} (P : A × A → Type 0) (closed : Bool) (a : A) (xs : List A) → All P (neighbours closed (a ∷ xs)) → All P (pairs_from a xs)
all_along P true a xs h = all_left P (pairs_from a xs) ((last_of a xs, a) ∷ []) (subst (All P) (round_is a xs) h)
all_along P false a xs h = subst (All P) (pairs_are a xs) h

pub pair_at : {A : Type 0} (P : A × A → Type 0) (a : A) (xs : List A) (i : ℕ) (x : A) → i < length xs → x ≡ get_or xs i x → All P (pairs_from a xs)
    → P (last_of a (take i xs), x)
pair_at P a [] i x low is h = absurd (omega (arith, low))
pair_at {A} P a (y ∷ ys) zero x low is h = subst (λ (z : A). P (a, z)) (sym is) (All-head P (a, y) (pairs_from y ys) h)
pair_at P a (y ∷ ys) (suc i) x low is h = pair_at P y ys i x (omega (arith, low)) is (All-tail P (a, y) (pairs_from y ys) h)

pub last_pair : {A : Type 0} (P : A × A → Type 0) (a : A) (xs : List A) → All P (boundary (a ∷ xs)) → P (last_of a xs, a)
last_pair P a xs h =
    All-head P (last_of a xs, a) [] (all_right P (pairs_from a xs) ((last_of a xs, a) ∷ []) (subst (All P) (round_is a xs) h))

pub last_all : {A : Type 0} (P : A → Type 0) (a : A) (xs : List A) → All P (a ∷ xs) → P (last_of a xs)
last_all P a [] h = All-head P a [] h
last_all P a (x ∷ xs) h = last_all P x xs (All-tail P a (x ∷ xs) h)

-- ---- the edges of a path

pushed : (es : List Edge) (p r : Point) → proper_edges (es ++ (p, r) ∷ []) ≡ proper_edges es ++ edge_between p r
pushed es p r = proper_append es ((p, r) ∷ []) ∙ ap (λ (l : List Edge). proper_edges es ++ l) (by (same_point p r))
  where
    by : (b : Bool) → cond {A = List Edge} (not b) ((p, r) ∷ []) [] ≡ cond {A = List Edge} b [] ((p, r) ∷ [])
    by true = refl
    by false = refl

pub edges_grown : (a from : Point) (xs ys : List Point) (x : Point) (old new : List Edge) → ys ≡ xs ++ x ∷ [] → from ≡ last_of a xs
    → old ≡ proper_edges (pairs_from a xs) → new ≡ old ++ edge_between from x → new ≡ proper_edges (pairs_from a ys)
edges_grown a from xs ys x old new e at h added =
    added ∙ ap (λ (l : List Edge). l ++ edge_between from x) h ∙ sym (pushed (pairs_from a xs) from x)
    ∙ ap proper_edges (sym (pairs_grown a from xs ys x e at))

pub edges_closed : (a from : Point) (xs : List Point) (old new : List Edge) → from ≡ last_of a xs
    → old ≡ proper_edges (pairs_from a xs) → new ≡ old ++ edge_between from a → new ≡ path_edges true (a ∷ xs)
edges_closed a from xs old new at h added =
    added ∙ ap (λ (l : List Edge). l ++ edge_between from a) h ∙ sym (pushed (pairs_from a xs) from a)
    ∙ ap proper_edges (ap (λ (p : Point). pairs_from a xs ++ (p, a) ∷ []) at ∙ sym (round_is a xs))

pub edges_open : (a : Point) (xs : List Point) (new : List Edge) → new ≡ proper_edges (pairs_from a xs) → new ≡ path_edges false (a ∷ xs)
edges_open a xs new h = h ∙ ap proper_edges (sym (pairs_are a xs))

-- ---- strokable paths

module _ (unit : ℕ) (style : StrokeStyle) where
  fit_edge : (e : Edge) → IsFit unit style e → IsFitEdge unit style.radius e
  fit_edge e h = record {
    differ = h.differ;
    safe_start = fit_radius unit style e.0 h.safe_a;
    safe_end = fit_radius unit style e.1 h.safe_b;
  }

  path_fits : (closed : Bool) (points : List Point) → All (IsStrokable unit style) points → All (IsFit unit style) (path_edges closed points)
  path_fits closed points safe =
      let proper = (path_chain closed points).proper in
      let ends : All (λ (e : Edge). IsStrokable unit style e.0 × IsStrokable unit style e.1) (path_edges closed points) =
      All-filter (λ (e : Edge). not (same_point e.0 e.1)) (λ (e : Edge). IsStrokable unit style e.0 × IsStrokable unit style e.1) (neighbours closed points)
      (neighbours_all (IsStrokable unit style) closed points safe) in
      λ k d h. record { differ = proper k d h; safe_a = (ends k d h).0; safe_b = (ends k d h).1 }

  pub fits : (closed : Bool) (es : List Edge) → AreStrokable unit style closed es → All (IsFit unit style) es
  fits closed es h = subst (All (IsFit unit style)) h.edges (path_fits closed h.points h.safe)

  pub fit_edges : (closed : Bool) (es : List Edge) → AreStrokable unit style closed es → All (IsFitEdge unit style.radius) es
  fit_edges closed es h = All-weaker (IsFit unit style) (IsFitEdge unit style.radius) fit_edge es (fits closed es h)

  fit_corner : pos 0 ≤ℤ style.radius → (c : EdgePair) → (IsFit unit style c.0 × IsFit unit style c.1) × (c.0.1 ≡ c.1.0) → IsFitCorner unit style.radius style.join c
  fit_corner sign c h = record {
    before = fit_edge c.0 h.0.0;
    after = fit_edge c.1 h.0.1;
    met = h.1;
    sign = sign;
    movable =
        safe_within_less unit (stroke_padding style) (join_padding style.join.kind style.radius) c.0.1
        (omega (arith, ints, padding_covers style.join style.radius)) (join_covered style) h.0.0.safe_b;
  }

  pub fit_corners : pos 0 ≤ℤ style.radius → (closed : Bool) (es : List Edge) → AreStrokable unit style closed es → All (IsFitCorner unit style.radius style.join) (neighbours closed es)
  fit_corners sign closed es h =
      All-weaker (λ (c : EdgePair). (IsFit unit style c.0 × IsFit unit style c.1) × (c.0.1 ≡ c.1.0)) (IsFitCorner unit style.radius style.join)
      (fit_corner sign) (neighbours closed es)
      (all_both (λ (c : EdgePair). IsFit unit style c.0 × IsFit unit style c.1) (λ (c : EdgePair). c.0.1 ≡ c.1.0) (neighbours closed es)
      (neighbours_all (IsFit unit style) closed es (fits closed es h))
      (subst (λ (l : List Edge). All (λ (c : EdgePair). c.0.1 ≡ c.1.0) (neighbours closed l)) h.edges (path_chain closed h.points).joined))
