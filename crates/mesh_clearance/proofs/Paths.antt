-- Lemmas over lists: edges wind alike at all vertices of a path that they stay away from, and near the path.
use Rattle.std.proofs.Common.{◌≡◌, ℕ, ◌<◌, refl, sym, ◌∙◌, arith, List, [], ◌∷◌, Bool, true, false, length, get_or}
use Rattle.std.specs.Prelude.{ℤ, pos}
use Rattle.std.specs.List.{All}
use Rattle.std.proofs.lemmas.List.Elements.{All-nil, All-cons, All-head, All-tail, All-weaker}
use Rattle.mesh_plane.specs.Plane.{Point, Edge}
use Rattle.mesh_plane.specs.Winding.{route, pairs_from, winding, IsBalanced}
use Rattle.mesh_lattice.proofs.Each.{Each}
use Rattle.mesh_clearance.specs.Clearance.{AreApart, AreAllApart, IsNearer, sections, NearPointsWindAsVertices}
use Rattle.mesh_clearance.proofs.Ways.{ends_same, near_same, positive}

pub each_of_all : {X : Type 0} (P : X → Type 0) (xs : List X) → All P xs → Each P xs
each_of_all P [] h = tt
each_of_all P (x ∷ xs) h = (All-head P x xs h, each_of_all P xs (All-tail P x xs h))

-- what is the same at both ends of each edge of a list
abbrev Stays : (Point → ℤ) → Edge → Type 0
Stays w e = w e.0 ≡ w e.1

-- is the same at all points and at the starts of all edges of a chain
record AreAlike (w : Point → ℤ) (v : ℤ) (points : List Point) (edges : List Edge) : Type 0 where
  at_points : All (λ (p : Point). w p ≡ v) points
  at_starts : All (λ (e : Edge). w e.0 ≡ v) edges

alike_from : (w : Point → ℤ) (u v : ℤ) (points : List Point) (edges : List Edge) → u ≡ v → AreAlike w u points edges → AreAlike w v points edges
alike_from w u v points edges e h = record {
  at_points = All-weaker (λ (p : Point). w p ≡ u) (λ (p : Point). w p ≡ v) (λ (p : Point) (k : w p ≡ u). k ∙ e) points h.at_points;
  at_starts = All-weaker (λ (f : Edge). w f.0 ≡ u) (λ (f : Edge). w f.0 ≡ v) (λ (f : Edge) (k : w f.0 ≡ u). k ∙ e) edges h.at_starts;
}

alike_next : (w : Point → ℤ) (e : Edge) (points : List Point) (edges : List Edge) → Stays w e → AreAlike w (w e.1) points edges →
    AreAlike w (w e.0) (e.0 ∷ points) (e ∷ edges)
alike_next w e points edges same h =
    let rest = alike_from w (w e.1) (w e.0) points edges (sym same) h in record {
      at_points = All-cons (λ (p : Point). w p ≡ w e.0) e.0 points refl rest.at_points;
      at_starts = All-cons (λ (f : Edge). w f.0 ≡ w e.0) e edges refl rest.at_starts;
    }

pairs_alike : (w : Point → ℤ) (p : Point) (ps : List Point) → All (Stays w) (pairs_from p ps) → AreAlike w (w p) (p ∷ ps) (pairs_from p ps)
pairs_alike w p [] h = record {
  at_points = All-cons (λ (x : Point). w x ≡ w p) p [] refl (All-nil (λ (x : Point). w x ≡ w p));
  at_starts = All-nil (λ (f : Edge). w f.0 ≡ w p);
}
pairs_alike w p (x ∷ xs) h =
    alike_next w (p, x) (x ∷ xs) (pairs_from x xs) (All-head (Stays w) (p, x) (pairs_from x xs) h) (pairs_alike w x xs (All-tail (Stays w) (p, x) (pairs_from x xs) h))

route_alike : (w : Point → ℤ) (p : Point) (ps : List Point) (z : Point) → All (Stays w) (route p ps z) → AreAlike w (w p) (p ∷ ps) (route p ps z)
route_alike w p [] z h = record {
  at_points = All-cons (λ (x : Point). w x ≡ w p) p [] refl (All-nil (λ (x : Point). w x ≡ w p));
  at_starts = All-cons (λ (f : Edge). w f.0 ≡ w p) (p, z) [] refl (All-nil (λ (f : Edge). w f.0 ≡ w p));
}
route_alike w p (x ∷ xs) z h =
    alike_next w (p, x) (x ∷ xs) (route x xs z) (All-head (Stays w) (p, x) (route x xs z) h) (route_alike w x xs z (All-tail (Stays w) (p, x) (route x xs z) h))

alike_along : (w : Point → ℤ) (is_closed : Bool) (path : List Point) → All (Stays w) (sections is_closed path) → (v : ℤ) × AreAlike w v path (sections is_closed path)
alike_along w true [] h = (pos 0, record { at_points = All-nil (λ (p : Point). w p ≡ pos 0); at_starts = All-nil (λ (e : Edge). w e.0 ≡ pos 0) })
alike_along w false [] h = (pos 0, record { at_points = All-nil (λ (p : Point). w p ≡ pos 0); at_starts = All-nil (λ (e : Edge). w e.0 ≡ pos 0) })
alike_along w true (p ∷ ps) h = (w p, route_alike w p ps p h)
alike_along w false (p ∷ ps) h = (w p, pairs_alike w p ps h)

-- each of the first edges is so far from the section number `k`
pub column : (t : ℕ) (es fs : List Edge) → AreAllApart t es fs → (k : ℕ) (d : Edge) → k < length fs → Each (λ (e : Edge). AreApart t e (get_or fs k d)) es
column t es fs apart k d h =
    each_of_all (λ (e : Edge). AreApart t e (get_or fs k d)) es
    (All-weaker (λ (e : Edge). All (AreApart t e) fs) (λ (e : Edge). AreApart t e (get_or fs k d)) (λ (e : Edge) (a : All (AreApart t e) fs). a k d h) es apart)

pub near_points_wind : NearPointsWindAsVertices
near_points_wind t is_closed es path balanced apart k d low l c lower m q near =
    same ∙ (alike.at_starts l c lower ∙ sym (alike.at_points k d low))
  where
    some_t : IsNearer t m (get_or (sections is_closed path) l c) q → 0 < t
    some_t h = positive t m (get_or (sections is_closed path) l c) q h

    same : winding m q es ≡ winding 1 (get_or (sections is_closed path) l c).0 es
    same = near_same t m es (get_or (sections is_closed path) l c) q balanced (column t es (sections is_closed path) apart l c lower) near

    found : (v : ℤ) × AreAlike (λ (p : Point). winding 1 p es) v path (sections is_closed path)
    found =
        alike_along (λ (p : Point). winding 1 p es) is_closed path
        (λ (i : ℕ) (e : Edge) (h : i < length (sections is_closed path)). ends_same t es (get_or (sections is_closed path) i e) (some_t near) balanced (column t es (sections is_closed path) apart i e h))

    alike : AreAlike (λ (p : Point). winding 1 p es) found.0 path (sections is_closed path)
    alike = found.1
