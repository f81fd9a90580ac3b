-- Lemmas over points and lists: the edges of a path, one after the other.
use Rattle.std.proofs.Common.{◌≡◌, List, [], ◌∷◌, ◌++◌, refl, sym, ◌∙◌, ap, append-nil}
use Rattle.std.specs.Prelude.{Bool, true, false, cond, not, Option, Some, None, if◌then◌else◌}
use Rattle.std.specs.Option.{option_to_list}
use Rattle.std.proofs.lemmas.Bool.{not-false}
use Rattle.mesh_plane.specs.Plane.{Point, Edge}
use Rattle.mesh_plane.specs.Winding.{route, same_point}
use Rattle.mesh_plane.proofs.Comparing.{decides_point}
use Rattle.mesh_num.specs.Segments.{proper_edges}
use Rattle.mesh_offset.specs.Walks.{pairs}
use Rattle.mesh_stroke.specs.Paths.{path_edges}

route_pairs : (x : Point) (xs : List Point) (z : Point) → pairs (x ∷ (xs ++ z ∷ [])) ≡ route x xs z
route_pairs x [] z = refl
route_pairs x (y ∷ ys) z = ap (λ (l : List Edge). (x, y) ∷ l) (route_pairs y ys z)

-- an open path walks through the rest of its points, a closed one on to its first point
pub path_begun : (closed : Bool) (points rest : List Point) (first : Point) (returns : Option Point) → points ≡ first ∷ rest → returns ≡ (if closed then Some first else None) →
    proper_edges (pairs (first ∷ (rest ++ option_to_list returns))) ≡ path_edges closed points
path_begun true points rest first returns e h = rw (e, h) (ap proper_edges (route_pairs first rest first))
path_begun false points rest first returns e h = rw (e, h, append-nil rest) refl

-- a point that is the last one again is passed over
pub passed_over : (all : List Edge) (from p : Point) (points rest : List Point) → points ≡ p ∷ rest → not (same_point from p) ≡ false →
    all ≡ proper_edges (pairs (from ∷ points)) → all ≡ proper_edges (pairs (from ∷ rest))
passed_over all from p points rest e same h =
    let k : from ≡ p = (decides_point from p).0 (not-false (same_point from p) same) in
    let a : all ≡ cond (not (same_point from p)) ((from, p) ∷ proper_edges (pairs (p ∷ rest))) (proper_edges (pairs (p ∷ rest))) = rw e at h in
    let b : all ≡ proper_edges (pairs (p ∷ rest)) = rw same at a in
    b ∙ ap (λ (x : Point). proper_edges (pairs (x ∷ rest))) (sym k)

-- and one that is another is the end of the next edge
pub comes_to : (all : List Edge) (from p : Point) (points rest : List Point) → points ≡ p ∷ rest →
    not (same_point from p) ≡ true → all ≡ proper_edges (pairs (from ∷ points)) → all ≡ (from, p) ∷ proper_edges (pairs (p ∷ rest))
comes_to all from p points rest e other h =
    let next : List Edge = proper_edges (pairs (p ∷ rest)) in
    let a : all ≡ cond (not (same_point from p)) ((from, p) ∷ next) next = rw e at h in
    rw other at a
