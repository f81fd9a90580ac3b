-- Lemmas over points: paths in the safe range.
use Rattle.std.proofs.Common.{◌≡◌, ℕ, List, subst, sym, arith}
use Rattle.std.specs.Prelude.{ℤ, pos, ◌+ℤ◌, ◌-ℤ◌}
use Rattle.std.specs.List.{All, flat_map}
use Rattle.std.proofs.lemmas.List.Elements.{All-weaker}
use Rattle.mesh_plane.specs.Bounds.{IsSafe}
use Rattle.mesh_plane.specs.Plane.{Point, Edge, plus, minus}
use Rattle.mesh_plane.specs.Winding.{boundary}
use Rattle.mesh_plane.proofs.Whole.{linear}
use Rattle.mesh_num.specs.Rectangle.{IsSafeWidened}
use Rattle.mesh_lattice.specs.Reach.{AreEdgesSafe}
use Rattle.mesh_plane.proofs.ClosedLists.{all_flat_map, boundary_all}
use Rattle.mesh_offset.specs.Padding.{ArePathsSafe}
use Rattle.mesh_boolean.specs.Booleans.{ArePathsInRange}

-- a point that moves by nothing
less_none : (p : Point) → minus p (pos 0, pos 0) ≡ p
less_none p =
    let x : p.0 -ℤ pos 0 ≡ p.0 = omega (arith, linear) in
    let y : p.1 -ℤ pos 0 ≡ p.1 = omega (arith, linear) in
    λ i. (x i, y i)

more_none : (p : Point) → plus p (pos 0, pos 0) ≡ p
more_none p =
    let x : p.0 +ℤ pos 0 ≡ p.0 = omega (arith, linear) in
    let y : p.1 +ℤ pos 0 ≡ p.1 = omega (arith, linear) in
    λ i. (x i, y i)

-- is in range as it stands
pub unmoved_safe : (unit : ℕ) (paths : List (List Point)) → ArePathsSafe unit (pos 0) paths → ArePathsInRange unit paths
unmoved_safe unit paths h =
    All-weaker (λ (path : List Point). All (IsSafeWidened unit (pos 0)) path) (λ (path : List Point). All (IsSafe unit) path)
    (λ path s. All-weaker (IsSafeWidened unit (pos 0)) (IsSafe unit) (λ p w. subst (IsSafe unit) (more_none p) w.1) path s) paths h

pub safe_unmoved : (unit : ℕ) (paths : List (List Point)) → ArePathsInRange unit paths → ArePathsSafe unit (pos 0) paths
safe_unmoved unit paths h =
    All-weaker (λ (path : List Point). All (IsSafe unit) path) (λ (path : List Point). All (IsSafeWidened unit (pos 0)) path)
    (λ path s. All-weaker (IsSafe unit) (IsSafeWidened unit (pos 0))
    (λ p w. (subst (IsSafe unit) (sym (less_none p)) w, subst (IsSafe unit) (sym (more_none p)) w)) path s) paths h

-- the edges of contours in range
pub paths_edges_safe : (unit : ℕ) (paths : List (List Point)) → ArePathsInRange unit paths → AreEdgesSafe unit (flat_map boundary paths)
paths_edges_safe unit paths h =
    all_flat_map (λ (e : Edge). IsSafe unit e.0 × IsSafe unit e.1) boundary paths
    (All-weaker (λ (path : List Point). All (IsSafe unit) path) (λ (path : List Point). AreEdgesSafe unit (boundary path))
    (λ path s. boundary_all (IsSafe unit) path s) paths h)
