-- Lemmas over points and lists: circles and arcs stay within the radius of their center.
use Rattle.std.proofs.Common.{◌≡◌, ◌≢◌, ℕ, ◌<◌, false, List, [], ◌++◌, arith}
use Rattle.std.specs.Prelude.{ℤ, pos, ◌≤ℤ◌, ◌<ℤ◌, unsigned_abs, int_le, if◌then◌else◌}
use Rattle.std.specs.List.{All}
use Rattle.std.proofs.lemmas.Bool.{cond_both}
use Rattle.std.proofs.lemmas.Int.{ints}
use Rattle.std.proofs.lemmas.List.Elements.{All-nil, All-append, All-map, All-weaker}
use Rattle.mesh_plane.specs.Plane.{Point, Edge, minus}
use Rattle.mesh_plane.specs.Winding.{route}
use Rattle.mesh_plane.proofs.ClosedLists.{route_all}
use Rattle.mesh_plane.proofs.Sizes.{apart_some}
use Rattle.mesh_num.specs.Direction.{IsShort, scaled_direction}
use Rattle.mesh_num.proofs.Directed.{direction_of_is}
use Rattle.mesh_num.proofs.Parts.{direction_short}
use Rattle.mesh_num.proofs.Scaling.{scaled_direction_bounded}
use Rattle.mesh_arc.specs.Arcs.{arc, clamped}
use Rattle.mesh_arc.specs.declared.arc.ArcDirection.TheVariants.{Counterclockwise}
use Rattle.mesh_arc.specs.declared.arc.ArcOptions.{ArcOptions}
use Rattle.mesh_arc.proofs.Short.{arc_short}
use Rattle.mesh_join.specs.Joints.{IsWithinPadding, StaysWithin}
use Rattle.mesh_join.proofs.RoundJoins.{moved_within}
use Rattle.mesh_circle.specs.declared.sweep.Sweep.{Sweep}
use Rattle.mesh_circle.specs.Sweeps.{distance, bearing, point_round, polyline_points, polyline_edges, half_circles}
use Rattle.mesh_circle.specs.Sweeps.{circle_edges, east_of, west_of, sweep_of, is_empty, is_central, is_whole, arc_edges}
use Rattle.mesh_circle.specs.Sweeps.{IsReached}
use Rattle.mesh_circle.proofs.Swept.{ends_apart, east_apart, west_apart}

-- ---- polylines

-- the point in a direction is no farther away than the radius
pub point_round_within : (unit : ℕ) (c : Point) (radius reach : ℤ) (d : Point) → 0 < unit → IsShort unit d
    → pos (unsigned_abs radius) ≤ℤ reach → IsWithinPadding reach c (point_round unit c radius d)
point_round_within unit c radius reach d some short covers =
    let b = scaled_direction_bounded unit radius d some short in
    moved_within reach c (scaled_direction unit radius d) (omega (arith, ints, b.0)) (omega (arith, ints, b.1))

pub polyline_points_within : (unit : ℕ) (options : ArcOptions) (c x y : Point) (radius reach : ℤ) → 0 < unit
    → x ≢ c → pos (unsigned_abs radius) ≤ℤ reach
    → All (IsWithinPadding reach c) (polyline_points unit options c x y radius)
unfolding polyline_points
polyline_points_within unit options c x y radius reach some apart covers =
    let short : IsShort unit (bearing unit c x) =
    direction_short (direction_of_is unit (minus x c) (apart_some x c apart)) in
    let ds : List Point = arc unit (clamped options) Counterclockwise (bearing unit c x) (bearing unit c y) in
    All-map (IsWithinPadding reach c) (point_round unit c radius) ds
    (All-weaker (IsShort unit) (λ (d : Point). IsWithinPadding reach c (point_round unit c radius d))
    (λ d s. point_round_within unit c radius reach d some s covers) ds
    (arc_short unit (clamped options) Counterclockwise (bearing unit c x) (bearing unit c y) short))

polyline_within : (unit : ℕ) (options : ArcOptions) (c x y : Point) (radius reach : ℤ) → 0 < unit
    → x ≢ c → pos (unsigned_abs radius) ≤ℤ reach
    → IsWithinPadding reach c x → IsWithinPadding reach c y
    → StaysWithin reach c (polyline_edges unit options c x y radius)
polyline_within unit options c x y radius reach some apart covers hx hy =
    route_all (IsWithinPadding reach c) x (polyline_points unit options c x y radius) y hx
    (polyline_points_within unit options c x y radius reach some apart covers) hy

-- ---- circles

east_within : (c : Point) (radius reach : ℤ) → pos 1 <ℤ radius → radius ≤ℤ reach
    → IsWithinPadding reach c (east_of c radius)
east_within c radius reach large covers = record {
  west = omega (arith, ints);
  south = omega (arith, ints);
  east = omega (arith, ints);
  north = omega (arith, ints);
}

west_within : (c : Point) (radius reach : ℤ) → pos 1 <ℤ radius → radius ≤ℤ reach
    → IsWithinPadding reach c (west_of c radius)
west_within c radius reach large covers = record {
  west = omega (arith, ints);
  south = omega (arith, ints);
  east = omega (arith, ints);
  north = omega (arith, ints);
}

half_circles_within : (unit : ℕ) (options : ArcOptions) (c : Point) (radius reach : ℤ) → 0 < unit → pos 1 <ℤ radius
    → radius ≤ℤ reach → StaysWithin reach c (half_circles unit options c radius)
half_circles_within unit options c radius reach some large covers =
    All-append (λ (e : Edge). IsWithinPadding reach c e.0 × IsWithinPadding reach c e.1)
    (polyline_edges unit options c (east_of c radius) (west_of c radius) radius)
    (polyline_edges unit options c (west_of c radius) (east_of c radius) radius)
    (polyline_within unit options c (east_of c radius) (west_of c radius) radius reach some
    (east_apart unit c radius large) (omega (arith, ints)) east west)
    (polyline_within unit options c (west_of c radius) (east_of c radius) radius reach some
    (west_apart unit c radius large) (omega (arith, ints)) west east)
  where
    east : IsWithinPadding reach c (east_of c radius)
    east = east_within c radius reach large covers

    west : IsWithinPadding reach c (west_of c radius)
    west = west_within c radius reach large covers

-- a circle stays within its radius
pub circle_within : (unit : ℕ) (options : ArcOptions) (c : Point) (radius reach : ℤ) → 0 < unit
    → radius ≤ℤ reach → StaysWithin reach c (circle_edges unit options c radius)
unfolding circle_edges
circle_within unit options c radius reach some covers =
    cond_both (int_le radius (pos 1)) [] (half_circles unit options c radius) (StaysWithin reach c)
    (λ _. All-nil (λ (e : Edge). IsWithinPadding reach c e.0 × IsWithinPadding reach c e.1))
    (λ h. half_circles_within unit options c radius reach some (above_one h) covers)
  where
    above_one : int_le radius (pos 1) ≡ false → pos 1 <ℤ radius
    above_one h = grind (arith, ints)

-- ---- arcs

-- an arc stays as near to its center as both of its ends and the distance of the first
pub arc_within : (unit : ℕ) (options : ArcOptions) (c x y : Point) (aligned : Sweep) (reach : ℤ) → 0 < unit
    → IsReached reach c x y → StaysWithin reach c (arc_edges unit options c x y aligned)
unfolding arc_edges
arc_within unit options c x y aligned reach some h =
    cond_both (is_empty sweep x y) [] (if is_central c x y then edge else rest) Stays (λ _. All-nil Near)
    (λ _. cond_both (is_central c x y) edge rest Stays (λ _. alone)
    (λ apart. cond_both (is_whole unit sweep c x y) (circle ++ edge) polyline Stays
    (λ _. All-append Near circle edge (circle_within unit options c radius reach some h.distance) alone)
    (λ _. polyline_within unit options c x y radius reach some (ends_apart c x y apart).0 h.distance h.from h.to)))
  where
    sweep : Sweep
    sweep = sweep_of c x y aligned

    radius : ℤ
    radius = pos (distance c x)

    Near : Edge → Type 0
    Near e = IsWithinPadding reach c e.0 × IsWithinPadding reach c e.1

    Stays : List Edge → Type 0
    Stays es = All Near es

    edge : List Edge
    edge = route x [] y

    alone : All Near edge
    alone = route_all (IsWithinPadding reach c) x [] y h.from (All-nil (IsWithinPadding reach c)) h.to

    circle : List Edge
    circle = circle_edges unit options c radius

    polyline : List Edge
    polyline = polyline_edges unit options c x y radius

    rest : List Edge
    rest = if is_whole unit sweep c x y then circle ++ edge else polyline
