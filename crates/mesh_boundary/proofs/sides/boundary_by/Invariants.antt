use Rattle.std.proofs.Common.{◌≡◌, take, List}
use Rattle.std.specs.List.{flat_map}
use Rattle.mesh_plane.specs.Plane.{Edge}
use Rattle.mesh_lattice.specs.Counted.{IsCountOf}
use Rattle.mesh_lattice.specs.FillRules.{filled_by}
use Rattle.mesh_regions.specs.SideLaws.{AreSplit}
use Rattle.mesh_boundary.proofs.BoundaryCounted.{emitted}
use Rattle.mesh_boundary.proofs.sides.boundary_by.Given as goal

abbrev pub invariant-loop-i : goal.invariant-loop-i
invariant-loop-i l = (es : List Edge) → IsCountOf es l.segments → AreSplit es → l.edges.items ≡ flat_map (emitted (filled_by l.fill) l.segments) (take l.i l.segments)
