use Rattle.std.proofs.Common.{List}
use Rattle.mesh_plane.specs.Plane.{Edge}
use Rattle.mesh_lattice.specs.Counted.{IsCountOf}
use Rattle.mesh_regions.specs.SideLaws.{AreSplit}
use Rattle.mesh_boundary.specs.Private.Flood.{AreKnown}
use Rattle.mesh_boundary.specs.Private.Sums.{MayHaveRows}
use Rattle.mesh_boundary.proofs.flood.Flood.new.Given as goal

abbrev pub invariant-loop-k : goal.invariant-loop-k
invariant-loop-k l = record {
  known : (es : List Edge) → IsCountOf es l.segments → AreSplit es → AreKnown es l.segments l.flood.known.items;
  rows : MayHaveRows l.sums.rows l.segments;
}
