use Rattle.std.proofs.Common.{List}
use Rattle.mesh_plane.specs.Plane.{Edge}
use Rattle.mesh_boundary.specs.Private.Flood.{IsLevel, AreKnown}
use Rattle.mesh_boundary.specs.Private.Stars.{CountSplit, IsStar}
use Rattle.mesh_boundary.proofs.flood.Flood.go_round.Given as goal

abbrev pub invariant-loop-x : goal.invariant-loop-x
invariant-loop-x l = (es : List Edge) → CountSplit es l.segments → IsStar es l.l.0 l.fan → IsLevel es l.l → AreKnown es l.segments l.fn.self.known.items
    → AreKnown es l.segments l.self.known.items
