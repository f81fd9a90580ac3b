use Rattle.std.proofs.Common.{List}
use Rattle.mesh_plane.specs.Plane.{Edge}
use Rattle.mesh_boundary.specs.Private.Flood.{AreKnown}
use Rattle.mesh_boundary.specs.Private.Stars.{HaveStars}
use Rattle.mesh_boundary.proofs.flood.Flood.pour.Given as goal

abbrev pub invariant-loop-step : goal.invariant-loop-step
invariant-loop-step l = (es : List Edge) → HaveStars es l.segments l.stars.parts.items l.stars.members.items l.stars.ends.items → AreKnown es l.segments l.fn.self.known.items
    → AreKnown es l.segments l.self.known.items
