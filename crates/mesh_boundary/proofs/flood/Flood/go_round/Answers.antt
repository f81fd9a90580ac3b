use Rattle.std.proofs.Common.{false}
use Rattle.mesh_boundary.proofs.flood.Flood.go_round.Goals as goal

pub find-requires : goal.find-requires
find-requires c = c.requires c.loop-x.x-index (0, false) c.loop-x-test.true

pub loop-x-preserved : goal.loop-x-preserved
loop-x-preserved c = λ es counts star level known. c.in_ok-find.ensures es counts star level (c.loop-x.invariant es counts star level known)
