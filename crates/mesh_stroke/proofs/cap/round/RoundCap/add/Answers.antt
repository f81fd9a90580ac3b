-- The half turn round an end is a turn, so the round join asks for nothing more.
use Rattle.std.proofs.Common.{arith}
use Rattle.mesh_stroke.proofs.RoundCaps.{round_end_is_joint}
use Rattle.mesh_stroke.proofs.cap.round.RoundCap.add.Goals as goal

pub add-requires : goal.add-requires
add-requires g c =
    let h = rw (← c.end.view_is) at c.requires in
    let least = g.met.I.IntNumber.least_law in
    round_end_is_joint g.I.IntNumber.unit c.args.self.now c.self.inside.options c.self.inside.join _
    (omega (arith, least)) c.self.invariant h

pub returns-clause-ok : goal.returns-clause-ok
returns-clause-ok g c = rw (← c.end.view_is, ← c.self.view_is) (rw c.self.invariant at c.add.ensures.ok)
