-- Each kind of cap keeps to its end.
use Rattle.mesh_stroke.proofs.CapKinds.{cap_keeps}
use Rattle.mesh_stroke.proofs.CapLaws.{KeepsEnd}
use Rattle.mesh_stroke.proofs.cap.Cap.add.Goals as goal

pub returns-clause-ahead : goal.returns-clause-ahead
returns-clause-ahead g c =
    let k : KeepsEnd g.I.IntNumber.unit c.args.self.now c.args.end.now =
    (cap_keeps g.I.IntNumber.unit c.args.self.now g.met.I.IntNumber.least_law).at_end c.args.end.now
    (rw (← c.end.view_is) c.end.invariant.incoming_short) c.requires.end c.requires.radius_sign in
    k.never_turns_back

pub returns-clause-near : goal.returns-clause-near
returns-clause-near g c =
    let k : KeepsEnd g.I.IntNumber.unit c.args.self.now c.args.end.now =
    (cap_keeps g.I.IntNumber.unit c.args.self.now g.met.I.IntNumber.least_law).at_end c.args.end.now
    (rw (← c.end.view_is) c.end.invariant.incoming_short) c.requires.end c.requires.radius_sign in
    k.near
