-- The points are those of the definition.
use Rattle.std.proofs.Common.{◌∙◌, rules, sym}
use Rattle.std.proofs.lemmas.Int.{to_z-of_z}
use mir.Syntax.{w128}
use Rattle.mesh_join.proofs.Miters.{points_slight, points_sharp, points_blunt}
use Rattle.mesh_join.proofs.Sines.{turns}
use Rattle.mesh_join.proofs.miter.Miter.push.Goals as goal

pub peak-requires : goal.peak-requires
peak-requires g c = turns c.args.self.now.min_turn c.args.joint.now (sym c.is_slight.ensures ∙ c.if-is_slight.false)

pub returns-then-is_slight-clause-ok : goal.returns-then-is_slight-clause-ok
returns-then-is_slight-clause-ok g c =
    rw (points_slight c.args.self.now.angle c.args.self.now.min_turn g.I.IntNumber.unit c.args.joint.now (sym c.is_slight.ensures ∙ c.if-is_slight.true), ← c.joint.view_is) c.push_straight.ensures.ok

pub returns-then-is_sharp-clause-ok : goal.returns-then-is_sharp-clause-ok
returns-then-is_sharp-clause-ok g c =
    let p = to_z-of_z w128 c.padding_at-padding.result (search rules) in
    let h = rw (p, c.padding_at-padding.ensures, c.clip_points.ensures) at c.push_clipped.ensures.ok in
    rw (points_sharp c.args.self.now.angle c.args.self.now.min_turn g.I.IntNumber.unit c.args.joint.now (sym c.is_slight.ensures ∙ c.if-is_slight.false) (sym c.is_sharp.ensures ∙ c.if-is_sharp.true)) h

pub returns-else-is_sharp-clause-ok : goal.returns-else-is_sharp-clause-ok
returns-else-is_sharp-clause-ok g c =
    let p = to_z-of_z w128 c.padding_at-padding.result (search rules) in
    let h = rw (p, c.padding_at-padding.ensures, c.peak.ensures) at c.push_peak.ensures.ok in
    rw (points_blunt c.args.self.now.angle c.args.self.now.min_turn g.I.IntNumber.unit c.args.joint.now (sym c.is_slight.ensures ∙ c.if-is_slight.false) (sym c.is_sharp.ensures ∙ c.if-is_sharp.false)) h

pub returns-then-is_slight-clause-room : goal.returns-then-is_slight-clause-room
returns-then-is_slight-clause-room g c =
    rw (points_slight c.args.self.now.angle c.args.self.now.min_turn g.I.IntNumber.unit c.args.joint.now (sym c.is_slight.ensures ∙ c.if-is_slight.true), ← c.joint.view_is) c.push_straight.ensures.room

pub returns-then-is_sharp-clause-room : goal.returns-then-is_sharp-clause-room
returns-then-is_sharp-clause-room g c =
    let p = to_z-of_z w128 c.padding_at-padding.result (search rules) in
    let h = rw (p, c.padding_at-padding.ensures, c.clip_points.ensures) at c.push_clipped.ensures.room in
    rw (points_sharp c.args.self.now.angle c.args.self.now.min_turn g.I.IntNumber.unit c.args.joint.now (sym c.is_slight.ensures ∙ c.if-is_slight.false) (sym c.is_sharp.ensures ∙ c.if-is_sharp.true)) h

pub returns-else-is_sharp-clause-room : goal.returns-else-is_sharp-clause-room
returns-else-is_sharp-clause-room g c =
    let p = to_z-of_z w128 c.padding_at-padding.result (search rules) in
    let h = rw (p, c.padding_at-padding.ensures, c.peak.ensures) at c.push_peak.ensures.room in
    rw (points_blunt c.args.self.now.angle c.args.self.now.min_turn g.I.IntNumber.unit c.args.joint.now (sym c.is_slight.ensures ∙ c.if-is_slight.false) (sym c.is_sharp.ensures ∙ c.if-is_sharp.false)) h
