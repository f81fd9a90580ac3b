-- Both sides, or both ends, one after the other.
use Rattle.std.proofs.Common.{◌∙◌, sym}
use Rattle.mesh_offset.proofs.Adding.{on_ok_then}
use Rattle.mesh_variable_stroke.proofs.Stepping.{apart_added, met_added}
use Rattle.mesh_variable_stroke.proofs.joint.add_joint.Goals as goal

pub returns-then-is_apart-clause-ok : goal.returns-then-is_apart-clause-ok
returns-then-is_apart-clause-ok g c =
    on_ok_then c.add_start.result c.add_start.ensures.ok
    (λ h. apart_added g.I.IntNumber.unit c.args.sweeper.now c.add_end.new.sweeper (c.args.previous.now, c.args.next.now)
    c.args.segments.now.items c.add_end.new.segments.items c.add_start.new.segments.items
    (sym c.is_apart.ensures ∙ c.if-is_apart.true) c.in_ok-add_end.ensures.ok h)

pub returns-clause-ok : goal.returns-clause-ok
returns-clause-ok g c =
    on_ok_then c.add_right.result c.add_right.ensures.ok
    (λ h. met_added g.I.IntNumber.unit c.args.sweeper.now c.add_left.new.sweeper (c.args.previous.now, c.args.next.now)
    c.args.segments.now.items c.add_left.new.segments.items c.add_right.new.segments.items
    (sym c.is_apart.ensures ∙ c.if-is_apart.false) c.in_ok-add_left.ensures.same c.in_ok-add_left.ensures.ok h)
