-- The points beside the ends are safe, and the section is what its definition says.
use Rattle.std.specs.Prelude.{unsigned_abs}
use Rattle.mesh_offset.proofs.Padding.{between_safe, beside_safe}
use Rattle.mesh_stroke.proofs.Sections.{left_safe, section_made}
use Rattle.mesh_stroke.proofs.section.StrokeSection.new.Goals as goal

pub fast_normalize-requires : goal.fast_normalize-requires
fast_normalize-requires g c = rw c.sub.ensures (between_safe g.I.IntNumber.unit (unsigned_abs (g.I.IntNumber.value c.args.radius)) c.args.a c.args.b c.requires.safe_a c.requires.safe_b)

pub left_of-requires : goal.left_of-requires
left_of-requires g c = left_safe g.I.IntNumber.unit (unsigned_abs (g.I.IntNumber.value c.args.radius)) c.args.a c.scale-scaled.result c.requires.safe_a c.scale-scaled.ensures.x_bound c.scale-scaled.ensures.y_bound

pub moved_right-requires : goal.moved_right-requires
moved_right-requires g c = beside_safe g.I.IntNumber.unit (unsigned_abs (g.I.IntNumber.value c.args.radius)) c.args.a c.scale-scaled.result c.requires.safe_a c.scale-scaled.ensures.x_bound c.scale-scaled.ensures.y_bound

pub left_of-requires-2 : goal.left_of-requires-2
left_of-requires-2 g c = left_safe g.I.IntNumber.unit (unsigned_abs (g.I.IntNumber.value c.args.radius)) c.args.b c.scale-scaled.result c.requires.safe_b c.scale-scaled.ensures.x_bound c.scale-scaled.ensures.y_bound

pub moved_right-requires-2 : goal.moved_right-requires-2
moved_right-requires-2 g c = beside_safe g.I.IntNumber.unit (unsigned_abs (g.I.IntNumber.value c.args.radius)) c.args.b c.scale-scaled.result c.requires.safe_b c.scale-scaled.ensures.x_bound c.scale-scaled.ensures.y_bound

pub returns : goal.returns
returns g c =
    section_made g.I.IntNumber.unit (g.I.IntNumber.value c.args.radius) c.args.a c.args.b c.sub.result c.in-Some.direction c.scale-scaled.result
    c.left_of.result c.moved_right.result c.left_of-2.result c.moved_right-2.result
    c.sub.ensures c.in-Some.ensures.value c.scale-scaled.ensures.value c.left_of.ensures c.moved_right.ensures c.left_of-2.ensures c.moved_right-2.ensures
