-- The copies are the contours.
use Rattle.std.proofs.Common.{true}
use Rattle.mesh_stroke.specs.Styles.{stroke_style_of}
use Rattle.mesh_drawing.specs.Drawn.{as_stroke}
use Rattle.mesh_operands.specs.Nearness.{alike}
use Rattle.mesh_operands.specs.Operands.{as_boolean, as_drawing, as_paths}
use Rattle.mesh_buffer.proofs.Copies.{copies_are}
use Rattle.mesh_buffer.proofs.buffer.strokes_beside.Goals as goal

pub returns : goal.returns
returns g c =
    let subject = copies_are c.args.contours.now.items c.in_ok-clone.field-0.items c.in_ok-clone.ensures.cases.0 in
    let clip = copies_are c.args.contours.now.items c.in_ok-paths.paths.items c.in_ok-paths.ensures.cases.0 in
    λ k. as_boolean c.args.rule (alike c.args.fill) (as_paths (subject k)) (as_drawing (as_stroke (stroke_style_of g.I.IntNumber.value c.args.style) true (clip k)))
