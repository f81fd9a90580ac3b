-- Shapes are asked for, and drawn as they are asked for.
use Rattle.std.proofs.Common.{Err, ap, sym, ◌∙◌}
use Rattle.mesh_drawing.proofs.Refusals.{drawable, limit_set, other_refusal}
use Rattle.mesh_drawing.proofs.draw.listed.Goals as goal

pub returns-in_err-near-in-Shapes-clause-past : goal.returns-in_err-near-in-Shapes-clause-past
returns-in_err-near-in-Shapes-clause-past g c h =
    let e = rw h at c.from_residual-in_err-near-in-Shapes.ensures.1 in
    let drawn = g.D.Drawable.drawn c.args.drawing.now in
    let passed = ap Err (sym e) in
    let past = c.in_err-near-in-Shapes.ensures.past passed in
    record {
      options = c.in-Shapes.options;
      output = c.in-Shapes.is;
      limited = limit_set c.args.asked.most_splits g.I.IntNumber.unit drawn past;
      accepted = drawable (Err c.in_err-near-in-Shapes.field-0.0) g.I.IntNumber.unit drawn c.requires c.in_err-near-in-Shapes.ensures.unfit (other_refusal (Err c.in_err-near-in-Shapes.field-0.0) passed);
      past = past;
    }

pub returns-in_ok-shapes-in-Shapes-clause-drawn : goal.returns-in_ok-shapes-in-Shapes-clause-drawn
returns-in_ok-shapes-in-Shapes-clause-drawn g c = record {
  options = c.in-Shapes.options;
  output = c.in-Shapes.is;
  plain = sym c.is_plain-is_plain.ensures ∙ c.if-is_plain.true;
  shapes = rw c.in-Shapes.options-is at c.in_ok-shapes-in-Shapes.ensures.shapes;
}

pub returns-in_ok-near-in-Shapes-clause-drawn : goal.returns-in_ok-near-in-Shapes-clause-drawn
returns-in_ok-near-in-Shapes-clause-drawn g c = record {
  options = c.in-Shapes.options;
  output = c.in-Shapes.is;
  told = sym c.is_plain-is_plain.ensures ∙ c.if-is_plain.false;
  shapes = rw c.in-Shapes.options-is at c.in_ok-near-in-Shapes.ensures.shapes;
}
