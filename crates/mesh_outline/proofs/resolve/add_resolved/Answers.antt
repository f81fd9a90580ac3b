-- The edges of the answer are closed.
use Rattle.mesh_num.specs.Paths.{shapes_of}
use Rattle.mesh_offset.proofs.Adding.{on_ok_then}
use Rattle.mesh_offset.proofs.Resolving.{adds_answer}
use Rattle.mesh_outline.proofs.resolve.add_resolved.Goals as goal

pub returns : goal.returns
returns g c =
    on_ok_then c.add_shapes.result c.add_shapes.ensures
    (λ h. (
      shapes_of c.in_ok-answer.answer.shapes.items,
      c.in_ok-answer.ensures.alone,
      adds_answer g.I.IntNumber.unit c.args.fill (shapes_of c.in_ok-answer.answer.shapes.items) _ _ c.in_ok-answer.ensures.safe h,
    ))
