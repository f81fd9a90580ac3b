-- The edges of the answer are closed.
use Rattle.mesh_num.specs.Paths.{shapes_of}
use Rattle.mesh_offset.proofs.Resolving.{adds_answer}
use Rattle.mesh_outline.proofs.nearness.add_resolved.Goals as goal

pub returns-clause-added : goal.returns-clause-added
returns-clause-added g c = (
  shapes_of c.in_ok-near.near.shapes.items,
  c.in_ok-near.ensures.answer,
  adds_answer g.I.IntNumber.unit c.args.fill (shapes_of c.in_ok-near.near.shapes.items) _ _ c.in_ok-near.ensures.answer.safe c.in_ok-add_shapes.ensures,
)
