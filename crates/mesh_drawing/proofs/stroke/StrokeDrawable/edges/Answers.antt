-- No area is taken of a stroke.
use Rattle.std.proofs.Common.{Ok}
use Rattle.mesh_offset.specs.declared.error.IntOutlineError.TheVariants.{CoordinateOutOfRange}
use Rattle.mesh_drawing.proofs.Refusals.{not_refused, memory_other, answer_other}
use Rattle.mesh_drawing.proofs.stroke.StrokeDrawable.edges.Goals as goal

pub edge_lists-requires : goal.edge_lists-requires
edge_lists-requires g c = rw (c.deref.ensures.value, c.new-builder.ensures) c.requires

pub returns-in_err-edge_lists-clause-unfit : goal.returns-in_err-edge_lists-clause-unfit
returns-in_err-edge_lists-clause-unfit g c = not_refused CoordinateOutOfRange c.from_residual.result _ tt (memory_other c.from_residual.result c.from_residual.ensures.1)

pub returns-clause-unfit : goal.returns-clause-unfit
returns-clause-unfit g c = not_refused CoordinateOutOfRange (Ok c.in_ok-edge_lists.field-0) _ tt (answer_other CoordinateOutOfRange c.in_ok-edge_lists.field-0)

pub returns-clause-edges : goal.returns-clause-edges
returns-clause-edges g c = rw (c.deref.ensures.value, c.new-builder.ensures) at c.in_ok-edge_lists.ensures
