-- What is outlined is in range, and its areas fit.
use Rattle.std.proofs.Common.{Ok, refl}
use Rattle.mesh_num.specs.Paths.{paths_of}
use Rattle.mesh_offset.specs.declared.error.IntOutlineError.TheVariants.{CoordinateOutOfRange}
use Rattle.mesh_outline.specs.Resolved.{DoAreasFit}
use Rattle.mesh_drawing.proofs.Refusals.{half_unfit, refusal_handed, not_refused, memory_other, answer_other}
use Rattle.mesh_drawing.proofs.outline.OutlineDrawable.edges.Goals as goal

pub returns-in_err-kinds-clause-unfit : goal.returns-in_err-kinds-clause-unfit
returns-in_err-kinds-clause-unfit g c =
    let paths = paths_of c.args.self.now.paths.items in
    let half = g.I.Wide.WideNumber.half in
    half_unfit half g.I.IntNumber.unit paths _ g.met.I.IntNumber.half_law
    (refusal_handed CoordinateOutOfRange c.from_residual.result _ _ (DoAreasFit half paths → ⊥) c.from_residual.ensures.1 refl c.in_err-kinds.ensures.refused)

pub returns-in_err-edge_lists-clause-unfit : goal.returns-in_err-edge_lists-clause-unfit
returns-in_err-edge_lists-clause-unfit g c =
    let told = c.from_residual-in_err-edge_lists.result in
    half_unfit _ g.I.IntNumber.unit (paths_of c.args.self.now.paths.items) _ g.met.I.IntNumber.half_law
    (not_refused CoordinateOutOfRange told _ c.in_ok-kinds.ensures.fit (memory_other told c.from_residual-in_err-edge_lists.ensures.1))

pub returns-clause-unfit : goal.returns-clause-unfit
returns-clause-unfit g c =
    half_unfit _ g.I.IntNumber.unit (paths_of c.args.self.now.paths.items) _ g.met.I.IntNumber.half_law
    (not_refused CoordinateOutOfRange (Ok c.in_ok-edge_lists.field-0) _ c.in_ok-kinds.ensures.fit (answer_other CoordinateOutOfRange c.in_ok-edge_lists.field-0))

pub returns-clause-edges : goal.returns-clause-edges
returns-clause-edges g c = rw c.deref.ensures.value at c.in_ok-edge_lists.ensures
