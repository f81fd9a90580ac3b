use Rattle.std.proofs.lemmas.Result.{IfOk-weaker}
use Rattle.mesh_below.proofs.below.Overlay.overlay_answer.Goals as goal

pub returns-clause-resolution : goal.returns-clause-resolution
returns-clause-resolution g c = IfOk-weaker c.resolved.result _ _ (λ v a. a.resolution) (rw c.winding_rule.ensures at c.resolved.ensures)

pub returns-clause-regions : goal.returns-clause-regions
returns-clause-regions g c = IfOk-weaker c.resolved.result _ _ (λ v a. a.regions) (rw c.winding_rule.ensures at c.resolved.ensures)

pub returns-clause-safe : goal.returns-clause-safe
returns-clause-safe g c = IfOk-weaker c.resolved.result _ _ (λ v a. a.safe) c.resolved.ensures

pub returns-clause-settled : goal.returns-clause-settled
returns-clause-settled g c = IfOk-weaker c.resolved.result _ _ (λ v a. a.is_settled) c.resolved.ensures

pub returns-clause-own_boundary : goal.returns-clause-own_boundary
returns-clause-own_boundary g c = IfOk-weaker c.resolved.result _ _ (λ v a. a.own_boundary) c.resolved.ensures
