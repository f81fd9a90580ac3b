-- Both coordinates, x before y.
use Rattle.std.proofs.Common.{ap, ◌∙◌}
use Rattle.std.proofs.lemmas.Result.{IfOk-weaker}
use Rattle.mesh_service.specs.Lines.{point_data}
use Rattle.mesh_service.proofs.answer.IntPointWritten.to_value.Goals as goal

pub returns : goal.returns
returns g c = IfOk-weaker c.pair.result _ _ (λ v told. told ∙ rw (c.number.ensures, c.number-2.ensures) (ap point_data c.self.view_is)) c.pair.ensures
