-- Both places, and then the shapes.
use Rattle.std.proofs.Common.{ap, ◌∙◌}
use Rattle.std.proofs.lemmas.Result.{IfOk-weaker}
use Rattle.mesh_num.specs.Paths.{shapes_of}
use Rattle.mesh_service.specs.Lines.{list_data, point_data, overlap_with}
use Rattle.mesh_service.proofs.JsonLists.{shapes_listed}
use Rattle.mesh_service.proofs.answer.ZoneOverlapWritten.to_value.Goals as goal

pub returns : goal.returns
returns g c =
    let shown =
    c.in_ok-shapes.ensures ∙ shapes_listed point_data c.deref.result.now
    ∙ ap (λ s. list_data (list_data (list_data point_data)) (shapes_of s)) c.deref.ensures.value in
    IfOk-weaker c.overlap.result _ _ (λ v told. told ∙ ap (overlap_with c.args.self.now.first c.args.self.now.second) shown) c.overlap.ensures
