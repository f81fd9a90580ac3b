-- The value that lists the shapes with their nearness and distances, and that it has no float.
use Rattle.std.proofs.Common.{ap, ◌∙◌}
use Rattle.std.proofs.lemmas.Result.{IfOk-weaker}
use Rattle.serde_json.specs.Written.{has_float}
use Rattle.mesh_num.specs.Paths.{shapes_of}
use Rattle.mesh_service.specs.Lines.{point_data, line_text, near_measured_shapes_data, near_measured_with}
use Rattle.mesh_service.proofs.JsonLists.{near_measured_no_float, shapes_listed}
use Rattle.mesh_service.proofs.answer.near_measured_shapes_line.Goals as goal

pub line_of-requires : goal.line_of-requires
line_of-requires g c =
    let given = c.deref.result.now in
    let shown = c.in_ok-answer.ensures ∙ ap (near_measured_with c.args.nearness c.args.distances) (c.in_ok-list.ensures ∙ shapes_listed point_data given) in
    ap has_float shown ∙ near_measured_no_float c.args.nearness c.args.distances (shapes_of given)

pub returns : goal.returns
returns g c =
    let shown = c.in_ok-answer.ensures ∙ ap (near_measured_with c.args.nearness c.args.distances) (c.in_ok-list.ensures ∙ shapes_listed point_data c.deref.result.now) in
    IfOk-weaker c.line_of.result _ _ (λ line told. told ∙ ap line_text shown ∙ ap (λ s. line_text (near_measured_shapes_data c.args.nearness c.args.distances (shapes_of s))) c.deref.ensures.value) c.line_of.ensures
