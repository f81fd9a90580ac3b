-- The value that lists the shapes with their nearness, and that it has no float.
use Rattle.std.proofs.Common.{ap, ◌∙◌, codes}
use Rattle.std.proofs.lemmas.Result.{IfOk-weaker}
use Rattle.serde_json.specs.Data.{Data, number, unsigned, object, member, no_members}
use Rattle.serde_json.specs.Written.{has_float}
use Rattle.mesh_num.specs.Paths.{shapes_of}
use Rattle.mesh_service.specs.Lines.{point_data, line_text, near_shapes_data}
use Rattle.mesh_service.proofs.JsonLists.{near_shapes_no_float, shapes_listed}
use Rattle.mesh_service.proofs.answer.near_shapes_line.Goals as goal

pub line_of-requires : goal.line_of-requires
line_of-requires g c =
    let given = c.deref.result.now in
    let with_list = λ (d : Data). object (member (codes "nearness") (number (unsigned c.args.nearness)) (member (codes "shapes") d no_members)) in
    let shown = c.in_ok-answer.ensures ∙ ap with_list (c.in_ok-list.ensures ∙ shapes_listed point_data given) in
    ap has_float shown ∙ near_shapes_no_float c.args.nearness (shapes_of given)

pub returns : goal.returns
returns g c =
    let with_list = λ (d : Data). object (member (codes "nearness") (number (unsigned c.args.nearness)) (member (codes "shapes") d no_members)) in
    let shown = c.in_ok-answer.ensures ∙ ap with_list (c.in_ok-list.ensures ∙ shapes_listed point_data c.deref.result.now) in
    IfOk-weaker c.line_of.result _ _ (λ line told. told ∙ ap line_text shown ∙ ap (λ s. line_text (near_shapes_data c.args.nearness (shapes_of s))) c.deref.ensures.value) c.line_of.ensures
