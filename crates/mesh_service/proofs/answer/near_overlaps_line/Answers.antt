-- The value that lists the overlaps with their nearness, and that it has no float.
use Rattle.std.proofs.Common.{ap, ◌∙◌, codes}
use Rattle.std.proofs.lemmas.Result.{IfOk-weaker}
use Rattle.serde_json.specs.Data.{Data, number, unsigned, object, member, no_members}
use Rattle.serde_json.specs.Written.{has_float}
use Rattle.mesh_boolean.specs.Overlaps.{overlaps_of}
use Rattle.mesh_service.specs.Lines.{line_text}
use Rattle.mesh_service.proofs.JsonLists.{near_overlaps_no_float, overlaps_listed}
use Rattle.mesh_service.proofs.answer.near_overlaps_line.Goals as goal

pub line_of-requires : goal.line_of-requires
line_of-requires g c =
    let with_list = λ (d : Data). object (member (codes "nearness") (number (unsigned c.args.nearness)) (member (codes "overlaps") d no_members)) in
    let shown = c.in_ok-answer.ensures ∙ ap with_list (c.in_ok-list.ensures ∙ overlaps_listed c.args.overlaps.now) in
    ap has_float shown ∙ near_overlaps_no_float c.args.nearness (overlaps_of c.args.overlaps.now)

pub returns : goal.returns
returns g c =
    let with_list = λ (d : Data). object (member (codes "nearness") (number (unsigned c.args.nearness)) (member (codes "overlaps") d no_members)) in
    let shown = c.in_ok-answer.ensures ∙ ap with_list (c.in_ok-list.ensures ∙ overlaps_listed c.args.overlaps.now) in
    IfOk-weaker c.line_of.result _ _ (λ line told. told ∙ ap line_text shown) c.line_of.ensures
