-- The value that lists the overlaps, and that it has no float.
use Rattle.std.proofs.Common.{ap, ◌∙◌, codes}
use Rattle.std.proofs.lemmas.Result.{IfOk-weaker}
use Rattle.serde_json.specs.Written.{has_float}
use Rattle.mesh_boolean.specs.Overlaps.{overlaps_of}
use Rattle.mesh_service.specs.Lines.{only_member, line_text}
use Rattle.mesh_service.proofs.JsonLists.{overlaps_no_float, overlaps_listed}
use Rattle.mesh_service.proofs.answer.overlaps_line.Goals as goal

pub line_of-requires : goal.line_of-requires
line_of-requires g c =
    let shown = c.in_ok-answer.ensures ∙ ap (only_member (codes "overlaps")) (c.in_ok-list.ensures ∙ overlaps_listed c.args.overlaps.now) in
    ap has_float shown ∙ overlaps_no_float (overlaps_of c.args.overlaps.now)

pub returns : goal.returns
returns g c =
    let shown = c.in_ok-answer.ensures ∙ ap (only_member (codes "overlaps")) (c.in_ok-list.ensures ∙ overlaps_listed c.args.overlaps.now) in
    IfOk-weaker c.line_of.result _ _ (λ line told. told ∙ ap line_text shown) c.line_of.ensures
