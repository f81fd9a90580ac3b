-- The value that lists the edges, and that it has no float.
use Rattle.std.proofs.Common.{ap, ◌∙◌, codes}
use Rattle.std.proofs.lemmas.Result.{IfOk-weaker}
use Rattle.serde_json.specs.Written.{has_float}
use Rattle.mesh_num.specs.Paths.{paths_of}
use Rattle.mesh_service.specs.Lines.{edge_data, only_member, line_text}
use Rattle.mesh_service.proofs.JsonLists.{edges_no_float, vectors_listed}
use Rattle.mesh_service.proofs.answer.edges_line.Goals as goal

pub line_of-requires : goal.line_of-requires
line_of-requires g c =
    let lists = paths_of c.args.paths.now in
    let shown = c.in_ok-answer.ensures ∙ ap (only_member (codes "edges")) (c.in_ok-list.ensures ∙ vectors_listed edge_data c.args.paths.now) in
    ap has_float shown ∙ edges_no_float lists

pub returns : goal.returns
returns g c =
    let shown = c.in_ok-answer.ensures ∙ ap (only_member (codes "edges")) (c.in_ok-list.ensures ∙ vectors_listed edge_data c.args.paths.now) in
    IfOk-weaker c.line_of.result _ _ (λ line told. told ∙ ap line_text shown) c.line_of.ensures
