-- The value that lists the edges with a nearness, and that it has no float.
use Rattle.std.proofs.Common.{ap, ◌∙◌, codes}
use Rattle.std.proofs.lemmas.Result.{IfOk-weaker}
use Rattle.serde_json.specs.Data.{Data, number, unsigned, object, member, no_members}
use Rattle.serde_json.specs.Written.{has_float}
use Rattle.mesh_num.specs.Paths.{paths_of}
use Rattle.mesh_service.specs.Lines.{edge_data, line_text}
use Rattle.mesh_service.proofs.JsonLists.{near_edges_no_float, vectors_listed}
use Rattle.mesh_service.proofs.answer.near_edges_line.Goals as goal

pub line_of-requires : goal.line_of-requires
line_of-requires g c =
    let with_list = λ (d : Data). object (member (codes "edges") d (member (codes "nearness") (number (unsigned c.args.nearness)) no_members)) in
    let shown = c.in_ok-answer.ensures ∙ ap with_list (c.in_ok-list.ensures ∙ vectors_listed edge_data c.args.paths.now) in
    ap has_float shown ∙ near_edges_no_float c.args.nearness (paths_of c.args.paths.now)

pub returns : goal.returns
returns g c =
    let with_list = λ (d : Data). object (member (codes "edges") d (member (codes "nearness") (number (unsigned c.args.nearness)) no_members)) in
    let shown = c.in_ok-answer.ensures ∙ ap with_list (c.in_ok-list.ensures ∙ vectors_listed edge_data c.args.paths.now) in
    IfOk-weaker c.line_of.result _ _ (λ line told. told ∙ ap line_text shown) c.line_of.ensures
