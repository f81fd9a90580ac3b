-- One edge, as it is or the other way about.
use Rattle.mesh_offset.proofs.Adding.{on_ok_then}
use Rattle.mesh_offset.proofs.Adding.{edge_added, edge_added_back}
use Rattle.mesh_offset.proofs.segments.add_edge.Goals as goal

pub returns-in-Positive : goal.returns-in-Positive
returns-in-Positive g c =
    on_ok_then c.push_non_degenerate.result c.push_non_degenerate.ensures.ok
    (edge_added c.args.fill c.args.start c.args.end c.args.segments.now.items _ c.in-Positive.is)

pub returns-in-Negative : goal.returns-in-Negative
returns-in-Negative g c =
    on_ok_then c.push_non_degenerate-in-Negative.result c.push_non_degenerate-in-Negative.ensures.ok
    (edge_added_back c.args.fill c.args.start c.args.end c.args.segments.now.items _ c.in-Negative.is)
