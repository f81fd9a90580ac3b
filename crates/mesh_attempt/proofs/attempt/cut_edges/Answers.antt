use Rattle.std.proofs.Common.{rules, ◌∙◌, ap}
use Rattle.mesh_attempt.proofs.Known.{cut_known, small_at}
use Rattle.mesh_attempt.proofs.attempt.cut_edges.Goals as goal

pub returns : goal.returns
returns c =
    cut_known c.args.given.now c.in_ok-list.field-0.list.items c.deref-3.result.now c.cut_meetings.new.paths c.in-Some.pairs c.in_ok-cut_meetings.ensures.paths
    (ap (λ v. v.items) c.in_ok-cut_meetings.ensures.edges ∙ c.in_ok-paths.ensures.edges) c.in_ok-list.ensures.count (search rules) (small_at c.deref-3.result.now (search rules)) (search rules)
