use Rattle.std.proofs.Common.{◌^◌, lit≤, ◌∙◌, subst}
use Rattle.mesh_meeting.proofs.Kept.{small_kept}
use Rattle.mesh_plane.specs.Plane.{Edge}
use Rattle.mesh_pairs.specs.Pairs.{StayClear, ends_at, stay_clear}
use Rattle.mesh_pairs.proofs.Strips.{clear_beyond}
use Rattle.mesh_pairs.proofs.pairs.Pairs.judge.Goals as goal

pub returns-then-are_beyond-clause-settled : goal.returns-then-are_beyond-clause-settled
returns-then-are_beyond-clause-settled c =
    let kept = small_kept (2 ^ 40) c.args.e.limit (lit≤ tt) c.requires.line.limited in
    let clear : StayClear 8 c.args.e.ends c.line_of-f.result.ends =
    clear_beyond c.args.e.ends c.line_of-f.result.ends _ c.sides_of-second.result (kept ∙ c.requires.line.limit) c.sides_of-second.ensures.value (c.are_beyond.ensures c.if-are_beyond.true)
    in
    stay_clear
    (subst (λ (x : Edge). StayClear 8 x (ends_at c.args.edges.now c.args.j)) c.requires.ends
    (subst (StayClear 8 c.args.e.ends) c.line_of-f.ensures.ends clear))
