use Rattle.std.proofs.Common.{◌^◌, lit≤, sym, ◌∙◌, subst}
use Rattle.mesh_plane.specs.Plane.{Edge, cross}
use Rattle.mesh_plane.proofs.Identities.{cross_flip}
use Rattle.mesh_meeting.proofs.Kept.{negated, small_kept, whole_small}
use Rattle.mesh_pairs.specs.Pairs.{StayClear, ends_at, stay_clear}
use Rattle.mesh_pairs.proofs.Strips.{clear_beyond, clear_turned}
use Rattle.mesh_pairs.proofs.pairs.Pairs.judge_back.Goals as goal

pub sides_of-first-requires-clause-turned : goal.sides_of-first-requires-clause-turned
sides_of-first-requires-clause-turned c =
    let e = c.args.e in
    let f = c.args.f in
    negated c.args.turned (cross e.along f.along) c.requires.size c.requires.turned
    ∙ sym (cross_flip e.along f.along)

pub returns-then-are_beyond-clause-settled : goal.returns-then-are_beyond-clause-settled
returns-then-are_beyond-clause-settled c =
    let kept = small_kept (2 ^ 40) c.args.f.limit (lit≤ tt) c.requires.second_line.limited in
    let clear : StayClear 8 c.args.e.ends c.args.f.ends =
    clear_turned 8 c.args.f.ends c.args.e.ends
    (clear_beyond c.args.f.ends c.args.e.ends _ c.sides_of-first.result (kept ∙ c.requires.second_line.limit) c.sides_of-first.ensures.value (c.are_beyond.ensures c.if-are_beyond.true))
    in
    stay_clear
    (subst (λ (x : Edge). StayClear 8 x (ends_at c.args.edges.now c.args.j)) c.requires.first_ends
    (subst (StayClear 8 c.args.e.ends) c.requires.second_ends clear))

pub judge_near-requires-clause-sides : goal.judge_near-requires-clause-sides
judge_near-requires-clause-sides c =
    record {
      second = c.requires.second;
      first = c.sides_of-first.ensures.value;
      whole = whole_small c.args.e.ends c.args.f.ends c.sides_of-first.result c.requires.first_line.small c.requires.second_line.small c.sides_of-first.ensures.value;
    }
