use Rattle.std.proofs.Common.{◌≡◌, ◌^◌, lit≤, sym, ◌∙◌, ap, subst}
use Rattle.std.specs.Prelude.{ℤ, ◌+ℤ◌}
use Rattle.std.proofs.lemmas.Int.{to_z-of_z}
use mir.Syntax.{w64}
use mir.Val.{SFits, to_z, of_z}
use Rattle.mesh_plane.specs.Bounds.{IsSmall}
use Rattle.mesh_plane.specs.Plane.{minus, cross, turn}
use Rattle.mesh_meeting.proofs.Kept.{small_fits, small_kept, turn_small}
use Rattle.mesh_meeting.proofs.Nearest.{turn_shifted}
use Rattle.mesh_pairs.proofs.pairs.sides_of.Goals as goal
use Rattle.mesh_pairs.proofs.pairs.sides_of.Goals.{After-cross-start}

start : (c : After-cross-start) → c.cross-start.result ≡ turn c.args.e.ends.0 c.args.e.ends.1 c.args.f.ends.0
start c = c.cross-start.ensures.value ∙ λ i. cross (c.requires.first.along i) (c.minus.ensures.value i)

turned : (c : After-cross-start) → c.args.turned ≡ cross (minus c.args.e.ends.1 c.args.e.ends.0) (minus c.args.f.ends.1 c.args.f.ends.0)
turned c = c.requires.turned ∙ λ i. cross (c.requires.first.along i) (c.requires.second.along i)

end : (c : After-cross-start) → to_z w64 (of_z w64 c.cross-start.result) +ℤ to_z w64 (of_z w64 c.args.turned) ≡ turn c.args.e.ends.0 c.args.e.ends.1 c.args.f.ends.1
end c =
    let first = small_kept (2 ^ 63) c.cross-start.result (lit≤ tt) c.cross-start.ensures.size ∙ start c in
    let second = to_z-of_z w64 c.args.turned c.ranges.turned ∙ turned c in
    (λ i. first i +ℤ second i) ∙ sym (turn_shifted c.args.e.ends.0 c.args.e.ends.1 c.args.f.ends.0 c.args.f.ends.1)

small : (c : After-cross-start) → IsSmall (2 ^ 63) (turn c.args.e.ends.0 c.args.e.ends.1 c.args.f.ends.1)
small c = turn_small c.args.e.ends c.args.f.ends.1 c.requires.first.small c.requires.second.small.end

pub overflow_add-result : goal.overflow_add-result
overflow_add-result c = subst (SFits w64) (sym (end c)) (small_fits (2 ^ 63) _ (lit≤ tt) (small c))

pub returns-clause-value : goal.returns-clause-value
returns-clause-value c =
    let first = small_kept (2 ^ 63) c.cross-start.result (lit≤ tt) c.cross-start.ensures.size ∙ start c in
    let second = ap (λ (z : ℤ). to_z w64 (of_z w64 z)) (end c) ∙ small_kept (2 ^ 63) (turn c.args.e.ends.0 c.args.e.ends.1 c.args.f.ends.1) (lit≤ tt) (small c) in
    λ i. (first i, second i)

pub returns-clause-size : goal.returns-clause-size
returns-clause-size c =
    let second = ap (λ (z : ℤ). to_z w64 (of_z w64 z)) (end c) ∙ small_kept (2 ^ 63) (turn c.args.e.ends.0 c.args.e.ends.1 c.args.f.ends.1) (lit≤ tt) (small c) in
    record {
      x = subst (IsSmall (2 ^ 63)) (sym (small_kept (2 ^ 63) c.cross-start.result (lit≤ tt) c.cross-start.ensures.size)) c.cross-start.ensures.size;
      y = subst (IsSmall (2 ^ 63)) (sym second) (small c);
    }
