-- The count is that of the call, and its limit the one that was asked for.
use Rattle.std.proofs.Common.{◌≡◌, ℕ, ◌<◌, ◌∙◌, ap, subst}
use Rattle.std.specs.Prelude.{Result, Ok, Err, OnOk, IfOk}
use Rattle.std.proofs.lemmas.Int.{to_z-of_z}
use mir.Syntax.{w32}
use Rattle.mesh_split.specs.Counting.{IsWithinLimit}
use Rattle.mesh_split.specs.declared.count.SplitCount.{SplitCount}
use Rattle.mesh_uses.proofs.offsets.grown_within.Goals as goal

-- what holds of an answer and a count, and the count is within its limit
with_count : {T E : Type 0} (r : Result T E) (P : T → SplitCount → Type 0) (count : SplitCount) → OnOk r (IsWithinLimit count) → IfOk r (λ t. P t count) →
    IfOk r (λ t. (c : SplitCount) × IsWithinLimit c × P t c)
with_count (Ok _) P count within holds = (count, within, holds)
with_count (Err _) P count within holds = tt

pub returns-clause-regions : goal.returns-clause-regions
returns-clause-regions c =
    let offset = to_z-of_z w32 c.args.offset c.ranges.offset in
    with_count c.outline_with_nearness.result _ c.outline_with_nearness.new.count c.outline_with_nearness.ensures.within
    (rw (c.new-style.ensures, offset, c.new.ensures, c.new-count.ensures) at c.outline_with_nearness.ensures.standing)

pub returns-clause-limited : goal.returns-clause-limited
returns-clause-limited c = λ e.
    let past = c.outline_with_nearness.ensures.refused e in
    let most : c.outline_with_nearness.new.count.most ≡ c.args.most_splits =
    ap (λ (count : SplitCount). count.most) c.outline_with_nearness.ensures.counted.sum ∙ ap (λ (count : SplitCount). count.most) c.new-count.ensures in
    subst (λ (n : ℕ). 0 < n) most past.0
