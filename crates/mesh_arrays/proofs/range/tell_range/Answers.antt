-- The padding is told as it is.
use Rattle.std.proofs.Common.{refl, ap, sym, ◌∙◌, rules, w64}
use Rattle.std.proofs.lemmas.Bool.{true≢false}
use Rattle.std.proofs.lemmas.Int.{to_z-of_z}
use Rattle.mesh_drawing.specs.Drawn.{drawn_of}
use Rattle.mesh_arrays.specs.Failures.{read_as}
use Rattle.mesh_arrays.specs.Ranges.{IsRangeTold}
use Rattle.mesh_arrays.proofs.range.tell_range.Goals as goal

pub returns-then-stays_in_range : goal.returns-then-stays_in_range
returns-then-stays_in_range g c =
    IsRangeTold.in_range (ap (read_as (drawn_of g.I.IntNumber.value)) c.in-Ok.is) (c.stays_in_range.ensures.0 c.if-stays_in_range.true)
    (to_z-of_z w64 c.padding.result (search rules) ∙ c.padding.ensures)

pub returns-else-stays_in_range : goal.returns-else-stays_in_range
returns-else-stays_in_range g c =
    IsRangeTold.out_of_range (ap (read_as (drawn_of g.I.IntNumber.value)) c.in-Ok.is) (λ safe. true≢false (sym (c.stays_in_range.ensures.1 safe) ∙ c.if-stays_in_range.false))
    (to_z-of_z w64 c.padding.result (search rules) ∙ c.padding.ensures)

pub returns-in-Err : goal.returns-in-Err
returns-in-Err g c = rw c.of.ensures (IsRangeTold.unread (ap (read_as (drawn_of g.I.IntNumber.value)) c.in-Err.is) refl)
