-- The sides that are moved fit the wide type, and their coordinates are tested.
use Rattle.std.proofs.Common.{◌^◌, ◌≤◌, ◌∙◌, ap, sym, arith}
use Rattle.std.specs.Prelude.{Bool, pos, ◌<ℤ◌, ◌&&◌}
use Rattle.mesh_offset.proofs.PaddingBounds.{side_fits, bounds_tested}
use Rattle.mesh_offset.proofs.bounds.is_safe_widened.Goals as goal

pub plus-requires : goal.plus-requires
plus-requires g c =
    let least : 2 ^ 14 ≤ g.I.IntNumber.unit = g.met.I.IntNumber.least_law in
    let below = c.is_wide_less.ensures.0 c.if-not-is_wide_less.false in
    let most : g.I.Wide.WideNumber.value c.args.padding <ℤ pos g.I.IntNumber.unit = rw c.unit.ensures at below in
    rw c.to_wide-3.ensures.value (side_fits _ g.I.IntNumber.unit _ _ g.met.I.IntNumber.half_law (omega arith) c.to_wide-3.ensures.range c.requires.padding most).1

pub plus-requires-2 : goal.plus-requires-2
plus-requires-2 g c =
    let least : 2 ^ 14 ≤ g.I.IntNumber.unit = g.met.I.IntNumber.least_law in
    let below = c.is_wide_less.ensures.0 c.if-not-is_wide_less.false in
    let most : g.I.Wide.WideNumber.value c.args.padding <ℤ pos g.I.IntNumber.unit = rw c.unit.ensures at below in
    rw c.to_wide-4.ensures.value (side_fits _ g.I.IntNumber.unit _ _ g.met.I.IntNumber.half_law (omega arith) c.to_wide-4.ensures.range c.requires.padding most).1

pub returns-then-low : goal.returns-then-low
returns-then-low g c =
    let west = rw c.to_wide.ensures.value at c.minus.ensures in
    let south = rw c.to_wide-2.ensures.value at c.minus-2.ensures in
    let east = rw c.to_wide-3.ensures.value at c.plus.ensures in
    let north = rw c.to_wide-4.ensures.value at c.plus-2.ensures in
    rw (← c.bounds.view_is)
    (bounds_tested g.I.IntNumber.unit (g.I.Wide.WideNumber.value c.args.padding) _ _ _ _ _ c.are_safe-low.result c.are_safe-high.result _
    (ap (λ (b : Bool). b && c.are_safe-high.result) (sym c.if-low.true)) west south east north c.are_safe-low.ensures c.are_safe-high.ensures)

pub returns-else-low : goal.returns-else-low
returns-else-low g c =
    let west = rw c.to_wide.ensures.value at c.minus.ensures in
    let south = rw c.to_wide-2.ensures.value at c.minus-2.ensures in
    let east = rw c.to_wide-3.ensures.value at c.plus.ensures in
    let north = rw c.to_wide-4.ensures.value at c.plus-2.ensures in
    rw (← c.bounds.view_is)
    (bounds_tested g.I.IntNumber.unit (g.I.Wide.WideNumber.value c.args.padding) _ _ _ _ _ c.are_safe-low.result c.are_safe-high.result _
    (c.if-low.false ∙ ap (λ (b : Bool). b && c.are_safe-high.result) (sym c.if-low.false)) west south east north c.are_safe-low.ensures c.are_safe-high.ensures)
