-- Lemmas over whole numbers: what the order of numbers says of a test.
use Rattle.std.proofs.Common.{◌≡◌, ◌∙◌, ap, arith, Bool, Option, Some, ◌↔◌, IsTrue}
use Rattle.std.specs.Prelude.{ℤ, ◌<ℤ◌}
use Rattle.std.specs.Ordering.{is_lt, is_some_and, int_cmp}
use Rattle.std.specs.declared.cmp.Ordering.{Ordering}
use Rattle.std.proofs.lemmas.Int.{ints}

-- a test for `Less` of how two numbers compare
pub tells_less : (b : Bool) (p : Option Ordering) (o : Ordering) (x y : ℤ)
    → b ≡ is_some_and is_lt p → p ≡ Some o → o ≡ int_cmp x y → (IsTrue b ↔ x <ℤ y)
tells_less b p o x y e f g =
    let h : b ≡ is_lt (int_cmp x y) = e ∙ ap (is_some_and is_lt) (f ∙ ap (λ (q : Ordering). Some q) g) in
    grind (arith, ints)
