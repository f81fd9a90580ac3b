use Rattle.std.proofs.Common.{◌^◌, arith, rules, w32, w64}
use Rattle.std.specs.Prelude.{ℤ, ◌+ℤ◌}
use Rattle.std.proofs.lemmas.Int.{to_z-of_z, ints}
use mir.Syntax.{w16}
use mir.Val.{SFits}
use Rattle.mesh_plane.specs.Bounds.{IsSmall}
use Rattle.mesh_store.proofs.tree.height.Goals as goal

sum_fits : (a b : ℤ) → IsSmall (2 ^ 48) a → IsSmall (2 ^ 48) b → SFits w64 (a +ℤ b)
sum_fits a b s t = omega (arith, ints, s.low, s.high, t.low, t.high)

small_fits : (a : ℤ) → IsSmall (2 ^ 48) a → SFits w64 a
small_fits a s = omega (arith, ints, s.low, s.high)

pub overflow_add-result : goal.overflow_add-result
overflow_add-result c =
    let a = c.term.result in
    let b = c.term-2.result in
    let s = c.term.ensures.size in
    let t = c.term-2.ensures.size in
    rw (to_z-of_z w64 a (small_fits a s), to_z-of_z w64 b (small_fits b t)) (sum_fits a b s t)

pub returns : goal.returns
returns c =
    let x : SFits w16 c.args.across.0 = search rules in
    let y : SFits w16 c.args.across.1 = search rules in
    let u : SFits w32 c.args.p.0 = search rules in
    let v : SFits w32 c.args.p.1 = search rules in
    let d = simp (to_z-of_z w16 c.args.across.0 x, to_z-of_z w32 c.args.p.0 u) at c.term.ensures.value in
    let e = simp (to_z-of_z w16 c.args.across.1 y, to_z-of_z w32 c.args.p.1 v) at c.term-2.ensures.value in
    rw (to_z-of_z w64 c.term.result (small_fits c.term.result c.term.ensures.size), to_z-of_z w64 c.term-2.result (small_fits c.term-2.result c.term-2.ensures.size), to_z-of_z w64 (c.term.result +ℤ c.term-2.result) (sum_fits c.term.result c.term-2.result c.term.ensures.size c.term-2.ensures.size))
    (λ i. d i +ℤ e i)
