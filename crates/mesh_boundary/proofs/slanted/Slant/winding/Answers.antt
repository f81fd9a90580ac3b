use Rattle.std.proofs.Common.{◌≡◌, ◌+◌, ◌^◌, ◌∙◌, ap, sym, subst, arith, take}
use Rattle.std.specs.Prelude.{ℤ, pos, ◌+ℤ◌, ◌*ℤ◌, ◌≤ℤ◌, unsigned_abs}
use Rattle.std.proofs.lemmas.Int.{ints, to_z-of_z}
use mir.Syntax.{w128}
use mir.Val.{SFits, to_z, of_z}
use Rattle.mesh_plane.specs.Plane.{Edge}
use Rattle.mesh_plane.proofs.Sums.{sum_least}
use Rattle.mesh_lattice.specs.Counted.{Counted, size}
use Rattle.mesh_lattice.proofs.Arithmetic.{small_of_size}
use Rattle.mesh_boundary.specs.Private.Slants.{slanted_crossing, listed_size}
use Rattle.mesh_boundary.proofs.SidesCode.{size_least, next_part, sum_part, sum_more, adds_of}
use Rattle.mesh_boundary.proofs.slanted.Slant.winding.Goals as goal

abbrev own : Edge × Counted → ℤ
own e = size e.1

own_least : (e : Edge × Counted) → pos 0 ≤ℤ own e
own_least e = size_least e.1

abbrev none : Edge × Counted
none = (((pos 0, pos 0), (pos 0, pos 0)), (((pos 0, pos 0), (pos 0, pos 0)), pos 0))

pub counted_crossing-sum-requires-clause-count_small : goal.counted_crossing-sum-requires-clause-count_small
counted_crossing-sum-requires-clause-count_small c =
    let xs = c.args.row.now in
    omega (arith, ints, next_part own own_least xs c.loop-e.e-index none c.loop-e-test.true, sum_least own own_least (take c.loop-e.e-index xs), c.requires.room)

pub overflow_add-sum : goal.overflow_add-sum
overflow_add-sum c =
    let xs = c.args.row.now in
    let a = to_z w128 c.loop-e.sum-bits in
    let b = c.counted_crossing-sum.result in
    let kept = to_z-of_z w128 b (record { sfits = c.counted_crossing-sum.type_inv }) in
    let s = adds_of a b (omega (arith, ints, c.loop-e.invariant.size, c.counted_crossing-sum.ensures.size, next_part own own_least xs c.loop-e.e-index none c.loop-e-test.true, c.requires.room)) in
    subst (λ (z : ℤ). SFits w128 (a +ℤ z)) (sym kept) s.fits

pub loop-e-preserved : goal.loop-e-preserved
loop-e-preserved c =
    let xs = c.args.row.now in
    let i = c.loop-e.e-index in
    let a = to_z w128 c.loop-e.sum-bits in
    let b = c.counted_crossing-sum.result in
    let kept = to_z-of_z w128 b (record { sfits = c.counted_crossing-sum.type_inv }) in
    let s = adds_of a b (omega (arith, ints, c.loop-e.invariant.size, c.counted_crossing-sum.ensures.size, next_part own own_least xs i none c.loop-e-test.true, c.requires.room)) in
    let same : to_z w128 (of_z w128 (a +ℤ to_z w128 (of_z w128 b))) ≡ a +ℤ b = ap (λ (z : ℤ). to_z w128 (of_z w128 (a +ℤ z))) kept ∙ s.kept in
    record {
      value =
          same
          ∙ ((λ j. c.loop-e.invariant.value j +ℤ c.counted_crossing-sum.ensures.value j)
          ∙ sym (sum_more (λ (e : Edge × Counted). e.1.1 *ℤ slanted_crossing c.args.self.0 c.args.q e.1.0) xs i none c.loop-e-test.true));
      size =
          subst (λ (z : ℤ). pos (unsigned_abs z) ≤ℤ (pos 3 *ℤ listed_size (take (i + 1) xs))) (sym same)
          (omega (arith, ints, s.size, c.loop-e.invariant.size, c.counted_crossing-sum.ensures.size, sum_more own xs i none c.loop-e-test.true));
    }

pub returns-clause-size : goal.returns-clause-size
returns-clause-size c =
    let xs = c.args.row.now in
    small_of_size (2 ^ 122) (to_z w128 c.loop-e.sum-bits) (omega (arith, ints, c.loop-e.invariant.size, sum_part own own_least xs c.loop-e.e-index, c.requires.room))
