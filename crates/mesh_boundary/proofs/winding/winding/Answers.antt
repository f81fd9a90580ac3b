use Rattle.std.proofs.Common.{◌≡◌, ◌+◌, ◌∙◌, ap, sym, subst, arith, take}
use Rattle.std.specs.Prelude.{ℤ, pos, ◌+ℤ◌, ◌*ℤ◌, ◌≤ℤ◌, unsigned_abs}
use Rattle.std.proofs.lemmas.Int.{ints, to_z-of_z}
use mir.Syntax.{w128}
use mir.Val.{SFits, to_z, of_z}
use Rattle.mesh_plane.specs.Winding.{sum_of, crossing_on}
use Rattle.mesh_lattice.specs.Counted.{Counted}
use Rattle.mesh_lattice.specs.Counted.{size}
use Rattle.mesh_boundary.proofs.SidesCode.{size_least, next_part, sum_more, adds_of}
use Rattle.mesh_plane.proofs.Sums.{sum_least}
use Rattle.mesh_boundary.proofs.winding.winding.Goals as goal

pub counted_crossing-sum-requires : goal.counted_crossing-sum-requires
counted_crossing-sum-requires c =
    let xs = c.args.segments.now in
    omega (arith, ints, next_part size size_least xs c.loop-s.s-index (((pos 0, pos 0), (pos 0, pos 0)), pos 0) c.loop-s-test.true, sum_least size size_least (take c.loop-s.s-index xs), c.requires.room)

pub overflow_add-sum : goal.overflow_add-sum
overflow_add-sum c =
    let xs = c.args.segments.now in
    let a = to_z w128 c.loop-s.sum-bits in
    let b = c.counted_crossing-sum.result in
    let kept = to_z-of_z w128 b (record { sfits = c.counted_crossing-sum.type_inv }) in
    let s = adds_of a b (omega (arith, ints, c.loop-s.invariant.size, c.counted_crossing-sum.ensures.size, next_part size size_least xs c.loop-s.s-index (((pos 0, pos 0), (pos 0, pos 0)), pos 0) c.loop-s-test.true, c.requires.room)) in
    subst (λ (z : ℤ). SFits w128 (a +ℤ z)) (sym kept) s.fits

pub loop-s-preserved : goal.loop-s-preserved
loop-s-preserved c =
    let xs = c.args.segments.now in
    let i = c.loop-s.s-index in
    let a = to_z w128 c.loop-s.sum-bits in
    let b = c.counted_crossing-sum.result in
    let kept = to_z-of_z w128 b (record { sfits = c.counted_crossing-sum.type_inv }) in
    let s = adds_of a b (omega (arith, ints, c.loop-s.invariant.size, c.counted_crossing-sum.ensures.size, next_part size size_least xs i (((pos 0, pos 0), (pos 0, pos 0)), pos 0) c.loop-s-test.true, c.requires.room)) in
    let same : to_z w128 (of_z w128 (a +ℤ to_z w128 (of_z w128 b))) ≡ a +ℤ b = ap (λ (z : ℤ). to_z w128 (of_z w128 (a +ℤ z))) kept ∙ s.kept in
    record {
      value =
          same
          ∙ ((λ j. c.loop-s.invariant.value j +ℤ c.counted_crossing-sum.ensures.value j)
          ∙ sym (sum_more (λ (k : Counted). k.1 *ℤ crossing_on 2 c.args.q k.0.0 k.0.1) xs i (((pos 0, pos 0), (pos 0, pos 0)), pos 0) c.loop-s-test.true));
      size =
          subst (λ (z : ℤ). pos (unsigned_abs z) ≤ℤ sum_of size (take (i + 1) xs)) (sym same)
          (omega (arith, ints, s.size, c.loop-s.invariant.size, c.counted_crossing-sum.ensures.size, sum_more size xs i (((pos 0, pos 0), (pos 0, pos 0)), pos 0) c.loop-s-test.true));
    }
