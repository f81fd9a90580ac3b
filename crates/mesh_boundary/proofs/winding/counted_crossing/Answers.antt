use Rattle.std.proofs.Common.{lit≤, ◌≡◌, ◌^◌, ◌∙◌, ap, arith}
use Rattle.std.specs.Prelude.{ℤ, pos, neg_ℤ, ◌-ℤ◌, ◌*ℤ◌, ◌≤ℤ◌, ◌<ℤ◌}
use Rattle.std.proofs.lemmas.Int.{ints}
use Rattle.mesh_plane.specs.Bounds.{IsSmall}
use Rattle.mesh_plane.specs.Winding.{crossing}
use Rattle.mesh_lattice.proofs.Arithmetic.{small_kept}
use Rattle.mesh_boundary.proofs.SidesCode.{times_up, times_down, times_none, count_small}
use Rattle.mesh_boundary.proofs.winding.counted_crossing.Goals as goal

pub returns-then-c-gt0-clause-value : goal.returns-then-c-gt0-clause-value
returns-then-c-gt0-clause-value c =
    let n = c.args.s.1 in
    let d = c.crossing-c.result in
    let value = c.crossing-c.ensures.value ∙ λ i. crossing c.args.q (c.doubled.ensures i) (c.doubled-2.ensures i) in
    let kept = small_kept 2 d (lit≤ tt) c.crossing-c.ensures.size in
    let test = simp kept at c.if-c-gt0.true in
    let above : pos 0 <ℤ d = omega (arith, ints, test) in
    small_kept (2 ^ 121) n (lit≤ tt) (count_small n c.requires.count_small) ∙ times_up n d c.crossing-c.ensures.size above ∙ ap (λ (z : ℤ). n *ℤ z) value

pub returns-then-c-lt0-clause-value : goal.returns-then-c-lt0-clause-value
returns-then-c-lt0-clause-value c =
    let n = c.args.s.1 in
    let d = c.crossing-c.result in
    let value = c.crossing-c.ensures.value ∙ λ i. crossing c.args.q (c.doubled.ensures i) (c.doubled-2.ensures i) in
    let kept = small_kept 2 d (lit≤ tt) c.crossing-c.ensures.size in
    let test = simp kept at c.if-c-lt0.true in
    let below : d <ℤ pos 0 = omega (arith, ints, test) in
    let own = small_kept (2 ^ 121) n (lit≤ tt) (count_small n c.requires.count_small) in
    let turned : pos 0 -ℤ n ≡ neg_ℤ n = omega (arith, ints) in
    let small = count_small n c.requires.count_small in
    let opposite : IsSmall (2 ^ 121) (pos 0 -ℤ n) = record { low = omega (arith, ints, small.high); high = omega (arith, ints, small.low) } in
    simp (own, small_kept (2 ^ 121) (pos 0 -ℤ n) (lit≤ tt) opposite) (turned ∙ times_down n d c.crossing-c.ensures.size below ∙ ap (λ (z : ℤ). n *ℤ z) value)

pub returns-clause-value : goal.returns-clause-value
returns-clause-value c =
    let n = c.args.s.1 in
    let d = c.crossing-c.result in
    let value = c.crossing-c.ensures.value ∙ λ i. crossing c.args.q (c.doubled.ensures i) (c.doubled-2.ensures i) in
    let kept = small_kept 2 d (lit≤ tt) c.crossing-c.ensures.size in
    let first = simp kept at c.if-c-gt0.false in
    let second = simp kept at c.if-c-lt0.false in
    let low : d ≤ℤ pos 0 = omega (arith, ints, first) in
    let high : pos 0 ≤ℤ d = omega (arith, ints, second) in
    times_none n d low high ∙ ap (λ (z : ℤ). n *ℤ z) value
