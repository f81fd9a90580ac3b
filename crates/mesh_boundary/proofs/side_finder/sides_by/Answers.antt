use Rattle.std.proofs.Common.{◌≡◌, ◌^◌, Bool, cond, ◌∙◌, ap, arith, lit≤}
use Rattle.std.specs.Prelude.{ℤ, pos, unsigned_abs, ◌+ℤ◌, ◌-ℤ◌}
use Rattle.std.proofs.lemmas.Int.{ints}
use mir.Syntax.{w128}
use mir.Val.{to_z, of_z}
use Rattle.mesh_plane.specs.Bounds.{IsSmall}
use Rattle.mesh_lattice.specs.Counted.{IsRoomy}
use Rattle.mesh_lattice.proofs.Arithmetic.{small_fits, small_kept}
use Rattle.mesh_boundary.proofs.SidesCode.{count_small}
use Rattle.mesh_boundary.proofs.side_finder.sides_by.Goals as goal

-- the winding beside a segment and its count as 128 bits hold them, and that their sum and difference fit
record Fit (w n : ℤ) : Type 0 where
  winding : to_z w128 (of_z w128 w) ≡ w
  count : to_z w128 (of_z w128 n) ≡ n
  sum : IsSmall (2 ^ 123) (w +ℤ n)
  rest : IsSmall (2 ^ 123) (w -ℤ n)

fit : (w n : ℤ) → IsSmall (2 ^ 122) w → IsRoomy (pos (unsigned_abs n)) → Fit w n
fit w n s room =
    let t = count_small n room in
    record {
      winding = small_kept (2 ^ 122) w (lit≤ tt) s;
      count = small_kept (2 ^ 121) n (lit≤ tt) t;
      sum = record { low = omega (arith, ints, s.low, t.low); high = omega (arith, ints, s.high, t.high) };
      rest = record { low = omega (arith, ints, s.low, t.high); high = omega (arith, ints, s.high, t.low) };
    }

pub overflow_add-result : goal.overflow_add-result
overflow_add-result c =
    let f = fit c.args.beside c.args.s.1 c.requires.beside_small c.requires.count_small in
    simp (f.winding, f.count) (small_fits (2 ^ 123) (c.args.beside +ℤ c.args.s.1) (lit≤ tt) f.sum)

pub overflow_sub-result : goal.overflow_sub-result
overflow_sub-result c =
    let f = fit c.args.beside c.args.s.1 c.requires.beside_small c.requires.count_small in
    simp (f.winding, f.count) (small_fits (2 ^ 123) (c.args.beside -ℤ c.args.s.1) (lit≤ tt) f.rest)

pub returns-then-rises : goal.returns-then-rises
returns-then-rises c =
    let w = c.args.beside in
    let n = c.args.s.1 in
    let f = fit w n c.requires.beside_small c.requires.count_small in
    let sum : to_z w128 (of_z w128 (to_z w128 (of_z w128 w) +ℤ to_z w128 (of_z w128 n))) ≡ w +ℤ n = simp (f.winding, f.count) (small_kept (2 ^ 123) (w +ℤ n) (lit≤ tt) f.sum) in
    (λ i. (sum i, f.winding i)) ∙ ap (λ (b : Bool). cond b (w +ℤ n, w) (w, w -ℤ n)) c.if-rises.ensures

pub returns : goal.returns
returns c =
    let w = c.args.beside in
    let n = c.args.s.1 in
    let f = fit w n c.requires.beside_small c.requires.count_small in
    let rest : to_z w128 (of_z w128 (to_z w128 (of_z w128 w) -ℤ to_z w128 (of_z w128 n))) ≡ w -ℤ n = simp (f.winding, f.count) (small_kept (2 ^ 123) (w -ℤ n) (lit≤ tt) f.rest) in
    (λ i. (f.winding i, rest i)) ∙ ap (λ (b : Bool). cond b (w +ℤ n, w) (w, w -ℤ n)) c.if-rises.ensures
