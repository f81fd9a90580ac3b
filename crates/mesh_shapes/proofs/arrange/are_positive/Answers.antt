use Rattle.std.proofs.Common.{rules, ◌≡◌, ℕ, true, below_more, get_or, arith}
use Rattle.std.specs.Prelude.{pos, int_lt}
use Rattle.mesh_shapes.proofs.arrange.are_positive.Goals as goal

pub loop-i-preserved : goal.loop-i-preserved
loop-i-preserved c =
    let above : int_lt (pos 0) (get_or c.args.areas.now c.loop-i.i (pos 0)) ≡ true = search rules in
    below_more (λ (j : ℕ). int_lt (pos 0) (get_or c.args.areas.now j (pos 0)) ≡ true) c.loop-i.i c.loop-i.invariant above

pub returns : goal.returns
returns c = λ all i low. c.loop-i.invariant i (omega (arith, low, c.loop-i-test.false))
