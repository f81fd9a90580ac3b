use Rattle.std.proofs.Common.{◌≡◌, ℕ, ◌-◌, sym, ◌∙◌, ap, subst, arith, suc}
use Rattle.mesh_sine.specs.Sine.{sum_pair, halved, with_bits, low_pair}
use Rattle.mesh_sine.proofs.Lengths.{IsPair, pair_bounded, halved_is_pair, sum_is_pair, bit_taken, bit_left, bits_end}
use Rattle.mesh_sine.proofs.sine.in_first_quarter.Goals as goal

pub sum-requires-clause-other_cosine : goal.sum-requires-clause-other_cosine
sum-requires-clause-other_cosine c = rw c.pair_of_bit-bit_cosine.ensures (pair_bounded _ (halved_is_pair _)).0

pub sum-requires-clause-other_sine : goal.sum-requires-clause-other_sine
sum-requires-clause-other_sine c = rw c.pair_of_bit-bit_cosine.ensures (pair_bounded _ (halved_is_pair _)).1

-- the bit that is looked at is the highest of those left
next_bit : (low bit j : ℕ) (a p : ℕ × ℕ) → bit ≡ suc j → with_bits low bit a ≡ p → with_bits low (suc j) a ≡ p
next_bit low bit j a p e h = subst (λ (n : ℕ). with_bits low n a ≡ p) e h

pub loop-bit-preserved-then-low-bit-eq1 : goal.loop-bit-preserved-then-low-bit-eq1
loop-bit-preserved-then-low-bit-eq1 c =
    let a : ℕ × ℕ = (c.loop-bit.cosine, c.loop-bit.sine) in
    let j = c.loop-bit.bit - 1 in
    let e : c.sum.result ≡ sum_pair a (halved (30 - j)) = c.sum.ensures ∙ ap (sum_pair a) c.pair_of_bit-bit_cosine.ensures in
    record {
      last = omega arith;
      value = ap (with_bits c.args.low j) e ∙ sym (bit_taken c.args.low j a c.if-low-bit-eq1.true) ∙ next_bit c.args.low c.loop-bit.bit j a (low_pair c.args.low) (omega arith) c.loop-bit.invariant.value;
      short = subst IsPair (sym e) (sum_is_pair a (halved (30 - j)) c.loop-bit.invariant.short (halved_is_pair (30 - j)));
    }

pub loop-bit-preserved : goal.loop-bit-preserved
loop-bit-preserved c =
    let a : ℕ × ℕ = (c.loop-bit.cosine, c.loop-bit.sine) in
    let j = c.loop-bit.bit - 1 in
    record {
      last = omega arith;
      value = sym (bit_left c.args.low j a c.if-low-bit-eq1.false) ∙ next_bit c.args.low c.loop-bit.bit j a (low_pair c.args.low) (omega arith) c.loop-bit.invariant.value;
      short = c.loop-bit.invariant.short;
    }

pub returns-clause-value : goal.returns-clause-value
returns-clause-value c =
    let z : c.loop-bit.bit ≡ 0 = omega arith in
    sym (bits_end c.args.low (c.loop-bit.cosine, c.loop-bit.sine)) ∙ rw z at c.loop-bit.invariant.value
