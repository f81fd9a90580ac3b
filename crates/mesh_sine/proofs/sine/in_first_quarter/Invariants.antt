use Rattle.std.proofs.Common.{◌≡◌, ◌≤◌}
use Rattle.mesh_sine.specs.Sine.{with_bits, low_pair}
use Rattle.mesh_sine.proofs.Lengths.{IsPair}
use Rattle.mesh_sine.proofs.sine.in_first_quarter.Given as goal

abbrev pub invariant-loop-bit : goal.invariant-loop-bit
invariant-loop-bit l =
    record {
      last : l.bit ≤ 30;
      value : with_bits l.low l.bit (l.cosine, l.sine) ≡ low_pair l.low;
      short : IsPair (l.cosine, l.sine);
    }
