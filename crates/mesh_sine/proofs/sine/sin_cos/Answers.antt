use Rattle.std.proofs.Common.{lit<, ◌^◌}
use Rattle.mesh_sine.proofs.Lengths.{cut_length}
use Rattle.mesh_sine.proofs.sine.sin_cos.Goals as goal

pub in_quarter-requires-clause-short : goal.in_quarter-requires-clause-short
in_quarter-requires-clause-short c =
    cut_length c.in_first_quarter-cosine.result.0 c.in_first_quarter-cosine.result.1 (2 ^ 30) (2 ^ 60) (lit< tt) c.in_first_quarter-cosine.ensures.short
