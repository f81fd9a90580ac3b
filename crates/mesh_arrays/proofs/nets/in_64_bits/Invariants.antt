use Rattle.std.proofs.Common.{◌≡◌, take}
use Rattle.mesh_arrays.specs.NetClearances.{clearances_of}
use Rattle.mesh_arrays.proofs.nets.in_64_bits.Given as goal

-- the pairs so far
abbrev pub invariant-loop-pair : goal.invariant-loop-pair
invariant-loop-pair l = clearances_of l.flat.items ≡ take l.pair-index l.found
