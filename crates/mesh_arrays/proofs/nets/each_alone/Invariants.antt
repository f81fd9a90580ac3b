use Rattle.std.proofs.Common.{◌≡◌, [], ◌∷◌, map}
use Rattle.mesh_num.specs.Paths.{paths_of}
use Rattle.mesh_arrays.proofs.nets.each_alone.Given as goal

-- one list for each item so far
abbrev pub invariant-loop-item : goal.invariant-loop-item
invariant-loop-item g l = paths_of l.lists.items ≡ map (λ item. item ∷ []) l.yielded
