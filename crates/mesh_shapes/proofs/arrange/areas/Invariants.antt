use Rattle.std.proofs.Common.{◌≡◌, ◌++◌, drop}
use Rattle.mesh_shapes.specs.Vectors.{rings_of_vecs}
use Rattle.mesh_shapes.specs.Private.Grouping.{areas_of}
use Rattle.mesh_shapes.proofs.arrange.areas.Given as goal

abbrev pub invariant-loop-r : goal.invariant-loop-r
invariant-loop-r l =
    l.areas.items ++ areas_of (rings_of_vecs (drop l.r-index l.rings)) ≡ areas_of (rings_of_vecs l.rings)
