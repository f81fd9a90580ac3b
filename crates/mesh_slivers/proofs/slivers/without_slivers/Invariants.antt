use Rattle.std.proofs.Common.{◌≡◌, ◌++◌, map, take, drop}
use Rattle.mesh_num.specs.Paths.{shapes_of}
use Rattle.mesh_slivers.specs.Slivers.{without_holes}
use Rattle.mesh_slivers.proofs.slivers.without_slivers.Given as goal

abbrev pub invariant-loop-shape : goal.invariant-loop-shape
invariant-loop-shape g l =
    shapes_of l.shape-items ≡ map (without_holes l.width) (take l.shape-index (shapes_of l.initial.shape-items)) ++ drop l.shape-index (shapes_of l.initial.shape-items)
