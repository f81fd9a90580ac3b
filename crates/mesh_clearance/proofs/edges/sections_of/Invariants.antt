use Rattle.std.proofs.Common.{◌≡◌, take}
use Rattle.std.specs.List.{flat_map}
use Rattle.mesh_clearance.specs.Clearance.{sections}
use Rattle.mesh_clearance.proofs.edges.sections_of.Given as goal

abbrev pub invariant-loop-index : goal.invariant-loop-index
invariant-loop-index g l = l.edges.items ≡ flat_map (sections l.are_closed) (take l.index (g.S.IntShapeResource.paths l.paths))
