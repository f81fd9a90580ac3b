use Rattle.std.proofs.Common.{◌≡◌, ◌-◌, ◌^◌, min, length, take}
use Rattle.mesh_num.specs.Paths.{shapes_of, contours_of}
use Rattle.mesh_num.proofs.shape.resource.VecVecVecIntPointIntShapeResource.path_count.Given as goal

-- the contours of the shapes so far are counted
abbrev pub invariant-loop-shape : goal.invariant-loop-shape
invariant-loop-shape g l = l.count ≡ min (2 ^ 64 - 1) (length (contours_of (shapes_of (take l.shape-index l.self.items))))
