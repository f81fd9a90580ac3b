use Rattle.std.proofs.Common.{◌≡◌, ◌+◌, length, take}
use Rattle.mesh_num.specs.Paths.{shapes_of, contours_of}
use Rattle.mesh_num.proofs.shape.resource.VecVecVecIntPointIntShapeResource.path_at.Given as goal

-- the contours of the shapes so far stand before the wanted one
abbrev pub invariant-loop-shape : goal.invariant-loop-shape
invariant-loop-shape g l = length (contours_of (shapes_of (take l.shape-index l.self.items))) + l.left ≡ l.index
