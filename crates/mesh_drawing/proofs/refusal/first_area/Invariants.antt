use Rattle.std.proofs.Common.{◌*◌, take}
use Rattle.std.specs.List.{All}
use Rattle.mesh_plane.specs.Bounds.{IsWithin}
use Rattle.mesh_num.specs.Paths.{paths_of}
use Rattle.mesh_shapes.specs.Contours.{double_area}
use Rattle.mesh_drawing.proofs.refusal.first_area.Given as goal

-- the area of each contour so far fits
abbrev pub invariant-loop-index : goal.invariant-loop-index
invariant-loop-index g l =
    All (λ path. IsWithin (8 * g.I.IntNumber.unit * g.I.IntNumber.unit) (double_area path)) (take l.index (paths_of l.paths))
