-- Contour by contour.
use Rattle.std.proofs.Common.{[], refl}
use Rattle.std.specs.List.{flat_map}
use Rattle.mesh_num.proofs.FlatContours.{found_from}
use Rattle.mesh_num.proofs.laws.flat_contours_are_found.Goals as goal

pub returns : goal.returns
returns c contours = found_from [] contours (flat_map (λ p. p) contours) refl
