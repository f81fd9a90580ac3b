-- Lemmas over points and lists: a contour that was validated may be built with its outer offset.
use Rattle.std.proofs.Common.{List, [], ◌∷◌, lit<, ℕ}
use Rattle.std.specs.List.{All}
use Rattle.mesh_plane.specs.Plane.{Point}
use Rattle.mesh_join.specs.Joins.{outline_padding}
use Rattle.mesh_join.specs.Styles.{OutlineStyle, outer}
use Rattle.mesh_outline.specs.Building.{IsMovable}
use Rattle.mesh_offset.specs.Padding.{ArePathsSafe}
use Rattle.mesh_outline.proofs.Padding.{outer_accepted}

pub movable : (unit : ℕ) (style : OutlineStyle) (points : List Point) → ArePathsSafe unit (outline_padding style) (points ∷ []) → All (IsMovable unit (outer style)) points
movable unit style points safe = outer_accepted unit style (points ∷ []) safe 0 [] (lit< tt)
