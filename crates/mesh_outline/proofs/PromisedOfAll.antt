-- Lemmas over points and lists: what the edges of all contours' outlines are promised.
use Rattle.std.proofs.Common.{ℕ, ◌≤◌, ◌^◌, List, get_or}
use Rattle.mesh_plane.specs.Plane.{Point}
use Rattle.mesh_join.specs.Styles.{OffsetJoin, OutlineStyle, outer, inner}
use Rattle.mesh_outline.specs.Drawn.{HasPromisedEdges}
use Rattle.mesh_outline.proofs.Padding.{way_of}
use Rattle.mesh_outline.proofs.Promised.{has_promised_edges}
use Rattle.mesh_outline.specs.Kinds.{contour_kind}
use Rattle.mesh_outline.specs.Resolved.{HavePromisedEdges}

-- the edges of each contour have what is promised of its outline, in the way that it moves
pub have_promised_edges : (unit : ℕ) (style : OutlineStyle) (contours : List (List Point)) → 2 ^ 14 ≤ unit → HavePromisedEdges unit style contours
have_promised_edges unit style contours least k d h =
    let contour : List Point = get_or contours k d in
    way_of style (contour_kind contour) (λ (way : OffsetJoin). HasPromisedEdges unit way contour) (has_promised_edges unit (outer style) contour least) (has_promised_edges unit (inner style) contour least)
