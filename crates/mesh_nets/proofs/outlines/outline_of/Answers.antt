use Rattle.std.proofs.Common.{◌≡◌, ◌∙◌, List, ap, subst}
use Rattle.std.specs.List.{All, flat_map}
use Rattle.mesh_plane.specs.Plane.{Edge}
use Rattle.mesh_plane.specs.Winding.{boundary}
use Rattle.mesh_num.specs.FlatContours.{flat_contours}
use Rattle.mesh_num.specs.Paths.{contours_of, shapes_of}
use Rattle.mesh_clearance.specs.Boxes.{IsBoxed}
use Rattle.mesh_nets.proofs.Outlined.{found_contours}
use Rattle.mesh_nets.proofs.outlines.outline_of.Goals as goal

pub returns : goal.returns
returns g c =
    let same : flat_contours c.in_ok-contours.contours ≡ contours_of (shapes_of c.args.net.now.items) =
    found_contours c.in_ok-contours.contours (contours_of (shapes_of c.args.net.now.items)) c.in_ok-contours.ensures in record {
      same = same;
      edges = c.in_ok-edges.ensures ∙ ap (flat_map boundary) same;
      boxed = subst (λ (es : List Edge). All (IsBoxed c.box_around-around.result) es) c.deref.ensures.value c.box_around-around.ensures;
    }
