use Rattle.std.proofs.Common.{◌∙◌, ap, subst, List, length}
use Rattle.std.specs.List.{All}
use Rattle.mesh_plane.specs.Plane.{Point}
use Rattle.mesh_shapes.specs.Contours.{vertices, side_point, left_out, StartsOnce}
use Rattle.mesh_shapes.specs.Private.Progress.{IsLeastBefore, IsBestVisit}
use Rattle.mesh_shapes.proofs.ContoursBegun.{ring_among}
use Rattle.mesh_shapes.proofs.ring.ring_of.Goals as goal

pub returns : goal.returns
returns c =
    let all = c.args.all in
    let given = c.args.contour.items in
    let first = c.rotate_left.new.self.items in
    let begun = c.rotate_left-2.new.self.items in
    let least : IsLeastBefore given (length given) c.least_place.result = subst (λ (l : List Point). IsLeastBefore l (length l) c.least_place.result) c.deref.ensures.value c.least_place.ensures in
    let best : IsBestVisit all first (length first) c.start_place.result = subst (λ (l : List Point). IsBestVisit all l (length l) c.start_place.result) c.deref-2.ensures.value c.start_place.ensures in
    ring_among all _ c.args.ordered.now given first begun c.in_ok-vertices.field-0.items c.side_point-side.result c.least_place.result c.start_place.result c.requires.proper least
    c.rotate_left.ensures.items
    best
    c.rotate_left-2.ensures.items
    (c.in_ok-vertices.ensures ∙ ap (vertices all) c.deref-5.ensures.value)
    (c.side_point-side.ensures ∙ ap side_point c.deref-3.ensures.value)
    (λ t. subst (λ (l : List Point). All (StartsOnce c.args.ordered.now) (left_out all l)) c.deref-4.ensures.value (c.leaves_lone_points-is_lone.ensures t))
