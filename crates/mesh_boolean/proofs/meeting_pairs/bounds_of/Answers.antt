-- The buffer holds the points of the zone.
use Rattle.std.proofs.Common.{◌≡◌, List, map, ◌∙◌, subst}
use Rattle.std.specs.List.{All}
use Rattle.std.proofs.lemmas.Iterator.{items_from_drains, YieldsList-from_slice}
use Rattle.mesh_num.specs.Paths.{shapes_of}
use Rattle.mesh_num.specs.Rectangle.{IsInRectangle}
use Rattle.mesh_plane.specs.Plane.{Point}
use Rattle.mesh_boolean.specs.Overlaps.{points_of}
use Rattle.mesh_boolean.proofs.meeting_pairs.bounds_of.Goals as goal

pub returns : goal.returns
returns g c =
    let d = c.in-Some.ensures.1 in
    let seen : map (λ p. p.now) c.in-Some.ensures.0 ≡ c.deref.result.now =
    items_from_drains c.in-Some.ensures.0 (d.1.0, d.1.1, λ _. (d.0, d.1.2)) (YieldsList-from_slice c.deref.result.now c.iter.ensures.rest) in
    subst (λ (ps : List Point). All (λ p. IsInRectangle c.in-Some.bounds p) ps) {x = map (λ p. p.now) c.in-Some.ensures.0} {y = points_of (shapes_of c.args.zone.now.items)} (seen ∙ (c.deref.ensures.value ∙ c.in_ok-buffer.ensures.points)) c.in-Some.ensures.2.inside
