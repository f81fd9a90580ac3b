-- The arc is that of the corner, and its directions' points are drawn.
use Rattle.std.proofs.Common.{◌≡◌, ◌++◌, ◌∙◌, ap, rules, List, map}
use Rattle.std.proofs.lemmas.Result.{on_ok_weaker}
use Rattle.mesh_plane.specs.Plane.{Point, minus}
use Rattle.mesh_plane.specs.Winding.{route}
use Rattle.mesh_num.specs.Directed.{direction_of}
use Rattle.mesh_num.specs.Segments.{segments_of}
use Rattle.mesh_arc.specs.Arcs.{arc}
use Rattle.mesh_join.specs.RoundJoins.{arc_point, used, round_points}
use Rattle.mesh_join.proofs.RoundJoins.{first_apart, last_apart, points_are}
use Rattle.mesh_join.proofs.round.Round.push.Goals as goal

pub direction-from-requires : goal.direction-from-requires
direction-from-requires g c =
    let t = rw (← c.joint.view_is) at c.requires.joint.turn in
    let s = rw (← c.joint.view_is) at c.requires.joint.safe in
    let a = rw (← c.joint.view_is) at c.requires.apart in
    first_apart g.I.IntNumber.unit _ g.met.I.IntNumber.least_law t c.joint.invariant.incoming_short s a

pub direction-to-requires : goal.direction-to-requires
direction-to-requires g c =
    let t = rw (← c.joint.view_is) at c.requires.joint.turn in
    let s = rw (← c.joint.view_is) at c.requires.joint.safe in
    let a = rw (← c.joint.view_is) at c.requires.apart in
    last_apart g.I.IntNumber.unit _ g.met.I.IntNumber.least_law t c.joint.invariant.outgoing_short s a

pub returns-clause-ok : goal.returns-clause-ok
returns-clause-ok g c =
    let b = c.in_ok-rebuild.ensures.built in
    let o = c.self.invariant in
    let f : c.direction-from.result
    ≡ direction_of g.I.IntNumber.unit (minus c.args.joint.now.first c.args.joint.now.center) =
    rw (← c.joint.view_is) c.direction-from.ensures.value in
    let t : c.direction-to.result
    ≡ direction_of g.I.IntNumber.unit (minus c.args.joint.now.last c.args.joint.now.center) =
    rw (← c.joint.view_is) c.direction-to.ensures.value in
    let ds : c.directions.result.now ≡ arc g.I.IntNumber.unit c.self.inside.arc.options c.args.joint.now.sense c.direction-from.result c.direction-to.result = search rules in
    let p : used c.args.joint.now c.args.joint.now.first (map (arc_point g.I.IntNumber.unit c.args.joint.now) c.directions.result.now) ≡ round_points c.args.self.now.options g.I.IntNumber.unit c.args.joint.now =
    ap (λ (l : List Point). used c.args.joint.now c.args.joint.now.first (map (arc_point g.I.IntNumber.unit c.args.joint.now) l)) ds
    ∙ points_are c.args.self.now.options c.self.inside.arc.options g.I.IntNumber.unit c.args.joint.now c.direction-from.result c.direction-to.result (search rules) f t in
    on_ok_weaker c.push_used.result
    (λ h. h ∙ ap (λ (l : List Point). c.args.segments.now.items ++ segments_of (route c.args.joint.now.first l c.args.joint.now.last)) p)
    c.push_used.ensures.ok
