-- Each point is safe, and one edge more; the last edge ends them.
use Rattle.std.proofs.Common.{◌≡◌, ◌≤◌, ◌+◌, ◌++◌, ◌∷◌, [], List, length, sym, ◌∙◌, ap, subst, rules, arith, take, take_all}
use Rattle.std.proofs.Common.{vec_capacity}
use Rattle.std.proofs.lemmas.Bool.{false≢true}
use Rattle.std.proofs.lemmas.List.{take_more}
use Rattle.std.proofs.lemmas.Result.{on_ok_weaker}
use Rattle.mesh_plane.specs.Plane.{Point}
use Rattle.mesh_plane.specs.Winding.{route}
use Rattle.mesh_num.specs.Segments.{segments_of}
use Rattle.mesh_join.proofs.Drawing.{IsDrawn, each, drawing_starts, each_takes, each_ends, still_kept}
use Rattle.mesh_stroke.specs.CustomCaps.{custom_point, custom_points}
use Rattle.mesh_stroke.proofs.CustomCaps.{point_safe, room_for_next, room_for_last}
use Rattle.mesh_stroke.proofs.cap.custom.add.Goals as goal

pub loop-point-init : goal.loop-point-init
loop-point-init g c =
    subst
    (λ (p : Point). IsDrawn
    (each (custom_point g.I.IntNumber.unit c.args.end.now)) c.args.end.now.first c.args.end.now.last
    c.args.segments.now.items (vec_capacity c.args.segments.now) []
    p c.args.segments.now.items (vec_capacity c.args.segments.now))
    (search rules)
    (drawing_starts (each (custom_point g.I.IntNumber.unit c.args.end.now)) c.args.end.now.first c.args.end.now.last
    c.args.segments.now.items (vec_capacity c.args.segments.now))

pub moved-next-requires : goal.moved-next-requires
moved-next-requires g c =
    let h = rw (← c.end.view_is) at c.requires in
    let least = g.met.I.IntNumber.least_law in
    rw (c.rotate.ensures.value)
    (point_safe g.I.IntNumber.unit c.args.points.now _ c.loop-point.point-index c.point-item.result
    (omega (arith, least))
    c.end.invariant.incoming_short h (omega (arith, c.loop-point-test.true)) c.point-item.is)

pub returns-in_err-push_straight-clause-kept : goal.returns-in_err-push_straight-clause-kept
returns-in_err-push_straight-clause-kept g c =
    still_kept (each (custom_point g.I.IntNumber.unit c.args.end.now)) c.args.end.now.first c.args.end.now.last
    c.args.segments.now.items (vec_capacity c.args.segments.now)
    (take c.loop-point.point-index c.args.points.now) c.loop-point.last
    c.loop-point.segments.items (vec_capacity c.loop-point.segments)
    c.push_straight.new.segments.items c.loop-point.invariant c.in_err-push_straight.ensures.kept

pub loop-point-preserved : goal.loop-point-preserved
loop-point-preserved g c =
    let e : take (c.loop-point.point-index + 1) c.args.points.now
    ≡ take c.loop-point.point-index c.args.points.now ++ (c.point-item.result ∷ []) =
    take_more c.args.points.now c.loop-point.point-index c.point-item.result (omega (arith, c.loop-point-test.true))
    ∙ ap (λ (d : Point). take c.loop-point.point-index c.args.points.now ++ (d ∷ [])) (sym c.point-item.is) in
    let p : c.moved-next.result ≡ custom_point g.I.IntNumber.unit c.args.end.now c.point-item.result = search rules in
    rw e
    (each_takes (custom_point g.I.IntNumber.unit c.args.end.now) c.args.end.now.first c.args.end.now.last
    c.args.segments.now.items (vec_capacity c.args.segments.now)
    (take c.loop-point.point-index c.args.points.now) c.loop-point.last
    c.loop-point.segments.items (vec_capacity c.loop-point.segments) c.point-item.result c.moved-next.result
    c.push_straight.new.segments.items (vec_capacity c.push_straight.new.segments)
    c.loop-point.invariant p c.in_ok-push_straight.ensures.ok c.in_ok-push_straight.ensures.capacity)

pub returns-clause-ok : goal.returns-clause-ok
returns-clause-ok g c =
    let all : take c.loop-point.point-index c.args.points.now ≡ c.args.points.now =
    take_all c.loop-point.point-index c.args.points.now (omega (arith, c.loop-point-test.false)) in
    let l : c.end.inside.left ≡ c.args.end.now.last = search rules in
    on_ok_weaker c.push_straight-2.result
    (λ h. h ∙ ap (λ (p : Point). c.loop-point.segments.items ++ segments_of (route c.loop-point.last [] p)) l
    ∙ each_ends (custom_point g.I.IntNumber.unit c.args.end.now) c.args.end.now.first c.args.end.now.last
    c.args.segments.now.items (vec_capacity c.args.segments.now)
    (take c.loop-point.point-index c.args.points.now) c.loop-point.last
    c.loop-point.segments.items (vec_capacity c.loop-point.segments) c.loop-point.invariant
    ∙ ap
    (λ (ds : List Point). c.args.segments.now.items
    ++ segments_of (route c.args.end.now.first
    (custom_points ds g.I.IntNumber.unit c.args.end.now) c.args.end.now.last))
    all)
    c.push_straight-2.ensures.ok

pub returns-clause-kept : goal.returns-clause-kept
returns-clause-kept g c =
    still_kept (each (custom_point g.I.IntNumber.unit c.args.end.now)) c.args.end.now.first c.args.end.now.last
    c.args.segments.now.items (vec_capacity c.args.segments.now)
    (take c.loop-point.point-index c.args.points.now) c.loop-point.last
    c.loop-point.segments.items (vec_capacity c.loop-point.segments)
    c.push_straight-2.new.segments.items c.loop-point.invariant c.push_straight-2.ensures.kept

pub returns-in_err-push_straight-clause-room : goal.returns-in_err-push_straight-clause-room
returns-in_err-push_straight-clause-room g c room =
    let p : c.moved-next.result ≡ custom_point g.I.IntNumber.unit c.args.end.now c.point-item.result = search rules in
    absurd (false≢true (c.in_err-push_straight.ensures.room
    (room_for_next g.I.IntNumber.unit c.args.end.now
    c.args.segments.now.items (vec_capacity c.args.segments.now) c.args.points.now c.loop-point.point-index
    c.loop-point.last c.loop-point.segments.items (vec_capacity c.loop-point.segments)
    c.point-item.result c.moved-next.result
    c.loop-point.invariant (omega (arith, c.loop-point-test.true)) c.point-item.is p room)))

pub returns-clause-room : goal.returns-clause-room
returns-clause-room g c room =
    let all : take c.loop-point.point-index c.args.points.now ≡ c.args.points.now =
    take_all c.loop-point.point-index c.args.points.now (omega (arith, c.loop-point-test.false)) in
    let l : c.end.inside.left ≡ c.args.end.now.last = search rules in
    let whole : length c.args.segments.now.items + length (segments_of (route c.args.end.now.first
    (custom_points (take c.loop-point.point-index c.args.points.now) g.I.IntNumber.unit c.args.end.now)
    c.args.end.now.last)) ≤ vec_capacity c.args.segments.now =
    rw all room in
    c.push_straight-2.ensures.room
    (rw l
    (room_for_last g.I.IntNumber.unit c.args.end.now
    c.args.segments.now.items (vec_capacity c.args.segments.now)
    (take c.loop-point.point-index c.args.points.now) c.loop-point.last
    c.loop-point.segments.items (vec_capacity c.loop-point.segments) c.loop-point.invariant whole))
