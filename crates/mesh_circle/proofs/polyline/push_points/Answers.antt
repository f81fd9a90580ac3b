-- Each direction is one edge more; the last edge ends them.
use Rattle.std.proofs.Common.{◌≡◌, ◌+◌, ◌++◌, ◌∷◌, [], List, sym, ◌∙◌, ap, arith, take, take_all, map, vec_capacity}
use Rattle.std.proofs.lemmas.List.{take_more}
use Rattle.std.proofs.lemmas.Result.{on_ok_weaker}
use Rattle.mesh_plane.specs.Plane.{Point}
use Rattle.mesh_plane.specs.Winding.{route}
use Rattle.mesh_num.specs.Segments.{segments_of}
use Rattle.mesh_join.proofs.Drawing.{each, drawing_starts, each_takes, each_ends, still_kept}
use Rattle.mesh_circle.specs.Sweeps.{point_round}
use Rattle.mesh_circle.proofs.polyline.push_points.Goals as goal

pub loop-direction-init : goal.loop-direction-init
loop-direction-init g c =
    drawing_starts (each (point_round g.I.IntNumber.unit c.args.center (g.I.IntNumber.value c.args.radius))) c.args.from
    c.args.to c.args.segments.now.items (vec_capacity c.args.segments.now)

pub returns-in_err-push_straight-clause-kept : goal.returns-in_err-push_straight-clause-kept
returns-in_err-push_straight-clause-kept g c =
    still_kept (each (point_round g.I.IntNumber.unit c.args.center (g.I.IntNumber.value c.args.radius))) c.args.from
    c.args.to c.args.segments.now.items (vec_capacity c.args.segments.now)
    (take c.loop-direction.direction-index c.args.directions.now) c.loop-direction.last
    c.loop-direction.segments.items (vec_capacity c.loop-direction.segments)
    c.push_straight.new.segments.items c.loop-direction.invariant c.in_err-push_straight.ensures.kept

pub loop-direction-preserved : goal.loop-direction-preserved
loop-direction-preserved g c =
    let i = c.loop-direction.direction-index in
    let e : take (i + 1) c.args.directions.now ≡ take i c.args.directions.now ++ (c.direction-item.result ∷ []) =
    take_more c.args.directions.now i c.direction-item.result (omega (arith, c.loop-direction-test.true))
    ∙ ap (λ (d : Point). take i c.args.directions.now ++ (d ∷ [])) (sym c.direction-item.is) in
    rw e
    (each_takes (point_round g.I.IntNumber.unit c.args.center (g.I.IntNumber.value c.args.radius)) c.args.from
    c.args.to c.args.segments.now.items (vec_capacity c.args.segments.now)
    (take i c.args.directions.now) c.loop-direction.last
    c.loop-direction.segments.items (vec_capacity c.loop-direction.segments) c.direction-item.result
    c.point_round-next.result
    c.push_straight.new.segments.items (vec_capacity c.push_straight.new.segments) c.loop-direction.invariant
    c.point_round-next.ensures c.in_ok-push_straight.ensures.ok c.in_ok-push_straight.ensures.capacity)

pub returns-clause-ok : goal.returns-clause-ok
returns-clause-ok g c =
    let at : Point → Point = point_round g.I.IntNumber.unit c.args.center (g.I.IntNumber.value c.args.radius) in
    let all : take c.loop-direction.direction-index c.args.directions.now ≡ c.args.directions.now =
    take_all c.loop-direction.direction-index c.args.directions.now (omega (arith, c.loop-direction-test.false)) in
    on_ok_weaker c.push_straight-2.result
    (λ h. h ∙ each_ends at c.args.from c.args.to c.args.segments.now.items (vec_capacity c.args.segments.now)
    (take c.loop-direction.direction-index c.args.directions.now) c.loop-direction.last
    c.loop-direction.segments.items (vec_capacity c.loop-direction.segments) c.loop-direction.invariant
    ∙ ap
    (λ (ds : List Point). c.args.segments.now.items ++ segments_of (route c.args.from (map at ds) c.args.to))
    all)
    c.push_straight-2.ensures.ok

pub returns-clause-kept : goal.returns-clause-kept
returns-clause-kept g c =
    still_kept (each (point_round g.I.IntNumber.unit c.args.center (g.I.IntNumber.value c.args.radius))) c.args.from
    c.args.to c.args.segments.now.items (vec_capacity c.args.segments.now)
    (take c.loop-direction.direction-index c.args.directions.now) c.loop-direction.last
    c.loop-direction.segments.items (vec_capacity c.loop-direction.segments)
    c.push_straight-2.new.segments.items c.loop-direction.invariant c.push_straight-2.ensures.kept
