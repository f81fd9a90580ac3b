-- Each point that is used is one edge more; the last edge ends them.
use Rattle.std.proofs.Common.{◌≡◌, ◌+◌, ◌++◌, ◌∷◌, [], List, sym, ◌∙◌, ap, subst, rules, arith, take, take_all, map, vec_capacity}
use Rattle.std.proofs.lemmas.List.{take_more}
use Rattle.std.proofs.lemmas.Result.{on_ok_weaker}
use Rattle.mesh_plane.specs.Plane.{Point}
use Rattle.mesh_plane.specs.Winding.{route}
use Rattle.mesh_num.specs.Segments.{segments_of}
use Rattle.mesh_join.specs.Private.RoundJoins.{used_past}
use Rattle.mesh_join.specs.RoundJoins.{arc_point, used}
use Rattle.mesh_join.proofs.Drawing.{IsDrawn, drawing_starts, drawing_takes, drawing_skips, drawing_ends, still_kept}
use Rattle.mesh_join.proofs.RoundJoins.{past_none, past_takes, past_skips}
use Rattle.mesh_join.proofs.round.push_used.Goals as goal
use Rattle.mesh_join.proofs.round.push_used.Goals.{then-runs_on+in_ok-push_straight, else-runs_on}

pub loop-direction-init : goal.loop-direction-init
loop-direction-init g c =
    subst
    (λ (p : Point). IsDrawn (used_past g.I.IntNumber.unit c.args.joint.now) c.args.joint.now.first c.args.joint.now.last
    c.args.segments.now.items (vec_capacity c.args.segments.now) []
    p c.args.segments.now.items (vec_capacity c.args.segments.now))
    (search rules)
    (drawing_starts (used_past g.I.IntNumber.unit c.args.joint.now) c.args.joint.now.first c.args.joint.now.last
    c.args.segments.now.items (vec_capacity c.args.segments.now))

pub returns-in_err-push_straight-clause-kept : goal.returns-in_err-push_straight-clause-kept
returns-in_err-push_straight-clause-kept g c = still_kept _ _ _ _ _ _ _ _ _ _ c.loop-direction.invariant c.in_err-push_straight.ensures.kept

pub loop-direction-preserved : goal.loop-direction-preserved
loop-direction-preserved g c =
    let i = c.loop-direction.invariant in
    let e : take (c.loop-direction.direction-index + 1) c.args.directions.now ≡ take c.loop-direction.direction-index c.args.directions.now ++ (c.direction-item.result ∷ []) =
    take_more c.args.directions.now c.loop-direction.direction-index c.direction-item.result (omega (arith, c.loop-direction-test.true))
    ∙ ap (λ (d : Point). take c.loop-direction.direction-index c.args.directions.now ++ (d ∷ [])) (sym c.direction-item.is) in
    rw e
    (elim c.if-runs_on.branch [
      | then-runs_on+in_ok-push_straight w ↦
          rw (w.segments-is, w.last-is)
          (drawing_takes _ _ _ _ _ _ _ _ _ _ _ _ _ i
          (past_takes g.I.IntNumber.unit c.args.joint.now _ _ _ c.arc_point-point.ensures
          (sym c.runs_on.ensures ∙ w.if-runs_on.true))
          w.in_ok-push_straight.ensures.ok w.in_ok-push_straight.ensures.capacity)
      | else-runs_on w ↦
          rw (w.segments-is, w.last-is)
          (drawing_skips _ _ _ _ _ _ _ _ _ _ i
          (past_skips g.I.IntNumber.unit c.args.joint.now _ _ _ c.arc_point-point.ensures
          (sym c.runs_on.ensures ∙ w.if-runs_on.false)))
    ])

pub returns-clause-ok : goal.returns-clause-ok
returns-clause-ok g c =
    let i = c.loop-direction.invariant in
    let all : take c.loop-direction.direction-index c.args.directions.now ≡ c.args.directions.now = take_all c.loop-direction.direction-index c.args.directions.now (omega (arith, c.loop-direction-test.false)) in
    let l : c.joint.inside.last ≡ c.args.joint.now.last = search rules in
    on_ok_weaker c.push_straight-2.result
    (λ h. h ∙ ap (λ (p : Point). c.loop-direction.segments.items ++ segments_of (route c.loop-direction.last [] p)) l
    ∙ drawing_ends _ _ _ _ _ _ _ _ _ i (past_none g.I.IntNumber.unit c.args.joint.now _)
    ∙ ap (λ (ds : List Point). c.args.segments.now.items ++ segments_of (route c.args.joint.now.first (used c.args.joint.now c.args.joint.now.first (map (arc_point g.I.IntNumber.unit c.args.joint.now) ds)) c.args.joint.now.last)) all)
    c.push_straight-2.ensures.ok

pub returns-clause-kept : goal.returns-clause-kept
returns-clause-kept g c = still_kept _ _ _ _ _ _ _ _ _ _ c.loop-direction.invariant c.push_straight-2.ensures.kept
