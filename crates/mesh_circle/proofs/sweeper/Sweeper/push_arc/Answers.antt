-- Each case of the arc is drawn as it is defined.
use Rattle.std.proofs.Common.{◌≡◌, ◌∙◌, ◌++◌, ◌+◌, ◌≤◌, length, vec_capacity, [], true, false, ap, sym, subst}
use Rattle.std.proofs.Common.{arith, append-nil, List}
use Rattle.std.specs.Prelude.{ℤ, pos}
use Rattle.std.proofs.lemmas.Result.{on_ok_weaker}
use Rattle.mesh_plane.specs.Plane.{Edge}
use Rattle.mesh_plane.specs.Winding.{route}
use Rattle.mesh_num.specs.Segments.{segments_of}
use Rattle.mesh_circle.specs.declared.sweep.Sweep.{Sweep}
use Rattle.mesh_circle.specs.Sweeps.{distance, sweep_of, is_empty, is_whole, circle_edges, polyline_edges}
use Rattle.mesh_circle.proofs.Cases.{arc_empty, arc_central, arc_whole, arc_polyline, arc_long}
use Rattle.mesh_join.proofs.Drawing.{appends_both}
use Rattle.mesh_circle.proofs.Swept.{swept_from, swept_to, from_seen, to_seen, reach_small}
use Rattle.mesh_circle.proofs.sweeper.Sweeper.push_arc.Goals as goal

pub sweep_of-sweep-requires-clause-from : goal.sweep_of-sweep-requires-clause-from
sweep_of-sweep-requires-clause-from g c =
    swept_from g.I.IntNumber.unit c.args.center c.args.from c.args.to c.requires

pub sweep_of-sweep-requires-clause-to : goal.sweep_of-sweep-requires-clause-to
sweep_of-sweep-requires-clause-to g c = swept_to g.I.IntNumber.unit c.args.center c.args.from c.args.to c.requires

pub distance-radius-requires-clause-safe : goal.distance-radius-requires-clause-safe
distance-radius-requires-clause-safe g c =
    swept_from g.I.IntNumber.unit c.args.center c.args.from c.args.to c.requires

pub distance-radius-requires-clause-fits : goal.distance-radius-requires-clause-fits
distance-radius-requires-clause-fits g c =
    let d = reach_small g.I.IntNumber.unit (distance c.args.center c.args.from) c.args.center c.requires.center in
    omega (arith, d)

pub is_whole-requires-clause-from : goal.is_whole-requires-clause-from
is_whole-requires-clause-from g c =
    from_seen g.I.IntNumber.unit c.args.center c.args.from c.args.to c.requires
    (sym c.is_central.ensures ∙ c.if-is_central.false)

pub is_whole-requires-clause-to : goal.is_whole-requires-clause-to
is_whole-requires-clause-to g c =
    to_seen g.I.IntNumber.unit c.args.center c.args.from c.args.to c.requires
    (sym c.is_central.ensures ∙ c.if-is_central.false)

pub push_polyline-requires-clause-from : goal.push_polyline-requires-clause-from
push_polyline-requires-clause-from g c =
    from_seen g.I.IntNumber.unit c.args.center c.args.from c.args.to c.requires
    (sym c.is_central.ensures ∙ c.if-is_central.false)

pub push_polyline-requires-clause-to : goal.push_polyline-requires-clause-to
push_polyline-requires-clause-to g c =
    to_seen g.I.IntNumber.unit c.args.center c.args.from c.args.to c.requires
    (sym c.is_central.ensures ∙ c.if-is_central.false)

pub returns-then-is_empty-clause-ok : goal.returns-then-is_empty-clause-ok
returns-then-is_empty-clause-ok g c =
    let e : is_empty (sweep_of c.args.center c.args.from c.args.to c.args.aligned) c.args.from c.args.to ≡ true =
    sym (c.is_empty.ensures ∙ ap (λ (s : Sweep). is_empty s c.args.from c.args.to) c.sweep_of-sweep.ensures)
    ∙ c.if-is_empty.true in
    sym (append-nil c.args.segments.now.items)
    ∙ ap (λ (es : List Edge). c.args.segments.now.items ++ segments_of es)
    (sym (arc_empty g.I.IntNumber.unit c.args.self.now c.args.center c.args.from c.args.to c.args.aligned e))

pub returns-then-is_central-clause-ok : goal.returns-then-is_central-clause-ok
returns-then-is_central-clause-ok g c =
    let e : is_empty (sweep_of c.args.center c.args.from c.args.to c.args.aligned) c.args.from c.args.to ≡ false =
    sym (c.is_empty.ensures ∙ ap (λ (s : Sweep). is_empty s c.args.from c.args.to) c.sweep_of-sweep.ensures)
    ∙ c.if-is_empty.false in
    on_ok_weaker c.push_straight.result
    (λ h. h ∙ ap (λ (es : List Edge). c.args.segments.now.items ++ segments_of es)
    (sym (arc_central g.I.IntNumber.unit c.args.self.now c.args.center c.args.from c.args.to c.args.aligned e
    (sym c.is_central.ensures ∙ c.if-is_central.true))))
    c.push_straight.ensures.ok

pub returns-then-is_central-clause-room : goal.returns-then-is_central-clause-room
returns-then-is_central-clause-room g c direct room =
    let e : is_empty (sweep_of c.args.center c.args.from c.args.to c.args.aligned) c.args.from c.args.to ≡ false =
    sym (c.is_empty.ensures ∙ ap (λ (s : Sweep). is_empty s c.args.from c.args.to) c.sweep_of-sweep.ensures)
    ∙ c.if-is_empty.false in
    c.push_straight.ensures.room
    (subst
    (λ (es : List Edge). length c.args.segments.now.items + length (segments_of es) ≤ vec_capacity c.args.segments.now)
    (arc_central g.I.IntNumber.unit c.args.self.now c.args.center c.args.from c.args.to c.args.aligned e
    (sym c.is_central.ensures ∙ c.if-is_central.true))
    room)

pub returns-in_ok-push_circle-clause-ok : goal.returns-in_ok-push_circle-clause-ok
returns-in_ok-push_circle-clause-ok g c =
    let unit = g.I.IntNumber.unit in
    let sweep : Sweep = sweep_of c.args.center c.args.from c.args.to c.args.aligned in
    let e : is_empty sweep c.args.from c.args.to ≡ false =
    sym (c.is_empty.ensures ∙ ap (λ (s : Sweep). is_empty s c.args.from c.args.to) c.sweep_of-sweep.ensures)
    ∙ c.if-is_empty.false in
    let w : is_whole unit sweep c.args.center c.args.from c.args.to ≡ true =
    sym (c.is_whole.ensures
    ∙ ap (λ (s : Sweep). is_whole unit s c.args.center c.args.from c.args.to) c.sweep_of-sweep.ensures)
    ∙ c.if-is_whole.true in
    let es : ℤ → List Edge = circle_edges unit c.args.self.now c.args.center in
    let radius : ℤ = pos (distance c.args.center c.args.from) in
    let circle : c.push_circle.new.segments.items ≡ c.args.segments.now.items ++ segments_of (es radius) =
    subst (λ (r : ℤ). c.push_circle.new.segments.items ≡ c.args.segments.now.items ++ segments_of (es r))
    c.distance-radius.ensures c.in_ok-push_circle.ensures.ok in
    on_ok_weaker c.push_straight-then-is_whole.result
    (λ h. appends_both c.args.segments.now.items c.push_circle.new.segments.items
    c.push_straight-then-is_whole.new.segments.items (es radius) (route c.args.from [] c.args.to) circle h
    ∙ ap (λ (gs : List Edge). c.args.segments.now.items ++ segments_of gs)
    (sym (arc_whole unit c.args.self.now c.args.center c.args.from c.args.to c.args.aligned e
    (sym c.is_central.ensures ∙ c.if-is_central.false) w)))
    c.push_straight-then-is_whole.ensures.ok

pub returns-else-is_whole-clause-ok : goal.returns-else-is_whole-clause-ok
returns-else-is_whole-clause-ok g c =
    let unit = g.I.IntNumber.unit in
    let sweep : Sweep = sweep_of c.args.center c.args.from c.args.to c.args.aligned in
    let e : is_empty sweep c.args.from c.args.to ≡ false =
    sym (c.is_empty.ensures ∙ ap (λ (s : Sweep). is_empty s c.args.from c.args.to) c.sweep_of-sweep.ensures)
    ∙ c.if-is_empty.false in
    let w : is_whole unit sweep c.args.center c.args.from c.args.to ≡ false =
    sym (c.is_whole.ensures
    ∙ ap (λ (s : Sweep). is_whole unit s c.args.center c.args.from c.args.to) c.sweep_of-sweep.ensures)
    ∙ c.if-is_whole.false in
    let es : ℤ → List Edge = polyline_edges unit c.args.self.now c.args.center c.args.from c.args.to in
    on_ok_weaker c.push_polyline.result
    (λ h. h ∙ ap (λ (r : ℤ). c.args.segments.now.items ++ segments_of (es r)) c.distance-radius.ensures
    ∙ ap (λ (gs : List Edge). c.args.segments.now.items ++ segments_of gs)
    (sym (arc_polyline unit c.args.self.now c.args.center c.args.from c.args.to c.args.aligned e
    (sym c.is_central.ensures ∙ c.if-is_central.false) w)))
    c.push_polyline.ensures.ok

pub returns-else-is_whole-clause-room : goal.returns-else-is_whole-clause-room
returns-else-is_whole-clause-room g c direct room =
    absurd (arc_long g.I.IntNumber.unit c.args.self.now c.args.center c.args.from c.args.to c.args.aligned _ _ _
    c.sweep_of-sweep.ensures c.is_empty.ensures c.if-is_empty.false c.is_central.ensures c.if-is_central.false direct)

pub returns-in_ok-push_circle-clause-room : goal.returns-in_ok-push_circle-clause-room
returns-in_ok-push_circle-clause-room g c direct room =
    absurd (arc_long g.I.IntNumber.unit c.args.self.now c.args.center c.args.from c.args.to c.args.aligned _ _ _
    c.sweep_of-sweep.ensures c.is_empty.ensures c.if-is_empty.false c.is_central.ensures c.if-is_central.false direct)

pub returns-in_err-push_circle-clause-room : goal.returns-in_err-push_circle-clause-room
returns-in_err-push_circle-clause-room g c direct room =
    absurd (arc_long g.I.IntNumber.unit c.args.self.now c.args.center c.args.from c.args.to c.args.aligned _ _ _
    c.sweep_of-sweep.ensures c.is_empty.ensures c.if-is_empty.false c.is_central.ensures c.if-is_central.false direct)
