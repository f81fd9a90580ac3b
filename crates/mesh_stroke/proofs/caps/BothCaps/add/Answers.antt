-- Both ends are as caps ask, and both caps were drawn.
use Rattle.std.proofs.Common.{◌≡◌, ◌+◌, ◌≤◌, ◌^◌, ◌++◌, length, sym, subst}
use Rattle.std.specs.Prelude.{vec_capacity}
use Rattle.std.proofs.lemmas.Bool.{false≢true}
use Rattle.mesh_num.specs.Rectangle.{IsSafeWidened}
use Rattle.mesh_num.specs.Segments.{segments_of}
use Rattle.mesh_join.specs.declared.style.StrokeSide.TheVariants.{Both}
use Rattle.mesh_stroke.specs.Strokes.{open_ends}
use Rattle.mesh_offset.proofs.Adding.{on_ok_then}
use Rattle.mesh_stroke.specs.Caps.{CapKind, cap_padding, DrawsDirectly}
use Rattle.mesh_stroke.specs.Private.Sections.{own_edge}
use Rattle.mesh_stroke.proofs.PathEnds.{end_capped, start_capped, caps_drawn}
use Rattle.mesh_stroke.proofs.Fitting.{room_for_start, room_for_end}
use Rattle.mesh_stroke.proofs.caps.BothCaps.add.Goals as goal

pub add-requires : goal.add-requires
add-requires g c =
    let unit = g.I.IntNumber.unit in
    let radius = g.I.IntNumber.value c.args.radius in
    let least : 2 ^ 14 ≤ g.I.IntNumber.unit = g.met.I.IntNumber.least_law in
    let safe = subst (λ (k : CapKind × CapKind). IsSafeWidened g.I.IntNumber.unit (cap_padding k.0 (g.I.IntNumber.value c.args.radius)) c.args.first.now.a) (sym c.self.view_is) c.requires.safe_start in
    rw c.end_of.ensures
    (start_capped unit radius c.self.inside.start (own_edge c.args.first.now) (own_edge c.reversed.result) least
    c.requires.first.differ c.reversed.ensures.edge c.requires.sign safe)

pub add-requires-2 : goal.add-requires-2
add-requires-2 g c =
    let unit = g.I.IntNumber.unit in
    let radius = g.I.IntNumber.value c.args.radius in
    let least : 2 ^ 14 ≤ g.I.IntNumber.unit = g.met.I.IntNumber.least_law in
    let safe = subst (λ (k : CapKind × CapKind). IsSafeWidened g.I.IntNumber.unit (cap_padding k.1 (g.I.IntNumber.value c.args.radius)) c.args.last.now.b) (sym c.self.view_is) c.requires.safe_end in
    rw c.end_of-2.ensures (end_capped unit radius c.self.inside.end (own_edge c.args.last.now) least c.requires.last.differ c.requires.sign safe)

pub returns-clause-ok : goal.returns-clause-ok
returns-clause-ok g c =
    on_ok_then c.add-2.result c.add-2.ensures.ok
    (λ h. subst (λ (k : CapKind × CapKind). c.add-2.new.segments.items ≡ c.args.segments.now.items ++ segments_of
    (open_ends g.I.IntNumber.unit (g.I.IntNumber.value c.args.radius) Both k.0 k.1 (own_edge c.args.first.now) (own_edge c.args.last.now))) c.self.view_is
    (caps_drawn g.I.IntNumber.unit (g.I.IntNumber.value c.args.radius) c.self.inside.start c.self.inside.end
    (own_edge c.args.first.now) (own_edge c.args.last.now) (own_edge c.reversed.result)
    c.args.segments.now.items c.add.new.segments.items c.add-2.new.segments.items c.reversed.ensures.edge
    (rw c.end_of.ensures at c.in_ok-add.ensures.ok) (rw c.end_of-2.ensures at h)))

pub returns-in_err-add-clause-room : goal.returns-in_err-add-clause-room
returns-in_err-add-clause-room g c start_direct end_direct room =
    let whole =
    subst
    (λ (k : CapKind × CapKind). length c.args.segments.now.items
    + length (segments_of (open_ends g.I.IntNumber.unit (g.I.IntNumber.value c.args.radius) Both k.0 k.1
    (own_edge c.args.first.now) (own_edge c.args.last.now))) ≤ vec_capacity c.args.segments.now)
    (sym c.self.view_is) room in
    absurd (false≢true (c.in_err-add.ensures.room
    (subst (λ (k : CapKind × CapKind). DrawsDirectly k.0) (sym c.self.view_is) start_direct)
    (rw c.end_of.ensures
    (room_for_start g.I.IntNumber.unit (g.I.IntNumber.value c.args.radius) c.self.inside.start c.self.inside.end
    (own_edge c.args.first.now) (own_edge c.args.last.now) (own_edge c.reversed.result)
    (length c.args.segments.now.items) (vec_capacity c.args.segments.now) c.reversed.ensures.edge whole))))

pub returns-clause-room : goal.returns-clause-room
returns-clause-room g c start_direct end_direct room =
    let whole =
    subst
    (λ (k : CapKind × CapKind). length c.args.segments.now.items
    + length (segments_of (open_ends g.I.IntNumber.unit (g.I.IntNumber.value c.args.radius) Both k.0 k.1
    (own_edge c.args.first.now) (own_edge c.args.last.now))) ≤ vec_capacity c.args.segments.now)
    (sym c.self.view_is) room in
    c.add-2.ensures.room
    (subst (λ (k : CapKind × CapKind). DrawsDirectly k.1) (sym c.self.view_is) end_direct)
    (rw c.end_of-2.ensures
    (room_for_end g.I.IntNumber.unit (g.I.IntNumber.value c.args.radius) c.self.inside.start c.self.inside.end
    (own_edge c.args.first.now) (own_edge c.args.last.now) (own_edge c.reversed.result)
    c.args.segments.now.items c.add.new.segments.items
    (vec_capacity c.args.segments.now) (vec_capacity c.add.new.segments) c.reversed.ensures.edge
    (rw c.end_of.ensures at c.in_ok-add.ensures.ok) c.in_ok-add.ensures.capacity whole))
