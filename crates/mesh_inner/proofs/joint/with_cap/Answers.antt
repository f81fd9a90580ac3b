-- The end is as caps ask, and the edges are those of the cap.
use Rattle.std.proofs.Common.{◌≡◌, ◌≤◌, ◌^◌, ◌∙◌, ap, [], rules}
use Rattle.std.specs.Prelude.{pos, ◌≤ℤ◌}
use Rattle.std.proofs.lemmas.Int.{to_z-of_z}
use mir.Syntax.{w128}
use Rattle.mesh_plane.specs.Plane.{Edge}
use Rattle.mesh_num.specs.Segments.{edges_of, proper_edges}
use Rattle.mesh_num.proofs.SegmentLists.{edges_of_segments}
use Rattle.mesh_stroke.specs.Kinds.{kind_of}
use Rattle.mesh_stroke.specs.Strokes.{cap_at}
use Rattle.mesh_stroke.proofs.PathEnds.{end_capped}
use Rattle.mesh_inner.specs.Private.Walks.{IsLimit}
use Rattle.mesh_inner.specs.Room.{FansHaveRoom}
use Rattle.mesh_inner.proofs.joint.with_cap.Goals as goal

pub add-requires : goal.add-requires
add-requires g c =
    let unit = g.I.IntNumber.unit in
    let radius = g.I.IntNumber.value c.args.radius in
    let least : 2 ^ 14 ≤ g.I.IntNumber.unit = g.met.I.IntNumber.least_law in
    rw (c.end_of.ensures, c.new-cap.ensures) (end_capped unit radius (kind_of c.args.kind.now) c.args.edge least c.requires.fit.differ c.requires.sign c.requires.safe)

pub returns : goal.returns
returns g c =
    let unit = g.I.IntNumber.unit in
    let radius = g.I.IntNumber.value c.args.radius in
    let end : c.edge.inside.end ≡ c.args.edge.1 = ap (λ (e : Edge). e.1) c.edge.view_is in
    let none : c.new-fan.result.items ≡ [] = search rules in
    let drawn = rw (none, c.end_of.ensures, c.new-cap.ensures) at c.in_ok-add.ensures.ok in
    let edges : edges_of c.add.new.segments.items ≡ proper_edges (cap_at g.I.IntNumber.unit (g.I.IntNumber.value c.args.radius) (kind_of c.args.kind.now) c.args.edge) =
    ap edges_of drawn ∙ edges_of_segments (cap_at unit radius (kind_of c.args.kind.now) c.args.edge) in
    let same : c.deref.result.now ≡ c.add.new.segments.items = search rules in
    let limit : IsLimit c.with_fan.result (λ t. (pos t ≤ℤ c.args.limit) × FansHaveRoom t c.args.edge.1 (proper_edges (cap_at g.I.IntNumber.unit (g.I.IntNumber.value c.args.radius) (kind_of c.args.kind.now) c.args.edge))) =
    rw (← edges, ← same, ← end, ← to_z-of_z w128 c.args.limit c.ranges.limit) c.with_fan.ensures in
    rw (to_z-of_z w128 c.with_fan.result (record { sfits = c.with_fan.type_inv })) limit
