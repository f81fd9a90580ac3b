-- Both points of the circle have directions from its center, and both halves are drawn.
use Rattle.std.proofs.Common.{◌≡◌, ◌++◌, sym, subst, List}
use Rattle.std.specs.Prelude.{ℤ}
use Rattle.std.proofs.lemmas.Result.{on_ok_weaker}
use Rattle.mesh_plane.specs.Plane.{Point, Edge}
use Rattle.mesh_num.specs.Segments.{segments_of}
use Rattle.mesh_join.specs.Joints.{IsApart}
use Rattle.mesh_circle.specs.Sweeps.{east_of, west_of, polyline_edges}
use Rattle.mesh_join.proofs.Drawing.{appends_both}
use Rattle.mesh_circle.proofs.Swept.{east_safe, west_safe, east_seen, west_seen}
use Rattle.mesh_circle.proofs.sweeper.Sweeper.push_halves.Goals as goal

pub east_of-east-requires : goal.east_of-east-requires
east_of-east-requires g c =
    east_safe g.I.IntNumber.unit c.args.center (g.I.IntNumber.value c.args.radius) c.requires.large c.requires.safe

pub west_of-west-requires : goal.west_of-west-requires
west_of-west-requires g c =
    west_safe g.I.IntNumber.unit c.args.center (g.I.IntNumber.value c.args.radius) c.requires.large c.requires.safe

pub push_polyline-requires-clause-from : goal.push_polyline-requires-clause-from
push_polyline-requires-clause-from g c =
    subst (IsApart g.I.IntNumber.unit c.args.center) (sym c.east_of-east.ensures)
    (east_seen g.I.IntNumber.unit c.args.center (g.I.IntNumber.value c.args.radius) c.requires.large c.requires.safe)

pub push_polyline-requires-clause-to : goal.push_polyline-requires-clause-to
push_polyline-requires-clause-to g c =
    subst (IsApart g.I.IntNumber.unit c.args.center) (sym c.west_of-west.ensures)
    (west_seen g.I.IntNumber.unit c.args.center (g.I.IntNumber.value c.args.radius) c.requires.large c.requires.safe)

pub push_polyline-requires-2-clause-from : goal.push_polyline-requires-2-clause-from
push_polyline-requires-2-clause-from g c =
    subst (IsApart g.I.IntNumber.unit c.args.center) (sym c.west_of-west.ensures)
    (west_seen g.I.IntNumber.unit c.args.center (g.I.IntNumber.value c.args.radius) c.requires.large c.requires.safe)

pub push_polyline-requires-2-clause-to : goal.push_polyline-requires-2-clause-to
push_polyline-requires-2-clause-to g c =
    subst (IsApart g.I.IntNumber.unit c.args.center) (sym c.east_of-east.ensures)
    (east_seen g.I.IntNumber.unit c.args.center (g.I.IntNumber.value c.args.radius) c.requires.large c.requires.safe)

pub returns-clause-ok : goal.returns-clause-ok
returns-clause-ok g c =
    let r : ℤ = g.I.IntNumber.value c.args.radius in
    let es : Point → Point → List Edge =
    λ p q. polyline_edges g.I.IntNumber.unit c.args.self.now c.args.center p q r in
    let east : Point = east_of c.args.center r in
    let west : Point = west_of c.args.center r in
    let first : c.push_polyline.new.segments.items ≡ c.args.segments.now.items ++ segments_of (es east west) =
    rw (← c.east_of-east.ensures, ← c.west_of-west.ensures) c.in_ok-push_polyline.ensures.ok in
    on_ok_weaker c.push_polyline-2.result
    (λ h. appends_both c.args.segments.now.items c.push_polyline.new.segments.items
    c.push_polyline-2.new.segments.items (es east west) (es west east) first
    (rw (← c.east_of-east.ensures, ← c.west_of-west.ensures, ← c.in_ok-push_polyline.ensures.same) h))
    c.push_polyline-2.ensures.ok
