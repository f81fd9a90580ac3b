-- The arc is that between both directions, and its points are drawn.
use Rattle.std.proofs.Common.{◌≡◌, ◌++◌, ◌∙◌, ap, rules, List, map}
use Rattle.std.specs.Prelude.{ℤ}
use Rattle.std.proofs.lemmas.Result.{on_ok_weaker}
use Rattle.mesh_plane.specs.Plane.{Point}
use Rattle.mesh_plane.specs.Winding.{route}
use Rattle.mesh_num.specs.Segments.{segments_of}
use Rattle.mesh_arc.specs.Arcs.{arc}
use Rattle.mesh_arc.specs.declared.arc.ArcDirection.TheVariants.{Counterclockwise}
use Rattle.mesh_circle.specs.Sweeps.{point_round, polyline_points, bearing}
use Rattle.mesh_circle.proofs.Swept.{points_are}
use Rattle.mesh_circle.proofs.sweeper.Sweeper.push_polyline.Goals as goal

pub returns-clause-ok : goal.returns-clause-ok
returns-clause-ok g c =
    let unit = g.I.IntNumber.unit in
    let b = c.in_ok-rebuild.ensures.built in
    let first : Point = c.direction-first.result in
    let last : Point = c.direction-last.result in
    let f : c.direction-first.result ≡ bearing unit c.args.center c.args.from = search rules in
    let t : c.direction-last.result ≡ bearing unit c.args.center c.args.to = search rules in
    let ds : c.directions.result.now ≡ arc unit c.self.inside.arc.options Counterclockwise first last = search rules in
    let radius : ℤ = g.I.IntNumber.value c.args.radius in
    let at : Point → Point = point_round unit c.args.center radius in
    let p : map at c.directions.result.now
    ≡ polyline_points unit c.args.self.now c.args.center c.args.from c.args.to radius =
    ap (map at) ds
    ∙ points_are c.args.self.now c.self.inside.arc.options unit c.args.center c.args.from c.args.to radius first last
    (search rules) f t in
    on_ok_weaker c.push_points.result
    (λ h. h ∙ ap (λ (l : List Point). c.args.segments.now.items ++ segments_of (route c.args.from l c.args.to)) p)
    c.push_points.ensures.ok
