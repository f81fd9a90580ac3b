-- A point near the corner is safe, so it fits its type.
use Rattle.std.proofs.lemmas.Int.{to_z-of_z}
use mir.Syntax.{w128}
use Rattle.mesh_num.proofs.Moving.{safe_fits}
use Rattle.mesh_join.proofs.Miters.{tested_safe}
use Rattle.mesh_join.proofs.Wide.{safe_read}
use Rattle.mesh_join.proofs.joint.Joint.near.Goals as goal

pub narrow-requires : goal.narrow-requires
narrow-requires g c =
    let h = rw (← c.self.view_is) at c.requires in
    let s = tested_safe g.I.IntNumber.unit c.args.padding _ c.self.inside.center _ c.args.point _ h c.is_near.ensures (to_z-of_z w128 c.args.padding c.ranges.padding) c.coordinates.ensures.value c.if-is_near.true in
    rw (safe_read g.I.IntNumber.unit c.args.point.0 g.met.I.IntNumber.most_law s.x) (safe_fits g.I.IntNumber.unit c.args.point.0 s.x)

pub narrow-requires-then-is_near : goal.narrow-requires-then-is_near
narrow-requires-then-is_near g c =
    let h = rw (← c.self.view_is) at c.requires in
    let s = tested_safe g.I.IntNumber.unit c.args.padding _ c.self.inside.center _ c.args.point _ h c.is_near.ensures (to_z-of_z w128 c.args.padding c.ranges.padding) c.coordinates.ensures.value c.if-is_near.true in
    rw (safe_read g.I.IntNumber.unit c.args.point.1 g.met.I.IntNumber.most_law s.y) (safe_fits g.I.IntNumber.unit c.args.point.1 s.y)
