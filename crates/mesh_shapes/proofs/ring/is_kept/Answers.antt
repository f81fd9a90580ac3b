use Rattle.std.proofs.Common.{Bool, sym, ◌∙◌, ap}
use Rattle.std.specs.Prelude.{◌||◌}
use Rattle.mesh_plane.specs.Turning.{turns_at}
use Rattle.mesh_shapes.specs.Private.Progress.{point_at, point_after}
use Rattle.mesh_shapes.proofs.ring.is_kept.Goals as goal

pub returns : goal.returns
returns c =
    let ps = c.args.contour.now in
    let i = c.args.i in
    c.turns_at.ensures
    ∙ (ap (turns_at c.args.before (point_at ps i)) c.following.ensures
    ∙ ap (λ (b : Bool). b || turns_at c.args.before (point_at ps i) (point_after ps i)) (sym c.if-all.false))
