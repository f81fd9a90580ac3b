use Rattle.std.proofs.Common.{◌∙◌, sym, inl, inr}
use Rattle.mesh_shapes.specs.Contours.{StartsOnce}
use Rattle.mesh_shapes.proofs.LeftOut.{omitted_more}
use Rattle.mesh_shapes.proofs.ring.may_leave.Goals as goal

pub returns-then-is_kept : goal.returns-then-is_kept
returns-then-is_kept c t h =
    omitted_more (StartsOnce c.args.ordered.now) c.args.all c.args.before c.args.contour.now c.args.i c.requires.in_range (inl (sym c.is_kept.ensures ∙ c.if-is_kept.true)) h

pub returns-else-is_kept : goal.returns-else-is_kept
returns-else-is_kept c t h =
    omitted_more (StartsOnce c.args.ordered.now) c.args.all c.args.before c.args.contour.now c.args.i c.requires.in_range (inr (c.starts_once.ensures t)) h
