-- Each point so far is safe, and at the end each point.
use Rattle.std.proofs.Common.{sym}
use Rattle.std.proofs.lemmas.Bool.{false≢true}
use Rattle.mesh_plane.specs.Bounds.{IsSafe}
use Rattle.mesh_below.proofs.Asking.{all_taken}
use Rattle.mesh_drawing.proofs.Firsts.{first_found, one_more}
use Rattle.mesh_operands.proofs.refusal.first_in_path.Goals as goal

pub loop-index-preserved : goal.loop-index-preserved
loop-index-preserved g c =
    one_more (IsSafe g.I.IntNumber.unit) c.args.path.now c.loop-index.index _ _ c.loop-index-test.true
    (sym c.index-path-index.is) c.loop-index.invariant (c.is_safe.ensures.0 c.if-not-is_safe.false)

pub returns-then-not-is_safe : goal.returns-then-not-is_safe
returns-then-not-is_safe g c =
    first_found (IsSafe g.I.IntNumber.unit) c.args.path.now c.loop-index.index _ _ c.loop-index-test.true
    (sym c.index-path-index.is) c.loop-index.invariant (λ safe. false≢true (c.if-not-is_safe.ensures.1 safe))

pub returns : goal.returns
returns g c = all_taken (IsSafe g.I.IntNumber.unit) c.args.path.now c.loop-index.index c.loop-index-test.false c.loop-index.invariant
