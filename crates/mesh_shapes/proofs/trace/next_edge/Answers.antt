use Rattle.std.proofs.Common.{◌∙◌, ap, sym, get_or}
use Rattle.std.specs.Prelude.{pos}
use Rattle.std.proofs.lemmas.List.{get_or_default}
use Rattle.mesh_plane.specs.Plane.{Edge}
use Rattle.mesh_lattice.proofs.Options.{match_none}
use Rattle.mesh_shapes.specs.Private.Unused.{IsNext}
use Rattle.mesh_shapes.proofs.Tracing.{none_before, none_after, next_step}
use Rattle.mesh_shapes.proofs.trace.next_edge.Goals as goal
use Rattle.mesh_plane.proofs.Comparing.{decides_point}

pub loop-k-init : goal.loop-k-init
loop-k-init c =
    none_before c.args.edges.now c.args.used.now c.args.first c.args.at ((pos 0, pos 0), (pos 0, pos 0)) c.first_from-k.result c.first_from-k.ensures.before

pub returns-then-not-same_point : goal.returns-then-not-same_point
returns-then-not-same_point c =
    let es = c.args.edges.now in
    let k = c.loop-k.k in
    match_none c.loop-k.best (IsNext es c.args.used.now c.args.first c.args.at)
    (none_after es c.args.used.now c.args.first c.args.at ((pos 0, pos 0), (pos 0, pos 0)) k c.requires.ordered c.loop-k-test.true
    (λ (d : Edge). c.first_from-k.ensures.after k d c.loop-k.auto.k c.loop-k-test.true) (sym c.same_point.ensures ∙ c.if-not-same_point.true))
    c.loop-k.invariant

pub loop-k-preserved : goal.loop-k-preserved
loop-k-preserved c =
    let es = c.args.edges.now in
    let k = c.loop-k.k in
    let d₀ : Edge = ((pos 0, pos 0), (pos 0, pos 0)) in
    let same = (decides_point (get_or es k d₀).0 c.args.at).0 (sym c.same_point.ensures ∙ c.if-not-same_point.false) in
    next_step es c.args.used.now c.args.first c.args.at c.loop-k.best c.with_edge-best.result k c.loop-k-test.true
    (λ (d : Edge). ap (λ (e : Edge). e.0) (get_or_default es k d d₀ c.loop-k-test.true) ∙ same) c.loop-k.invariant c.with_edge-best.ensures
