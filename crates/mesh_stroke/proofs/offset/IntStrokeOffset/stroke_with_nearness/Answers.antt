-- The edges were built and resolved.
use Rattle.mesh_num.specs.Segments.{edges_of}
use Rattle.mesh_below.specs.Options.{choices_of}
use Rattle.mesh_offset.proofs.Counting.{counts_of_one}
use Rattle.mesh_stroke.specs.Resolved.{AreAllEdges}
use Rattle.mesh_stroke.specs.Styles.{stroke_style_of}
use Rattle.mesh_stroke.proofs.ReachOfAnswers.{stroke_answers_reach}
use Rattle.mesh_stroke.proofs.Regions.{stroke_beyond, stroke_resolves}
use Rattle.mesh_stroke.proofs.offset.IntStrokeOffset.stroke_with_nearness.Goals as goal

pub returns-clause-standing : goal.returns-clause-standing
returns-clause-standing g c =
    stroke_beyond g.I.IntNumber.unit g.met.I.IntNumber.least_law (stroke_style_of g.I.IntNumber.value c.args.style.now) c.args.closed
    _ (choices_of g.I.WideUInt.WideUnsigned.value c.args.options)
    (g.Self.IntShapeResource.paths c.args.self.now) _ (edges_of c.in_ok-drawn.drawn.segments.items) c.in_ok-drawn.ensures.built.same
    c.args.count.now _ (rw c.in_ok-drawn.ensures.options at c.in_ok-overlay_with_nearness.ensures.standing)

pub returns-clause-regions : goal.returns-clause-regions
returns-clause-regions g c = (returns-clause-standing g c).0

pub returns-clause-reach : goal.returns-clause-reach
returns-clause-reach g c =
    stroke_answers_reach g.I.IntNumber.unit g.met.I.IntNumber.least_law _ (stroke_style_of g.I.IntNumber.value c.args.style.now)
    c.args.closed (choices_of g.I.WideUInt.WideUnsigned.value c.args.options)
    (g.Self.IntShapeResource.paths c.args.self.now) _ (returns-clause-standing g c).0

pub returns-clause-edges : goal.returns-clause-edges
returns-clause-edges g c =
    stroke_resolves g.I.IntNumber.unit g.met.I.IntNumber.least_law (stroke_style_of g.I.IntNumber.value c.args.style.now)
    c.args.closed (choices_of g.I.WideUInt.WideUnsigned.value c.args.options)
    (g.Self.IntShapeResource.paths c.args.self.now) _ c.requires (returns-clause-standing g c).0.stroke

pub returns-in_err-overlay_with_nearness-clause-counted : goal.returns-in_err-overlay_with_nearness-clause-counted
returns-in_err-overlay_with_nearness-clause-counted g c =
    counts_of_one (AreAllEdges g.I.IntNumber.unit (stroke_style_of g.I.IntNumber.value c.args.style.now) c.args.closed (g.Self.IntShapeResource.paths c.args.self.now))
    (edges_of c.in_ok-drawn.drawn.segments.items) c.args.count.now _ c.in_ok-drawn.ensures.built.same c.overlay_with_nearness.ensures.counted

pub returns-clause-counted : goal.returns-clause-counted
returns-clause-counted g c =
    counts_of_one (AreAllEdges g.I.IntNumber.unit (stroke_style_of g.I.IntNumber.value c.args.style.now) c.args.closed (g.Self.IntShapeResource.paths c.args.self.now))
    (edges_of c.in_ok-drawn.drawn.segments.items) c.args.count.now _ c.in_ok-drawn.ensures.built.same c.overlay_with_nearness.ensures.counted
