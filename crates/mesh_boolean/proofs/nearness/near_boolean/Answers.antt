-- Each rule is carried out in its way.
use Rattle.std.proofs.Common.{sym, ◌∙◌}
use Rattle.std.proofs.lemmas.Result.{IfOk-weaker}
use Rattle.mesh_num.specs.Paths.{shapes_of}
use Rattle.mesh_lattice.specs.FillRules.{filled_by}
use Rattle.mesh_below.specs.Options.{choices_of}
use Rattle.mesh_boolean.specs.Booleans.{closed_edges, operands_of}
use Rattle.mesh_boolean.specs.Nearness.{IsBooleanDrawing}
use Rattle.mesh_boolean.specs.declared.rule.Way.TheVariants as way
use Rattle.mesh_boolean.proofs.Near.{alone_counted, boolean_counted, drawing_fewer}
use Rattle.mesh_boolean.proofs.nearness.near_boolean.Goals as goal

pub returns-in-Subject-clause-standing : goal.returns-in-Subject-clause-standing
returns-in-Subject-clause-standing g c =
    IfOk-weaker c.near_region.result _ _
    (λ near a. boolean_counted near.nearness (operands_of c.args.fill (g.S.IntShapeResource.paths c.args.subject.now) (g.C.IntShapeResource.paths c.args.clip.now)) (choices_of g.I.WideUInt.WideUnsigned.value c.args.options) (shapes_of near.shapes.items) c.args.rule way.Subject c.args.count.now c.near_region.new.count
    (sym c.in-Subject.is ∙ c.way_of.ensures) (
      a.beyond,
      alone_counted near.nearness (operands_of c.args.fill (g.S.IntShapeResource.paths c.args.subject.now) (g.C.IntShapeResource.paths c.args.clip.now)) (closed_edges (g.S.IntShapeResource.paths c.args.subject.now)) _ (choices_of g.I.WideUInt.WideUnsigned.value c.args.options) (shapes_of near.shapes.items) _ _ IsBooleanDrawing.subject_alone a,
    ))
    (rw c.winding_rule.ensures at c.near_region.ensures.standing)

pub returns-in-Subject-clause-counted : goal.returns-in-Subject-clause-counted
returns-in-Subject-clause-counted g c =
    drawing_fewer (operands_of c.args.fill (g.S.IntShapeResource.paths c.args.subject.now) (g.C.IntShapeResource.paths c.args.clip.now)) (closed_edges (g.S.IntShapeResource.paths c.args.subject.now)) _ _ IsBooleanDrawing.subject_alone c.near_region.ensures.counted

pub returns-in-Clip-clause-standing : goal.returns-in-Clip-clause-standing
returns-in-Clip-clause-standing g c =
    IfOk-weaker c.near_region-in-Clip.result _ _
    (λ near a. boolean_counted near.nearness (operands_of c.args.fill (g.S.IntShapeResource.paths c.args.subject.now) (g.C.IntShapeResource.paths c.args.clip.now)) (choices_of g.I.WideUInt.WideUnsigned.value c.args.options) (shapes_of near.shapes.items) c.args.rule way.Clip c.args.count.now c.near_region-in-Clip.new.count
    (sym c.in-Clip.is ∙ c.way_of.ensures) (
      a.beyond,
      alone_counted near.nearness (operands_of c.args.fill (g.S.IntShapeResource.paths c.args.subject.now) (g.C.IntShapeResource.paths c.args.clip.now)) (closed_edges (g.C.IntShapeResource.paths c.args.clip.now)) _ (choices_of g.I.WideUInt.WideUnsigned.value c.args.options) (shapes_of near.shapes.items) _ _ IsBooleanDrawing.clip_alone a,
    ))
    (rw c.winding_rule-in-Clip.ensures at c.near_region-in-Clip.ensures.standing)

pub returns-in-Clip-clause-counted : goal.returns-in-Clip-clause-counted
returns-in-Clip-clause-counted g c =
    drawing_fewer (operands_of c.args.fill (g.S.IntShapeResource.paths c.args.subject.now) (g.C.IntShapeResource.paths c.args.clip.now)) (closed_edges (g.C.IntShapeResource.paths c.args.clip.now)) _ _ IsBooleanDrawing.clip_alone c.near_region-in-Clip.ensures.counted

pub returns-in-Together-clause-standing : goal.returns-in-Together-clause-standing
returns-in-Together-clause-standing g c =
    IfOk-weaker c.near_both.result _ _
    (λ near a. boolean_counted near.nearness (operands_of c.args.fill (g.S.IntShapeResource.paths c.args.subject.now) (g.C.IntShapeResource.paths c.args.clip.now)) (choices_of g.I.WideUInt.WideUnsigned.value c.args.options) (shapes_of near.shapes.items) c.args.rule (way.Together c.in-Together.sense c.in-Together.sum)
    c.args.count.now c.near_both.new.count (sym c.in-Together.is ∙ c.way_of.ensures) a)
    c.near_both.ensures.standing
