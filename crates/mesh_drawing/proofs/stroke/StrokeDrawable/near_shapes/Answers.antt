-- No area is taken of a stroke, and its nearness is small.
use Rattle.std.proofs.lemmas.Result.{IfOk-weaker}
use Rattle.mesh_num.specs.Paths.{paths_of, shapes_of}
use Rattle.mesh_below.specs.Options.{choices_of}
use Rattle.mesh_offset.specs.declared.error.IntNearnessError.TheVariants.{CoordinateOutOfRange}
use Rattle.mesh_stroke.specs.Styles.{stroke_style_of}
use Rattle.mesh_drawing.proofs.NearSmall.{stroke_small}
use Rattle.mesh_drawing.proofs.Refusals.{not_refused}
use Rattle.mesh_drawing.proofs.stroke.StrokeDrawable.near_shapes.Goals as goal

pub returns-clause-unfit : goal.returns-clause-unfit
returns-clause-unfit g c = not_refused CoordinateOutOfRange c.stroke_with_nearness.result _ tt c.stroke_with_nearness.ensures.in_range

pub returns-clause-small : goal.returns-clause-small
returns-clause-small g c =
    IfOk-weaker c.stroke_with_nearness.result _ _
    (λ near a. stroke_small near.nearness g.I.IntNumber.unit (stroke_style_of g.I.IntNumber.value c.args.self.now.style) c.args.self.now.closed (choices_of g.I.WideUInt.WideUnsigned.value c.args.options.now.0)
    (paths_of c.args.self.now.paths.items) (shapes_of near.shapes.items) g.met.I.IntNumber.least_law g.met.I.IntNumber.most_law c.requires a)
    c.stroke_with_nearness.ensures.regions
