-- The wide type's numbers are those that areas may be, and each nearness is small.
use Rattle.std.proofs.lemmas.Result.{IfOk-weaker}
use Rattle.mesh_num.specs.Paths.{paths_of, shapes_of}
use Rattle.mesh_below.specs.Options.{choices_of}
use Rattle.mesh_join.specs.Styles.{style_of}
use Rattle.mesh_drawing.proofs.NearSmall.{outline_small}
use Rattle.mesh_drawing.proofs.Refusals.{half_unfit}
use Rattle.mesh_drawing.proofs.outline.OutlineDrawable.near_shapes.Goals as goal

pub returns-clause-unfit : goal.returns-clause-unfit
returns-clause-unfit g c =
    half_unfit _ g.I.IntNumber.unit (paths_of c.args.self.now.paths.items) _ g.met.I.IntNumber.half_law c.outline_with_nearness.ensures.unfit

pub returns-clause-small : goal.returns-clause-small
returns-clause-small g c =
    IfOk-weaker c.outline_with_nearness.result _ _
    (λ near a. outline_small near.nearness g.I.IntNumber.unit (style_of g.I.IntNumber.value c.args.self.now.style) (choices_of g.I.WideUInt.WideUnsigned.value c.args.options.now.0) (paths_of c.args.self.now.paths.items)
    (shapes_of near.shapes.items) g.met.I.IntNumber.least_law g.met.I.IntNumber.most_law c.requires a)
    c.outline_with_nearness.ensures.regions
