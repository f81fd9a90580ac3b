-- Outlines are regions.
use Rattle.std.proofs.lemmas.Result.{IfOk-weaker}
use Rattle.mesh_num.specs.Paths.{shapes_of}
use Rattle.mesh_below.specs.Options.{choices_of}
use Rattle.mesh_join.specs.Styles.{style_of}
use Rattle.mesh_outline.proofs.Regions.{regions_of_outline}
use Rattle.mesh_outline.proofs.offset.IntOutlineOffset.outline_custom.Goals as goal

pub returns-clause-regions : goal.returns-clause-regions
returns-clause-regions g c =
    IfOk-weaker c.outline_shapes.result _ _
    (λ v o. (regions_of_outline g.I.IntNumber.unit g.met.I.IntNumber.least_law (style_of g.I.IntNumber.value c.args.style.now) (choices_of g.I.WideUInt.WideUnsigned.value c.args.options)
    (g.Self.IntShapeResource.paths c.args.self.now) (shapes_of v.items) o).0)
    c.outline_shapes.ensures.outline
