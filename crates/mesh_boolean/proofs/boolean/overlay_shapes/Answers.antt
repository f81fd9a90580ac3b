-- Each rule is carried out in its way.
use Rattle.std.proofs.Common.{sym, ◌∙◌}
use Rattle.mesh_num.specs.Paths.{shapes_of}
use Rattle.mesh_below.specs.Options.{choices_of}
use Rattle.mesh_boolean.specs.Booleans.{operands_of}
use Rattle.mesh_boolean.specs.declared.rule.Way.TheVariants as way
use Rattle.mesh_boolean.proofs.Combining.{boolean_regions}
use Rattle.mesh_boolean.proofs.boolean.overlay_shapes.Goals as goal

pub returns-in_ok-both-in-Together-clause-regions : goal.returns-in_ok-both-in-Together-clause-regions
returns-in_ok-both-in-Together-clause-regions g c =
    boolean_regions (operands_of c.args.fill (g.S.IntShapeResource.paths c.args.subject.now) (g.C.IntShapeResource.paths c.args.clip.now))
    (choices_of g.I.WideUInt.WideUnsigned.value c.args.options) (shapes_of c.in_ok-both-in-Together.field-0.items)
    c.args.rule (way.Together c.in-Together.sense c.in-Together.sum) (sym c.in-Together.is ∙ c.way_of.ensures) c.in_ok-both-in-Together.ensures.regions
