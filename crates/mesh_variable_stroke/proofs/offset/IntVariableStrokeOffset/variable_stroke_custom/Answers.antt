-- What is resolved is what was built.
use Rattle.mesh_num.specs.Segments.{edges_of}
use Rattle.mesh_num.specs.Paths.{shapes_of}
use Rattle.mesh_below.specs.Options.{choices_of}
use Rattle.mesh_variable_stroke.proofs.Regions.{stroke_regions, stroke_resolves}
use Rattle.mesh_variable_stroke.proofs.offset.IntVariableStrokeOffset.variable_stroke_custom.Goals as goal

pub returns-clause-stroke : goal.returns-clause-stroke
returns-clause-stroke g c = record {
  built = edges_of c.in_ok-drawn.drawn.segments.items;
  same = c.in_ok-drawn.ensures.built.same;
  resolution = rw c.in_ok-drawn.ensures.options at c.in_ok-overlay.ensures.resolution;
}

pub returns-clause-regions : goal.returns-clause-regions
returns-clause-regions g c =
    (stroke_regions g.I.IntNumber.unit c.args.style.arc (choices_of g.I.WideUInt.WideUnsigned.value c.args.options)
    (g.Self.IntVariableStrokeSource.paths c.args.self.now) (shapes_of c.in_ok-overlay.field-0.items) (returns-clause-stroke g c)).0

pub returns-clause-edges : goal.returns-clause-edges
returns-clause-edges g c =
    stroke_resolves g.I.IntNumber.unit c.args.style.arc (choices_of g.I.WideUInt.WideUnsigned.value c.args.options)
    (g.Self.IntVariableStrokeSource.paths c.args.self.now) (shapes_of c.in_ok-overlay.field-0.items)
    g.met.I.IntNumber.least_law c.requires (returns-clause-stroke g c)
