-- What is resolved is what was built.
use Rattle.mesh_num.specs.Segments.{edges_of}
use Rattle.mesh_below.specs.Options.{choices_of}
use Rattle.mesh_variable_stroke.proofs.Regions.{stroke_regions, stroke_resolves}
use Rattle.mesh_variable_stroke.proofs.offset.IntVariableStrokeOffset.variable_stroke_custom_into.Goals as goal

pub returns-clause-regions : goal.returns-clause-regions
returns-clause-regions g c =
    let r = c.in_ok-overlay_into.ensures.resolution in (
      r.0,
      (stroke_regions g.I.IntNumber.unit c.args.style.arc (choices_of g.I.WideUInt.WideUnsigned.value c.args.options)
          (g.Self.IntVariableStrokeSource.paths c.args.self.now) r.0
          (record {
            built = edges_of c.in_ok-drawn.drawn.segments.items;
            same = c.in_ok-drawn.ensures.built.same;
            resolution = rw c.in_ok-drawn.ensures.options at r.1;
          })).0,
      r.3,
    )

pub returns-clause-edges : goal.returns-clause-edges
returns-clause-edges g c =
    let r = c.in_ok-overlay_into.ensures.resolution in (
      r.0,
      stroke_resolves g.I.IntNumber.unit c.args.style.arc (choices_of g.I.WideUInt.WideUnsigned.value c.args.options)
          (g.Self.IntVariableStrokeSource.paths c.args.self.now) r.0 g.met.I.IntNumber.least_law c.requires
          (record {
            built = edges_of c.in_ok-drawn.drawn.segments.items;
            same = c.in_ok-drawn.ensures.built.same;
            resolution = rw c.in_ok-drawn.ensures.options at r.1;
          }),
      r.3,
    )
