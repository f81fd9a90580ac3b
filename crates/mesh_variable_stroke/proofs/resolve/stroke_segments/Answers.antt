-- One path after another.
use Rattle.std.proofs.Common.{[], arith, ◌∙◌, take_all}
use Rattle.mesh_offset.proofs.ManyPaths.{built_none, built_more}
use Rattle.mesh_variable_stroke.specs.VariableStrokes.{variable_stroke_edges}
use Rattle.mesh_variable_stroke.proofs.Reach.{each_strokable}
use Rattle.mesh_variable_stroke.proofs.resolve.stroke_segments.Goals as goal

pub loop-index-init : goal.loop-index-init
loop-index-init g c = record {
  built = rw c.new-segments.ensures.items (built_none (variable_stroke_edges g.I.IntNumber.unit c.args.style.arc));
  same = c.new-builder.ensures;
}

pub build-requires : goal.build-requires
build-requires g c =
    rw c.path_at.ensures (each_strokable g.I.IntNumber.unit (g.S.IntVariableStrokeSource.paths c.args.source.now) c.requires c.loop-index.index [] (omega arith))

pub loop-index-preserved : goal.loop-index-preserved
loop-index-preserved g c =
    let edges = rw (c.loop-index.invariant.same, c.path_at.ensures) at c.in_ok-build.ensures.edges in
    record {
      built =
          built_more (variable_stroke_edges g.I.IntNumber.unit c.args.style.arc) (g.S.IntVariableStrokeSource.paths c.args.source.now)
          c.loop-index.index [] c.loop-index.segments.items c.build.new.segments.items (omega arith) c.loop-index.invariant.built c.in_ok-build.ensures.kept edges c.in_ok-build.ensures.form;
      same = c.build.ensures.same ∙ c.loop-index.invariant.same;
    }

pub returns : goal.returns
returns g c =
    rw (take_all c.loop-index.index (g.S.IntVariableStrokeSource.paths c.args.source.now) (omega arith))
    at c.loop-index.invariant.built
