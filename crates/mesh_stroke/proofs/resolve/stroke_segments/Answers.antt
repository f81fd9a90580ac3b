-- One path after another.
use Rattle.std.proofs.Common.{[], arith, sym, subst, ◌∙◌}
use Rattle.std.specs.List.{All}
use Rattle.mesh_offset.proofs.ManyPaths.{built_none, built_more}
use Rattle.mesh_stroke.specs.Building.{IsStrokable}
use Rattle.mesh_stroke.specs.Strokes.{stroke_edges}
use Rattle.mesh_stroke.specs.Styles.{StrokeStyle, stroke_style_of}
use Rattle.mesh_stroke.proofs.resolve.stroke_segments.Goals as goal

pub loop-index-init : goal.loop-index-init
loop-index-init g c = record {
  built = rw c.new-segments.ensures.items (built_none (stroke_edges g.I.IntNumber.unit (stroke_style_of g.I.IntNumber.value c.args.style.now) c.args.closed));
  same = c.new-builder.ensures;
}

pub build-requires : goal.build-requires
build-requires g c =
    subst (λ (style : StrokeStyle). All (IsStrokable g.I.IntNumber.unit style) c.path_at.result.now) (sym c.loop-index.invariant.same)
    (rw c.path_at.ensures (c.requires c.loop-index.index [] (omega arith)))

pub loop-index-preserved : goal.loop-index-preserved
loop-index-preserved g c =
    let edges = rw (c.loop-index.invariant.same, c.path_at.ensures) at c.in_ok-build.ensures.edges in
    record {
      built =
          built_more (stroke_edges g.I.IntNumber.unit (stroke_style_of g.I.IntNumber.value c.args.style.now) c.args.closed) (g.S.IntShapeResource.paths c.args.source.now)
          c.loop-index.index [] c.loop-index.segments.items c.build.new.segments.items (omega arith) c.loop-index.invariant.built c.in_ok-build.ensures.kept edges c.in_ok-build.ensures.form;
      same = c.build.ensures.same ∙ c.loop-index.invariant.same;
    }
