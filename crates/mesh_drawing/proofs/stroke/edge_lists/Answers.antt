-- Path by path, by one builder.
use Rattle.std.proofs.Common.{[], sym, subst, ◌∙◌}
use Rattle.std.specs.List.{All}
use Rattle.mesh_stroke.specs.Building.{IsStrokable}
use Rattle.mesh_stroke.specs.Styles.{StrokeStyle}
use Rattle.mesh_drawing.proofs.PathsServed.{path_count, path_here, one_listed}
use Rattle.mesh_drawing.proofs.stroke.edge_lists.Goals as goal

pub edge_list-requires : goal.edge_list-requires
edge_list-requires g c =
    let paths = c.args.paths.now in
    let i = c.loop-path.path-index in
    let here = path_here paths i c.path-item.result c.loop-path-test.true c.path-item.is in
    let safe = rw here at (c.requires i [] (rw (path_count paths) c.loop-path-test.true)) in
    rw c.deref.ensures.value
    (subst (λ (style : StrokeStyle). All (IsStrokable g.I.IntNumber.unit style) c.path-item.result.items) (sym c.loop-path.invariant.same) safe)

pub loop-path-preserved : goal.loop-path-preserved
loop-path-preserved g c =
    let listed = rw (c.loop-path.invariant.same, c.deref.ensures.value) at c.in_ok-edge_list.ensures.listed in
    record {
      listed =
          one_listed _ c.args.paths.now c.loop-path.path-index c.path-item.result c.loop-path.lists.items _ _ c.loop-path-test.true c.path-item.is c.in_ok-push.ensures.items
          c.loop-path.invariant.listed listed;
      same = c.edge_list.ensures.same ∙ c.loop-path.invariant.same;
    }
