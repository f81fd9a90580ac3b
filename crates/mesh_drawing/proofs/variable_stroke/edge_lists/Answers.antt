-- Path by path, by one builder.
use Rattle.std.proofs.Common.{[], ◌∙◌}
use Rattle.mesh_num.specs.Paths.{paths_of}
use Rattle.mesh_variable_stroke.proofs.Reach.{each_strokable}
use Rattle.mesh_drawing.proofs.PathsServed.{path_count, path_here, one_listed}
use Rattle.mesh_drawing.proofs.variable_stroke.edge_lists.Goals as goal

pub edge_list-requires : goal.edge_list-requires
edge_list-requires g c =
    let paths = c.args.paths.now in
    let i = c.loop-path.path-index in
    let here = path_here paths i c.path-item.result c.loop-path-test.true c.path-item.is in
    let strokable = rw here at (each_strokable g.I.IntNumber.unit (paths_of paths) c.requires i [] (rw (path_count paths) c.loop-path-test.true)) in
    rw c.deref.ensures.value strokable

pub loop-path-preserved : goal.loop-path-preserved
loop-path-preserved g c =
    let listed = rw (c.loop-path.invariant.same, c.deref.ensures.value) at c.in_ok-edge_list.ensures.listed in
    record {
      listed =
          one_listed _ c.args.paths.now c.loop-path.path-index c.path-item.result c.loop-path.lists.items _ _ c.loop-path-test.true c.path-item.is c.in_ok-push.ensures.items
          c.loop-path.invariant.listed listed;
      same = c.edge_list.ensures.same ∙ c.loop-path.invariant.same;
    }
