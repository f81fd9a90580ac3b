-- Path by path.
use Rattle.std.proofs.Common.{[], ap, sym, ◌∙◌}
use Rattle.mesh_num.specs.Paths.{paths_of}
use Rattle.mesh_outline.specs.Kinds.{contour_kind}
use Rattle.mesh_outline.specs.declared.kind.ContourKind.TheVariants.{Outer}
use Rattle.mesh_outline.proofs.ContourKinds.{kind_at}
use Rattle.mesh_drawing.proofs.PathsServed.{path_count, path_here, one_listed}
use Rattle.mesh_drawing.proofs.outline.edge_lists.Goals as goal

pub edge_list-requires-clause-safe : goal.edge_list-requires-clause-safe
edge_list-requires-clause-safe g c k d h =
    let paths = c.args.paths.now in
    let i = c.loop-index.index in
    let here = path_here paths i c.index-paths-index.result c.loop-index-test.true c.index-paths-index.is in
    let safe = rw here at (c.requires.safe i [] (rw (path_count paths) c.loop-index-test.true)) in
    (rw (← c.deref.ensures.value) at safe) k d h

pub edge_list-requires-clause-kind : goal.edge_list-requires-clause-kind
edge_list-requires-clause-kind g c =
    let paths = c.args.paths.now in
    let i = c.loop-index.index in
    let here = path_here paths i c.index-paths-index.result c.loop-index-test.true c.index-paths-index.is in
    kind_at (paths_of paths) c.args.kinds.now i Outer c.requires.kinds (rw (path_count paths) c.loop-index-test.true)
    ∙ ap contour_kind (here ∙ sym c.deref.ensures.value)

pub loop-index-preserved : goal.loop-index-preserved
loop-index-preserved g c =
    let listed = rw c.deref.ensures.value at c.in_ok-edge_list.ensures in
    one_listed _ c.args.paths.now c.loop-index.index c.index-paths-index.result c.loop-index.lists.items _ _ c.loop-index-test.true c.index-paths-index.is c.in_ok-push.ensures.items c.loop-index.invariant listed
