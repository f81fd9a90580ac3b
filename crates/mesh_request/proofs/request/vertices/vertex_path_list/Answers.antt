-- One path more is read.
use Rattle.std.proofs.Common.{refl}
use Rattle.mesh_request.specs.Reading.{vertex_path_of, vertex_path_list_of}
use Rattle.mesh_request.proofs.JsonLists.{one_more, path_pushed}
use Rattle.mesh_request.proofs.request.vertices.vertex_path_list.Goals as goal

pub loop-item-preserved : goal.loop-item-preserved
loop-item-preserved g c =
    one_more (vertex_path_of g.I.IntNumber.unit) (vertex_path_list_of g.I.IntNumber.unit) (λ d ds. refl) c.args.items.now c.loop-item.item-index c.item-item.result _ _ _ _
    c.loop-item-test.true c.item-item.is c.in_ok-vertex_path.ensures (path_pushed c.loop-item.paths.items _ c.in_ok-vertex_path.field-0 c.in_ok-push.ensures.items) c.loop-item.invariant
