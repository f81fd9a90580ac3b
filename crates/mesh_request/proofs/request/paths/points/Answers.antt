-- One point more is read.
use Rattle.std.proofs.Common.{refl, sym}
use Rattle.mesh_request.specs.Reading.{point_of, point_list_of}
use Rattle.mesh_request.proofs.JsonLists.{one_more}
use Rattle.mesh_request.proofs.request.paths.points.Goals as goal

pub loop-item-preserved : goal.loop-item-preserved
loop-item-preserved g c =
    one_more (point_of g.I.IntNumber.unit) (point_list_of g.I.IntNumber.unit) (λ d ds. refl) c.args.items.now c.loop-item.item-index c.item-item.result _ _ _ _
    c.loop-item-test.true c.item-item.is (sym c.in-Some.ensures) c.in_ok-push.ensures.items c.loop-item.invariant
