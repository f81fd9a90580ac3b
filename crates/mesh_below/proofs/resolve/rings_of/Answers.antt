use Rattle.std.proofs.Common.{rules, ◌≡◌, false, sym, subst}
use Rattle.std.specs.Prelude.{Vec}
use Rattle.std.specs.List.{All}
use Rattle.std.specs.declared.alloc.Global.{Global}
use Rattle.std.proofs.lemmas.Iterator.Adapters.{YieldsList-from_vec}
use Rattle.std.proofs.lemmas.Iterator.Consumers.{YieldsList-turn}
use Rattle.mesh_plane.specs.Plane.{Point, Edge}
use Rattle.mesh_plane.specs.Winding.{boundary, same_point}
use Rattle.mesh_below.proofs.Resolving.{rings_none, rings_more, of_one}
use Rattle.mesh_below.proofs.resolve.rings_of.Goals as goal

pub push_ring-requires-clause-proper : goal.push_ring-requires-clause-proper
push_ring-requires-clause-proper c =
    let t = YieldsList-turn (YieldsList-from_vec c.args.contours.items (search rules) (search rules)) c.loop-contour.yielded c.loop-contour.contour-iterator c.loop-contour.yielded_by c.next.result c.next.new.self c.in-Some.contour c.in-Some.is c.next.ensures.steps in
    subst (λ (v : Vec Point Global). All (λ (e : Edge). same_point e.0 e.1 ≡ false) (boundary v.items)) (sym t.1)
    (of_one (λ (e : Edge). same_point e.0 e.1 ≡ false) c.args.contours.items _ c.in-Some.contour t.0 c.requires.proper)

pub loop-contour-preserved : goal.loop-contour-preserved
loop-contour-preserved c =
    rings_more c.args.choices.all_vertices c.args.choices.least_area c.args.ordered.now c.loop-contour.yielded c.in-Some.contour c.loop-contour.rings.items c.push_ring.new.rings.items
    (c.loop-contour.are_whole, c.loop-contour.are_lone) _ c.loop-contour.invariant c.in_ok-told.ensures

pub loop-contour-init : goal.loop-contour-init
loop-contour-init c = rings_none c.args.choices.all_vertices c.args.choices.least_area c.args.ordered.now _ _ c.in_ok-rings.ensures.items
