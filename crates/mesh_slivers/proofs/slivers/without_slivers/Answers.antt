use Rattle.std.proofs.Common.{not, arith, sym, subst, rules, List}
use Rattle.std.proofs.lemmas.Fn.{filter_same}
use Rattle.std.proofs.lemmas.List.{length-map}
use Rattle.mesh_num.specs.Paths.{paths_of, shapes_of}
use Rattle.mesh_plane.specs.Plane.{Point}
use Rattle.mesh_slivers.specs.Slivers.{are_slivers, without_holes, WindAlike}
use Rattle.mesh_slivers.proofs.Kept.{loop_more, loop_left}
use Rattle.mesh_slivers.proofs.Shapes.{winds_alike}
use Rattle.mesh_slivers.proofs.slivers.without_slivers.Goals as goal

pub loop-shape-preserved : goal.loop-shape-preserved
loop-shape-preserved g c =
    let now = c.deref_mut-shape-items.result.now in
    loop_more (λ s. paths_of s.items) (without_holes c.args.width) (shapes_of now) c.loop-shape.shape-items c.loop-shape.shape-index c.shape-item.result c.drop_sliver_holes.new.shape
    (omega (arith, c.loop-shape-test.true, length-map now (λ s. paths_of s.items))) c.loop-shape.invariant c.shape-item.is c.drop_sliver_holes.ensures

pub returns-clause-left : goal.returns-clause-left
returns-clause-left g c =
    let now = c.deref_mut-shape-items.result.now in
    loop_left (λ s. paths_of s.items) (without_holes c.args.width) (λ (shape : List (List Point)). not (are_slivers c.args.width shape)) c.retain.new.self.len c.loop-shape.shape-index
    c.loop-shape.shape-items now c.retain.new.self.items c.args.shapes.items
    (omega (arith, c.loop-shape.auto.shape-items, c.deref_mut-shape-items.ensures.len)) (omega (arith, c.deref_mut-shape-items.ensures.len))
    (omega (arith, c.loop-shape-test.false, c.deref_mut-shape-items.ensures.len)) c.deref_mut-shape-items.ensures.value c.loop-shape.invariant
    (filter_same _ (λ s. not (are_slivers c.args.width (paths_of s.items))) _ (λ x b f k. search rules) _ _ c.retain.ensures.filtered)

pub returns-clause-winding : goal.returns-clause-winding
returns-clause-winding g c =
    subst (λ (left : List (List (List Point))). WindAlike c.args.width (shapes_of c.args.shapes.items) left) (sym (returns-clause-left g c))
    (winds_alike c.args.width (shapes_of c.args.shapes.items))
