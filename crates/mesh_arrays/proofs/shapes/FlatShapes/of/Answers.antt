-- One shape after another.
use Rattle.std.proofs.Common.{◌≡◌, [], ◌∷◌, ◌++◌, length, take, sym, ap, ◌∙◌}
use Rattle.mesh_num.specs.Paths.{paths_of, shapes_of}
use Rattle.mesh_arrays.specs.EndToEnd.{ends_from}
use Rattle.mesh_arrays.proofs.Adding.{shapes_more, shape_added, shape_ended}
use Rattle.mesh_arrays.proofs.shapes.FlatShapes.of.Goals as goal

pub loop-shape-preserved : goal.loop-shape-preserved
loop-shape-preserved g c =
    let e = c.deref-shape-items.ensures.value in
    let i = c.loop-shape.shape-index in
    let before = shapes_of (take i c.args.shapes.now.items) in
    let more = shapes_more c.args.shapes.now.items c.shape-item.result i (rw e at c.loop-shape-test.true) (rw e at c.shape-item.is) in
    let added = rw c.deref.ensures.value at c.in_ok-push_lists.ensures in
    let size : c.len.result ≡ length c.push_lists.new.self.ends.items = c.len.ensures ∙ c.push_lists.new.self.ends.ok.0 in
    record {
      contours = rw more (shape_added g.P.Flat.item_of _ _ before (paths_of c.shape-item.result.items) c.loop-shape.invariant.contours added);
      ended =
          ap (ends_from 0) more
          ∙ shape_ended g.P.Flat.item_of _ _ before (paths_of c.shape-item.result.items) _ c.loop-shape.invariant.contours added c.loop-shape.invariant.ended
          ∙ ap (λ n. c.loop-shape.shape_ends.items ++ n ∷ []) (sym size)
          ∙ sym c.in_ok-push.ensures.items;
    }
