use Rattle.std.proofs.Common.{◌∙◌, ap, List, map}
use Rattle.std.specs.List.{enumerate_from}
use Rattle.std.proofs.lemmas.List.Sorted.{IsPermutation-map}
use Rattle.mesh_shapes.specs.Resolution.{answered, rings_by_shape}
use Rattle.mesh_shapes.specs.Vectors.{RingVec, ring_of_vec, rings_of_vecs}
use Rattle.mesh_shapes.proofs.arrange.shapes.Goals as goal

pub returns : goal.returns
returns c = record {
  sorted = rings_of_vecs c.rings_by_points-ordered.result.items;
  same =
      IsPermutation-map ring_of_vec c.args.rings.items c.rings_by_points-ordered.result.items c.rings_by_points-ordered.ensures.same;
  ordered = c.rings_by_points-ordered.ensures.ordered;
  shapes = c.in_ok-shapes.ensures ∙ ap (λ (l : List RingVec). map (map (answered c.args.clockwise)) (rings_by_shape (enumerate_from 0 (rings_of_vecs l)))) c.deref_mut.ensures.value;
}
