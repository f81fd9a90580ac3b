use Rattle.std.proofs.Common.{◌<◌, List, length, ◌∙◌, subst, arith}
use Rattle.std.proofs.lemmas.List.{get_or_default}
use Rattle.mesh_pairs.specs.declared.boxes.Bounds.{Bounds}
use Rattle.mesh_pairs.specs.declared.boxes.TheConstants.{NONE}
use Rattle.mesh_pairs.specs.Boxes.{Covers}
use Rattle.mesh_pairs.specs.Private.Trees.{box_at, small_bounds}
use Rattle.mesh_pairs.proofs.Lanes.{covers_more, lanes_more}
use Rattle.mesh_pairs.proofs.tree.block_over.Goals as goal

pub loop-k-preserved : goal.loop-k-preserved
loop-k-preserved c =
    let boxes : List Bounds = c.args.boxes.now in
    let within : c.loop-k.k < length boxes = omega arith in
    let same = get_or_default boxes c.loop-k.k _ NONE within in
    let second : Covers c.with-bounds.result (box_at boxes c.loop-k.k) = subst (Covers c.with-bounds.result) same c.with-bounds.ensures.second in
    record {
      lanes = lanes_more c.loop-k.lanes c.set.new.self boxes c.args.from c.loop-k.k c.loop-k.auto.k (c.set.ensures.put ∙ same) c.set.ensures.others c.loop-k.invariant.lanes;
      covers = covers_more c.loop-k.bounds c.with-bounds.result boxes c.args.from c.loop-k.k c.with-bounds.ensures.first second c.loop-k.invariant.covers;
      small = λ all.
          c.with-bounds.ensures.least small_bounds (c.loop-k.invariant.small all)
          (subst (Covers small_bounds) (get_or_default boxes c.loop-k.k NONE _ within) (all c.loop-k.k c.loop-k.auto.k c.loop-k-test.true));
    }
