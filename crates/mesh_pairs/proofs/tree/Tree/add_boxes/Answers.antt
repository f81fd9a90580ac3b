use Rattle.std.proofs.Common.{ℕ, ◌<◌, List, subst, arith}
use Rattle.std.proofs.lemmas.List.{get_or_default}
use Rattle.mesh_points.specs.declared.edges.NumberedEdge.{NumberedEdge}
use Rattle.mesh_pairs.specs.declared.boxes.TheConstants.{NONE}
use Rattle.mesh_pairs.specs.Boxes.{Covers}
use Rattle.mesh_pairs.specs.Private.Trees.{small_bounds}
use Rattle.mesh_pairs.proofs.Filling.{IsFilled, filled_more}
use Rattle.mesh_pairs.proofs.tree.Tree.add_boxes.Goals as goal

pub loop-e-preserved : goal.loop-e-preserved
loop-e-preserved c =
    let es : List NumberedEdge = c.args.edges.now in
    let i : ℕ = c.loop-e.e-index in
    let v = c.loop-e.invariant in
    let filled : IsFilled es i c.loop-e.self.boxes.items = record { many = v.many; starts = v.starts; ends = v.ends; small = v.small } in
    let more = filled_more es i c.loop-e.self.boxes.items c.push.new.self.items c.of.result c.loop-e-test.true c.requires.small filled c.in_ok-push.ensures.items
    (λ p. c.of.ensures p)
    in
    record {
      blocks = v.blocks;
      bounds = v.bounds;
      below = v.below;
      runs = v.runs;
      many = more.many;
      starts = more.starts;
      ends = more.ends;
      small = more.small;
    }

pub returns-clause-small : goal.returns-clause-small
returns-clause-small c = λ k d h.
    let l : k < c.loop-e.e-index = omega (arith, c.loop-e.invariant.many) in
    subst (Covers small_bounds) (get_or_default c.loop-e.self.boxes.items k NONE d h) (c.loop-e.invariant.small k l)
