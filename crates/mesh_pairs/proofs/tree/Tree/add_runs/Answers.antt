use Rattle.std.proofs.Common.{◌≡◌, ℕ, ◌+◌, ◌*◌, ◌<◌, ◌≤◌, List, length, sym, ◌∙◌, ap, subst, arith}
use Rattle.mesh_pairs.specs.declared.boxes.Bounds.{Bounds}
use Rattle.mesh_pairs.specs.declared.boxes.TheConstants.{NONE}
use Rattle.mesh_pairs.specs.declared.tree.Below.{Below}
use Rattle.mesh_pairs.specs.declared.tree.Tree.{Tree}
use Rattle.mesh_pairs.specs.Boxes.{Covers}
use Rattle.mesh_pairs.specs.Private.Trees.{AreRuns, box_at, small_bounds}
use Rattle.mesh_pairs.proofs.Trees.{run_blocks_pushed, run_made, run_pushed, pushed_many, IsRun}
use Rattle.mesh_pairs.proofs.tree.Tree.add_runs.Goals as goal

pub loop-run-preserved : goal.loop-run-preserved
loop-run-preserved c =
    let t : Tree = c.loop-run.self in
    let t' : Tree = c.push.new.self in
    let run : ℕ = c.loop-run.run in
    let v = c.loop-run.invariant in
    let x : Below = record { first = run * 8; last = run } in
    let b = c.block_over-block.result in
    let boxes : List Bounds = c.deref.result.now in
    let same : boxes ≡ t.boxes.items = c.deref.ensures.value in
    let whole : c.args.self.now.boxes.items ≡ t.boxes.items = ap (λ y. y.items) (sym v.boxes) in
    let small : Covers small_bounds b.bounds = c.block_over-block.ensures.small (λ k l m. subst (λ (bs : List Bounds). Covers small_bounds (box_at bs k)) (whole ∙ sym same) (c.requires.small k NONE (omega (arith, ap length whole, ap length same)))) in
    let some : length t.blocks.items < t.runs = omega (arith, v.same, v.many) in
    let to_within : c.min-to.result ≤ length boxes = omega (arith, ap length same) in
    let from : run * 8 ≡ 8 * length t.blocks.items = omega (arith, v.many) in
    let is : IsRun t b x c.min-to.result =
    run_made t b x boxes (run * 8) c.min-to.result same from some to_within (λ k p l. omega (arith, ap length same))
    c.block_over-block.ensures.lanes c.block_over-block.ensures.covers small (sym v.many)
    in
    let pushed = c.in_ok-push.ensures in
    record {
      boxes = pushed.boxes ∙ v.boxes;
      same = pushed.runs ∙ v.same;
      many = pushed_many t t' b x pushed ∙ ap (λ (n : ℕ). n + 1) v.many;
      runs =
          subst (λ (n : ℕ). AreRuns t' (n + 1)) v.many
          (run_pushed t t' b x c.min-to.result v.blocks pushed is (subst (AreRuns t) (sym v.many) v.runs));
      blocks = run_blocks_pushed t t' b x c.min-to.result v.blocks pushed is;
    }
