use Rattle.std.proofs.Common.{◌≡◌, ℕ, ◌+◌, ◌-◌, ◌/◌, ◌≤◌, List, length, sym, subst, arith}
use Rattle.std.specs.Prelude.{Vec}
use Rattle.std.specs.List.{All}
use Rattle.std.specs.declared.alloc.Global.{Global}
use Rattle.mesh_points.specs.declared.edges.NumberedEdge.{NumberedEdge}
use Rattle.mesh_pairs.specs.declared.boxes.Bounds.{Bounds}
use Rattle.mesh_pairs.specs.declared.tree.Tree.{Tree}
use Rattle.mesh_pairs.specs.Boxes.{Covers}
use Rattle.mesh_pairs.specs.Private.Trees.{AreBoxesOf, AreRuns, IsTreeOf, IsUnder, itself, small_bounds}
use Rattle.mesh_pairs.proofs.tree.Tree.new.Goals as goal

pub levels-init : goal.levels-init
levels-init c =
    let es : List NumberedEdge = c.args.edges.now in
    let t : Tree = c.add_runs.new.self in
    let runs = c.in_ok-add_runs.ensures in
    let boxes = c.in_ok-add_boxes.ensures in
    let of : AreBoxesOf es t.boxes.items = subst (λ (v : Vec Bounds Global). AreBoxesOf es v.items) (sym runs.boxes) boxes.boxes in
    let many : t.runs ≡ (length t.boxes.items + 7) / 8 = omega (arith, runs.same, boxes.runs, of.many) in
    let above : t.runs ≤ length t.blocks.items = omega (arith, runs.many, runs.same) in
    record {
      boxes = of;
      small = subst (λ (v : Vec Bounds Global). All (Covers small_bounds) v.items) (sym runs.boxes) boxes.small;
      many = many;
      runs = subst (AreRuns t) (sym runs.same) runs.runs;
      blocks = runs.blocks;
      above = above;
      start = omega arith;
      few = omega (arith, runs.many, runs.same, many, of.many, c.requires.few);
      under = λ d h. record { block = d; from = omega arith; within = omega (arith, h, above); under = itself };
    }

pub returns : goal.returns
returns c =
    let es : List NumberedEdge = c.args.edges.now in
    let t : Tree = c.levels.tree in
    let v = c.levels.invariant in
    let one : length t.blocks.items - c.levels.start ≤ 1 = omega (arith, c.levels-test.false) in
    let is : IsTreeOf es t = record {
      boxes = v.boxes;
      tree = record {
        many = v.many;
        small = v.small;
        runs = v.runs;
        blocks = v.blocks;
        root = λ d h.
            let u = v.under d h in
            let last : u.block ≡ length t.blocks.items - 1 = omega (arith, one, u.from, u.within) in
            subst (λ (p : ℕ). IsUnder t p d) last u.under;
      };
    } in
    is
