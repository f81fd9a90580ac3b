use Rattle.std.proofs.Common.{◌≡◌, ℕ, ◌<◌, length}
use Rattle.mesh_points.specs.Edges.{edge_at}
use Rattle.mesh_pairs.specs.Boxes.{Covers, Holds}
use Rattle.mesh_pairs.specs.Private.Trees.{box_at, small_bounds}
use Rattle.mesh_pairs.proofs.tree.Tree.add_boxes.Given as goal

abbrev pub invariant-loop-e : goal.invariant-loop-e
invariant-loop-e l = record {
  blocks : l.self.blocks ≡ l.initial.self.blocks;
  bounds : l.self.bounds ≡ l.initial.self.bounds;
  below : l.self.below ≡ l.initial.self.below;
  runs : l.self.runs ≡ l.initial.self.runs;
  many : length l.self.boxes.items ≡ l.e-index;
  starts : (i : ℕ) → i < l.e-index → Holds (box_at l.self.boxes.items i) (edge_at l.edges i).start;
  ends : (i : ℕ) → i < l.e-index → Holds (box_at l.self.boxes.items i) (edge_at l.edges i).end;
  small : (i : ℕ) → i < l.e-index → Covers small_bounds (box_at l.self.boxes.items i);
}
