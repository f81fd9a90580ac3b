use Rattle.std.proofs.Common.{ℕ, ◌+◌, ◌<◌, ◌≤◌, ◌⊎◌, ◌^◌}
use Rattle.std.specs.List.{All, Contains}
use Rattle.mesh_pairs.specs.Boxes.{DoMeet, IsIn}
use Rattle.mesh_pairs.specs.Private.Trees.{IsChild, IsUnder, box_at}
use Rattle.mesh_pairs.proofs.Descents.{IsLeft}
use Rattle.mesh_pairs.proofs.tree.Tree.+seek.Given as goal

abbrev pub invariant-loop-places : goal.invariant-loop-places
invariant-loop-places l = record {
  few : l.places < 2 ^ 8;
  children : (k : ℕ) → k < 8 → IsIn l.places k → IsChild l.self l.block k (l.first + k);
  found : All (λ r. (l.from ≤ r) × (r < l.self.runs)) l.found.items;
  kept : (d : ℕ) → Contains l.initial.found.items d → Contains l.found.items d;
  left : (d : ℕ) → d < l.self.runs → l.from ≤ d → IsUnder l.self l.block d → DoMeet (box_at l.self.bounds.items d) l.bounds
      → IsLeft l.self l.first l.places d ⊎ Contains l.found.items d;
}

abbrev pub decreases-loop-places : goal.decreases-loop-places
decreases-loop-places l = l.places

abbrev pub decreases-seek : goal.decreases-seek
decreases-seek l = l.block
