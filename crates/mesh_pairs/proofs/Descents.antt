-- Lemmas over trees of boxes: the search below a block.
use Rattle.std.proofs.Common.{◌≡◌, ℕ, ◌+◌, ◌<◌, ◌≤◌, ◌⊎◌, inl, inr, ⊎_elim, sym, subst, length, arith}
use Rattle.std.specs.Prelude.{◌↔◌}
use Rattle.mesh_pairs.specs.declared.boxes.Bounds.{Bounds}
use Rattle.mesh_pairs.specs.declared.tree.Tree.{Tree}
use Rattle.mesh_pairs.specs.declared.boxes.TheConstants.{NONE}
use Rattle.mesh_pairs.specs.Boxes.{Covers, DoMeet, IsIn}
use Rattle.mesh_pairs.specs.Private.Trees.{AreBlocks, IsChild, IsUnder, below_at, box_at, lane_at, small_bounds}
use Rattle.mesh_pairs.proofs.Trees.{IsUnderChild, covers_itself, covers_meet, none_meets, under_child, under_covers}

-- a run stands under a block whose place is still to be looked at
pub record IsLeft (t : Tree) (first places d : ℕ) : Type 0 where
  pub place : ℕ
  pub within : place < 8
  pub listed : IsIn places place
  pub under : IsUnder t (first + place) d

-- where a box in a place meets a small one, a block is there
pub child_of_meeting : (t : Tree) (p k : ℕ) (bounds : Bounds) → AreBlocks t → Covers small_bounds bounds → t.runs ≤ p → p < length t.blocks.items → k < 8
    → DoMeet (lane_at t.blocks.items p k) bounds → IsChild t p k ((below_at t.below.items p).first + k)
child_of_meeting t p k bounds h small inner within place meets = ⊎_elim
    (λ (child : IsChild t p k ((below_at t.below.items p).first + k)). child)
    (λ (none : lane_at t.blocks.items p k ≡ NONE). absurd (none_meets (lane_at t.blocks.items p k) bounds none small meets))
    (h.inner p k inner within place)

-- and a run under a block, whose box meets it, stands under one whose box in its place does
pub meeting_of_run : (t : Tree) (p d : ℕ) (bounds : Bounds) → t.runs ≤ p → d < t.runs → IsUnder t p d → DoMeet (box_at t.bounds.items d) bounds
    → (u : IsUnderChild t p d) × DoMeet (lane_at t.blocks.items p u.place) bounds
meeting_of_run t p d bounds inner run under meets =
    let u = under_child t under inner run in (
      u,
      subst (λ (b : Bounds). DoMeet b bounds) (sym u.child.lane)
          (covers_meet (box_at t.bounds.items ((below_at t.below.items p).first + u.place)) (box_at t.bounds.items d) bounds bounds (under_covers t u.under) (covers_itself bounds) meets),
    )

pub same_or_not : (i j : ℕ) → (i ≡ j) ⊎ (i ≡ j → ⊥)
same_or_not i j = grind arith

-- the places that meet hold what is sought
pub left_first : (t : Tree) (p d : ℕ) (bounds : Bounds) (places : ℕ) → ((k : ℕ) → k < 8 → IsIn places k ↔ DoMeet (lane_at t.blocks.items p k) bounds) → t.runs ≤ p → d < t.runs → IsUnder t p d
    → DoMeet (box_at t.bounds.items d) bounds → IsLeft t (below_at t.below.items p).first places d
left_first t p d bounds places exact inner run under meets =
    let m = meeting_of_run t p d bounds inner run under meets in
    record { place = m.0.place; within = m.0.child.place; listed = (exact m.0.place m.0.child.place).1 m.1; under = m.0.under }

-- one place fewer
pub left_next : (t : Tree) (first places places' k d : ℕ) → ((j : ℕ) → j < 8 → (j ≡ k → ⊥) → IsIn places' j ↔ IsIn places j) → IsLeft t first places d → IsLeft t first places' d ⊎ IsUnder t (first + k) d
left_next t first places places' k d others left = ⊎_elim
    (λ (e : left.place ≡ k). inr (subst (λ (j : ℕ). IsUnder t (first + j) d) e left.under))
    (λ (n : left.place ≡ k → ⊥). inl (record { place = left.place; within = left.within; listed = (others left.place left.within n).1 left.listed; under = left.under }))
    (same_or_not left.place k)
