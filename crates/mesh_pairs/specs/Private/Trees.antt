-- The tree of boxes: runs of eight edges, each with a block, and blocks over eight blocks.
use Rattle.std.specs.Prelude.{ℕ, ◌≡◌, ◌+◌, ◌-◌, ◌*◌, ◌/◌, ◌^◌, ◌<◌, ◌≤◌, ◌⊎◌, List, [], ◌∷◌, ◌++◌, length, slice_index_or, pos, negsuc}
use Rattle.std.specs.List.{All, Contains}
use Rattle.mesh_points.specs.declared.edges.NumberedEdge.{NumberedEdge}
use Rattle.mesh_points.specs.Edges.{edge_at}
use Rattle.mesh_pairs.specs.declared.boxes.Bounds.{Bounds}
use Rattle.mesh_pairs.specs.declared.boxes.EightBounds.{EightBounds}
use Rattle.mesh_pairs.specs.declared.tree.Below.{Below}
use Rattle.mesh_pairs.specs.declared.tree.Block.{Block}
use Rattle.mesh_pairs.specs.declared.tree.Tree.{Tree}
use Rattle.mesh_pairs.specs.declared.boxes.TheConstants.{NONE}
use Rattle.mesh_pairs.specs.Boxes.{Covers, Holds, lane}
use Rattle.mesh_pairs.specs.Pairs.{AreBoxesApart, ends_at}

-- what stands in places of lists
abbrev pub box_at : List Bounds → ℕ → Bounds
box_at bs k = slice_index_or bs k NONE

abbrev pub no_lanes : EightBounds
no_lanes = record { west = []; east = []; south = []; north = [] }

abbrev pub lane_at : List EightBounds → ℕ → ℕ → Bounds
lane_at blocks b k = lane (slice_index_or blocks b no_lanes) k

abbrev pub below_at : List Below → ℕ → Below
below_at bs k = slice_index_or bs k (record { first = 0; last = 0 })

-- all small coordinates
abbrev pub small_bounds : Bounds
small_bounds = record {
  west = negsuc (2 ^ 30 - 1);
  east = pos (2 ^ 30);
  south = negsuc (2 ^ 30 - 1);
  north = pos (2 ^ 30);
}

-- eight rectangles are those from one place of a list on and before another, and else hold nothing
abbrev pub AreLanes : EightBounds → List Bounds → ℕ → ℕ → Type 0
AreLanes lanes boxes from to =
    (k : ℕ) → k < 8 → ((from + k < to) × (lane lanes k ≡ box_at boxes (from + k))) ⊎ ((to ≤ from + k) × (lane lanes k ≡ NONE))

-- a block `c` is one of the eight below a block `p`, at the place `k`
pub record IsChild (t : Tree) (p k c : ℕ) : Type 0 where
  pub inner : t.runs ≤ p
  pub within : p < length t.blocks.items
  pub place : k < 8
  pub at : c ≡ (below_at t.below.items p).first + k
  pub before : c < p
  pub lane : lane_at t.blocks.items p k ≡ box_at t.bounds.items c
  pub covers : Covers (box_at t.bounds.items p) (box_at t.bounds.items c)
  pub last : (below_at t.below.items c).last ≤ (below_at t.below.items p).last

-- a block `d` is a block `p`, or stands somewhere below it
pub data IsUnder (t : Tree) : ℕ → ℕ → Type 0 where
  itself : {p : ℕ} → IsUnder t p p
  below : {p k c d : ℕ} → IsChild t p k c → IsUnder t c d → IsUnder t p d

-- the rectangles of edges
pub record AreBoxesOf (es : List NumberedEdge) (boxes : List Bounds) : Type 0 where
  pub many : length boxes ≡ length es
  pub starts : (i : ℕ) → i < length es → Holds (box_at boxes i) (edge_at es i).start
  pub ends : (i : ℕ) → i < length es → Holds (box_at boxes i) (edge_at es i).end

-- the blocks of runs have the rectangles of their edges, and their own boxes hold these
pub record AreRuns (t : Tree) (runs : ℕ) : Type 0 where
  pub within : runs ≤ length t.blocks.items
  pub lanes : (r : ℕ) → r < runs → AreLanes (slice_index_or t.blocks.items r no_lanes) t.boxes.items (8 * r) (length t.boxes.items)
  pub covers : (i : ℕ) → i < length t.boxes.items → i / 8 < runs → Covers (box_at t.bounds.items (i / 8)) (box_at t.boxes.items i)
  pub last : (r : ℕ) → r < runs → (below_at t.below.items r).last ≡ r

-- each block has a box and what lies below it, and each block over others has their boxes or nothing in its places
pub record AreBlocks (t : Tree) : Type 0 where
  pub boxes : length t.bounds.items ≡ length t.blocks.items
  pub belows : length t.below.items ≡ length t.blocks.items
  pub small : (p : ℕ) → p < length t.blocks.items → Covers small_bounds (box_at t.bounds.items p)
  pub inner : (p k : ℕ) → t.runs ≤ p → p < length t.blocks.items → k < 8
      → IsChild t p k ((below_at t.below.items p).first + k) ⊎ (lane_at t.blocks.items p k ≡ NONE)

-- a tree has got one block more
pub record IsPushed (t t' : Tree) (b : Block) (x : Below) : Type 0 where
  pub boxes : t'.boxes ≡ t.boxes
  pub runs : t'.runs ≡ t.runs
  pub blocks : t'.blocks.items ≡ t.blocks.items ++ b.lanes ∷ []
  pub bounds : t'.bounds.items ≡ t.bounds.items ++ b.bounds ∷ []
  pub below : t'.below.items ≡ t.below.items ++ x ∷ []

-- each run stands under one of the blocks from a place on
pub record IsUnderSome (t : Tree) (start d : ℕ) : Type 0 where
  pub block : ℕ
  pub from : start ≤ block
  pub within : block < length t.blocks.items
  pub under : IsUnder t block d

-- a tree of boxes: the last block stands over all runs
pub record IsTree (t : Tree) : Type 0 where
  pub many : t.runs ≡ (length t.boxes.items + 7) / 8
  pub small : All (Covers small_bounds) t.boxes.items
  pub runs : AreRuns t t.runs
  pub blocks : AreBlocks t
  pub root : (d : ℕ) → d < t.runs → IsUnder t (length t.blocks.items - 1) d

-- the tree of the boxes of some edges
pub record IsTreeOf (es : List NumberedEdge) (t : Tree) : Type 0 where
  pub boxes : AreBoxesOf es t.boxes.items
  pub tree : IsTree t

-- runs are found with each edge that comes after one of a run and whose box is not apart from that one's
abbrev pub AreCandidates : Tree → ℕ → List ℕ → Type 0
AreCandidates t run found =
    (es : List NumberedEdge) (i j : ℕ) → AreBoxesOf es t.boxes.items → i / 8 ≡ run → i < j → j < length es
    → Contains found (j / 8) ⊎ AreBoxesApart (ends_at es i) (ends_at es j)
