-- Segments in groups, each within its bounds, and pairs of them that were found to meet.
use Rattle.std.specs.Prelude.{◌≡◌, ◌⊎◌, false, List, [], ◌∷◌, ◌++◌}
use Rattle.mesh_plane.specs.Plane.{Point, Edge}
use Rattle.mesh_lattice.specs.Counted.{Counted}
use Rattle.mesh_lattice.specs.Split.{AreClear}
use Rattle.mesh_rounds.specs.declared.groups.Group.{Group, Few, Halves'}
use Rattle.mesh_rounds.specs.declared.groups.Search.{Search}
use Rattle.mesh_store.specs.BoundingBoxes.{AreBounds}
use Rattle.mesh_store.specs.Cells.{StandsIn}
use Rattle.mesh_split.specs.Growth.{Waits}

-- two segments, and where they are to be split
abbrev pub Pair : Type 0
Pair = Edge × (Edge × Point)

-- the segments of a group
abbrev pub edges_in : Group → List Edge
edges_in (Few edges bounds) = edges.items
edges_in (Halves' p low q high bounds) = edges_in low ++ edges_in high

-- the box of each segment lies within these bounds
abbrev pub AreWithin : Edge → List Edge → Type 0
AreWithin bounds es = (e : Edge) → StandsIn e es → AreBounds bounds e

-- so it is in a group and in each half
abbrev pub IsBounded : Group → Type 0
IsBounded (Few edges bounds) = AreWithin bounds edges.items
IsBounded (Halves' p low q high bounds) = IsBounded low × IsBounded high × AreWithin bounds (edges_in low ++ edges_in high)

-- so it is in all of several
abbrev pub AreBounded : List Group → Type 0
AreBounded [] = Unit {0}
AreBounded (g ∷ gs) = IsBounded g × AreBounded gs

-- the segments of all groups
abbrev pub all_in : List Group → List Edge
all_in [] = []
all_in (g ∷ gs) = edges_in g ++ all_in gs

-- those of the first list that wait stand in the second
abbrev pub KeepsWaiting : List Counted → List Edge → List Edge → Type 0
KeepsWaiting todo from left = (x : Edge) → StandsIn x from → Waits x todo → StandsIn x left

-- the segments of pairs
abbrev pub noted_in : List Pair → List Edge
noted_in [] = []
noted_in (k ∷ ks) = k.0 ∷ k.1.0 ∷ noted_in ks

-- a segment of the first list and one of the second are clear of each other, or stand in pairs
abbrev pub AreFound : List Edge → List Edge → List Pair → Type 0
AreFound xs ys pairs =
    (x y : Edge) → StandsIn x xs → StandsIn y ys → AreClear x y ⊎ (StandsIn x (noted_in pairs) × StandsIn y (noted_in pairs))

-- what stood in pairs does so, and a search that was over is
pub record GoesOn (old new : Search) : Type 0 where
  pub kept : (x : Edge) → StandsIn x (noted_in old.pairs.items) → StandsIn x (noted_in new.pairs.items)
  pub over : new.is_over ≡ false → old.is_over ≡ false

-- unless the search is over, all that meet of two lists were found
pub record Searches (xs ys : List Edge) (old new : Search) : Type 0 where
  pub goes : GoesOn old new
  pub found : new.is_over ≡ false → AreFound xs ys new.pairs.items
