-- Answers that are exact away from the given edges. Distances are in 64ths of a grid unit.
use Rattle.std.specs.Prelude.{ℕ, ◌<◌, ◌≡◌, Bool, true, List, map, ℤ}
use Rattle.std.specs.List.{flat_map}
use Rattle.mesh_num.specs.Paths.{contours_of}
use Rattle.mesh_plane.specs.Plane.{Point, Edge}
use Rattle.mesh_plane.specs.Winding.{boundary, winding}
use Rattle.mesh_lattice.specs.Nearness.{IsFarFrom, IsNearness, StaysNear}
use Rattle.mesh_lattice.specs.Split.{after, occurs}
use Rattle.mesh_regions.specs.BoundaryLaws.{once}
use Rattle.mesh_shapes.specs.Contours.{vertices}
use Rattle.mesh_shapes.specs.Resolution.{Choices, IsResolution}
use Rattle.mesh_ahead.specs.Counting.{CountsWith}
use Rattle.mesh_split.specs.declared.count.SplitCount.{SplitCount}
use Rattle.mesh_below.specs.Laws.{AreRegions}

-- an answer is a resolution of edges, and `k` is the nearness of its splits
pub record IsNearResolution (k : ℕ) (edges : List Edge) (fill : ℤ → Bool) (options : Choices)
    (answer : List (List (List Point))) : Type 0 where
  pub resolution : IsResolution edges fill options answer
  pub nearness : IsNearness edges resolution.splits k

-- the same, and its splits were counted on, as those of one attempt
pub record IsCountedResolution (k : ℕ) (edges : List Edge) (fill : ℤ → Bool) (options : Choices)
    (answer : List (List (List Point))) (old new : SplitCount) : Type 0 where
  pub near : IsNearResolution k edges fill options answer
  pub counted : CountsWith edges old new near.resolution.splits

-- an answer is made of regions that are exact at each point farther than `k` from each given edge, on every grid:
-- there the split segments wind as the given edges do, so the contours wind once where these fill and nowhere else; and
-- each point of the answer's edges lies within `k` of a given edge. `k` is the nearness of the splits, and no less
pub record AreRegionsBeyond (k : ℕ) (edges : List Edge) (fill : ℤ → Bool) (options : Choices)
    (answer : List (List (List Point))) : Type 0 where
  pub regions : AreRegions edges fill options answer
  pub nearness : IsNearness edges regions.resolution.splits k
  pub unmoved : (m : ℕ) → 0 < m → (q : Point) → IsFarFrom k m edges q →
      winding m q (after regions.resolution.splits edges) ≡ winding m q edges
  pub exact : (m : ℕ) → 0 < m → (q : Point) → IsFarFrom k m edges q →
      winding m q (flat_map boundary (map (vertices options.all_vertices) regions.resolution.contours))
      ≡ once fill (winding m q edges)
  pub close : (e : Edge) → occurs e (flat_map boundary (contours_of answer)) ≡ true → StaysNear k edges e

-- the same, and the splits that its regions come of were counted on, as those of one attempt
pub record AreCountedRegions (k : ℕ) (edges : List Edge) (fill : ℤ → Bool) (options : Choices)
    (answer : List (List (List Point))) (old new : SplitCount) : Type 0 where
  pub beyond : AreRegionsBeyond k edges fill options answer
  pub counted : CountsWith edges old new beyond.regions.resolution.splits
