-- What is told of a splitting.
use Rattle.std.specs.Prelude.{ℕ, List}
use Rattle.mesh_plane.specs.Plane.{Edge}
use Rattle.mesh_lattice.specs.Counted.{Counted}
use Rattle.mesh_lattice.specs.Nearness.{IsNearness}
use Rattle.mesh_lattice.specs.Splitting.{IsSplitting}
use Rattle.mesh_split.specs.Counting.{CountsWith}
use Rattle.mesh_split.specs.declared.count.SplitCount.{SplitCount}

-- a splitting of the given edges, and the nearness of its splits in 64ths of a grid unit
pub record IsToldSplitting (given : List Edge) (segments : List Counted) (k : ℕ) : Type 0 where
  pub splitting : IsSplitting given segments
  pub nearness : IsNearness given splitting.splits k

-- the same, and its splits were counted, as those of one attempt
pub record IsCountedSplitting (given : List Edge) (old new : SplitCount) (segments : List Counted) (k : ℕ) : Type 0 where
  pub told : IsToldSplitting given segments k
  pub counted : CountsWith given old new told.splitting.splits
