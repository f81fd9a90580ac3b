-- What an attempt in arrays answers.
use Rattle.std.specs.Prelude.{ℕ, List}
use Rattle.std.specs.List.{Contains}
use Rattle.mesh_plane.specs.Plane.{Edge}
use Rattle.mesh_lattice.specs.Clean.{IsClean}
use Rattle.mesh_lattice.specs.Counted.{Counted}
use Rattle.mesh_lattice.specs.Split.{after, EdgeSplit}
use Rattle.mesh_lattice.specs.Nearness.{IsNearness}
use Rattle.mesh_split.specs.Counting.{CountsAmong}
use Rattle.mesh_rounds.specs.Told.{IsToldSplitting}
use Rattle.mesh_split.specs.declared.count.SplitCount.{SplitCount}
use Rattle.mesh_paths.specs.Pieces.{AreReached}
use Rattle.mesh_ahead.specs.Counting.{most_attempts, CountsAfter}

-- the segments that legal splits make of given edges, each once, with its net count, any two of which share only common
-- ends
pub record AreSettled (given : List Edge) (splits : List EdgeSplit) (segments : List Counted) : Type 0 where
  pub reached : AreReached given splits segments
  pub clean : IsClean (after splits given)

-- a splitting of given edges and its nearness, made by one of so many attempts, of which all splits were counted
pub record IsMadeAmong (most : ℕ) (given : List Edge) (old new : SplitCount) (segments : List Counted) (k : ℕ) : Type 0 where
  pub told : IsToldSplitting given segments k
  pub counted : CountsAmong most given old new told.splitting.splits

-- the same of all attempts that are made
abbrev pub IsCountedSplitting : List Edge → SplitCount → SplitCount → List Counted → ℕ → Type 0
IsCountedSplitting = IsMadeAmong most_attempts

-- the segments that a legal splitting makes of edges, and its nearness, made by one of the attempts in arrays, of which all
-- splits were counted, and so many before each
pub record IsMadeAfter (before : ℕ) (edges : List Edge) (old new : SplitCount) (segments : List Counted) (k : ℕ) : Type 0 where
  pub splits : List EdgeSplit
  pub settled : AreSettled edges splits segments
  pub nearness : IsNearness edges splits k
  pub counts : CountsAfter before edges old new
  pub listed : Contains counts.attempts splits
