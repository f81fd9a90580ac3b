-- How the splits of a call are counted, and when they pass a limit.
use Rattle.std.specs.Prelude.{ℕ, ◌+◌, ◌-◌, ◌^◌, ◌≤◌, ◌<◌, ◌≡◌, ◌⊎◌, List, length, min, sum_by}
use Rattle.std.specs.List.{All, Contains}
use Rattle.mesh_plane.specs.Plane.{Edge}
use Rattle.mesh_lattice.specs.Split.{EdgeSplit, IsLegal}
use Rattle.mesh_split.specs.declared.count.SplitCount.{SplitCount}
use Rattle.mesh_split.specs.declared.count.SplitError.{SplitError}
use Rattle.mesh_split.specs.declared.count.SplitError.TheVariants.{OutOfMemory, TooManySplits}

-- a count with so many more splits
abbrev pub counted : SplitCount → ℕ → SplitCount
counted c more = record { made = min (c.made + more) (2 ^ 64 - 1); most = c.most }

-- the splits of so many attempts at most at some edges, each a list of legal splits, were counted on
pub record CountsAtMost (most : ℕ) (given : List Edge) (old new : SplitCount) : Type 0 where
  pub attempts : List (List EdgeSplit)
  pub few : length attempts ≤ most
  pub legal : All (IsLegal given) attempts
  pub sum : new ≡ counted old (sum_by length attempts)

-- the same, and one of the attempts made just these splits
pub record CountsAmong (most : ℕ) (given : List Edge) (old new : SplitCount) (splits : List EdgeSplit) : Type 0 where
  pub counts : CountsAtMost most given old new
  pub listed : Contains counts.attempts splits

-- so many attempts are made to split edges, at most: two in rounds, one where splits are made one by one, and each of the
-- eleven times that these are begun anew three at some of the edges alone and one more at all
abbrev pub most_attempts : ℕ
most_attempts = 47

-- the splits of all attempts to split some edges were counted on
abbrev pub CountsSplits : List Edge → SplitCount → SplitCount → Type 0
CountsSplits = CountsAtMost most_attempts

-- the same, and one of the attempts made just these splits
abbrev pub CountsWith : List Edge → SplitCount → SplitCount → List EdgeSplit → Type 0
CountsWith = CountsAmong most_attempts

-- no limit is set, or the splits that were made do not pass it
abbrev pub IsWithinLimit : SplitCount → Type 0
IsWithinLimit c = (c.most ≡ 0) ⊎ (c.made ≤ c.most)

-- a limit is set, and the splits that were made pass it
abbrev pub IsPastLimit : SplitCount → Type 0
IsPastLimit c = (0 < c.most) × (c.most < c.made)

-- when a splitting is refused: memory says nothing of the count
abbrev pub IsReason : SplitError → SplitCount → Type 0
IsReason OutOfMemory c = Unit {0}
IsReason TooManySplits c = IsPastLimit c
