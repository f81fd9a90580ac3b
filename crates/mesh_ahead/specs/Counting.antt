-- How the splits of a call are counted: those of an attempt in arrays, and those of the splitting in rounds.
use Rattle.std.specs.Prelude.{ℕ, ◌≡◌, ◌≤◌, ◌+◌, List, length, sum_by}
use Rattle.std.specs.List.{All}
use Rattle.mesh_plane.specs.Plane.{Edge}
use Rattle.mesh_lattice.specs.Split.{EdgeSplit, IsLegal}
use Rattle.mesh_split.specs.Counting.{counted, CountsAmong, CountsAtMost}
use Rattle.mesh_split.specs.declared.count.SplitCount.{SplitCount}

-- so often edges are cut anew in arrays, at most
abbrev pub most_anew : ℕ
most_anew = 3

-- so many attempts are made in arrays, at most
abbrev pub attempts_in_arrays : ℕ
attempts_in_arrays = 4

-- so many are made to split edges, at most: these, and 47 where arrays do not serve
abbrev pub most_attempts : ℕ
most_attempts = 51

-- the splits of all attempts to split some edges were counted on
abbrev pub CountsSplits : List Edge → SplitCount → SplitCount → Type 0
CountsSplits = CountsAtMost most_attempts

-- the same, and one of the attempts made just these splits
abbrev pub CountsWith : List Edge → SplitCount → SplitCount → List EdgeSplit → Type 0
CountsWith = CountsAmong most_attempts

-- the splits of so many attempts at most at some edges, each a list of legal splits, were counted on, and so many more for
-- each that were made before it
pub record CountsEach (most before : ℕ) (edges : List Edge) (old new : SplitCount) : Type 0 where
  pub attempts : List (List EdgeSplit)
  pub few : length attempts ≤ most
  pub legal : All (IsLegal edges) attempts
  pub sum : new ≡ counted old (sum_by (λ splits. before + length splits) attempts)

-- the same of attempts in arrays
abbrev pub CountsAfter : ℕ → List Edge → SplitCount → SplitCount → Type 0
CountsAfter = CountsEach attempts_in_arrays
