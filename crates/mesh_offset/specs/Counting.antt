-- Splits that are counted over a whole call, which resolves one list of edges or several.
use Rattle.std.specs.Prelude.{ℕ, ◌+◌, ◌-◌, ◌*◌, ◌≤◌, ◌≡◌, List, length, sum_by}
use Rattle.mesh_plane.specs.Plane.{Edge}
use Rattle.mesh_lattice.specs.Split.{EdgeSplit, IsLegal}
use Rattle.mesh_split.specs.Counting.{counted}
use Rattle.mesh_ahead.specs.Counting.{most_attempts}
use Rattle.mesh_split.specs.declared.count.SplitCount.{SplitCount}

-- an attempt at edges that were drawn: they were split by these legal splits, perhaps not to the end
pub record Attempt (IsDrawn : List Edge → Type 0) : Type 0 where
  pub edges : List Edge
  pub drawn : IsDrawn edges
  pub splits : List EdgeSplit
  pub legal : IsLegal edges splits

-- the splits of attempts were counted on, of no more attempts than are made to split so many lists of edges
pub record CountsAttempts (lists : ℕ) (IsDrawn : List Edge → Type 0) (old new : SplitCount) : Type 0 where
  pub attempts : List (Attempt IsDrawn)
  pub few : length attempts ≤ lists * most_attempts
  pub sum : new ≡ counted old (sum_by (λ (a : Attempt IsDrawn). length a.splits) attempts)

-- the same of attempts of which some stand, with so many splits together, and the others were given up: of each list
-- one fewer at most than are made to split it
pub record CountsStanding (lists : ℕ) (IsDrawn : List Edge → Type 0) (standing : ℕ) (old new : SplitCount) : Type 0 where
  pub given_up : List (Attempt IsDrawn)
  pub few : length given_up ≤ lists * (most_attempts - 1)
  pub sum : new ≡ counted old (standing + sum_by (λ (a : Attempt IsDrawn). length a.splits) given_up)
