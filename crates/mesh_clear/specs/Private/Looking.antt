-- What is known while pairs of paths are looked at.
use Rattle.std.specs.Prelude.{ℕ, ◌≡◌, ◌<◌, ◌≤◌, ◌⊎◌, ◌^◌, List, length, slice_index_or}
use Rattle.mesh_meeting.specs.Small.{HasSmallEnds}
use Rattle.mesh_points.specs.Edges.{edge_at}
use Rattle.mesh_pairs.specs.declared.pairs.Meeting.{Meeting}
use Rattle.mesh_pairs.specs.Pairs.{ShareEnd}
use Rattle.mesh_paths.specs.declared.paths.Paths.{Paths}
use Rattle.mesh_paths.specs.Paths.{ArePaths}
use Rattle.mesh_paths.specs.Stops.{count_of, pieces_of, stop_of}
use Rattle.mesh_check.specs.Bent.{line_of, AreClearPaths, ArePointsSmall, IsBentBy}

-- an edge has small coordinates, and its path begins and ends at the edge's ends, by their numbers
pub record IsPathFit (p : Paths) (k : ℕ) : Type 0 where
  pub line : HasSmallEnds (line_of p k)
  pub start : (stop_of p.stops k 0).id ≡ (edge_at p.edges.items k).from
  pub end : (stop_of p.stops k (pieces_of p.stops k)).id ≡ (edge_at p.edges.items k).to

-- paths that can be looked at: fewer than 2^32, all coordinates small, and each begins and ends where its edge does
pub record AreFit (p : Paths) : Type 0 where
  pub paths : ArePaths p
  pub few : count_of p.stops < 2 ^ 32
  pub points : ArePointsSmall p.points
  pub each : (k : ℕ) → k < count_of p.stops → IsPathFit p k

-- how many units the path of a place is bent by
abbrev pub bend_at : List ℕ → ℕ → ℕ
bend_at bends k = slice_index_or bends k 0

-- paths can be looked at, and each is bent by so many units, at most 8
pub record AreBends (p : Paths) (bends : List ℕ) : Type 0 where
  pub fit : AreFit p
  pub count : length bends ≡ count_of p.stops
  pub bent : (k : ℕ) → k < count_of p.stops → IsBentBy p k (bend_at bends k)
  pub few : (k : ℕ) → k < count_of p.stops → bend_at bends k ≤ 8

-- an edge ends at the point of a number
abbrev pub EndsAt : Paths → ℕ → ℕ → Type 0
EndsAt p k id = ((edge_at p.edges.items k).from ≡ id) ⊎ ((edge_at p.edges.items k).to ≡ id)

-- neither of two edges was cut
abbrev pub AreWhole : Paths → ℕ → ℕ → Type 0
AreWhole p j k = (pieces_of p.stops j ≡ 1) × (pieces_of p.stops k ≡ 1)

-- two paths are clear of each other if one of them was cut
abbrev pub AreClearIfCut : Paths → ℕ → ℕ → Type 0
AreClearIfCut p j k = (AreWhole p j k → ⊥) → AreClearPaths p j k

-- so is a path of all later ones that end at the point of a number
abbrev pub IsClearAt : Paths → ℕ → ℕ → Type 0
IsClearAt p j id = (k : ℕ) → j < k → k < count_of p.stops → EndsAt p k id → AreClearIfCut p j k

-- and of all later ones that share an end with it
abbrev pub IsClearAtEnds : Paths → ℕ → Type 0
IsClearAtEnds p j =
    (k : ℕ) → j < k → k < count_of p.stops → ShareEnd (edge_at p.edges.items j) (edge_at p.edges.items k)
    → AreClearIfCut p j k

-- the paths of two edges that met are clear of each other
abbrev pub IsClearMeeting : Paths → Meeting → Type 0
IsClearMeeting p m = AreClearPaths p m.first m.second

-- so are those of a pair
abbrev pub IsClearPair : Paths → ℕ × ℕ → Type 0
IsClearPair p c = AreClearPaths p c.0 c.1
