-- Paths of stops, all in one array, and the edges between them.
use Rattle.std.specs.Prelude.{ℕ, zero, suc, ◌≡◌, ◌≢◌, ◌+◌, ◌<◌, ◌≤◌, ◌⊎◌, List, [], ◌∷◌, length, slice_index_or, pos}
use Rattle.mesh_plane.specs.Plane.{Point, Edge}
use Rattle.mesh_paths.specs.declared.stops.Span.{Span}
use Rattle.mesh_paths.specs.declared.stops.Stop.{Stop}
use Rattle.mesh_paths.specs.declared.stops.Stops.{Stops}

-- no stop and no span, for what lies past the end of a list
abbrev pub no_stop : Stop
no_stop = record { at = (pos 0, pos 0); id = 0 }

abbrev pub no_span : Span
no_span = record { first = 0; pieces = 0; room = 0 }

-- how many paths there are
abbrev pub count_of : Stops → ℕ
count_of s = length s.spans.items

-- where a path stands
abbrev pub span_of : Stops → ℕ → Span
span_of s k = slice_index_or s.spans.items k no_span

-- how many pieces a path has: one less than stops
abbrev pub pieces_of : Stops → ℕ → ℕ
pieces_of s k = (span_of s k).pieces

-- the stop at a place of a path
abbrev pub stop_of : Stops → ℕ → ℕ → Stop
stop_of s k i = slice_index_or s.all.items ((span_of s k).first + i) no_stop

-- its point
abbrev pub point_of : Stops → ℕ → ℕ → Point
point_of s k i = (stop_of s k i).at

-- the first `n` edges between points that follow each other
abbrev pub edges_along : (ℕ → Point) → ℕ → List Edge
edges_along at zero = []
edges_along at (suc n) = (at 0, at 1) ∷ edges_along (λ i. at (suc i)) n

-- the pieces of a path
abbrev pub path_of : Stops → ℕ → List Edge
path_of s k = edges_along (point_of s k) (pieces_of s k)

-- each path has its own room in the array
pub record AreApart (s : Stops) : Type 0 where
  pub within : (k : ℕ) → k < count_of s → (span_of s k).first + (span_of s k).room ≤ length s.all.items
  pub room : (k : ℕ) → k < count_of s → pieces_of s k < (span_of s k).room
  pub apart : (j k : ℕ) → j < count_of s → k < count_of s → j ≢ k
      → ((span_of s j).first + (span_of s j).room ≤ (span_of s k).first)
      ⊎ ((span_of s k).first + (span_of s k).room ≤ (span_of s j).first)

-- each path stands before a place in the array
abbrev pub AreBelow : Stops → ℕ → Type 0
AreBelow s n = (k : ℕ) → k < count_of s → (span_of s k).first + (span_of s k).room ≤ n

-- a path is as it was
pub record IsKept (old new : Stops) (k : ℕ) : Type 0 where
  pub pieces : pieces_of new k ≡ pieces_of old k
  pub stops : (i : ℕ) → i ≤ pieces_of old k → stop_of new k i ≡ stop_of old k i

-- a path of two stops came after the others
pub record IsAdded (old new : Stops) (start end : Stop) : Type 0 where
  pub count : count_of new ≡ count_of old + 1
  pub pieces : pieces_of new (count_of old) ≡ 1
  pub first : stop_of new (count_of old) 0 ≡ start
  pub last : stop_of new (count_of old) 1 ≡ end
  pub others : (k : ℕ) → k < count_of old → IsKept old new k

-- a path got a stop after the one at a place
pub record IsInserted (old new : Stops) (path place : ℕ) (stop : Stop) : Type 0 where
  pub count : count_of new ≡ count_of old
  pub pieces : pieces_of new path ≡ pieces_of old path + 1
  pub before : (i : ℕ) → i ≤ place → stop_of new path i ≡ stop_of old path i
  pub at : stop_of new path (place + 1) ≡ stop
  pub after : (i : ℕ) → place < i → i ≤ pieces_of old path → stop_of new path (i + 1) ≡ stop_of old path i
  pub others : (k : ℕ) → k < count_of old → k ≢ path → IsKept old new k

-- a piece of a path lies between the points of these numbers, in either direction
pub record IsBetweenIds (s : Stops) (path u v place : ℕ) : Type 0 where
  pub within : place < pieces_of s path
  pub ids : (((stop_of s path place).id ≡ u) × ((stop_of s path (place + 1)).id ≡ v))
      ⊎ (((stop_of s path place).id ≡ v) × ((stop_of s path (place + 1)).id ≡ u))
