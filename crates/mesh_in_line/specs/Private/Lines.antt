-- The ends along lines in their order, and where edges lie among them.
use Rattle.std.specs.Prelude.{ℕ, zero, suc, ◌≡◌, ◌+◌, ◌-◌, ◌<◌, ◌≤◌, ◌⊎◌, Bool, true, false, cond, List, [], ◌∷◌, ◌++◌, length, slice_index_or, pos, IsTrue}
use Rattle.mesh_plane.specs.Order.{point_lt}
use Rattle.mesh_plane.specs.Plane.{Point, Edge}
use Rattle.mesh_lattice.specs.Split.{occurs, is_end, EdgeSplit}
use Rattle.mesh_in_line.specs.declared.spans.Span.{Span}

-- a point with its coordinates swapped if lines are level
abbrev pub turned : Bool → Point → Point
turned level p = cond level (p.1, p.0) p

-- the edge runs along its direction
abbrev pub IsAlong : Bool → Edge → Type 0
IsAlong level e = (turned level e.0).0 ≡ (turned level e.1).0

-- the point of a place, not turned
abbrev pub point_at : Bool → List Point → ℕ → Point
point_at level ps k = turned level (slice_index_or ps k (pos 0, pos 0))

-- each place comes before the next
pub record AreRising (ps : List Point) : Type 0 where
  pub rising : (k : ℕ) → k + 1 < length ps → IsTrue (point_lt (slice_index_or ps k (pos 0, pos 0)) (slice_index_or ps (k + 1) (pos 0, pos 0)))

-- an edge of a list ends at a point
pub record IsEndOfSome (es : List Edge) (p : Point) : Type 0 where
  pub edge : Edge
  pub listed : occurs edge es ≡ true
  pub end : is_end p edge ≡ true

-- an edge runs along its direction, from one place to another
pub record IsSpan (level : Bool) (ps : List Point) (e : Edge) (s : Span) : Type 0 where
  pub within : s.to < length ps
  pub rising : s.from < s.to
  pub along : IsAlong level e
  pub ends : e ≡ cond s.is_back (point_at level ps s.to, point_at level ps s.from) (point_at level ps s.from, point_at level ps s.to)

-- an edge has no places, since it does not run along the direction
pub record IsBeside (level : Bool) (e : Edge) (s : Span) : Type 0 where
  pub same : s.from ≡ s.to
  pub beside : IsAlong level e → ⊥

-- where an edge lies
abbrev pub IsPlaced : Bool → List Point → Edge → Span → Type 0
IsPlaced level ps e s = IsBeside level e s ⊎ IsSpan level ps e s

abbrev pub no_edge : Edge
no_edge = ((pos 0, pos 0), (pos 0, pos 0))

abbrev pub no_span : Span
no_span = record { from = 0; to = 0; is_back = false }

abbrev pub span_at : List Span → ℕ → Span
span_at spans k = slice_index_or spans k no_span

-- where all edges of a list lie
pub record ArePlaced (level : Bool) (ps : List Point) (es : List Edge) (spans : List Span) : Type 0 where
  pub many : length spans ≡ length es
  pub placed : (k : ℕ) → k < length es → IsPlaced level ps (slice_index_or es k no_edge) (span_at spans k)

-- an edge leads from one place to another
pub record LeadsTo (spans : List Span) (from to : ℕ) : Type 0 where
  pub edge : ℕ
  pub within : edge < length spans
  pub starts : (span_at spans edge).from ≡ from
  pub ends : (span_at spans edge).to ≡ to

-- of the first edges those that lead to a place come from the noted one at the least, and one does, unless it is the place
pub record AreFirsts (spans : List Span) (count places : ℕ) (firsts : List ℕ) : Type 0 where
  pub many : length firsts ≡ places
  pub below : (k : ℕ) → k < places → slice_index_or firsts k 0 ≤ k
  pub least : (j : ℕ) → j < count → (span_at spans j).from < (span_at spans j).to
      → slice_index_or firsts (span_at spans j).to 0 ≤ (span_at spans j).from
  pub led : (k : ℕ) → k < places → slice_index_or firsts k 0 < k → LeadsTo spans (slice_index_or firsts k 0) k

-- the splits that cut an edge from a place to another at so many places after the first, the latest of them first
abbrev pub cuts : (ℕ → Point) → ℕ → ℕ → ℕ → List EdgeSplit
cuts a to from zero = []
cuts a to from (suc m) = (record { ends = (a (from + m), a to); at = a (from + m + 1) }) ∷ cuts a to from m

-- those that cut the edges to so many first places
abbrev pub cuts_to : (ℕ → Point) → List ℕ → ℕ → List EdgeSplit
cuts_to a firsts zero = []
cuts_to a firsts (suc k) = cuts a k (slice_index_or firsts k 0) (k - (slice_index_or firsts k 0 + 1)) ++ cuts_to a firsts k

-- the edges from a place over the next ones, so many
abbrev pub onward : (ℕ → Point) → ℕ → ℕ → List Edge
onward a from zero = []
onward a from (suc m) = onward a from m ++ (a (from + m), a (from + m + 1)) ∷ []

-- the same the other way about
abbrev pub backward : (ℕ → Point) → ℕ → ℕ → List Edge
backward a from zero = []
backward a from (suc m) = (a (from + m + 1), a (from + m)) ∷ backward a from m

-- what an edge that lies so becomes
abbrev pub pieces_of : Bool → List Point → Span → List Edge
pieces_of level ps s =
    cond s.is_back (backward (point_at level ps) s.from (s.to - s.from)) (onward (point_at level ps) s.from (s.to - s.from))
