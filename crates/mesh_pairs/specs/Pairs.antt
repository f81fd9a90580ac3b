-- Which of many edges meet, which are close, and which stay clear of each other however they are bent.
use Rattle.std.specs.Prelude.{ℕ, ◌≡◌, ◌+◌, ◌*◌, ◌^◌, ◌<◌, ◌⊎◌, Bool, ◌||◌, List, length, slice_index, nat_eq}
use Rattle.std.specs.List.{All, Contains, count_by}
use Rattle.mesh_plane.specs.Bounds.{IsSafe}
use Rattle.mesh_plane.specs.Plane.{Point, Edge}
use Rattle.mesh_lattice.specs.Clean.{refined_edge}
use Rattle.mesh_lattice.specs.Nearness.{IsNearTo}
use Rattle.mesh_lattice.specs.Split.{AreClear, IsCrossing, IsInBox, IsInside}
use Rattle.mesh_points.specs.declared.edges.NumberedEdge.{NumberedEdge}
use Rattle.mesh_points.specs.Edges.{edge_at}
use Rattle.mesh_pairs.specs.declared.pairs.Meeting.{Meeting}
use Rattle.mesh_pairs.specs.declared.pairs.Pairs.{Pairs}
use Rattle.mesh_pairs.specs.declared.pairs.TheConstants.{NO_POINT}

-- an edge that is bent by at most `k` units, and stays in its own box, may pass this point of the grid `m`
pub record MayPass (k m : ℕ) (e : Edge) (z : Point) : Type 0 where
  pub in_box : IsInBox (refined_edge m e) z
  pub near : IsNearTo (64 * k) m e z

-- two edges stay clear of each other however each is bent so: no point of any grid may be passed by both
abbrev pub StayClear : ℕ → Edge → Edge → Type 0
StayClear k e f = (m : ℕ) → 0 < m → (z : Point) → MayPass k m e z → MayPass k m f z → ⊥

-- the boxes of two edges have no point in common, on any grid
abbrev pub AreBoxesApart : Edge → Edge → Type 0
AreBoxesApart e f =
    (m : ℕ) → 0 < m → (z : Point) → IsInBox (refined_edge m e) z → IsInBox (refined_edge m f) z → ⊥

-- the ends of the edge of a place
abbrev pub ends_at : List NumberedEdge → ℕ → Edge
ends_at es k = ((edge_at es k).start, (edge_at es k).end)

-- all coordinates are below 2^30 in size
abbrev pub AreSmall : List NumberedEdge → Type 0
AreSmall es = (k : ℕ) → k < length es → IsSafe (2 ^ 30) (edge_at es k).start × IsSafe (2 ^ 30) (edge_at es k).end

-- two edges have an end in common, by the numbers of their ends
pub data ShareEnd : NumberedEdge → NumberedEdge → Type 0 where
  at_both_starts : {e f : NumberedEdge} → e.from ≡ f.from → ShareEnd e f
  from_start_to_end : {e f : NumberedEdge} → e.from ≡ f.to → ShareEnd e f
  from_end_to_start : {e f : NumberedEdge} → e.to ≡ f.from → ShareEnd e f
  at_both_ends : {e f : NumberedEdge} → e.to ≡ f.to → ShareEnd e f

-- a number and a point are those of an end of an edge
abbrev pub IsEndOf : NumberedEdge → ℕ → Point → Type 0
IsEndOf e n p = ((n ≡ e.from) × (p ≡ e.start)) ⊎ ((n ≡ e.to) × (p ≡ e.end))

-- a meeting is of two edges that cross, or of one and an end of the other that lies inside it
pub record IsMeeting (es : List NumberedEdge) (m : Meeting) : Type 0 where
  pub first : m.first < length es
  pub second : m.second < length es
  pub two : m.first ≡ m.second → ⊥
  pub met : ((m.end ≡ NO_POINT) × IsCrossing (ends_at es m.first) (ends_at es m.second))
      ⊎ (IsEndOf (edge_at es m.second) m.end m.near × IsInside (ends_at es m.first) m.near)

-- a close pair is of two edges that neither meet nor share an end, the earlier one first
pub record IsClose (es : List NumberedEdge) (c : ℕ × ℕ) : Type 0 where
  pub rising : c.0 < c.1
  pub within : c.1 < length es
  pub clear : AreClear (ends_at es c.0) (ends_at es c.1)
  pub unshared : ShareEnd (edge_at es c.0) (edge_at es c.1) → ⊥

-- a meeting is of these two edges
abbrev pub IsOf : Meeting → ℕ → ℕ → Type 0
IsOf m i j = ((m.first ≡ i) × (m.second ≡ j)) ⊎ ((m.first ≡ j) × (m.second ≡ i))

-- a meeting is of this edge and another one
abbrev pub names : ℕ → Meeting → Bool
names k m = nat_eq m.first k || nat_eq m.second k

-- nothing more is to be known of two edges: a meeting of them is listed, or they as a close pair, or they stay clear
-- of each other while each is bent by at most 8 units, or they share an end and else do not meet
pub data IsSettled (es : List NumberedEdge) (meetings : List Meeting) (close : List (ℕ × ℕ)) (i j : ℕ) : Type 0 where
  is_meeting : {m : Meeting} → Contains meetings m → IsOf m i j → IsSettled es meetings close i j
  is_close : Contains close (i, j) → IsSettled es meetings close i j
  stay_clear : StayClear 8 (ends_at es i) (ends_at es j) → IsSettled es meetings close i j
  share_end : ShareEnd (edge_at es i) (edge_at es j) → AreClear (ends_at es i) (ends_at es j)
      → IsSettled es meetings close i j

-- what is listed is so, and each edge has room for its meetings and two more
pub record AreListed (es : List NumberedEdge) (p : Pairs) : Type 0 where
  pub meetings : All (IsMeeting es) p.meetings.items
  pub close : All (IsClose es) p.close.items
  pub rooms : length p.room.items ≡ length es
  pub room : (k : ℕ) → k < length es → slice_index p.room.items k ≡ 2 + count_by (names k) p.meetings.items

-- all pairs of edges are settled
pub record AreFound (es : List NumberedEdge) (p : Pairs) : Type 0 where
  pub listed : AreListed es p
  pub settled : (i j : ℕ) → i < j → j < length es → IsSettled es p.meetings.items p.close.items i j
