-- Splitting: where two segments meet, and the splits that this allows.
-- Edges are directed; a segment is a pair of ends, whichever way the edges between them run.
use Rattle.std.specs.Prelude.{◌≡◌, ◌⊎◌, Bool, true, false, cond, ◌&&◌, ◌||◌, List, [], ◌∷◌, ◌++◌, ℤ, pos, negsuc, suc}
use Rattle.std.specs.Prelude.{◌+ℤ◌, ◌-ℤ◌, ◌*ℤ◌, ◌≤ℤ◌, ◌<ℤ◌, neg_ℤ}
use Rattle.mesh_plane.specs.Plane.{Point, Edge, turn}
use Rattle.mesh_plane.specs.Rounding.{rounded}
use Rattle.mesh_plane.specs.Winding.{same_point}

-- the edge the other way about
abbrev pub back : Edge → Edge
back e = (e.1, e.0)

-- the same edge, direction included
unfoldable pub same_edge : Edge → Edge → Bool
same_edge e f = same_point e.0 f.0 && same_point e.1 f.1

-- the same two ends: the same segment
unfoldable pub same_ends : Edge → Edge → Bool
same_ends e f = same_edge e f || same_edge e (back f)

-- whether a point is one of an edge's two ends
unfoldable pub is_end : Point → Edge → Bool
is_end c e = same_point c e.0 || same_point c e.1

-- whether a segment stands in a list of edges
abbrev pub occurs : Edge → List Edge → Bool
occurs e [] = false
occurs e (f ∷ fs) = same_ends e f || occurs e fs

-- `z` between `a` and `b`, whichever of the two is less
pub record IsBetween (a z b : ℤ) : Type 0 where
  pub up : a ≤ℤ b → (a ≤ℤ z) × (z ≤ℤ b)
  pub down : b ≤ℤ a → (b ≤ℤ z) × (z ≤ℤ a)

-- in the closed rectangle of an edge's two ends
pub record IsInBox (e : Edge) (c : Point) : Type 0 where
  pub by_x : IsBetween e.0.0 c.0 e.1.0
  pub by_y : IsBetween e.0.1 c.1 e.1.1

-- inside an edge: on it, and no end of it
pub record IsInside (e : Edge) (c : Point) : Type 0 where
  pub on_line : turn e.0 e.1 c ≡ pos 0
  pub in_box : IsInBox e c
  pub no_end : is_end c e ≡ false

-- one above 0 and the other below
abbrev pub AreOpposite : ℤ → ℤ → Type 0
AreOpposite s t = ((pos 0 <ℤ s) × (t <ℤ pos 0)) ⊎ ((s <ℤ pos 0) × (pos 0 <ℤ t))

-- two edges cross properly: the line of each parts the ends of the other
pub record IsCrossing (e f : Edge) : Type 0 where
  pub second_parted : AreOpposite (turn e.0 e.1 f.0) (turn e.0 e.1 f.1)
  pub first_parted : AreOpposite (turn f.0 f.1 e.0) (turn f.0 f.1 e.1)

-- the whole number next to a quotient, halves away from zero; the divisor may be below 0
abbrev pub rounded_quotient : ℤ → ℤ → ℤ
rounded_quotient n (pos d) = rounded n d
rounded_quotient n (negsuc d) = rounded (neg_ℤ n) (suc d)

-- where an edge that starts `n` beside a line and ends `n - d` beside it crosses the line, as a coordinate from `a` to `b`
abbrev pub crossing_at : ℤ → ℤ → ℤ → ℤ → ℤ
crossing_at a b n d = rounded_quotient ((a *ℤ d) +ℤ ((b -ℤ a) *ℤ n)) d

-- the crossing of the lines of two edges, both coordinates rounded
abbrev pub rounded_crossing : Edge → Edge → Point
rounded_crossing e f =
    let n = turn f.0 f.1 e.0 in
    let d = n -ℤ turn f.0 f.1 e.1 in
    (crossing_at e.0.0 e.1.0 n d, crossing_at e.0.1 e.1.1 n d)

-- two edges share a point inside one of them: an end of one lies inside the other, or they cross; `c` is where they are
-- split
pub data Meets : Edge → Edge → Point → Type 0 where
  at_start_of_second : {e f : Edge} → IsInside e f.0 → Meets e f f.0
  at_end_of_second : {e f : Edge} → IsInside e f.1 → Meets e f f.1
  at_start_of_first : {e f : Edge} → IsInside f e.0 → Meets e f e.0
  at_end_of_first : {e f : Edge} → IsInside f e.1 → Meets e f e.1
  at_crossing : {e f : Edge} → IsCrossing e f → Meets e f (rounded_crossing e f)

-- a split: the edges with these ends, in either direction, are split at this point
pub record EdgeSplit : Type 0 where
  pub ends : Edge
  pub at : Point

-- what a cut leaves of an edge: two edges where it splits it, else the edge
abbrev pub split_edge : EdgeSplit → Edge → List Edge
split_edge k e = cond (same_ends e k.ends) ((e.0, k.at) ∷ (k.at, e.1) ∷ []) (e ∷ [])

-- the edges after one split
abbrev pub split_by : EdgeSplit → List Edge → List Edge
split_by k [] = []
split_by k (e ∷ es) = split_edge k e ++ split_by k es

-- the edges after a list of splits, the latest of them first
abbrev pub after : List EdgeSplit → List Edge → List Edge
after [] es = es
after (k ∷ ks) es = split_by k (after ks es)

-- the path that a given edge has become
abbrev pub path : List EdgeSplit → Edge → List Edge
path ks e = after ks (e ∷ [])

-- one more split, of an edge at a point, unless that is its end
abbrev pub add_split : Edge → Point → List EdgeSplit → List EdgeSplit
add_split e c ks = cond (is_end c e) ks ((record { ends = e; at = c }) ∷ ks)

-- the splits are those of a list of legal splits, the latest first: each split takes two segments that meet
-- and splits both where they meet
pub data IsLegal : List Edge → List EdgeSplit → Type 0 where
  no_cut : {given : List Edge} → IsLegal given []
  split : {given : List Edge} {ks : List EdgeSplit} {e f : Edge} {c : Point} → IsLegal given ks
      → occurs e (after ks given) ≡ true → occurs f (after ks given) ≡ true → Meets e f c
      → IsLegal given (add_split f c (add_split e c ks))

-- no point at which two segments would have to be split
abbrev pub AreClear : Edge → Edge → Type 0
AreClear e f = (c : Point) → Meets e f c → ⊥
