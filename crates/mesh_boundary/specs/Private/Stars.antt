-- Ends of segments listed by the points where they are, and what leaves a point, as a sum over such a list. An end is
-- the index of a segment, and whether the segment starts there.
use Rattle.std.specs.Prelude.{ℕ, ◌+◌, ◌≡◌, ◌<◌, Bool, true, false, cond, List, [], ◌∷◌, ◌++◌, map}
use Rattle.std.specs.Prelude.{length, slice_index_or, nat_eq, ℤ, pos, neg_ℤ, ◌*ℤ◌, zero, suc}
use Rattle.std.specs.List.{All}
use Rattle.mesh_plane.specs.Plane.{Point, Edge}
use Rattle.mesh_plane.specs.Winding.{sum_of}
use Rattle.mesh_lattice.specs.Counted.{Counted, bit, net}
use Rattle.mesh_lattice.specs.Split.{back, occurs}
use Rattle.mesh_points.specs.Points.{IsNumberOf}
use Rattle.mesh_regions.specs.SideLaws.{AreSplit}
use Rattle.mesh_regions.specs.Star.{leaves_before, net_before}

-- places that are the numbers of points, where these have one
abbrev pub ArePlaces : (Point → ℕ) → List Point → Type 0
ArePlaces at ps = (p : Point) (k : ℕ) → IsNumberOf ps p k → at p ≡ k

-- the places of an edge's ends
abbrev pub ends_at : (Point → ℕ) → Edge → ℕ × ℕ
ends_at at e = (at e.0, at e.1)

-- the part of a place: from which index on its ends stand, and how many
abbrev pub part : List (ℕ × ℕ) → ℕ → ℕ × ℕ
part parts i = slice_index_or parts i (0, 0)

-- so many ends from an index on
abbrev pub run : List (ℕ × Bool) → ℕ → ℕ → List (ℕ × Bool)
run members first zero = []
run members first (suc n) = run members first n ++ slice_index_or members (first + n) (0, false) ∷ []

-- the ends listed at a place
abbrev pub star_at : List (ℕ × ℕ) → List (ℕ × Bool) → ℕ → List (ℕ × Bool)
star_at parts members i = run members (part parts i).0 (part parts i).1

-- the segment with an index
abbrev pub segment : List Counted → ℕ → Counted
segment ks i = slice_index_or ks i (((pos 0, pos 0), (pos 0, pos 0)), pos 0)

-- the segment the other way about
abbrev pub turned : Counted → Counted
turned k = (back k.0, neg_ℤ k.1)

-- the segment directed away from one of its ends
abbrev pub leaving : List Counted → ℕ × Bool → Counted
leaving ks x = cond x.1 (segment ks x.0) (turned (segment ks x.0))

-- the segments directed away from these ends
abbrev pub fan_of : List Counted → List (ℕ × Bool) → List Counted
fan_of ks star = map (leaving ks) star

-- a list of one element, or of none
abbrev pub one_if : Bool → ℕ × Bool → List (ℕ × Bool)
one_if b x = cond b (x ∷ []) []

-- the ends of the first segments that have a place
abbrev pub listed : (Point → ℕ) → List Counted → ℕ → ℕ → List (ℕ × Bool)
listed at ks i zero = []
listed at ks i (suc n) =
    (listed at ks i n ++ one_if (nat_eq i (at (segment ks n).0.0)) (n, true))
    ++ one_if (nat_eq i (at (segment ks n).0.1)) (n, false)

-- the ends in a part have the indices of so many segments
pub record IsParted (parts : List (ℕ × ℕ)) (members : List (ℕ × Bool)) (count : ℕ) : Type 0 where
  pub room : (i j : ℕ) → j < (part parts i).1 → (part parts i).0 + j < length members
  pub within : (i j : ℕ) → j < (part parts i).1
      → (slice_index_or members ((part parts i).0 + j) (0, false)).0 < count

-- an end was added at the end of the list of a place
pub record IsFiled (parts : List (ℕ × ℕ)) (members : List (ℕ × Bool)) (new : List (ℕ × ℕ)) (filled : List (ℕ × Bool))
    (i : ℕ) (x : ℕ × Bool) : Type 0 where
  pub lists : (j : ℕ) → star_at new filled j ≡ star_at parts members j ++ one_if (nat_eq j i) x

-- both ends of a segment were added, at their places
pub record AreBothFiled (parts : List (ℕ × ℕ)) (members : List (ℕ × Bool)) (new : List (ℕ × ℕ))
    (filled : List (ℕ × Bool)) (ends : ℕ × ℕ) (k : ℕ) : Type 0 where
  pub lists : (j : ℕ) → star_at new filled j
      ≡ (star_at parts members j ++ one_if (nat_eq j ends.0) (k, true)) ++ one_if (nat_eq j ends.1) (k, false)

-- the ends of the first segments are listed at their places
pub record AreListed (at : Point → ℕ) (parts : List (ℕ × ℕ)) (members : List (ℕ × Bool)) (ks : List Counted) (n : ℕ)
    : Type 0 where
  pub lists : (i : ℕ) → star_at parts members i ≡ listed at ks i n

-- each end of a segment has its place, and is listed there
pub record AreStarsAt (at : Point → ℕ) (parts : List (ℕ × ℕ)) (members : List (ℕ × Bool)) (ends : List (ℕ × ℕ))
    (ks : List Counted) : Type 0 where
  pub parted : IsParted parts members (length ks)
  pub places : ends ≡ map (λ (k : Counted). ends_at at k.0) ks
  pub listed : AreListed at parts members ks (length ks)

-- the same, with some place for each point
abbrev pub AreStars : List (ℕ × ℕ) → List (ℕ × Bool) → List (ℕ × ℕ) → List Counted → Type 0
AreStars parts members ends ks = (at : Point → ℕ) × AreStarsAt at parts members ends ks

-- how often counted segments leave the point where `e` starts before `e`
abbrev pub counted_before : Edge → List Counted → ℤ
counted_before e fan = sum_of (λ (k : Counted). k.1 *ℤ bit (leaves_before e k.0)) fan

-- a counted segment stands among edges, with its net count
pub record IsSegment (es : List Edge) (k : Counted) : Type 0 where
  pub stands : occurs k.0 es ≡ true
  pub net : net k.0 es ≡ k.1

-- counted segments tell of all edges that leave a point or come in there
abbrev pub IsStar : List Edge → Point → List Counted → Type 0
IsStar es v fan = (w : Point) → counted_before (v, w) fan ≡ net_before (v, w) es

-- segments count split edges
pub record CountSplit (es : List Edge) (ks : List Counted) : Type 0 where
  pub split : AreSplit es
  pub segments : All (IsSegment es) ks

-- an edge is the segment that leaves at one of these ends
pub record IsAmong (ks : List Counted) (star : List (ℕ × Bool)) (f : Edge) : Type 0 where
  pub place : ℕ
  pub within : place < length star
  pub same : (leaving ks (slice_index_or star place (0, false))).0 ≡ f

-- all edges that leave a point do so at one of these ends
abbrev pub AreAllAt : List Edge → List Counted → Point → List (ℕ × Bool) → Type 0
AreAllAt es ks v star = (f : Edge) → occurs f es ≡ true → f.0 ≡ v → IsAmong ks star f

-- segments count split edges, and lists have the stars of these
pub record HaveStars (es : List Edge) (ks : List Counted) (parts : List (ℕ × ℕ)) (members : List (ℕ × Bool))
    (ends : List (ℕ × ℕ)) : Type 0 where
  pub at : Point → ℕ
  pub counts : CountSplit es ks
  pub places : ends ≡ map (λ (k : Counted). ends_at at k.0) ks
  pub stars : (v : Point) → IsStar es v (fan_of ks (star_at parts members (at v)))
  pub all : (v : Point) → AreAllAt es ks v (star_at parts members (at v))
