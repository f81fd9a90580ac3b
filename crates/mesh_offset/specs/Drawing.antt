-- What edges are promised that are drawn for a contour: they close up, stay near it, and wind as it does with the
-- pieces between.
use Rattle.std.specs.Prelude.{ℕ, List, ℤ, ◌≡◌, ◌+ℤ◌, count_by, pos, cond, neg_ℤ, int_lt}
use Rattle.mesh_plane.specs.Plane.{Point, Edge}
use Rattle.std.specs.List.{All}
use Rattle.mesh_offset.specs.Padding.{IsNear}
use Rattle.mesh_plane.specs.Winding.{IsBalanced, boundary, winding, IsBit, crossing_on, pieces_total, holds}

-- a number with its sign changed for a negative offset
abbrev pub sided : ℤ → ℤ → ℤ
sided offset z = cond (int_lt offset (pos 0)) (neg_ℤ z) z

-- at each point of each grid a piece winds 0 times or once, with the sign of the side that the offset moves to
abbrev pub NeverTurnedRound : ℤ → List (List Point) → Type 0
NeverTurnedRound offset pieces =
    (m : ℕ) (q : Point) → All (λ (piece : List Point). IsBit (sided offset (winding m q (boundary piece)))) pieces

-- at each point of each grid the edges wind as often as the contour and its pieces together
abbrev pub WindAsContourAndPieces : List Point → List (List Point) → List Edge → Type 0
WindAsContourAndPieces points pieces es =
    (m : ℕ) (q : Point) → winding m q es ≡ winding m q (boundary points) +ℤ pieces_total (crossing_on m q) pieces

-- at each point of each grid the edges wind as often as the contour, and once more for each piece that holds the point;
-- for a negative offset once less for each
abbrev pub WindsByCount : ℤ → List Point → List (List Point) → List Edge → Type 0
WindsByCount offset points pieces es =
    (m : ℕ) (q : Point)
    → winding m q es ≡ winding m q (boundary points) +ℤ sided offset (pos (count_by (holds m q) pieces))

-- edges that are drawn for a contour of these points, with the pieces between, whose side the sign of the offset tells
pub record AreDrawn (padding offset : ℤ) (points : List Point) (between : List (List Point)) (es : List Edge)
    : Type 0 where
  -- they close up: as many of them end in a point as start there
  pub balanced : IsBalanced es
  -- both ends of each are near a vertex of the contour
  pub near : All (λ (e : Edge). IsNear padding points e.0 × IsNear padding points e.1) es
  -- they wind as the contour and its pieces together
  pub sum : WindAsContourAndPieces points between es
  -- no piece is turned round
  pub pieces : NeverTurnedRound offset between
  -- they wind as often as the contour, and once more for each piece that holds the point, once less for a negative
  -- offset
  pub count : WindsByCount offset points between es
