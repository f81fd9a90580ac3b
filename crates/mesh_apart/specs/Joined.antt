-- What resolutions of drawings that lie apart are together.
use Rattle.std.specs.Prelude.{◌≡◌, ◌⊎◌, Bool, true, cond, ◌&&◌, List, [], ◌∷◌, ◌++◌, map, ℤ, pos, int_lt}
use Rattle.std.specs.List.{All, filter, list_any}
use Rattle.std.specs.List.Sorted.{IsSortedBy}
use Rattle.mesh_plane.specs.Plane.{Point, Edge}
use Rattle.mesh_plane.specs.Winding.{holds}
use Rattle.mesh_lattice.specs.Split.{after}
use Rattle.mesh_shapes.specs.Contours.{double_area, reversed}
use Rattle.mesh_shapes.specs.Resolution.{Choices, Ring, ring_of, is_large, points_lt, IsResolution}
use Rattle.mesh_apart.specs.Apart.{Piece, IsBoxed, edges_in, ArePiecesApart}
use Rattle.mesh_apart.specs.Joins.{IsJoin, JoinsAll}

-- the rings of contours, the small ones left out
abbrev pub rings_of : Choices → List (List Point) → List Ring
rings_of options contours = filter (is_large options.least_area) (map (ring_of options.all_vertices) contours)

-- a resolution of the edges of two lists has the splits, the segments and the contours of a resolution of each
pub record IsJoint (first second : List Piece) {fill : ℤ → Bool} {options : Choices} {x y : List (List (List Point))}
    (r : IsResolution (edges_in first) fill options x) (s : IsResolution (edges_in second) fill options y)
    (z : List (List (List Point))) : Type 0 where
  pub resolution : IsResolution (edges_in first ++ edges_in second) fill options z
  pub splits : resolution.splits ≡ r.splits ++ s.splits
  pub segments : after resolution.splits (edges_in first ++ edges_in second)
      ≡ after r.splits (edges_in first) ++ after s.splits (edges_in second)
  pub contours : resolution.contours ≡ r.contours ++ s.contours

-- ---- shapes

-- the vertices that a shape's place in an answer goes by: those of its first contour, as they run before reversal
abbrev pub leading : Bool → List (List Point) → List Point
leading clockwise [] = []
leading clockwise (contour ∷ contours) = cond clockwise (reversed contour) contour

-- the order of shapes
abbrev pub shape_lt : Bool → List (List Point) → List (List Point) → Bool
shape_lt clockwise s t = points_lt (leading clockwise s) (leading clockwise t)

-- two answers have one join that is in the order of shapes, and it is a resolution of all edges
pub record AreJoined (edges : List Edge) (fill : ℤ → Bool) (options : Choices) (x y : List (List (List Point)))
    : Type 0 where
  pub shapes : List (List (List Point))
  pub joins : IsJoin x y shapes
  pub ordered : IsSortedBy (shape_lt options.clockwise) shapes
  pub only : (z : List (List (List Point))) → IsJoin x y z → IsSortedBy (shape_lt options.clockwise) z → z ≡ shapes
  pub resolution : IsResolution edges fill options shapes

-- the same of several answers
pub record AreAllJoined (edges : List Edge) (fill : ℤ → Bool) (options : Choices)
    (answers : List (List (List (List Point)))) : Type 0 where
  pub shapes : List (List (List Point))
  pub joins : JoinsAll answers shapes
  pub ordered : IsSortedBy (shape_lt options.clockwise) shapes
  pub only : (z : List (List (List Point))) → JoinsAll answers z → IsSortedBy (shape_lt options.clockwise) z
      → z ≡ shapes
  pub resolution : IsResolution edges fill options shapes

-- ---- holes

-- a ring of positive area that winds round the other's side point
abbrev pub surrounds : Ring → Ring → Bool
surrounds h r = int_lt (pos 0) (double_area h.0) && holds 2 r.1 h.0

-- of the list, a ring surrounds `r` and has less area than `k`
abbrev pub has_smaller : List Ring → Ring → Ring → Bool
has_smaller own r k = list_any (λ (h : Ring). surrounds h r && int_lt (double_area h.0) (double_area k.0)) own

-- a ring has positive area, and so heads a shape; or for each of the others that surrounds it, one of its own list does
-- that is smaller
abbrev pub IsHeldByOwn : List Ring → List Ring → Ring → Type 0
IsHeldByOwn own others r =
    (int_lt (pos 0) (double_area r.0) ≡ true)
    ⊎ All (λ (k : Ring). surrounds k r ≡ true → has_smaller own r k ≡ true) others

-- no ring of either list stands with one of the other
pub record HoldTheirOwn (first second : List Ring) : Type 0 where
  pub by_first : All (IsHeldByOwn first second) first
  pub by_second : All (IsHeldByOwn second first) second

-- boxed pieces and an answer of them
pub record Drawing (fill : ℤ → Bool) (options : Choices) : Type 0 where
  pub pieces : List Piece
  pub boxed : All IsBoxed pieces
  pub answer : List (List (List Point))
  pub resolution : IsResolution (edges_in pieces) fill options answer

-- the boxes of two drawings are apart, and no hole of the one would stand with a ring of the other
pub record AreDrawnApart {fill : ℤ → Bool} {options : Choices} (a b : Drawing fill options) : Type 0 where
  pub apart : ArePiecesApart a.pieces b.pieces
  pub hold : HoldTheirOwn (rings_of options a.resolution.contours) (rings_of options b.resolution.contours)
