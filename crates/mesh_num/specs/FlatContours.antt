-- Contours in one list of points, each with the range of its points.
use Rattle.std.specs.Prelude.{ℕ, ◌≡◌, ◌+◌, List, [], ◌∷◌, length, map, slice_range}
use Rattle.std.specs.List.{flat_map}
use Rattle.std.specs.declared.ops.Range.{Range}
use Rattle.mesh_num.specs.declared.shape.buffer.FlatContoursBuffer.{FlatContoursBuffer}
use Rattle.mesh_plane.specs.Plane.{Point}

-- so many places from `start` on
abbrev pub range_of : ℕ → ℕ → Range ℕ
range_of start size = record { start = start; end = start + size }

-- one range a contour, end to end from `start` on
abbrev pub ranges_from : ℕ → List (List Point) → List (Range ℕ)
ranges_from start [] = []
ranges_from start (c ∷ cs) = range_of start (length c) ∷ ranges_from (start + length c) cs

-- the buffer's points are these contours' points, end to end, and its ranges are theirs, in order
pub record HoldsContours {I W U : Type 0} (buffer : FlatContoursBuffer I W U) (contours : List (List Point))
    : Type 0 where
  pub points : buffer.points.items ≡ flat_map (λ c. c) contours
  pub ranges : buffer.ranges.items ≡ ranges_from 0 contours

-- the points at the places of a range, as far as there are any
abbrev pub points_at : List Point → Range ℕ → List Point
points_at points range = slice_range points range.start range.end

-- the contours that a buffer stands for, whatever its points and ranges are: the points of each range
abbrev pub flat_contours : {I W U : Type 0} → FlatContoursBuffer I W U → List (List Point)
flat_contours buffer = map (points_at buffer.points.items) buffer.ranges.items
