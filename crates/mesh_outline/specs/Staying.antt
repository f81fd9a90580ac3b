-- What is computed for an outline stays in the safe range.
use Rattle.std.specs.Prelude.{ℕ, List}
use Rattle.std.specs.List.{All}
use Rattle.std.specs.List.Sorted.{IsPermutation}
use Rattle.mesh_plane.specs.Plane.{Point, Edge}
use Rattle.mesh_num.specs.Segments.{proper_edges}
use Rattle.mesh_join.specs.Styles.{OffsetJoin, OutlineStyle, outer, inner}
use Rattle.mesh_outline.specs.Outline.{outline_edges}
use Rattle.mesh_outline.specs.Resolved.{Give}
use Rattle.mesh_offset.specs.Staying.{IsSafeResolving}

-- that holds of the edges of a contour's outline that moves so, in whatever order they were built
abbrev pub IsSafeAlone : ℕ → OffsetJoin → List Point → Type 0
IsSafeAlone unit style contour =
    (built : List Edge) → IsPermutation built (outline_edges unit style contour) → IsSafeResolving unit built

-- and of the edges that contours give to the whole outline
abbrev pub IsSafeTogether : ℕ → OutlineStyle → List (List Point) → Type 0
IsSafeTogether unit style contours =
    (given : List Edge) → Give unit style contours given → IsSafeResolving unit (proper_edges given)

-- all edges, all split segments and all answers of an outline are safe
pub record StaysSafe (unit : ℕ) (style : OutlineStyle) (contours : List (List Point)) : Type 0 where
  pub outer_safe : All (IsSafeAlone unit (outer style)) contours
  pub inner_safe : All (IsSafeAlone unit (inner style)) contours
  pub together : IsSafeTogether unit style contours
