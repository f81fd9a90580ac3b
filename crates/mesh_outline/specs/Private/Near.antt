-- What the steps of an outline add whose nearness is told. Private contracts alone read these.
use Rattle.std.specs.Prelude.{ℕ, ◌≡◌, List, [], length}
use Rattle.std.specs.List.Sorted.{IsPermutation}
use Rattle.mesh_plane.specs.Plane.{Point, Edge}
use Rattle.mesh_num.specs.Segments.{SignedEdge}
use Rattle.mesh_lattice.specs.FillRules.{filled}
use Rattle.mesh_lattice.specs.Reach.{ArePointsSafe}
use Rattle.mesh_lattice.specs.declared.fill.FillRule.{FillRule}
use Rattle.mesh_split.specs.declared.count.SplitCount.{SplitCount}
use Rattle.mesh_below.specs.Nearness.{AreCountedRegions}
use Rattle.mesh_below.specs.Options.{plain}
use Rattle.mesh_join.specs.Styles.{OffsetJoin, OutlineStyle}
use Rattle.mesh_offset.specs.Adding.{in_sense, answer_edges}
use Rattle.mesh_offset.specs.Counting.{CountsStanding}
use Rattle.mesh_offset.specs.Built.{AddsClosed}
use Rattle.mesh_outline.specs.Nearness.{GivesNear, GiveNear, IsOutlineDrawing, drawn_of, first_splits}
use Rattle.mesh_outline.specs.Outline.{outline_edges}

-- what comes of the edges that are drawn of one contour, which is resolved alone: an answer, in the safe range, exact
-- beyond `k`, whose splits are counted on
pub record ComesNear (k unit : ℕ) (drawn : List Edge) (fill : FillRule) (answer : List (List (List Point)))
    (before after : SplitCount) : Type 0 where
  pub built : List Edge
  pub same : IsPermutation built drawn
  pub standing : AreCountedRegions k built (filled fill) plain answer before after
  pub safe : ArePointsSafe unit answer

-- the vector `new` holds what `old` held, and then the segments of the answer of one contour that moves so, closed and
-- safe
abbrev pub AddsNear : ℕ → ℕ → OffsetJoin → FillRule → List Point → List SignedEdge → List SignedEdge → SplitCount
    → SplitCount → Type 0
AddsNear k unit way fill contour old new before after =
    (answer : List (List (List Point))) × ComesNear k unit (outline_edges unit way contour) fill answer before after
    × AddsClosed unit old new (in_sense fill (answer_edges answer))

-- and then the segments of what a contour gives
abbrev pub AddsGivenNear : ℕ → ℕ → OutlineStyle → List Point → List SignedEdge → List SignedEdge → SplitCount
    → SplitCount → Type 0
AddsGivenNear k unit style contour old new before after =
    (edges : List Edge) × (n : ℕ) × GivesNear unit style contour edges k n × AddsClosed unit old new edges
    × CountsStanding 1 (λ (es : List Edge). IsPermutation es (drawn_of unit style contour)) n before after

-- the segments are those of what contours give, closed and safe
abbrev pub AreGivenNear : ℕ → ℕ → OutlineStyle → List (List Point) → List SignedEdge → Type 0
AreGivenNear k unit style contours ss =
    (given : List Edge) × GiveNear k unit style contours given × AddsClosed unit [] ss given

-- and the splits that stand of their own resolvings are counted on; they are among `all` contours
abbrev pub AreGivenCounted : ℕ → ℕ → OutlineStyle → List (List Point) → List (List Point) → List SignedEdge
    → SplitCount → SplitCount → Type 0
AreGivenCounted k unit style all contours ss before after =
    (near : AreGivenNear k unit style contours ss)
    × CountsStanding (length contours) (IsOutlineDrawing unit style all) (first_splits near.1.told) before after
