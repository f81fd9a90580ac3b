-- How far strokes of variable width reach from their paths, as twice the square of a distance.
use Rattle.std.specs.Prelude.{ℕ, ◌*◌, ◌<◌, ◌≤◌, ◌^◌, ◌≡◌, ◌≢◌, max, false, IsTrue, List, ◌++◌, map, pos}
use Rattle.std.specs.Prelude.{◌-ℤ◌, ◌*ℤ◌, unsigned_abs}
use Rattle.std.specs.List.{All, Contains, flat_map}
use Rattle.mesh_plane.specs.Plane.{Point, Edge}
use Rattle.mesh_plane.specs.Winding.{winding, holds}
use Rattle.mesh_shapes.specs.Resolution.{Choices}
use Rattle.mesh_arc.specs.declared.arc.ArcOptions.{ArcOptions}
use Rattle.mesh_join.specs.VariableStyles.{Vertex}
use Rattle.mesh_reach.specs.Joins.{rounded_reach}
use Rattle.mesh_reach.specs.Reach.{IsReached}
use Rattle.mesh_offset.specs.Adding.{answer_edges}
use Rattle.mesh_offset.specs.Walks.{pairs}
use Rattle.mesh_circle.specs.Sections.{Circle}
use Rattle.mesh_variable_stroke.specs.Chains.{circles_of}
use Rattle.mesh_variable_stroke.specs.Regions.{AreVariableStrokeRegionsBeyond}
use Rattle.mesh_variable_stroke.specs.VariableStrokes.{variable_stroke_edges, variable_stroke_pieces}

-- a section of a path, or a vertex as an edge, and how far what is drawn along it reaches
pub record Span : Type 0 where
  pub edge : Edge
  pub reach : ℕ

-- a vertex, with the reach of its own radius
abbrev pub span_round : Circle → Span
span_round c = record { edge = (c.center, c.center); reach = rounded_reach (unsigned_abs c.radius) }

-- a section, with the reach of the greater radius of its ends
abbrev pub span_between : Circle × Circle → Span
span_between c = record {
  edge = (c.0.center, c.1.center);
  reach = max (rounded_reach (unsigned_abs c.0.radius)) (rounded_reach (unsigned_abs c.1.radius));
}

-- the vertices and the sections of a path
abbrev pub spans_of : List Circle → List Span
spans_of circles = map span_round circles ++ map span_between (pairs circles)

-- the vertices and sections of a path of such vertices, and those of all paths
abbrev pub path_spans : List Vertex → List Span
path_spans vertices = spans_of (circles_of vertices)

abbrev pub all_spans : List (List Vertex) → List Span
all_spans paths = flat_map path_spans paths

-- the point is as near to one of the vertices or sections as this one's reach says
pub record IsReachedBySpan (m : ℕ) (spans : List Span) (q : Point) : Type 0 where
  pub span : Span
  pub listed : Contains spans span
  pub reached : IsReached span.reach m span.edge q

-- it lies within `k` 64ths of a unit, in both coordinates, of a point so near
pub record IsSpanReachedWithin (k m : ℕ) (spans : List Span) (q : Point) : Type 0 where
  pub grid : ℕ
  pub positive : 0 < grid
  pub point : Point
  pub reached : IsReachedBySpan (grid * m) spans point
  pub by_x : 64 * unsigned_abs ((pos grid *ℤ q.0) -ℤ point.0) ≤ k * (grid * m)
  pub by_y : 64 * unsigned_abs ((pos grid *ℤ q.1) -ℤ point.1) ≤ k * (grid * m)

-- so near is each point of each grid that a piece holds
abbrev pub HoldsBySpans : List Span → List Point → Type 0
HoldsBySpans spans piece = (m : ℕ) (q : Point) → IsTrue (holds m q piece) → IsReachedBySpan m spans q

-- each piece of a stroke of variable width holds such points alone
abbrev pub VariableStrokesReach : Type 0
VariableStrokesReach =
    (unit : ℕ) → 2 ^ 14 ≤ unit → (options : ArcOptions) (vertices : List Vertex)
    → All (HoldsBySpans (path_spans vertices)) (variable_stroke_pieces unit options vertices)

-- and edges wind round such points alone
abbrev pub WindWithinReach : List Vertex → List Edge → Type 0
WindWithinReach vertices es =
    (m : ℕ) (q : Point) → winding m q es ≢ pos 0 → IsReachedBySpan m (path_spans vertices) q

-- the edges of a stroke of variable width wind so
abbrev pub VariableStrokeEdgesReach : Type 0
VariableStrokeEdgesReach =
    (unit : ℕ) → 2 ^ 14 ≤ unit → (options : ArcOptions) (vertices : List Vertex)
    → WindWithinReach vertices (variable_stroke_edges unit options vertices)

-- with no least area and outer contours counterclockwise, each point round which an answer winds lies within `k` of a
-- point so near
abbrev pub WindsWithinReach : ℕ → Choices → List (List Vertex) → List (List (List Point)) → Type 0
WindsWithinReach k choices paths answer =
    choices.least_area ≡ 0 → choices.clockwise ≡ false → (m : ℕ) → 0 < m → (q : Point)
    → winding m q (answer_edges answer) ≢ pos 0 → IsSpanReachedWithin k m (all_spans paths) q

-- so does that of a stroke of variable width, with its nearness `k`
abbrev pub VariableStrokeAnswersReach : Type 0
VariableStrokeAnswersReach =
    (unit : ℕ) → 2 ^ 14 ≤ unit → (k : ℕ) (options : ArcOptions) (choices : Choices) (paths : List (List Vertex))
    (answer : List (List (List Point))) → AreVariableStrokeRegionsBeyond k unit options choices paths answer
    → WindsWithinReach k choices paths answer
