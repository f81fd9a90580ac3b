-- The walk along a path. Private contracts alone read these.
use Rattle.std.specs.Prelude.{ℕ, ◌≡◌, ◌≢◌, ◌↔◌, Bool, List, ℤ, pos, ◌≤ℤ◌, unsigned_abs}
use Rattle.std.specs.List.{All}
use Rattle.mesh_plane.specs.Plane.{Point, Edge}
use Rattle.mesh_num.specs.Rectangle.{IsSafeWidened}
use Rattle.mesh_join.specs.Joins.{join_padding}
use Rattle.mesh_join.specs.Styles.{JoinStyle}
use Rattle.mesh_stroke.specs.Building.{IsStrokable}
use Rattle.mesh_stroke.specs.Paths.{path_edges}
use Rattle.mesh_stroke.specs.Strokes.{EdgePair}
use Rattle.mesh_stroke.specs.Styles.{StrokeStyle}

-- `P` holds of exactly the numbers up to `limit`, of none where that is below 0
abbrev pub IsLimit : ℤ → (ℕ → Type 0) → Type 0
IsLimit limit P = (t : ℕ) → (pos t ≤ℤ limit) ↔ P t

-- an edge with different ends, both of which stay safe where they move by the radius
pub record IsFitEdge (unit : ℕ) (radius : ℤ) (e : Edge) : Type 0 where
  pub differ : e.0 ≢ e.1
  pub safe_start : IsSafeWidened unit (pos (unsigned_abs radius)) e.0
  pub safe_end : IsSafeWidened unit (pos (unsigned_abs radius)) e.1

-- two such edges that meet in a point round which a join can be drawn
pub record IsFitCorner (unit : ℕ) (radius : ℤ) (join : JoinStyle) (c : EdgePair) : Type 0 where
  pub before : IsFitEdge unit radius c.0
  pub after : IsFitEdge unit radius c.1
  pub met : c.0.1 ≡ c.1.0
  pub sign : pos 0 ≤ℤ radius
  pub movable : IsSafeWidened unit (join_padding join.kind radius) c.0.1

-- the edges of a path that can be stroked in this style
pub record AreStrokable (unit : ℕ) (style : StrokeStyle) (closed : Bool) (es : List Edge) : Type 0 where
  pub points : List Point
  pub safe : All (IsStrokable unit style) points
  pub edges : path_edges closed points ≡ es
