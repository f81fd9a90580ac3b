-- Reversal: the stroke of a path that runs the other way about.
use Rattle.std.specs.Prelude.{ℕ, ◌≤◌, ◌^◌, ◌≡◌, Bool, List, reverse, ℤ, pos, ◌-ℤ◌, count_by}
use Rattle.mesh_plane.specs.Plane.{Point, Edge}
use Rattle.mesh_plane.specs.Winding.{winding}
use Rattle.mesh_lattice.specs.Split.{back, same_edge}
use Rattle.mesh_join.specs.declared.style.StrokeSide.TheVariants.{Both}
use Rattle.mesh_stroke.specs.Strokes.{stroke_edges}
use Rattle.mesh_stroke.specs.Styles.{StrokeStyle}

-- the net count of an edge: how often it stands among edges more than the edge back
abbrev pub net_count : Edge → List Edge → ℤ
net_count e es = pos (count_by (same_edge e) es) -ℤ pos (count_by (same_edge (back e)) es)

-- each edge has the same net count in both lists, and so both wind alike at each point of each grid
pub record CountAlike (es gs : List Edge) : Type 0 where
  pub nets : (e : Edge) → net_count e es ≡ net_count e gs
  pub windings : (m : ℕ) (q : Point) → winding m q es ≡ winding m q gs

-- the style with its caps exchanged
abbrev pub with_caps_exchanged : StrokeStyle → StrokeStyle
with_caps_exchanged style = record style { start = style.end; end = style.start }

-- the edges of the stroke of the reversed path with the caps exchanged
abbrev pub reversed_edges : ℕ → StrokeStyle → Bool → List Point → List Edge
reversed_edges unit style closed points = stroke_edges unit (with_caps_exchanged style) closed (reverse points)

-- reversing a path and exchanging its caps leaves the net count of every edge of its stroke on both sides, for every join
-- and cap; of a half this is not said
abbrev pub StrokesCanBeReversed : Type 0
StrokesCanBeReversed =
    (unit : ℕ) → 2 ^ 14 ≤ unit → (style : StrokeStyle) → style.side ≡ Both → (closed : Bool) (points : List Point)
    → CountAlike (reversed_edges unit style closed points) (stroke_edges unit style closed points)
