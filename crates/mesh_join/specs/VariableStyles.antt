-- How strokes are drawn whose width changes from vertex to vertex.
use Rattle.std.specs.Prelude.{ℤ}
use Rattle.mesh_plane.specs.Plane.{Point}
use Rattle.mesh_join.specs.declared.style.variable.IntVariableStrokeStyle.{IntVariableStrokeStyle}
use Rattle.mesh_join.specs.declared.style.MathMode.TheVariants.{Integer}

-- a vertex of a stroke: where it lies, and the width there
pub record Vertex : Type 0 where
  pub point : Point
  pub width : ℤ

-- the style where nothing is asked for: arcs with steps of at most 68,356,528 bits, and precision 5
abbrev pub default_variable_style : IntVariableStrokeStyle
default_variable_style = record { arc = record { max_step = 68356528; rotation_precision = 5 }; math = Integer }
