-- What stands after both operands of a boolean were resolved alone and together. Private contracts alone read this.
use Rattle.std.specs.Prelude.{ℕ, ◌+◌, List, length}
use Rattle.mesh_plane.specs.Plane.{Point}
use Rattle.mesh_lattice.specs.declared.fill.FillRule.{FillRule}
use Rattle.mesh_lattice.specs.declared.fill.WindingRule.{WindingRule}
use Rattle.mesh_split.specs.declared.count.SplitCount.{SplitCount}
use Rattle.mesh_shapes.specs.Resolution.{Choices}
use Rattle.mesh_offset.specs.Counting.{CountsStanding}
use Rattle.mesh_boolean.specs.Booleans.{Operands}
use Rattle.mesh_boolean.specs.Nearness.{AreCombinedBeyond, IsBooleanDrawing, splits_by}
use Rattle.mesh_boolean.specs.declared.rule.Way.TheVariants as way

-- the answers of both operands are exact away from their edges, and so is that of both together; the splits that stand
-- were counted on
abbrev pub AreCombinedCounted : ℕ → FillRule → WindingRule → Operands → Choices → List (List (List Point)) → SplitCount
    → SplitCount → Type 0
AreCombinedCounted k sense rule operands choices answer old new =
    (beyond : AreCombinedBeyond k sense rule operands choices answer)
    × CountsStanding 3 (IsBooleanDrawing operands) (splits_by k (way.Together sense rule) operands choices answer beyond)
    old new
