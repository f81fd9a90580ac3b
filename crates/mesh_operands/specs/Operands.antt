-- What is combined with what.
use Rattle.std.specs.Prelude.{ℕ, List, ℤ, map}
use Rattle.mesh_plane.specs.Plane.{Point}
use Rattle.mesh_num.specs.Paths.{paths_of}
use Rattle.mesh_boolean.specs.declared.rule.BooleanFill.{BooleanFill}
use Rattle.mesh_boolean.specs.declared.rule.BooleanFillRule.{BooleanFillRule}
use Rattle.mesh_boolean.specs.declared.rule.BooleanRule.{BooleanRule}
use Rattle.mesh_drawing.specs.Drawn.{Drawn, drawn_of}
use Rattle.mesh_operands.specs.declared.operand.Boolean.{Boolean}
use Rattle.mesh_operands.specs.declared.operand.Combination.{Combination}
use Rattle.mesh_operands.specs.declared.operand.Coverage.{Coverage}
use Rattle.mesh_operands.specs.declared.operand.Operand.{Operand}
use Rattle.mesh_operands.specs.declared.operand.Overlaps.{Overlaps}

-- what is given to be combined: closed contours, which a fill rule fills, or what is drawn
pub data Given : Type 0 where
  as_paths : List (List Point) → Given
  as_drawing : Drawn → Given

-- what is made of it: by a rule and two fill rules, a boolean of a subject and a clip; where at least so many zones, each
-- filled by a rule, cover the plane; or where each two zones overlap
pub data Combined : Type 0 where
  as_boolean : BooleanRule → BooleanFill → Given → Given → Combined
  as_coverage : ℕ → BooleanFillRule → List Given → Combined
  as_overlaps : BooleanFillRule → List Given → Combined

-- a boolean that is asked for: by this rule, of these operands, each filled by its rule
pub record GivenBoolean : Type 0 where
  pub rule : BooleanRule
  pub fill : BooleanFill
  pub subject : Given
  pub clip : Given

-- a coverage that is asked for: where at least so many of these zones, each filled by this rule, cover the plane
pub record GivenCoverage : Type 0 where
  pub least : ℕ
  pub fill : BooleanFillRule
  pub zones : List Given

-- what the code's own types stand for, where `value` is the whole number that a coordinate stands for
abbrev pub operand_of : {C W U : Type 0} → (C → ℤ) → Operand C W U → Given
operand_of value (Operand.Paths paths) = as_paths (paths_of paths.items)
operand_of value (Operand.Drawing drawing) = as_drawing (drawn_of value drawing)

abbrev pub given_boolean : {C W U : Type 0} → (C → ℤ) → Boolean C W U → GivenBoolean
given_boolean value b =
    record { rule = b.rule; fill = b.fill; subject = operand_of value b.subject; clip = operand_of value b.clip }

abbrev pub boolean_of : {C W U : Type 0} → (C → ℤ) → Boolean C W U → Combined
boolean_of value b = as_boolean b.rule b.fill (operand_of value b.subject) (operand_of value b.clip)

abbrev pub coverage_of : {C W U : Type 0} → (C → ℤ) → Coverage C W U → Combined
coverage_of value c = as_coverage c.least c.fill (map (operand_of value) c.zones.items)

abbrev pub overlaps_of : {C W U : Type 0} → (C → ℤ) → Overlaps C W U → Combined
overlaps_of value o = as_overlaps o.fill (map (operand_of value) o.zones.items)

abbrev pub combination_of : {C W U : Type 0} → (C → ℤ) → Combination C W U → Combined
combination_of value (Combination.Boolean b) = boolean_of value b
combination_of value (Combination.Coverage c) = coverage_of value c
combination_of value (Combination.Overlaps o) = overlaps_of value o
