-- Which points a boolean keeps, and how it is carried out.
use Rattle.std.specs.Prelude.{Bool, ◌&&◌, ◌||◌, not, if◌then◌else◌}
use Rattle.mesh_lattice.specs.declared.fill.FillRule.TheVariants as sense
use Rattle.mesh_lattice.specs.declared.fill.WindingRule.{WindingRule}
use Rattle.mesh_lattice.specs.declared.fill.WindingRule.TheVariants as winding
use Rattle.mesh_boolean.specs.declared.rule.BooleanFillRule.{BooleanFillRule}
use Rattle.mesh_boolean.specs.declared.rule.BooleanFillRule.TheVariants as fill
use Rattle.mesh_boolean.specs.declared.rule.BooleanRule.{BooleanRule}
use Rattle.mesh_boolean.specs.declared.rule.BooleanRule.TheVariants as rule
use Rattle.mesh_boolean.specs.declared.rule.Way.{Way}
use Rattle.mesh_boolean.specs.declared.rule.Way.TheVariants as way

-- whether a boolean keeps a point, by whether the subject and the clip hold it
abbrev pub combine : BooleanRule → Bool → Bool → Bool
combine rule.Subject a b = a
combine rule.Clip a b = b
combine rule.Intersect a b = a && b
combine rule.Union a b = a || b
combine rule.Difference a b = a && not b
combine rule.InverseDifference a b = not a && b
combine rule.Xor a b = if a then not b else b

-- a fill rule of an operand, as the engine takes it
abbrev pub winding_rule_for : BooleanFillRule → WindingRule
winding_rule_for fill.EvenOdd = winding.EvenOdd
winding_rule_for fill.NonZero = winding.NonZero
winding_rule_for fill.Positive = winding.Positive
winding_rule_for fill.Negative = winding.Negative

-- how a rule is carried out: one operand alone, or both together, the clip as it is or reversed, filled where the sum of
-- both windings is so. Each operand winds 0 or 1, so the sum of both is 2 where both hold the point, and so on
abbrev pub way_of : BooleanRule → Way
way_of rule.Subject = way.Subject
way_of rule.Clip = way.Clip
way_of rule.Intersect = way.Together sense.Positive (winding.AtLeast 2)
way_of rule.Union = way.Together sense.Positive winding.Positive
way_of rule.Difference = way.Together sense.Negative winding.Positive
way_of rule.InverseDifference = way.Together sense.Negative winding.Negative
way_of rule.Xor = way.Together sense.Negative winding.NonZero
