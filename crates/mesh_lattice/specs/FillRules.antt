-- The rules that say which windings are filled.
use Rattle.std.specs.Prelude.{ℕ, ◌%◌, Bool, ◌&&◌, not, ℤ, pos, nat_eq, int_lt, int_le, unsigned_abs}
use Rattle.std.specs.Ordering.{int_eq}
use Rattle.mesh_lattice.specs.declared.fill.FillRule.{FillRule}
use Rattle.mesh_lattice.specs.declared.fill.FillRule.TheVariants as rule
use Rattle.mesh_lattice.specs.declared.fill.WindingRule.{WindingRule}
use Rattle.mesh_lattice.specs.declared.fill.WindingRule.TheVariants.{Positive, Negative, EvenOdd, NonZero, AtLeast}

-- whether a rule of the engine fills a winding: above 0, below it, odd, other than 0, or above 0 and at least so much
abbrev pub filled_by : WindingRule → ℤ → Bool
filled_by Positive w = int_lt (pos 0) w
filled_by Negative w = int_lt w (pos 0)
filled_by EvenOdd w = nat_eq (unsigned_abs w % 2) 1
filled_by NonZero w = not (int_eq w (pos 0))
filled_by (AtLeast least) w = int_lt (pos 0) w && int_le (pos least) w

-- a rule, as the engine takes it
abbrev pub winding_rule_of : FillRule → WindingRule
winding_rule_of rule.Positive = Positive
winding_rule_of rule.Negative = Negative

-- whether a winding is filled: above 0, or below it
abbrev pub filled : FillRule → ℤ → Bool
filled fill = filled_by (winding_rule_of fill)
