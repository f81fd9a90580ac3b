-- Fill rules of operands.
use Rattle.mesh_boolean.specs.declared.rule.BooleanFill.{BooleanFill}
use Rattle.mesh_boolean.specs.declared.rule.BooleanFillRule.TheVariants.{EvenOdd}

-- both operands are filled where their windings are odd
abbrev pub odd : BooleanFill
odd = record { subject = EvenOdd; clip = EvenOdd }
