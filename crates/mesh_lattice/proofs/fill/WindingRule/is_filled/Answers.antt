use Rattle.std.proofs.Common.{refl}
use Rattle.std.proofs.lemmas.Int.{to_z-of_z}
use mir.Syntax.{w128}
use Rattle.mesh_lattice.proofs.fill.WindingRule.is_filled.Goals as goal

pub returns-in-Negative : goal.returns-in-Negative
returns-in-Negative c = rw (c.in-Negative.is, to_z-of_z w128 c.args.winding c.ranges.winding) refl
