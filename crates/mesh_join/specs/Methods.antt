-- The style that a join's method stands for.
use Rattle.mesh_join.specs.Miters.{MiterStyle}
use Rattle.mesh_join.specs.RoundJoins.{RoundStyle}
use Rattle.mesh_join.specs.Styles.{JoinStyle}
use Rattle.mesh_join.specs.declared.join.Method.{Method}
use Rattle.mesh_join.specs.declared.join.Method.TheVariants as method
use Rattle.mesh_join.specs.declared.style.IntLineJoin.TheVariants.{Bevel, Miter, Round}

abbrev pub style_of_miter : MiterStyle → JoinStyle
style_of_miter m = record { kind = Miter m.angle; min_turn = m.min_turn }

abbrev pub style_of_round : RoundStyle → JoinStyle
style_of_round r = record { kind = Round r.options; min_turn = r.min_turn }

abbrev pub style_of_method : {C W U : Type 0} → Method C W U → JoinStyle
style_of_method (method.Bevel min_turn) = record { kind = Bevel; min_turn = min_turn }
style_of_method (method.Miter m) = style_of_miter m
style_of_method (method.Round r) = style_of_round r
