use Rattle.std.proofs.Common.{sym, ◌∙◌, arith}
use Rattle.mesh_rounds.proofs.Rounding.{stands_at}
use Rattle.mesh_rounds.proofs.rounds.is_last.Goals as goal

pub returns-then-count-gt0 : goal.returns-then-count-gt0
returns-then-count-gt0 c = λ t. stands_at c.args.e c.args.edges.now _ _ (omega (arith, c.if-count-gt0.true)) (sym c.same_edge.ensures ∙ t)
