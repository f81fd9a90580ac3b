-- What is made of operands that may take part is exact.
use Rattle.std.proofs.lemmas.Result.{IfOk-weaker}
use Rattle.mesh_below.specs.Options.{choices_of}
use Rattle.mesh_operands.specs.Combining.{answer_of}
use Rattle.mesh_operands.specs.Operands.{combination_of}
use Rattle.mesh_operands.proofs.ExactPairs.{combination_exact}
use Rattle.mesh_operands.proofs.within.combine_within.Goals as goal

pub returns-clause-exact : goal.returns-clause-exact
returns-clause-exact g c =
    IfOk-weaker c.made_within.result _ _
    (λ near a. combination_exact near.nearness g.I.IntNumber.unit (choices_of g.I.WideUInt.WideUnsigned.value c.args.options) (combination_of g.I.IntNumber.value c.args.combination.now) (answer_of near.answer) _ _ a)
    c.made_within.ensures.combined
