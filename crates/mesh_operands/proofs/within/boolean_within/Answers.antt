-- Each rule is carried out in its way.
use Rattle.std.proofs.Common.{arith}
use Rattle.std.proofs.lemmas.Result.{IfOk-weaker}
use Rattle.mesh_num.specs.Paths.{shapes_of}
use Rattle.mesh_below.specs.Options.{choices_of}
use Rattle.mesh_operands.specs.Operands.{given_boolean, operand_of}
use Rattle.mesh_operands.proofs.Near.{by_both, counts_clip, counts_subject}
use Rattle.mesh_operands.proofs.within.boolean_within.Goals as goal

pub returns-in-Subject-clause-counted : goal.returns-in-Subject-clause-counted
returns-in-Subject-clause-counted g c =
    counts_subject g.I.IntNumber.unit c.args.boolean.now.rule c.args.boolean.now.fill (operand_of g.I.IntNumber.value c.args.boolean.now.subject) (operand_of g.I.IntNumber.value c.args.boolean.now.clip)
    _ _ c.near_region_of.ensures.counted

pub returns-in-Clip-clause-combined : goal.returns-in-Clip-clause-combined
returns-in-Clip-clause-combined g c = rw c.in-Clip.is c.near_region_of-in-Clip.ensures.standing

pub returns-in-Clip-clause-small : goal.returns-in-Clip-clause-small
returns-in-Clip-clause-small g c = IfOk-weaker c.near_region_of-in-Clip.result _ _ (λ near a. omega (arith, a)) c.near_region_of-in-Clip.ensures.small

pub returns-in-Clip-clause-counted : goal.returns-in-Clip-clause-counted
returns-in-Clip-clause-counted g c =
    counts_clip g.I.IntNumber.unit c.args.boolean.now.rule c.args.boolean.now.fill (operand_of g.I.IntNumber.value c.args.boolean.now.subject) (operand_of g.I.IntNumber.value c.args.boolean.now.clip)
    _ _ c.near_region_of-in-Clip.ensures.counted

pub returns-in-Intersect : goal.returns-in-Intersect
returns-in-Intersect g c = record {
  combined =
      IfOk-weaker c.both_within.result _ _
      (λ near a. by_both near.nearness g.I.IntNumber.unit (choices_of g.I.WideUInt.WideUnsigned.value c.args.options) (given_boolean g.I.IntNumber.value c.args.boolean.now)
      (shapes_of near.shapes.items) c.args.count.now c.both_within.new.count c.in-Intersect.is a)
      c.both_within.ensures.combined;
  small = c.both_within.ensures.small;
  counted = c.both_within.ensures.counted;
  within = c.both_within.ensures.within;
  past = c.both_within.ensures.past;
  refused = c.both_within.ensures.refused;
}
