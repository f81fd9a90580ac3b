use Rattle.mesh_rounds.specs.Private.Groups.{noted_in}
use Rattle.mesh_rounds.specs.Private.Rounds.{Keeps}
use Rattle.mesh_store.proofs.Lists.{if_ok}
use Rattle.mesh_rounds.proofs.Rounding.{keeps_more, keeps_taken, keeps_wider}
use Rattle.mesh_rounds.proofs.rounds.fresh.Goals as goal

pub loop-e-preserved : goal.loop-e-preserved
loop-e-preserved c =
    rw c.in_ok-push.ensures.items
    (record {
      noted = keeps_wider (noted_in c.args.pairs.now) c.loop-e.all.items _ c.loop-e.invariant.noted;
      born = keeps_more c.args.born.now c.loop-e.e-index _ c.loop-e.all.items c.loop-e-test.true c.loop-e.invariant.born;
    })

pub returns-clause-born : goal.returns-clause-born
returns-clause-born c =
    let keeps : Keeps c.args.born.now c.loop-e.all.items = keeps_taken (λ es. es) c.args.born.now c.loop-e.e-index c.loop-e.all.items c.loop-e-test.false c.loop-e.invariant.born in
    if_ok c.waiting.result _ _ (λ v k x w l. k x w (rw c.deref.ensures.value (keeps x l))) c.waiting.ensures

pub returns-clause-noted : goal.returns-clause-noted
returns-clause-noted c = if_ok c.waiting.result _ _ (λ v k x w l. k x w (rw c.deref.ensures.value (c.loop-e.invariant.noted x l))) c.waiting.ensures
