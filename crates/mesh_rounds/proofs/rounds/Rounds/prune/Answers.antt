use Rattle.mesh_rounds.proofs.Rounding.{pruned_listed}
use Rattle.mesh_rounds.proofs.rounds.Rounds.prune.Goals as goal

pub returns-clause-round : goal.returns-clause-round
returns-clause-round c = λ given r. record {
  pile = r.pile;
  none_lives = r.none_lives;
  bounded = c.in_ok-self-2.ensures.bounded;
  listed = pruned_listed c.args.self.now.splitter.todo c.args.self.now.fresh.items c.args.self.now.groups.items c.in_ok-self-2.field-0.items (rw c.replace-groups.ensures.value at c.in_ok-self-2.ensures.kept) r.listed;
  clear = r.clear;
}
