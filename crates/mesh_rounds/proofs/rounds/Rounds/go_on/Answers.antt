use Rattle.std.proofs.Common.{rules}
use Rattle.mesh_split.proofs.Counts.{counts_none}
use Rattle.mesh_rounds.proofs.rounds.Rounds.go_on.Goals as goal

pub returns-in_err-held-clause-counted : goal.returns-in_err-held-clause-counted
returns-in_err-held-clause-counted c = counts_none 1 c.args.edges.now c.args.count.now (search rules)

pub returns-in_default-clause-counted : goal.returns-in_default-clause-counted
returns-in_default-clause-counted c = counts_none 1 c.args.edges.now c.args.count.now (search rules)

pub prune-requires : goal.prune-requires
prune-requires c =
    (c.in_ok-close.ensures.round c.args.self.now c.args.edges.now c.requires (rw c.in-Some.is at c.in_ok-held.ensures.held) c.in_ok-born.ensures.pile c.in_ok-born.ensures.none_lives c.hold.ensures.groups
    (rw c.deref-2.ensures.value (rw (c.in-Some-2.is, c.hold.ensures.splitter) at c.in_ok-born.ensures.grows))).bounded

pub returns-clause-kept : goal.returns-clause-kept
returns-clause-kept c = λ _.
    c.in_ok-prune.ensures.round c.args.edges.now
    (c.in_ok-close.ensures.round c.args.self.now c.args.edges.now c.requires (rw c.in-Some.is at c.in_ok-held.ensures.held) c.in_ok-born.ensures.pile c.in_ok-born.ensures.none_lives c.hold.ensures.groups
    (rw c.deref-2.ensures.value (rw (c.in-Some-2.is, c.hold.ensures.splitter) at c.in_ok-born.ensures.grows)))
