use Rattle.std.proofs.Common.{rules, subst}
use Rattle.mesh_rounds.specs.Private.Groups.{AreBounded}
use Rattle.mesh_rounds.proofs.Rounding.{bounded_before, bounded_last, bounded_more, pruned_both}
use Rattle.mesh_rounds.proofs.rounds.+all_pruned_about.Goals as goal

pub all_pruned_about-requires : goal.all_pruned_about-requires
all_pruned_about-requires t c = (search rules, bounded_before c.pop.new.self.items c.in-Some.last (subst AreBounded c.in-Some.ensures.items c.requires))

pub pruned_about-requires : goal.pruned_about-requires
pruned_about-requires t c = bounded_last c.pop.new.self.items c.in-Some.last (subst AreBounded c.in-Some.ensures.items c.requires)

pub returns-clause-bounded : goal.returns-clause-bounded
returns-clause-bounded t c =
    rw c.in_ok-add_group.ensures (bounded_more c.in_ok-left.left.items c.in_ok-pruned_about.field-0 c.in_ok-left.ensures.bounded c.in_ok-pruned_about.ensures.bounded)

pub returns-clause-kept : goal.returns-clause-kept
returns-clause-kept t c =
    let todo = c.args.todo.now in
    let left = c.in_ok-left.left.items in
    let new = c.in_ok-pruned_about.field-0 in
    let both = pruned_both todo c.pop.new.self.items left c.in-Some.last new c.in_ok-left.ensures.kept c.in_ok-pruned_about.ensures.kept in
    rw (c.in_ok-add_group.ensures, c.in-Some.ensures.items) both
