use Rattle.std.proofs.Common.{subst, sym, List, arith}
use Rattle.std.specs.Prelude.{pos, ◌<ℤ◌}
use Rattle.std.proofs.lemmas.Int.{ints}
use Rattle.mesh_lattice.specs.Counted.{Counted}
use Rattle.mesh_store.specs.Steps.{exactly}
use Rattle.mesh_store.proofs.Entries.{edge_equal, removed_left, removed_taken, removed_forward}
use Rattle.mesh_store.proofs.Tallies.{exactly_none}
use Rattle.mesh_store.proofs.worklist.Worklist.remove.Goals as goal

pub unreachable-requires : goal.unreachable-requires
unreachable-requires c =
    let none = exactly_none c.args.ends c.self.inside.counts.entries (sym c.in-None.ensures.value) in
    let some = subst (λ (ks : List Counted). pos 0 <ℤ exactly c.args.ends ks) (sym c.self.view_is) c.requires in
    omega (arith, ints, none, some)

pub invariant_of-self : goal.invariant_of-self
invariant_of-self c =
    let es = c.self.inside.counts.entries in
    removed_left c.args.ends es es c.remove_entry.new.self.entries (λ _. es) c.remove_entry.ensures.entries c.self.invariant

pub returns-clause-ends : goal.returns-clause-ends
returns-clause-ends c = sym (edge_equal c.args.ends c.in-Some.s.0 c.in-Some.ensures.same_key)

pub returns-clause-taken : goal.returns-clause-taken
returns-clause-taken c =
    removed_taken c.args.ends c.args.self.now c.self.inside.counts.entries c.remove_entry.new.self.entries c.in-Some.s c.self.view_is c.remove_entry.ensures.entries c.in-Some.ensures.same_key c.in-Some.ensures.value

pub returns-clause-forward : goal.returns-clause-forward
returns-clause-forward c =
    let es = c.self.inside.counts.entries in
    removed_forward c.args.ends es es c.in-Some.s (λ _. es) c.in-Some.ensures.same_key c.in-Some.ensures.value c.self.invariant
