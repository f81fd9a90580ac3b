use Rattle.std.proofs.Common.{◌∙◌, sym}
use Rattle.mesh_store.proofs.Entries.{removed_left, removed_taken, removed_forward, first_key, first_found, some_taken, some_forward}
use Rattle.mesh_store.proofs.worklist.Worklist.pop.Goals as goal

pub invariant_of-self : goal.invariant_of-self
invariant_of-self c =
    let es = c.loop-ends.self-inside.counts.entries in
    removed_left c.in-Some.ends c.self.inside.counts.entries es c.remove_entry.new.self.entries c.loop-ends.invariant c.remove_entry.ensures.entries c.self.invariant

pub returns-in-Some-remove_entry-clause-taken : goal.returns-in-Some-remove_entry-clause-taken
returns-in-Some-remove_entry-clause-taken c =
    let es = c.loop-ends.self-inside.counts.entries in
    let key = c.in-Some-remove_entry.ensures.same_key in
    let value = c.in-Some-remove_entry.ensures.value in
    removed_taken c.in-Some.ends c.args.self.now es c.remove_entry.new.self.entries c.in-Some-remove_entry.s (c.loop-ends.invariant ∙ c.self.view_is) c.remove_entry.ensures.entries key value

pub returns-in-Some-remove_entry-clause-forward : goal.returns-in-Some-remove_entry-clause-forward
returns-in-Some-remove_entry-clause-forward c =
    let es = c.loop-ends.self-inside.counts.entries in
    removed_forward c.in-Some.ends c.self.inside.counts.entries es c.in-Some-remove_entry.s c.loop-ends.invariant c.in-Some-remove_entry.ensures.same_key c.in-Some-remove_entry.ensures.value c.self.invariant

pub invariant_of-self-2 : goal.invariant_of-self-2
invariant_of-self-2 c =
    removed_left c.in-Some-copied.ends c.self.inside.counts.entries c.loop-ends.self-inside.counts.entries c.remove_entry-2.new.self.entries c.loop-ends.invariant c.remove_entry-2.ensures.entries c.self.invariant

pub returns-clause-taken : goal.returns-clause-taken
returns-clause-taken c =
    let es = c.loop-ends.self-inside.counts.entries in
    let keys = sym c.keys.ensures.rest ∙ first_key c.keys.result c.next.new.self c.next.result c.in-Some-copied.ends c.next.ensures.steps (sym c.copied.ensures ∙ c.in-Some-copied.is) in
    some_taken c.in-Some-copied.ends c.args.self.now es c.remove_entry-2.new.self.entries c.remove_entry-2.result (c.loop-ends.invariant ∙ c.self.view_is) (first_found c.in-Some-copied.ends c.next.new.self es keys)
    c.remove_entry-2.ensures.entries c.remove_entry-2.ensures.same_key c.remove_entry-2.ensures.value

pub returns-clause-forward : goal.returns-clause-forward
returns-clause-forward c =
    some_forward c.in-Some-copied.ends c.self.inside.counts.entries c.loop-ends.self-inside.counts.entries c.remove_entry-2.result c.loop-ends.invariant c.remove_entry-2.ensures.same_key c.remove_entry-2.ensures.value c.self.invariant
