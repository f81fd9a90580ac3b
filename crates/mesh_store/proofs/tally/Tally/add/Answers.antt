use Rattle.std.proofs.Common.{◌≡◌, sym, ◌∙◌, ap, subst, refl, List, Some, None}
use Rattle.std.specs.Prelude.{ℤ}
use Rattle.std.specs.Map.{lookup}
use Rattle.mesh_lattice.specs.Counted.{Counted, times}
use Rattle.mesh_store.specs.Steps.{IsRaised, HaveRoom}
use Rattle.mesh_store.specs.Witnesses.{edge_eq}
use Rattle.mesh_store.proofs.Entries.{absent, found_size, has_room, inserted_raised, set_where_found, forward_set}
use Rattle.mesh_store.proofs.tally.Tally.add.Goals as goal

pub overflow_add-sum : goal.overflow_add-sum
overflow_add-sum c =
    let es = c.self.inside.counts.entries in
    let room = subst (λ (ks : List Counted). HaveRoom ks c.args.s) (sym c.self.view_is) c.requires.room in
    (has_room es c.args.s c.in-Some.count.now room (found_size c.args.s.0 c.in-Some.count.now es (sym c.in-Some.ensures.value))).fits

pub invariant_of-self-in-Some : goal.invariant_of-self-in-Some
invariant_of-self-in-Some c =
    let es = c.self.inside.counts.entries in
    let found : lookup (edge_eq c.args.s.0) es ≡ Some c.in-Some.count.now = sym c.in-Some.ensures.value in
    let entries = set_where_found c.in_ok-insert.field-0 c.in-Some.count.now _ _ (c.in_ok-insert.ensures.old ∙ found) c.in_ok-insert.ensures.entries in
    forward_set c.args.s.0 _ es _ entries c.self.invariant

pub returns-in-Some-clause-ok : goal.returns-in-Some-clause-ok
returns-in-Some-clause-ok c =
    let s = c.args.s in
    let es = c.self.inside.counts.entries in
    let m : ℤ = c.in-Some.count.now in
    let found : lookup (edge_eq s.0) es ≡ Some m = sym c.in-Some.ensures.value in
    let room = subst (λ (ks : List Counted). HaveRoom ks s) (sym c.self.view_is) c.requires.room in
    let sum = (has_room es s m room (found_size s.0 m es found)).kept in
    let entries = set_where_found c.in_ok-insert.field-0 m _ _ (c.in_ok-insert.ensures.old ∙ found) c.in_ok-insert.ensures.entries in
    subst (λ (ks : List Counted). IsRaised ks c.insert.new.self.entries s) c.self.view_is
    (inserted_raised s m _ es c.insert.new.self.entries found sum entries)

pub returns-clause-ok : goal.returns-clause-ok
returns-clause-ok c =
    let es = c.self.inside.counts.entries in
    let found : lookup (edge_eq c.args.s.0) es ≡ None = sym c.in_default.ensures.value in
    record {
      absent = ap (λ (ks : List Counted). times c.args.s.0 ks) (sym c.self.view_is) ∙ absent c.args.s.0 es c.requires.forward c.self.invariant found;
      same = refl;
    }
