use Rattle.std.proofs.Common.{◌≡◌, sym, ◌∙◌, ap, subst, inl, inr, List, Some, None}
use Rattle.std.specs.Prelude.{ℤ}
use Rattle.std.specs.Map.{lookup}
use Rattle.mesh_lattice.specs.Counted.{Counted}
use Rattle.mesh_store.specs.Steps.{IsRaised, IsNew, HaveRoom}
use Rattle.mesh_store.specs.Witnesses.{edge_eq}
use Rattle.mesh_store.proofs.Entries.{found_size, found_set, has_room, inserted_new, inserted_twice, set_where_found, put_where_absent, forward_set, forward_put, count_kept}
use Rattle.mesh_store.proofs.worklist.Worklist.add.Goals as goal

pub overflow_add-count : goal.overflow_add-count
overflow_add-count c =
    let es = c.self.inside.counts.entries in
    let m : ℤ = c.in-Some.count in
    let found : lookup (edge_eq c.args.s.0) es ≡ Some m = sym c.in_ok-count.ensures.old ∙ c.in-Some.is in
    let room = subst (λ (ks : List Counted). HaveRoom ks c.args.s) (sym c.self.view_is) c.requires.room in
    (has_room es c.args.s m room (found_size c.args.s.0 m es found)).fits

pub invariant_of-self-in-Some : goal.invariant_of-self-in-Some
invariant_of-self-in-Some c =
    let k = c.args.s.0 in
    let es = c.self.inside.counts.entries in
    let m : ℤ = c.in-Some.count in
    let found : lookup (edge_eq k) es ≡ Some m = sym c.in_ok-count.ensures.old ∙ c.in-Some.is in
    let first = set_where_found c.in_ok-count.field-0 m _ _ c.in-Some.is c.in_ok-count.ensures.entries in
    let stands = ap (lookup (edge_eq k)) first ∙ found_set k m _ es found in
    let second = set_where_found c.in_ok-insert.field-0 _ _ _ (c.in_ok-insert.ensures.old ∙ stands) c.in_ok-insert.ensures.entries in
    forward_set k _ c.insert.new.self.entries _ second (forward_set k _ es _ first c.self.invariant)

pub returns-in-Some : goal.returns-in-Some
returns-in-Some c =
    let s = c.args.s in
    let es = c.self.inside.counts.entries in
    let m : ℤ = c.in-Some.count in
    let found : lookup (edge_eq s.0) es ≡ Some m = sym c.in_ok-count.ensures.old ∙ c.in-Some.is in
    let room = subst (λ (ks : List Counted). HaveRoom ks s) (sym c.self.view_is) c.requires.room in
    let sum = (has_room es s m room (found_size s.0 m es found)).kept in
    let first = set_where_found c.in_ok-count.field-0 m _ _ c.in-Some.is c.in_ok-count.ensures.entries in
    let stands = ap (lookup (edge_eq s.0)) first ∙ found_set s.0 m _ es found in
    let second = set_where_found c.in_ok-insert.field-0 _ _ _ (c.in_ok-insert.ensures.old ∙ stands) c.in_ok-insert.ensures.entries in
    inl
    (subst (λ (ks : List Counted). IsRaised ks c.insert-in-Some.new.self.entries s) c.self.view_is
    (inserted_twice s m _ _ es c.insert.new.self.entries c.insert-in-Some.new.self.entries found sum first second))

pub invariant_of-self-2 : goal.invariant_of-self-2
invariant_of-self-2 c =
    let es = c.self.inside.counts.entries in
    forward_put _ es _ c.requires.forward c.self.invariant (put_where_absent c.in_ok-count.field-0 _ _ c.in_default.is c.in_ok-count.ensures.entries)

pub returns : goal.returns
returns c =
    let s = c.args.s in
    let es = c.self.inside.counts.entries in
    let none : lookup (edge_eq s.0) es ≡ None = sym c.in_ok-count.ensures.old ∙ c.in_default.is in
    let kept = count_kept c.args.self.now s c.requires.room in
    let put = put_where_absent c.in_ok-count.field-0 _ _ c.in_default.is c.in_ok-count.ensures.entries in
    let entries = simp kept at put in
    inr
    (subst (λ (ks : List Counted). IsNew ks c.insert.new.self.entries s) c.self.view_is
    (inserted_new s es c.insert.new.self.entries c.requires.forward c.self.invariant none entries))

pub invariant_of-self-in_err-note : goal.invariant_of-self-in_err-note
invariant_of-self-in_err-note c =
    let es = c.self.inside.counts.entries in
    forward_put _ es _ c.requires.forward c.self.invariant (put_where_absent c.in_ok-count.field-0 _ _ c.in_default.is c.in_ok-count.ensures.entries)
