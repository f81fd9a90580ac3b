use Rattle.std.proofs.Common.{◌≡◌, ℕ, ◌+◌, ◌-◌, ◌<◌, length, List, get_or, set, refl, sym, ◌∙◌, ap, subst, arith}
use Rattle.std.proofs.lemmas.Bool.{both_ways}
use Rattle.std.proofs.lemmas.List.{get_or_read_under}
use Rattle.mesh_plane.proofs.Comparing.{decides_point}
use Rattle.mesh_points.specs.declared.points.Entry.{Entry}
use Rattle.mesh_points.specs.Chains.{IsSearched}
use Rattle.mesh_points.specs.Private.Filed.{before_in, list_in, list_of, no_entry}
use Rattle.mesh_points.proofs.Chains.{search_goes_on}
use Rattle.mesh_points.proofs.Numbers.{new_in, pushed}
use Rattle.mesh_points.proofs.points.Points.number.Goals as goal

pub loop-left-preserved : goal.loop-left-preserved
loop-left-preserved c =
    let es : List Entry = c.self.inside.entries.items in
    let left : ℕ = c.loop-left.left in
    let lists : ℕ = length c.self.inside.last.items in
    let low : left - 1 < length es = omega (arith, c.loop-left.invariant.within) in
    let is : c.index-entry.result.now ≡ get_or es (left - 1) no_entry = get_or_read_under es (left - 1) (length es) c.index-entry.result.now no_entry c.index-entry.ensures low refl in
    let other : (get_or es (left - 1) no_entry).at ≡ c.args.p → ⊥ = λ e.
    both_ways _ c.if-same_point.false
    (c.same_point.ensures ∙ (decides_point c.index-entry.result.now.at c.args.p).1 (ap (λ (x : Entry). x.at) is ∙ e)) in
    subst (λ (link : ℕ). IsSearched (λ (k : ℕ). (get_or es k no_entry).at ≡ c.args.p) (length es) (list_in es lists) c.list_of-list.result link)
    (sym (ap (λ (x : Entry). x.before) is))
    (search_goes_on (λ (k : ℕ). (get_or es k no_entry).at ≡ c.args.p) c.self.inside.last.items (length es) (before_in es) (list_in es lists) c.list_of-list.result left
    c.self.invariant.chained c.loop-left-test.true other c.loop-left.invariant)

pub invariant_of-self-2 : goal.invariant_of-self-2
invariant_of-self-2 c =
    let es : List Entry = c.self.inside.entries.items in
    let last : List ℕ = c.self.inside.last.items in
    let many : c.len.result ≡ length last = omega (arith, c.len.ensures) in
    let list : c.list_of-list.result ≡ list_of c.args.p (length last) = c.list_of-list.ensures.value ∙ ap (list_of c.args.p) many in
    let none : c.loop-left.left ≡ 0 = omega (arith, c.loop-left-test.false) in
    let low : c.list_of-list.result < length last = omega (arith, c.list_of-list.ensures.within) in
    let link : c.index-before.result.now ≡ get_or last c.list_of-list.result 0 = get_or_read_under last c.list_of-list.result (length last) c.index-before.result.now 0 c.index-before.ensures low refl in
    let count : c.len-count.result ≡ length es = omega (arith, c.len-count.ensures) in
    pushed last (set last c.list_of-list.result (c.len-count.result + 1)) es c.push.new.self.items c.args.p c.index-before.result.now c.list_of-list.result c.loop-left.left
    (record {
      is_list = list;
      within = low;
      is_link = link;
      entries = c.in_ok-push.ensures.items;
      filed = ap (λ (n : ℕ). set last c.list_of-list.result (n + 1)) count;
    })
    none (omega (arith, c.if-count.false)) c.loop-left.invariant c.self.invariant

pub returns-clause-new : goal.returns-clause-new
returns-clause-new c =
    let es : List Entry = c.self.inside.entries.items in
    let many : c.len.result ≡ length c.self.inside.last.items = omega (arith, c.len.ensures) in
    let list : c.list_of-list.result ≡ list_of c.args.p (length c.self.inside.last.items) = c.list_of-list.ensures.value ∙ ap (list_of c.args.p) many in
    let none : c.loop-left.left ≡ 0 = omega (arith, c.loop-left-test.false) in
    λ _. new_in es c.push.new.self.items c.args.self.now c.args.p c.index-before.result.now (length c.self.inside.last.items) c.list_of-list.result c.loop-left.left c.self.view_is list none
    c.in_ok-push.ensures.items c.loop-left.invariant

pub returns-clause-distinct : goal.returns-clause-distinct
returns-clause-distinct c = (invariant_of-self-2 c).distinct
