-- The walk stays good.
use Rattle.std.proofs.Common.{◌≡◌, true, false, sym, ◌∙◌}
use Rattle.mesh_variable_stroke.proofs.Stepping.{section_seen, covered_edges, broken_good, covered_good, plain_good}
use Rattle.mesh_variable_stroke.proofs.Thin.{thin_chain_seen, none_seen}
use Rattle.mesh_offset.proofs.Adding.{on_ok_then}
use Rattle.mesh_variable_stroke.proofs.walk.Walk.step.Goals as goal

pub returns-then-is_nested_with-clause-good : goal.returns-then-is_nested_with-clause-good
returns-then-is_nested_with-clause-good g c =
    broken_good g.I.IntNumber.unit _ c.new-section.result c.args.next _ _ c.in_ok-self-inside.ensures.chain c.requires.next
    (section_seen g.I.IntNumber.unit c.args.self.now _ c.args.next c.new-section.result c.self.view_is c.requires.walk
    c.requires.next c.new-section.ensures.value c.new-section.ensures.contacts c.new-section.ensures.safe)

pub start_again-requires-clause-section : goal.start_again-requires-clause-section
start_again-requires-clause-section g c =
    section_seen g.I.IntNumber.unit c.args.self.now _ c.args.next c.new-section.result c.self.view_is c.requires.walk
    c.requires.next c.new-section.ensures.value c.new-section.ensures.contacts c.new-section.ensures.safe

pub returns-then-covered-clause-ok : goal.returns-then-covered-clause-ok
returns-then-covered-clause-ok g c =
    rw (covered_edges g.I.IntNumber.unit c.args.sweeper.now c.args.self.now _ c.args.next c.new-section.result
    c.self.view_is c.new-section.ensures.value (sym c.is_nested_with.ensures ∙ c.if-is_nested_with.false)
    (sym c.is_covered_by-covered.ensures ∙ c.if-covered.true)) at c.in_ok-self-inside-2.ensures.ok

pub returns-then-covered-clause-good : goal.returns-then-covered-clause-good
returns-then-covered-clause-good g c =
    covered_good g.I.IntNumber.unit c.args.self.now _ _ c.new-section.result c.args.next _ c.self.view_is c.requires.walk
    c.in_ok-self-inside-2.ensures.chain c.requires.next
    (section_seen g.I.IntNumber.unit c.args.self.now _ c.args.next c.new-section.result c.self.view_is c.requires.walk
    c.requires.next c.new-section.ensures.value c.new-section.ensures.contacts c.new-section.ensures.safe)

pub go_on-requires-clause-section : goal.go_on-requires-clause-section
go_on-requires-clause-section g c =
    section_seen g.I.IntNumber.unit c.args.self.now _ c.args.next c.new-section.result c.self.view_is c.requires.walk
    c.requires.next c.new-section.ensures.value c.new-section.ensures.contacts c.new-section.ensures.safe

pub returns-clause-good : goal.returns-clause-good
returns-clause-good g c =
    on_ok_then c.go_on.result c.go_on.ensures.chain
    (λ h. plain_good g.I.IntNumber.unit c.args.self.now _ _ c.new-section.result c.args.next _ c.self.view_is c.requires.walk
    h c.requires.next
    (section_seen g.I.IntNumber.unit c.args.self.now _ c.args.next c.new-section.result c.self.view_is c.requires.walk
    c.requires.next c.new-section.ensures.value c.new-section.ensures.contacts c.new-section.ensures.safe))

pub returns-in_err-self-inside-2-clause-thin : goal.returns-in_err-self-inside-2-clause-thin
returns-in_err-self-inside-2-clause-thin g c thin small =
    let ok : false ≡ true = c.in_err-self-inside-2.ensures.thin (thin_chain_seen c.args.self.now _ c.self.view_is thin)
    (none_seen g.I.IntNumber.unit c.args.self.now _ c.args.next c.new-section.result c.self.view_is
    c.new-section.ensures.value thin small) in
    absurd (cc)

pub returns-clause-thin : goal.returns-clause-thin
returns-clause-thin g c thin small =
    c.go_on.ensures.nothing
    (none_seen g.I.IntNumber.unit c.args.self.now _ c.args.next c.new-section.result c.self.view_is
    c.new-section.ensures.value thin small)
