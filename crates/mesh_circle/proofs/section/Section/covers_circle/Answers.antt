-- The section as the record of its points.
use Rattle.std.proofs.Common.{sym, ◌∙◌, ap, subst, rules}
use Rattle.std.proofs.lemmas.Int.{to_z-of_z}
use mir.Syntax.{w128}
use mir.Val.{SFits, of_z, to_z}
use Rattle.mesh_circle.specs.Sections.{IsSafeSection}
use Rattle.mesh_circle.proofs.Covers.{covers_made, covers_none, covers_holds}
use Rattle.mesh_circle.proofs.section.Section.covers_circle.Goals as goal

pub returns-then-turn-ne0-clause-value : goal.returns-then-turn-ne0-clause-value
returns-then-turn-ne0-clause-value g c =
    let r : SFits w128 c.turn_at_second-turn.result = search rules in
    let e = simp (to_z-of_z w128 c.turn_at_second-turn.result r) at c.is_inside.ensures in
    covers_made _ c.args.self.now c.args.circle c.turn_at_second-turn.result c.is_inside.result c.self.view_is
    c.turn_at_second-turn.ensures
    (λ h. c.if-turn-ne0.true (ap (of_z w128) h)) e

pub returns-then-turn-ne0-clause-holds : goal.returns-then-turn-ne0-clause-holds
returns-then-turn-ne0-clause-holds g c =
    λ h. covers_holds c.args.self.now c.args.circle c.requires.circle.nonneg
    (sym (returns-then-turn-ne0-clause-value g c) ∙ h)

pub returns-else-turn-ne0-clause-value : goal.returns-else-turn-ne0-clause-value
returns-else-turn-ne0-clause-value g c =
    let r : SFits w128 c.turn_at_second-turn.result = search rules in
    rw c.if-turn-ne0.false
    (covers_none _ c.args.self.now c.args.circle c.turn_at_second-turn.result c.self.view_is c.turn_at_second-turn.ensures
    (sym (to_z-of_z w128 c.turn_at_second-turn.result r) ∙ ap (to_z w128) c.if-turn-ne0.false))

pub returns-else-turn-ne0-clause-holds : goal.returns-else-turn-ne0-clause-holds
returns-else-turn-ne0-clause-holds g c =
    λ h. covers_holds c.args.self.now c.args.circle c.requires.circle.nonneg
    (sym (returns-else-turn-ne0-clause-value g c) ∙ h)

pub turn_at_second-turn-requires-clause-first : goal.turn_at_second-turn-requires-clause-first
turn_at_second-turn-requires-clause-first g c =
    (subst (IsSafeSection g.I.IntNumber.unit) (sym c.self.view_is) c.requires.own).a_left

pub turn_at_second-turn-requires-clause-third : goal.turn_at_second-turn-requires-clause-third
turn_at_second-turn-requires-clause-third g c =
    (subst (IsSafeSection g.I.IntNumber.unit) (sym c.self.view_is) c.requires.own).b_right

pub is_inside-requires-clause-circle : goal.is_inside-requires-clause-circle
is_inside-requires-clause-circle g c = c.requires.circle

pub is_inside-requires-clause-fourth : goal.is_inside-requires-clause-fourth
is_inside-requires-clause-fourth g c =
    (subst (IsSafeSection g.I.IntNumber.unit) (sym c.self.view_is) c.requires.own).a_right
