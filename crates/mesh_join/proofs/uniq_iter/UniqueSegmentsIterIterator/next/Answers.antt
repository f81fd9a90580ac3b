use Rattle.std.proofs.Common.{length, sym, ◌∙◌, ap, rules}
use Rattle.std.proofs.lemmas.Option.{MatchOption-at_none}
use Rattle.mesh_plane.specs.Bounds.{IsSafe}
use Rattle.mesh_join.proofs.CleaningSteps.{none_left, ended, ends, all_ended}
use Rattle.mesh_join.proofs.uniq_iter.UniqueSegmentsIterIterator.next.Goals as goal

pub returns-then-is_one_point-clause-steps : goal.returns-then-is_one_point-clause-steps
returns-then-is_one_point-clause-steps g c =
    let h = MatchOption-at_none _ _ c.in-None.is c.straight_on-to.ensures.sections in (
      ended c.args.self.now c.self.inside.from c.straight_on-to.result.0 (sym c.self.view_is ∙ h.0) (sym c.is_one_point.ensures ∙ c.if-is_one_point.true),
      none_left c.self.inside.from c.straight_on-to.new.points h.1,
    )

pub invariant_of-self-in-None : goal.invariant_of-self-in-None
invariant_of-self-in-None g c =
    let h = MatchOption-at_none _ _ c.in-None.is c.straight_on-to.ensures.sections in
    all_ended (IsSafe g.I.IntNumber.unit) c.self.inside.from c.self.inside.to c.self.inside.points c.straight_on-to.new.points c.self.invariant h.1

pub returns-else-is_one_point-clause-steps : goal.returns-else-is_one_point-clause-steps
returns-else-is_one_point-clause-steps g c =
    let h = MatchOption-at_none _ _ c.in-None.is c.straight_on-to.ensures.sections in
    ends c.args.self.now c.self.inside.from c.straight_on-to.result.0 c.straight_on-to.new.points (sym c.self.view_is ∙ h.0) (sym c.is_one_point.ensures ∙ c.if-is_one_point.false) h.1

pub returns-else-is_one_point-clause-goes : goal.returns-else-is_one_point-clause-goes
returns-else-is_one_point-clause-goes g c = let step = ap length (returns-else-is_one_point-clause-steps g c) in search rules
