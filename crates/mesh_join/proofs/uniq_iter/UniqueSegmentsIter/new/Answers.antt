use Rattle.std.proofs.Common.{◌∷◌, sym, ◌∙◌, ap, subst}
use Rattle.mesh_plane.specs.Bounds.{IsSafe}
use Rattle.mesh_plane.specs.Winding.{winding}
use Rattle.mesh_join.specs.Cleaned.{cleaned_sections, AllEqual, IsCleanContour}
use Rattle.mesh_join.proofs.CleaningStart.{started-cleaned}
use Rattle.mesh_join.proofs.CleaningSteps.{started_on, started_here, started_never, cleaned-clean, cleaned-winding, equal-winding, all_begun, not_equal, first_of_all, second_of_all, next_of_all, all_without_second, all_closed_here, all_closed}
use Rattle.mesh_join.proofs.uniq_iter.UniqueSegmentsIter.new.Goals as goal

pub returns-in_default-first_other-clause-winding : goal.returns-in_default-first_other-clause-winding
returns-in_default-first_other-clause-winding g c m q =
    equal-winding m q c.args.points.now (subst AllEqual (sym c.in-Some.ensures.cases.0) c.in_default-first_other.ensures.sections)

pub loop-next-init : goal.loop-next-init
loop-next-init g c =
    record {
      sections =
          started-cleaned c.in-Some.first.now c.in-Some-first_other.found.0 c.in-Some-first_other.found.1.now c.in-Some-first_other.ensures.sections.0
          ∙ sym c.in-Some-first_other.ensures.sections.2
          ∙ ap cleaned_sections (sym c.in-Some.ensures.cases.0);
      safe = all_begun (IsSafe g.I.IntNumber.unit) c.in-Some.first.now c.args.points.now c.in-Some.others.now (c.in-Some-first_other.found.0 ∷ c.in-Some-first_other.found.1.now) c.requires c.in-Some.ensures.cases.0 c.in-Some-first_other.ensures.safe;
    }

pub turns_at-requires-clause-first : goal.turns_at-requires-clause-first
turns_at-requires-clause-first g c = first_of_all (IsSafe g.I.IntNumber.unit) c.in-Some.first.now c.loop-next.to c.loop-next.rest.now c.loop-next.invariant.safe

pub turns_at-requires-clause-middle : goal.turns_at-requires-clause-middle
turns_at-requires-clause-middle g c = second_of_all (IsSafe g.I.IntNumber.unit) c.in-Some.first.now c.loop-next.to c.loop-next.rest.now c.loop-next.invariant.safe

pub turns_at-requires-clause-last : goal.turns_at-requires-clause-last
turns_at-requires-clause-last g c =
    next_of_all (IsSafe g.I.IntNumber.unit) c.in-Some.first.now c.loop-next.to c.loop-next.rest.now c.loop-next.invariant.safe c.in-Some-split_first.next.now c.in-Some-split_first.others.now c.in-Some-split_first.ensures.cases.0

pub loop-next-preserved : goal.loop-next-preserved
loop-next-preserved g c =
    record {
      sections =
          started_on (cleaned_sections c.args.points.now) c.in-Some.first.now c.loop-next.to c.in-Some-split_first.next.now c.in-Some-split_first.others.now c.loop-next.rest.now c.in-Some-split_first.ensures.cases.0
          (sym c.turns_at.ensures ∙ c.if-turns_at.false) c.loop-next.invariant.sections;
      safe =
          all_without_second (IsSafe g.I.IntNumber.unit) c.in-Some.first.now c.loop-next.to c.loop-next.rest.now c.loop-next.invariant.safe c.in-Some-split_first.next.now c.in-Some-split_first.others.now c.in-Some-split_first.ensures.cases.0;
    }

pub invariant_of-result : goal.invariant_of-result
invariant_of-result g c =
    all_closed_here (IsSafe g.I.IntNumber.unit) c.in-Some.first.now c.loop-next.to c.loop-next.rest.now c.loop-next.invariant.safe c.in-Some-split_first.next.now c.in-Some-split_first.others.now c.in-Some-split_first.ensures.cases.0

pub returns-then-turns_at-clause-sections : goal.returns-then-turns_at-clause-sections
returns-then-turns_at-clause-sections g c = (
  not_equal c.in-Some.first.now c.args.points.now c.in-Some.others.now c.in-Some.ensures.cases.0 c.in-Some-first_other.ensures.sections.1,
  started_here (cleaned_sections c.args.points.now) c.in-Some.first.now c.loop-next.to c.in-Some-split_first.next.now c.in-Some-split_first.others.now c.loop-next.rest.now c.in-Some-split_first.ensures.cases.0
      (sym c.turns_at.ensures ∙ c.if-turns_at.true) c.loop-next.invariant.sections,
)

pub returns-then-turns_at-clause-clean : goal.returns-then-turns_at-clause-clean
returns-then-turns_at-clause-clean g c =
    let s = returns-then-turns_at-clause-sections g c in
    subst IsCleanContour (sym s.1) (cleaned-clean c.args.points.now s.0)

pub returns-then-turns_at-clause-winding : goal.returns-then-turns_at-clause-winding
returns-then-turns_at-clause-winding g c m q =
    ap (winding m q) (returns-then-turns_at-clause-sections g c).1 ∙ cleaned-winding m q c.args.points.now

pub invariant_of-result-2 : goal.invariant_of-result-2
invariant_of-result-2 g c = all_closed (IsSafe g.I.IntNumber.unit) c.in-Some.first.now c.loop-next.to c.loop-next.rest.now c.loop-next.invariant.safe

pub returns-clause-sections : goal.returns-clause-sections
returns-clause-sections g c = (
  not_equal c.in-Some.first.now c.args.points.now c.in-Some.others.now c.in-Some.ensures.cases.0 c.in-Some-first_other.ensures.sections.1,
  started_never (cleaned_sections c.args.points.now) c.in-Some.first.now c.loop-next.to c.loop-next.rest.now c.in_default-split_first.ensures.cases c.loop-next.invariant.sections,
)

pub returns-clause-clean : goal.returns-clause-clean
returns-clause-clean g c =
    let s = returns-clause-sections g c in
    subst IsCleanContour (sym s.1) (cleaned-clean c.args.points.now s.0)

pub returns-clause-winding : goal.returns-clause-winding
returns-clause-winding g c m q = ap (winding m q) (returns-clause-sections g c).1 ∙ cleaned-winding m q c.args.points.now
