use Rattle.std.proofs.Common.{◌∷◌, sym, ◌∙◌}
use Rattle.mesh_plane.specs.Bounds.{IsSafe}
use Rattle.mesh_join.specs.Cleaned.{open_sections}
use Rattle.mesh_join.proofs.CleaningSteps.{open_kept, open_on, first_of_all, second_of_all, next_of_all, all_without_first, all_without_second}
use Rattle.mesh_join.proofs.uniq_iter.straight_on.Goals as goal

pub turns_at-requires-clause-first : goal.turns_at-requires-clause-first
turns_at-requires-clause-first g c = first_of_all (IsSafe g.I.IntNumber.unit) c.args.from c.loop-point.to c.loop-point.points c.loop-point.invariant.safe

pub turns_at-requires-clause-middle : goal.turns_at-requires-clause-middle
turns_at-requires-clause-middle g c = second_of_all (IsSafe g.I.IntNumber.unit) c.args.from c.loop-point.to c.loop-point.points c.loop-point.invariant.safe

pub turns_at-requires-clause-last : goal.turns_at-requires-clause-last
turns_at-requires-clause-last g c =
    next_of_all (IsSafe g.I.IntNumber.unit) c.args.from c.loop-point.to c.loop-point.points c.loop-point.invariant.safe c.in-Some.point c.next.new.self c.in-Some.ensures

pub returns-then-turns_at-clause-sections : goal.returns-then-turns_at-clause-sections
returns-then-turns_at-clause-sections g c =
    open_kept (open_sections (c.args.from ∷ c.args.to ∷ c.args.points.now)) c.args.from c.loop-point.to c.in-Some.point c.next.new.self c.loop-point.points c.in-Some.ensures
    (sym c.turns_at.ensures ∙ c.if-turns_at.true) c.loop-point.invariant.sections

pub returns-then-turns_at-clause-safe : goal.returns-then-turns_at-clause-safe
returns-then-turns_at-clause-safe g c =
    all_without_first (IsSafe g.I.IntNumber.unit) c.args.from c.loop-point.to c.loop-point.points c.loop-point.invariant.safe c.in-Some.point c.next.new.self c.in-Some.ensures

pub loop-point-preserved : goal.loop-point-preserved
loop-point-preserved g c =
    record {
      sections =
          open_on (open_sections (c.args.from ∷ c.args.to ∷ c.args.points.now)) c.args.from c.loop-point.to c.in-Some.point c.next.new.self c.loop-point.points c.in-Some.ensures
          (sym c.turns_at.ensures ∙ c.if-turns_at.false) c.loop-point.invariant.sections;
      safe = all_without_second (IsSafe g.I.IntNumber.unit) c.args.from c.loop-point.to c.loop-point.points c.loop-point.invariant.safe c.in-Some.point c.next.new.self c.in-Some.ensures;
    }

pub returns-clause-safe : goal.returns-clause-safe
returns-clause-safe g c = second_of_all (IsSafe g.I.IntNumber.unit) c.args.from c.loop-point.to c.loop-point.points c.loop-point.invariant.safe
