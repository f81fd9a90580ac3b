use Rattle.std.proofs.Common.{◌≡◌, true, false, ◌∷◌, sym, ◌∙◌, ap, subst}
use Rattle.std.proofs.lemmas.List.Elements.{All-rest}
use Rattle.mesh_plane.specs.Bounds.{IsSafe}
use Rattle.mesh_plane.specs.Winding.{same_point}
use Rattle.std.specs.List.{All}
use Rattle.mesh_join.specs.Cleaned.{cleaned_sections}
use Rattle.mesh_join.proofs.CleaningSteps.{equal_on, unequal_on, sections_on, differs}
use Rattle.mesh_join.proofs.uniq_iter.first_other.Goals as goal

pub returns-then-not-is_one_point-clause-sections : goal.returns-then-not-is_one_point-clause-sections
returns-then-not-is_one_point-clause-sections g c =
    let is = c.in-Some.ensures.cases.0 in
    let apart : same_point c.args.first c.in-Some.next.now ≡ false = sym c.is_one_point.ensures ∙ c.if-not-is_one_point.true in (
      apart,
      differs c.args.first c.in-Some.next.now c.in-Some.others.now c.args.points.now c.loop-next.rest.now is apart c.loop-next.invariant.unequal,
      c.loop-next.invariant.sections ∙ ap (λ ws. cleaned_sections (c.args.first ∷ ws)) is,
    )

pub returns-then-not-is_one_point-clause-safe : goal.returns-then-not-is_one_point-clause-safe
returns-then-not-is_one_point-clause-safe g c = subst (All (IsSafe g.I.IntNumber.unit)) c.in-Some.ensures.cases.0 c.loop-next.invariant.safe

pub loop-next-preserved : goal.loop-next-preserved
loop-next-preserved g c =
    let is = c.in-Some.ensures.cases.0 in
    let same : same_point c.args.first c.in-Some.next.now ≡ true = sym c.is_one_point.ensures ∙ c.if-not-is_one_point.false in
    record {
      equal = λ h. c.loop-next.invariant.equal (equal_on c.args.first c.in-Some.next.now c.in-Some.others.now c.loop-next.rest.now is same h);
      unequal = λ h. unequal_on c.args.first c.in-Some.next.now c.in-Some.others.now c.loop-next.rest.now is (c.loop-next.invariant.unequal h);
      sections = sections_on c.args.first c.in-Some.next.now c.in-Some.others.now c.args.points.now c.loop-next.rest.now is same c.loop-next.invariant.sections;
      safe = All-rest (IsSafe g.I.IntNumber.unit) c.in-Some.next.now c.in-Some.others.now c.loop-next.rest.now is c.loop-next.invariant.safe;
    }
