use Rattle.std.proofs.Common.{refl, sym, subst}
use Rattle.std.proofs.lemmas.Bool.{false≢true}
use Rattle.mesh_num.specs.Segments.{SignedEdge, IsSubject}
use Rattle.mesh_below.proofs.Asking.{all_more, all_taken}
use Rattle.mesh_below.proofs.checks.are_subjects.Goals as goal

pub returns-then-not-is_subject : goal.returns-then-not-is_subject
returns-then-not-is_subject g c = (
  (λ h. absurd (false≢true h)),
  (λ all. c.if-not-is_subject.ensures.1 (subst (λ (s : SignedEdge). IsSubject s) (sym c.s-item.is) (all c.loop-s.s-index c.s-item.result c.loop-s-test.true))),
)

pub loop-s-preserved : goal.loop-s-preserved
loop-s-preserved g c =
    all_more IsSubject c.args.segments.now c.loop-s.s-index c.s-item.result c.loop-s-test.true c.loop-s.invariant
    (subst (λ (s : SignedEdge). IsSubject s) c.s-item.is (c.if-not-is_subject.ensures.0 refl))

pub returns : goal.returns
returns g c = ((λ _. all_taken IsSubject c.args.segments.now c.loop-s.s-index c.loop-s-test.false c.loop-s.invariant), (λ _. refl))
