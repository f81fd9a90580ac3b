use Rattle.std.proofs.Common.{sym, ◌∙◌, true}
use Rattle.std.proofs.lemmas.Bool.{both_ways, false≢true}
use Rattle.mesh_lattice.proofs.Each.{proper_at}
use Rattle.mesh_below.proofs.Subjects.{proper_none, proper_more, proper_whole}
use Rattle.mesh_below.proofs.given.are_proper.Goals as goal

pub returns-then-same_point : goal.returns-then-same_point
returns-then-same_point c = (
  (λ h. absurd (false≢true h)),
  (λ proper. absurd (both_ways _ (proper_at c.args.edges.now c.loop-e.e-index _ c.loop-e-test.true proper) (sym c.same_point.ensures ∙ c.if-same_point.true))),
)

pub loop-e-init : goal.loop-e-init
loop-e-init c = proper_none

pub loop-e-preserved : goal.loop-e-preserved
loop-e-preserved c = proper_more c.args.edges.now c.loop-e.e-index _ c.loop-e-test.true (sym c.same_point.ensures ∙ c.if-same_point.false) c.loop-e.invariant

pub returns : goal.returns
returns c = ((λ _. proper_whole c.args.edges.now c.loop-e.e-index c.loop-e-test.false c.loop-e.invariant), (λ _. λ i. true))
