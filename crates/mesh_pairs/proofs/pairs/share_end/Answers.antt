use Rattle.std.proofs.Common.{◌≡◌, eqb-true, eq-eqb, refl}
use Rattle.mesh_points.specs.declared.edges.NumberedEdge.{NumberedEdge}
use Rattle.mesh_pairs.specs.Pairs.{ShareEnd, at_both_ends, at_both_starts, from_end_to_start, from_start_to_end}
use Rattle.mesh_pairs.proofs.pairs.share_end.Goals as goal

last_way : (e f : NumberedEdge) → (e.from ≡ f.from → ⊥) → (e.from ≡ f.to → ⊥) → (e.to ≡ f.from → ⊥) → ShareEnd e f → e.to ≡ f.to
last_way e f a b c (at_both_starts h) = absurd (a h)
last_way e f a b c (from_start_to_end h) = absurd (b h)
last_way e f a b c (from_end_to_start h) = absurd (c h)
last_way e f a b c (at_both_ends h) = h

pub returns : goal.returns
returns c = (
  λ t. at_both_ends (eqb-true c.args.e.to c.args.f.to t),
  λ h. eq-eqb c.args.e.to c.args.f.to (last_way c.args.e c.args.f c.if-e-f.false c.if-e-f-2.false c.if-e-f-3.false h),
)

pub returns-then-e-f : goal.returns-then-e-f
returns-then-e-f c = (λ t. at_both_starts c.if-e-f.true, λ h. refl)

pub returns-then-e-f-2 : goal.returns-then-e-f-2
returns-then-e-f-2 c = (λ t. from_start_to_end c.if-e-f-2.true, λ h. refl)

pub returns-then-e-f-3 : goal.returns-then-e-f-3
returns-then-e-f-3 c = (λ t. from_end_to_start c.if-e-f-3.true, λ h. refl)
