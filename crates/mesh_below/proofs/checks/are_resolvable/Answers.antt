use Rattle.std.proofs.Common.{◌≡◌, ℕ, List, refl, sym, ◌∙◌, subst}
use Rattle.std.proofs.lemmas.Bool.{false≢true}
use Rattle.std.proofs.lemmas.Result.{IfOk-weaker}
use Rattle.mesh_plane.specs.Plane.{Edge}
use Rattle.mesh_num.specs.Segments.{edges_of}
use Rattle.mesh_plane.specs.Winding.{IsBalanced}
use Rattle.mesh_below.specs.Asked.{AreResolvable}
use Rattle.mesh_lattice.specs.Reach.{AreEdgesSafe}
use Rattle.mesh_below.proofs.checks.are_resolvable.Goals as goal

pub returns-then-not-are_safe : goal.returns-then-not-are_safe
returns-then-not-are_safe g c = (
  (λ h. absurd (false≢true h)),
  (λ (r : AreResolvable g.I.IntNumber.unit c.args.segments.now).
      let unit : c.unit.result ≡ g.I.IntNumber.unit = c.unit.ensures in
      let same : c.deref.result.now ≡ edges_of c.args.segments.now = c.deref.ensures.value ∙ c.in_ok-edges.ensures.value in
      c.if-not-are_safe.ensures.1 (subst (λ (x : ℕ × List Edge). AreEdgesSafe x.0 x.1) (sym (λ i. (unit i, same i))) r.safe)),
)

pub returns : goal.returns
returns g c =
    let unit : c.unit.result ≡ g.I.IntNumber.unit = c.unit.ensures in
    let same : c.deref.result.now ≡ edges_of c.args.segments.now = c.deref.ensures.value ∙ c.in_ok-edges.ensures.value in
    let last : c.deref-2.result.now ≡ edges_of c.args.segments.now = c.deref-2.ensures.value ∙ c.in_ok-edges.ensures.value in
    IfOk-weaker c.are_balanced.result _ _
    (λ b h. (
      (λ t. record {
        subject = c.if-not-are_subjects.ensures.0 refl;
        balanced = subst (λ (es : List Edge). IsBalanced es) last (h.0 t);
        safe = subst (λ (x : ℕ × List Edge). AreEdgesSafe x.0 x.1) (λ i. (unit i, same i)) (c.if-not-are_safe.ensures.0 refl);
      }),
      (λ (r : AreResolvable g.I.IntNumber.unit c.args.segments.now). h.1 (subst (λ (es : List Edge). IsBalanced es) (sym last) r.balanced)),
    ))
    c.are_balanced.ensures
