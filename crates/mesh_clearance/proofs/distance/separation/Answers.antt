use Rattle.std.proofs.Common.{◌≡◌, ◌∙◌, refl, sym, subst, ℕ}
use Rattle.std.specs.Prelude.{min}
use Rattle.std.proofs.lemmas.Bool.{false≢true}
use Rattle.mesh_clearance.specs.Clearance.{IsSeparation}
use Rattle.mesh_clearance.proofs.Points.{crossing_separation, ends_separation}
use Rattle.mesh_clearance.proofs.distance.separation.Goals as goal

pub returns-then-do_cross : goal.returns-then-do_cross
returns-then-do_cross c = crossing_separation c.args.e c.args.f (c.if-do_cross.ensures.0 refl)

pub returns : goal.returns
returns c =
    let least : c.min.result ≡ min (min c.from_point.result c.from_point-2.result) (min c.from_point-3.result c.from_point-4.result) =
    c.min.ensures ∙ (λ i. min (c.min-first.ensures i) (c.min-second.ensures i)) in
    subst (λ (t : ℕ). IsSeparation c.args.e c.args.f t) (sym least)
    (ends_separation c.args.e c.args.f c.from_point.result c.from_point-2.result c.from_point-3.result c.from_point-4.result (λ h. false≢true (c.if-do_cross.ensures.1 h))
    c.from_point.ensures c.from_point-2.ensures c.from_point-3.ensures c.from_point-4.ensures)
