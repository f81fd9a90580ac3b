-- Round joins and caps keep to the radius, so the call's own clause says how far the track goes.
use Rattle.std.proofs.Common.{ℕ, false, List, [], ◌∷◌, ap, refl, subst}
use Rattle.std.proofs.lemmas.Int.{to_z-of_z}
use Rattle.std.proofs.lemmas.Result.{IfOk-weaker}
use mir.Syntax.{w32}
use Rattle.mesh_below.specs.Resolution.{Choices}
use Rattle.mesh_reach.specs.Reach.{IsReachedWithin}
use Rattle.mesh_stroke.specs.Reach.{all_sections}
use Rattle.mesh_uses.specs.Styles.{rounded}
use Rattle.mesh_uses.proofs.offsets.track_within.Goals as goal

pub returns : goal.returns
returns c =
    let width = to_z-of_z w32 c.args.width c.ranges.width in
    IfOk-weaker c.stroke_with_nearness.result _ _
    (λ near reach m some q winds.
    subst (λ (b : ℕ). IsReachedWithin near.nearness b m (all_sections false (c.args.path.now.items ∷ [])) q)
    (c.kept_radii_reach.ensures (rounded c.args.width) false refl)
    (reach (ap (λ (choices : Choices). choices.least_area) c.new-2.ensures)
    (ap (λ (choices : Choices). choices.clockwise) c.new-2.ensures) m some q winds))
    (rw (c.end_cap-style.ensures, c.start_cap.ensures, c.line_join.ensures, c.new.ensures, width)
    at c.stroke_with_nearness.ensures.reach)
