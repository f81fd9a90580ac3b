-- The directions are lent as they were built, and every arc keeps the laws of gaps.
use Rattle.std.proofs.Common.{◌≡◌, ◌<◌, ◌^◌, refl, sym, ◌∙◌, rules, subst, ap, List, arith}
use Rattle.std.specs.Prelude.{IsErr, pos, ◌≤ℤ◌}
use Rattle.mesh_plane.specs.Plane.{Point}
use Rattle.mesh_num.specs.Direction.{IsShort}
use Rattle.mesh_arc.specs.Arcs.{bound_of, arc}
use Rattle.mesh_arc.specs.Building.{Building}
use Rattle.mesh_arc.specs.declared.arc.ArcOptions.{ArcOptions}
use Rattle.std.proofs.lemmas.Bool.{true≢false}
use Rattle.mesh_arc.specs.Gaps.{HasNearGaps, ReachesEnd}
use Rattle.mesh_arc.proofs.FineSteps.{fresh_nonzero}
use Rattle.mesh_arc.proofs.Answering.{if_ok_of_err, built_passed, steps_of_units}
use Rattle.mesh_arc.proofs.Gaps.{arc_gaps, arc_reaches}
use Rattle.mesh_arc.proofs.StepConstants.{sine_nonneg}
use Rattle.mesh_arc.proofs.arc.IntegerArc.build.Goals as goal

pub returns-in_err-rebuild : goal.returns-in_err-rebuild
returns-in_err-rebuild g c =
    let e : IsErr c.from_residual.result = c.from_residual.ensures.0 in
    let s : IsShort g.I.IntNumber.unit c.args.from = search rules in (
      (refl, λ _. tt, built_passed _ _ _ _ _ _ _ _ c.in_err-rebuild.ensures.built e),
      record {
        value = if_ok_of_err _ c.from_residual.result e;
        gaps = if_ok_of_err _ c.from_residual.result e;
        last_gap = if_ok_of_err _ c.from_residual.result e;
        default_steps = λ _. steps_of_units g.I.IntNumber.unit g.met.I.IntNumber.either_law c.args.direction c.args.from s c.requires.from;
        room = λ h. absurd (true≢false (sym (c.in_err-rebuild.ensures.room h)));
        after = tt;
      },
    )

pub returns : goal.returns
returns g c =
    let b = c.in_ok-rebuild.ensures.built in
    let s : IsShort g.I.IntNumber.unit c.args.from = search rules in
    let v : c.deref.result.now ≡ arc g.I.IntNumber.unit c.args.self.now.options c.args.direction c.args.from c.args.to =
    c.deref.ensures.value ∙ ap (λ (x : Building). x.directions) c.self.view_is ∙ b.directions in
    let m : c.args.self.now.options.max_step < 2 ^ 30 = omega (arith, c.self.invariant.most, ap (λ (x : Building). x.options.max_step) c.self.view_is, ap (λ (o : ArcOptions). o.max_step) b.options) in
    let n : pos 0 ≤ℤ (bound_of c.args.self.now.options).0 = sine_nonneg c.args.self.now.options.max_step m in
    let t = fresh_nonzero g.I.IntNumber.unit c.args.to g.met.I.IntNumber.least_law c.requires.to in (
      (refl, λ _. tt, rw c.self.view_is (record { options = b.options; room = b.room; directions = b.directions; none = tt; fits = b.fits })),
      record {
        value = v;
        gaps = subst (λ (ds : List Point). HasNearGaps c.args.self.now.options c.args.direction c.args.from ds) (sym v) (arc_gaps g.I.IntNumber.unit c.args.self.now.options c.args.direction c.args.from c.args.to);
        last_gap = subst (λ (ds : List Point). ReachesEnd g.I.IntNumber.unit c.args.self.now.options c.args.direction c.args.from c.args.to ds) (sym v) (arc_reaches g.I.IntNumber.unit c.args.self.now.options c.args.direction c.args.from c.args.to t n);
        default_steps = λ _. steps_of_units g.I.IntNumber.unit g.met.I.IntNumber.either_law c.args.direction c.args.from s c.requires.from;
        room = λ _. refl;
        after = tt;
      },
    )
