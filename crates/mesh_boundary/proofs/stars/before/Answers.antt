use Rattle.std.proofs.Common.{rules, ◌≡◌, ◌∙◌, sym, get_or}
use Rattle.std.specs.Prelude.{pos, ◌+ℤ◌, ◌*ℤ◌}
use mir.Syntax.{w128}
use mir.Val.{to_z, of_z}
use Rattle.mesh_lattice.specs.Counted.{Counted, bit}
use Rattle.mesh_regions.specs.Star.{leaves_before}
use Rattle.mesh_boundary.proofs.SidesCode.{sum_more}
use Rattle.mesh_boundary.proofs.stars.before.Goals as goal

pub loop-s-preserved : goal.loop-s-preserved
loop-s-preserved c =
    let e = c.args.e in
    let d : Counted = (((pos 0, pos 0), (pos 0, pos 0)), pos 0) in
    let s : Counted = get_or c.args.fan.now c.loop-s.s-index d in
    let kept : to_z w128 (of_z w128 c.in_ok-sum.sum) ≡ c.in_ok-sum.sum = search rules in
    let count_kept : to_z w128 (of_z w128 s.1) ≡ s.1 = search rules in
    kept
    ∙ (c.in_ok-sum.ensures
    ∙ ((λ j. c.loop-s.invariant j +ℤ (count_kept j *ℤ bit (c.leaves_before.ensures j)))
    ∙ sym (sum_more (λ (k : Counted). k.1 *ℤ bit (leaves_before e k.0)) c.args.fan.now c.loop-s.s-index d c.loop-s-test.true)))
