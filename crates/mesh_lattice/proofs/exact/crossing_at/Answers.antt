use Rattle.std.proofs.Common.{◌∙◌, ap, subst, sym}
use Rattle.std.specs.Prelude.{ℤ, ◌-ℤ◌}
use Rattle.std.proofs.lemmas.Int.{to_z-of_z}
use mir.Syntax.{w32, w128}
use mir.Val.{SFits}
use Rattle.mesh_lattice.specs.Split.{crossing_at, rounded_quotient}
use Rattle.mesh_lattice.proofs.Arithmetic.{between_fits}
use Rattle.mesh_lattice.proofs.Boxes.{crossing_between}
use Rattle.mesh_lattice.proofs.exact.crossing_at.Goals as goal

pub overflow_cast-result : goal.overflow_cast-result
overflow_cast-result c =
    let s = c.args.s in
    let ratio = simp (to_z-of_z w32 c.args.a c.ranges.a, to_z-of_z w32 c.args.b c.ranges.b) at c.crossing_ratio.ensures.value in
    let value = c.rounded.ensures ∙ ap (λ (r : ℤ × ℤ). rounded_quotient r.0 r.1) ratio in
    let fits = between_fits c.args.a (crossing_at c.args.a c.args.b s.0 (s.0 -ℤ s.1)) c.args.b c.ranges.a c.ranges.b (crossing_between c.args.a c.args.b s.0 s.1 c.requires.parted) in
    simp (to_z-of_z w128 c.rounded.result (record { sfits = c.rounded.type_inv })) (subst (SFits w32) (sym value) fits)

pub returns : goal.returns
returns c =
    let s = c.args.s in
    let ratio = simp (to_z-of_z w32 c.args.a c.ranges.a, to_z-of_z w32 c.args.b c.ranges.b) at c.crossing_ratio.ensures.value in
    let value = c.rounded.ensures ∙ ap (λ (r : ℤ × ℤ). rounded_quotient r.0 r.1) ratio in
    let fits = between_fits c.args.a (crossing_at c.args.a c.args.b s.0 (s.0 -ℤ s.1)) c.args.b c.ranges.a c.ranges.b (crossing_between c.args.a c.args.b s.0 s.1 c.requires.parted) in
    simp (to_z-of_z w128 c.rounded.result (record { sfits = c.rounded.type_inv })) (to_z-of_z w32 c.rounded.result (subst (SFits w32) (sym value) fits) ∙ value)
