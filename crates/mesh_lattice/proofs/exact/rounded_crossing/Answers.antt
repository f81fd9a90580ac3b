use Rattle.std.proofs.Common.{rules, ◌∙◌, ap}
use Rattle.std.specs.Prelude.{ℤ, ◌-ℤ◌}
use Rattle.std.proofs.lemmas.Int.{to_z-of_z}
use mir.Syntax.{w32}
use mir.Val.{SFits}
use Rattle.mesh_lattice.specs.Split.{crossing_at}
use Rattle.mesh_lattice.proofs.exact.rounded_crossing.Goals as goal

pub returns : goal.returns
returns c =
    let e = c.args.e in
    let a : SFits w32 e.0.0 = search rules in
    let b : SFits w32 e.1.0 = search rules in
    let f : SFits w32 e.0.1 = search rules in
    let g : SFits w32 e.1.1 = search rules in
    let x = simp (to_z-of_z w32 e.0.0 a, to_z-of_z w32 e.1.0 b) at c.crossing_at.ensures in
    let y = simp (to_z-of_z w32 e.0.1 f, to_z-of_z w32 e.1.1 g) at c.crossing_at-2.ensures in
    let s = c.requires.sides in
    let at = λ (p q : ℤ). ap (λ (v : ℤ × ℤ). crossing_at p q v.0 (v.0 -ℤ v.1)) s in
    let p = to_z-of_z w32 c.crossing_at.result (record { sfits = c.crossing_at.type_inv }) in
    let q = to_z-of_z w32 c.crossing_at-2.result (record { sfits = c.crossing_at-2.type_inv }) in
    let first = p ∙ x ∙ at e.0.0 e.1.0 in
    let second = q ∙ y ∙ at e.0.1 e.1.1 in
    λ i. (first i, second i)
