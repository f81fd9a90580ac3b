use Rattle.std.proofs.Common.{◌≡◌, ap, rules}
use Rattle.std.specs.Prelude.{ℤ, pos, ◌-ℤ◌, neg_ℤ}
use mir.Syntax.{w128}
use mir.Val.{of_z, to_z}
use Rattle.mesh_split.proofs.steps.backwards.Goals as goal

pub returns : goal.returns
returns c =
    let s = c.args.s in
    let turned : to_z w128 (of_z w128 (pos 0 -ℤ to_z w128 (of_z w128 s.1))) ≡ neg_ℤ s.1 = search rules in
    ap (λ (n : ℤ). ((s.0.1, s.0.0), n)) turned
