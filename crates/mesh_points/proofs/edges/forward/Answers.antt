use Rattle.std.proofs.Common.{◌≡◌, ◌∙◌, ap, arith}
use Rattle.std.specs.Prelude.{pos, negsuc, ◌*ℤ◌, neg_ℤ}
use Rattle.mesh_plane.specs.Plane.{Edge}
use Rattle.mesh_plane.proofs.Whole.{linear, neg_mul, one_mul}
use Rattle.mesh_lattice.specs.Counted.{along}
use Rattle.mesh_lattice.specs.Split.{back}
use Rattle.mesh_lattice.proofs.Ends.{along_turned, ends_turned}
use Rattle.mesh_points.proofs.edges.forward.Goals as goal

against : (q e : Edge) → negsuc 0 *ℤ along q (back e) ≡ along q e
against q e =
    let opposite : negsuc 0 *ℤ along q (back e) ≡ neg_ℤ (along q (back e)) = neg_mul (pos 1) (along q (back e)) ∙ ap neg_ℤ (one_mul (along q (back e))) in
    omega (arith, linear, opposite, along_turned q e)

pub returns-else-is_before-clause-counted : goal.returns-else-is_before-clause-counted
returns-else-is_before-clause-counted c = record {
  ends = λ q. ends_turned q c.args.e;
  net = λ q. against q c.args.e;
  size = omega arith;
}
