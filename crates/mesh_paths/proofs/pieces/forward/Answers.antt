use Rattle.std.proofs.Common.{◌≡◌, ◌∙◌, ap, sym, subst, arith}
use Rattle.std.specs.Prelude.{ℤ, ◌*ℤ◌, neg_ℤ}
use Rattle.std.proofs.lemmas.Int.{ints, to_z-of_z}
use mir.Syntax.{w32}
use mir.Val.{SFits, of_z, to_z}
use Rattle.mesh_plane.specs.Plane.{Edge}
use Rattle.mesh_plane.proofs.Whole.{neg_mul_neg}
use Rattle.mesh_lattice.specs.Counted.{along}
use Rattle.mesh_lattice.specs.Split.{back}
use Rattle.mesh_lattice.proofs.Ends.{along_turned, ends_turned}
use Rattle.mesh_paths.proofs.pieces.forward.Goals as goal

against : (q e : Edge) (n m : ℤ) → m ≡ neg_ℤ n → m *ℤ along q (back e) ≡ n *ℤ along q e
against q e n m is = (λ i. is i *ℤ along_turned q e i) ∙ neg_mul_neg n (along q e)

turned : (n m : ℤ) → SFits w32 n → SFits w32 (neg_ℤ (to_z w32 (of_z w32 n))) → m ≡ neg_ℤ (to_z w32 (of_z w32 n)) → to_z w32 (of_z w32 m) ≡ neg_ℤ n
turned n m fits other is = to_z-of_z w32 m (subst (SFits w32) (sym is) other) ∙ (is ∙ ap neg_ℤ (to_z-of_z w32 n fits))

pub returns-clause-counted : goal.returns-clause-counted
returns-clause-counted c =
    let fits : SFits w32 c.args.count = omega (arith, ints) in
    record {
      ends = λ q. ends_turned q (c.args.a.at, c.args.b.at);
      net = λ q. against q (c.args.a.at, c.args.b.at) c.args.count (to_z w32 (of_z w32 c.in_ok-count.count)) (turned c.args.count c.in_ok-count.count fits c.in_ok-count.ensures.0 c.in_ok-count.ensures.1);
    }
