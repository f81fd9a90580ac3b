use Rattle.std.proofs.Common.{◌≡◌, ◌^◌, arith, lit≤, w32, w64}
use Rattle.std.specs.Prelude.{ℤ, ◌*ℤ◌}
use Rattle.std.proofs.lemmas.Int.{to_z-of_z, ints}
use mir.Syntax.{w16}
use mir.Val.{SFits, to_z, of_z}
use Rattle.mesh_plane.specs.Bounds.{IsSmall}
use Rattle.mesh_lattice.proofs.Arithmetic.{small_product}
use Rattle.mesh_store.proofs.tree.term.Goals as goal

small_term : (a b : ℤ) → SFits w16 a → SFits w32 b → IsSmall (2 ^ 48) (a *ℤ b)
small_term a b f g =
    small_product (2 ^ 16) (2 ^ 32) (2 ^ 48) a b (lit≤ tt) (record { low = omega (arith, ints, f); high = omega (arith, ints, f) }) (record { low = omega (arith, ints, g); high = omega (arith, ints, g) })

-- a term's factors and product, as 64 bits hold them
record Kept (a b : ℤ) : Type 0 where
  first : to_z w64 (of_z w64 (to_z w16 (of_z w16 a))) ≡ a
  second : to_z w64 (of_z w64 (to_z w32 (of_z w32 b))) ≡ b
  fits : SFits w64 (a *ℤ b)
  small : IsSmall (2 ^ 48) (a *ℤ b)

kept : (a b : ℤ) → SFits w16 a → SFits w32 b → Kept a b
kept a b f g =
    let s = small_term a b f g in
    let wide_a : SFits w64 a = omega (arith, ints, f) in
    let wide_b : SFits w64 b = omega (arith, ints, g) in
    record {
      first = simp (to_z-of_z w16 a f, to_z-of_z w64 a wide_a);
      second = simp (to_z-of_z w32 b g, to_z-of_z w64 b wide_b);
      fits = omega (arith, ints, s.low, s.high);
      small = s;
    }

pub overflow_mul-result : goal.overflow_mul-result
overflow_mul-result c = let k = kept c.args.component c.args.coordinate c.ranges.component c.ranges.coordinate in simp (k.first, k.second) k.fits

pub returns-clause-value : goal.returns-clause-value
returns-clause-value c =
    let k = kept c.args.component c.args.coordinate c.ranges.component c.ranges.coordinate in
    simp (k.first, k.second) (to_z-of_z w64 (c.args.component *ℤ c.args.coordinate) k.fits)

pub returns-clause-size : goal.returns-clause-size
returns-clause-size c =
    let k = kept c.args.component c.args.coordinate c.ranges.component c.ranges.coordinate in
    simp (k.first, k.second, to_z-of_z w64 (c.args.component *ℤ c.args.coordinate) k.fits) k.small
