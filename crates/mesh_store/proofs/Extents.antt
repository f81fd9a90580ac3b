-- Lemmas over points: the extent of edges.
use Rattle.std.proofs.Common.{◌≡◌, ◌+◌, arith, ℕ, ◌≤◌, false, refl, zero, suc}
use Rattle.std.specs.Prelude.{ℤ, ◌-ℤ◌, ◌≤ℤ◌, ◌<ℤ◌, unsigned_abs}
use Rattle.std.proofs.lemmas.Int.{ints, by_lt_z}
use Rattle.mesh_plane.proofs.Whole.{linear}
use Rattle.mesh_lattice.specs.Split.{IsBetween, IsInBox}
use Rattle.mesh_plane.specs.Plane.{Point, Edge}
use Rattle.mesh_store.specs.Steps.{extent}
use Rattle.std.proofs.lemmas.Bool.{both_ways}
use Rattle.mesh_plane.specs.Winding.{same_point}
use Rattle.mesh_plane.proofs.Comparing.{decides_point}

length_split : (a c b : ℤ) → IsBetween a c b → unsigned_abs (c -ℤ a) + unsigned_abs (b -ℤ c) ≡ unsigned_abs (b -ℤ a)
length_split a c b h =
    by_lt_z b a
    (λ (o : b <ℤ a). let k = h.down (omega (arith, linear)) in omega (arith, ints, k.0, k.1))
    (λ (o : a ≤ℤ b). let k = h.up o in omega (arith, ints, k.0, k.1))

pub extent_split : (e : Edge) (c : Point) → IsInBox e c → extent (e.0, c) + extent (c, e.1) ≡ extent e
extent_split e c h = omega (arith, length_split e.0.0 c.0 e.1.0 h.by_x, length_split e.0.1 c.1 e.1.1 h.by_y)

pub extent_least : (e : Edge) → same_point e.0 e.1 ≡ false → 1 ≤ extent e
extent_least e h =
    by_nat (extent e)
    (λ (z : extent e ≡ 0).
    let x : e.0.0 ≡ e.1.0 = omega (arith, ints) in
    let y : e.0.1 ≡ e.1.1 = omega (arith, ints) in
    absurd (both_ways _ h ((decides_point e.0 e.1).1 (λ i. (x i, y i)))))
  where
    by_nat : (n : ℕ) → (n ≡ 0 → 1 ≤ n) → 1 ≤ n
    by_nat zero f = f refl
    by_nat (suc n) f = omega arith
