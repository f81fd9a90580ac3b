-- Lemmas over lists: how often segments stand among counted ones.
use Rattle.std.proofs.Common.{Bool, true, false, arith, List, [], ◌∷◌, ◌≡◌, refl}
use Rattle.std.specs.Prelude.{pos, ◌≤ℤ◌, ◌*ℤ◌}
use Rattle.std.proofs.lemmas.Int.{ints}
use Rattle.mesh_lattice.specs.Counted.{bit, Counted, times, along, counted_net}
use Rattle.mesh_plane.specs.Plane.{Edge}
use Rattle.mesh_plane.proofs.Whole.{linear}
use Rattle.mesh_lattice.specs.Split.{same_ends}
use Rattle.mesh_lattice.proofs.Ends.{not_along}

pub bit_least : (b : Bool) → pos 0 ≤ℤ bit b
bit_least true = omega (arith, ints)
bit_least false = omega (arith, ints)

pub bit_most : (b : Bool) → bit b ≤ℤ pos 1
bit_most true = omega (arith, ints)
bit_most false = omega (arith, ints)

pub bit_none : (b : Bool) → bit b ≡ pos 0 → b ≡ false
bit_none true h = absurd (omega (arith, ints, h))
bit_none false h = refl

pub times_least : (q : Edge) (ks : List Counted) → pos 0 ≤ℤ times q ks
times_least q [] = omega (arith, ints)
times_least q (k ∷ ks) = omega (arith, linear, bit_least (same_ends q k.0), times_least q ks)

-- where ends stand nowhere they have no count
pub absent_net : (q : Edge) (ks : List Counted) → times q ks ≡ pos 0 → counted_net q ks ≡ pos 0
absent_net q [] h = refl
absent_net q (k ∷ ks) h =
    let p : times q ks ≡ pos 0 = omega (arith, linear, bit_least (same_ends q k.0), times_least q ks) in
    let r : bit (same_ends q k.0) ≡ pos 0 = omega (arith, linear) in
    let none : same_ends q k.0 ≡ false = bit_none (same_ends q k.0) r in
    let e : k.1 *ℤ along q k.0 ≡ pos 0 = rw (not_along q k.0 none) (omega (arith, ints)) in
    omega (arith, linear, absent_net q ks p)
