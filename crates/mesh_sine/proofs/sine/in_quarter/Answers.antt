-- The sizes fit 32 bits, and so do their opposites.
use Rattle.std.proofs.Common.{◌≡◌, ℕ, ◌+◌, ◌*◌, ◌^◌, ◌≤◌, refl, arith}
use Rattle.std.specs.Prelude.{pos, neg_ℤ, ◌-ℤ◌}
use Rattle.std.proofs.lemmas.Int.{to_z_pos, to_z-of_z, ints}
use mir.Syntax.{w32}
use mir.Val.{to_z, of_z}
use Rattle.mesh_plane.proofs.Sizes.{le_of_squares}
use Rattle.mesh_sine.proofs.sine.in_quarter.Goals as goal

small : (a b : ℕ) → a * a + b * b ≤ 2 ^ 60 → (a ≤ 2 ^ 30) × (b ≤ 2 ^ 30)
small a b h = (le_of_squares a (2 ^ 30) (omega arith), le_of_squares b (2 ^ 30) (omega arith))

kept : (a : ℕ) → a ≤ 2 ^ 30 → to_z w32 a ≡ pos a
kept a h = to_z_pos w32 a (omega arith)

turned : (a : ℕ) → a ≤ 2 ^ 30 → to_z w32 (of_z w32 (pos 0 -ℤ to_z w32 a)) ≡ neg_ℤ (pos a)
turned a h =
    let e : to_z w32 a ≡ pos a = kept a h in
    let f : (pos 0 -ℤ to_z w32 a) ≡ neg_ℤ (pos a) = omega (arith, ints) in
    rw f (to_z-of_z w32 (neg_ℤ (pos a)) (omega (arith, ints)))

pub returns-in-0-clause-value : goal.returns-in-0-clause-value
returns-in-0-clause-value c =
    let s = small c.args.cosine c.args.sine c.requires.short in
    rw (kept c.args.sine s.1, kept c.args.cosine s.0, c.in-0.is) refl

pub returns-in-1-clause-value : goal.returns-in-1-clause-value
returns-in-1-clause-value c =
    let s = small c.args.cosine c.args.sine c.requires.short in
    rw (turned c.args.sine s.1, kept c.args.cosine s.0, c.in-1.is) refl

pub returns-in_default-clause-value : goal.returns-in_default-clause-value
returns-in_default-clause-value c =
    let s = small c.args.cosine c.args.sine c.requires.short in
    let e : c.args.quarters ≡ 3 = omega arith in
    rw (turned c.args.cosine s.0, kept c.args.sine s.1, e) refl
