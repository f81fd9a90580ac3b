use Rattle.std.proofs.Common.{lit≤, ◌≡◌, ◌^◌, ◌-◌, ◌/◌, false, cond, min, sym, ◌∙◌, ap, subst, arith}
use Rattle.std.specs.Prelude.{ℤ, ℕ, pos, ◌-ℤ◌, int_le, unsigned_abs}
use Rattle.std.proofs.lemmas.Int.{ints, to_z_pos}
use mir.Syntax.{w32}
use mir.Val.{to_z}
use Rattle.mesh_plane.specs.Bounds.{IsSmall}
use Rattle.mesh_lattice.proofs.Arithmetic.{small_kept}
use Rattle.mesh_boundary.specs.Private.Slants.{level_of}
use Rattle.mesh_boundary.proofs.slanted.Slant.level.Goals as goal

gap_small : (z b : ℤ) → IsSmall (2 ^ 67) z → IsSmall (2 ^ 68) b → IsSmall (2 ^ 69) (z -ℤ b)
gap_small z b s t = record { low = omega (arith, ints, s.low, t.high); high = omega (arith, ints, s.high, t.low) }

above : (base z : ℤ) (step : ℕ) → int_le z base ≡ false → pos (min (unsigned_abs (z -ℤ base) / step) (2 ^ 31 - 1)) ≡ level_of base step z
above base z step e = sym (ap (λ b. cond b (pos 0) (pos (min (unsigned_abs (z -ℤ base) / step) (2 ^ 31 - 1)))) e)

pub returns : goal.returns
returns c =
    let z = c.args.z in
    let base = c.self.inside.base in
    let step = c.self.inside.step in
    let own = small_kept (2 ^ 67) z (lit≤ tt) c.requires in
    let low = small_kept (2 ^ 68) base (lit≤ tt) c.self.invariant.base in
    let gap = small_kept (2 ^ 69) (z -ℤ base) (lit≤ tt) (gap_small z base c.requires c.self.invariant.base) in
    let test : int_le z base ≡ false = rw (own, low) at c.if-z-self.false in
    let steps : c.unsigned_abs.result ≡ unsigned_abs (z -ℤ base) = rw (own, low, gap) at c.unsigned_abs.ensures.value in
    subst (λ (v : (ℤ × ℤ) × (ℤ × ℕ)). to_z w32 c.min.result ≡ level_of v.1.0 v.1.1 z) c.self.view_is
    (to_z_pos w32 c.min.result (omega (arith, c.min.ensures)) ∙ (ap pos (c.min.ensures ∙ ap (λ (n : ℕ). min (n / step) (2 ^ 31 - 1)) steps) ∙ above base z step test))
