use Rattle.std.proofs.Common.{◌≡◌, ◌^◌, lit≤, ◌∙◌, ap, arith}
use Rattle.std.specs.Prelude.{ℤ, ℕ}
use Rattle.std.proofs.lemmas.Int.{ints, to_z-of_z}
use mir.Syntax.{w32}
use Rattle.mesh_plane.specs.Bounds.{IsSmall}
use Rattle.mesh_plane.specs.Plane.{Point, cross}
use Rattle.mesh_plane.specs.Winding.{refined}
use Rattle.mesh_lattice.proofs.Arithmetic.{small_kept}
use Rattle.mesh_boundary.specs.Private.Slants.{level_of}
use Rattle.mesh_boundary.proofs.slanted.Slant.end_level.Goals as goal

twice_small : (z : ℤ) → IsSmall (2 ^ 66) z → IsSmall (2 ^ 67) z
twice_small z s = record { low = omega (arith, ints, s.low); high = omega (arith, ints, s.high) }

pub level-requires : goal.level-requires
level-requires c =
    let z = c.fine_across.result in
    rw (small_kept (2 ^ 66) z (lit≤ tt) c.fine_across.ensures.size) (twice_small z c.fine_across.ensures.size)

pub returns : goal.returns
returns c =
    let direction : c.self.inside.direction ≡ c.args.self.0 = ap (λ (v : (ℤ × ℤ) × (ℤ × ℕ)). v.0) c.self.view_is in
    let kept = small_kept (2 ^ 66) c.fine_across.result (lit≤ tt) c.fine_across.ensures.size in
    to_z-of_z w32 c.level.result (record { sfits = c.level.type_inv })
    ∙ (c.level.ensures ∙ ap (level_of c.args.self.1.0 c.args.self.1.1) (kept ∙ (c.fine_across.ensures.value ∙ ap (λ (d : Point). cross d (refined 2 c.args.p)) direction)))
