use Rattle.std.proofs.Common.{lit≤, ◌≡◌, ◌^◌, ◌∙◌, sym, ap, eqb-true, eq-eqb}
use Rattle.std.specs.Prelude.{ℤ, pos, int_lt}
use Rattle.mesh_plane.specs.Plane.{minus, cross, dot}
use Rattle.mesh_lattice.proofs.Arithmetic.{zero_bits, small_fits, small_kept}
use Rattle.mesh_shapes.proofs.ContoursBegun.{corner_yes, corner_flat}
use mir.Val.{of_z}
use mir.Syntax.{w128}
use Rattle.mesh_shapes.proofs.ring.turns_at.Goals as goal

pub returns : goal.returns
returns c =
    let zero = zero_bits c.cross.result (small_fits (2 ^ 65) c.cross.result (lit≤ tt) c.cross.ensures.size) in
    let value = c.cross.ensures.value ∙ λ i. cross (c.minus-v.ensures.value i) (c.minus-w.ensures.value i) in
    sym (corner_yes c.args.a c.args.p c.args.n
    (λ (e : cross (minus c.args.p c.args.a) (minus c.args.p c.args.n) ≡ pos 0). c.if-cross-eq0.false (eqb-true (of_z w128 c.cross.result) 0 (zero.1 (value ∙ e)))))

pub returns-then-cross-eq0 : goal.returns-then-cross-eq0
returns-then-cross-eq0 c =
    let zero = zero_bits c.cross.result (small_fits (2 ^ 65) c.cross.result (lit≤ tt) c.cross.ensures.size) in
    let value = c.cross.ensures.value ∙ λ i. cross (c.minus-v.ensures.value i) (c.minus-w.ensures.value i) in
    let flat = sym value ∙ zero.0 (eq-eqb (of_z w128 c.cross.result) 0 c.if-cross-eq0.true) in
    let size = c.dot.ensures.value ∙ λ i. dot (c.minus-v.ensures.value i) (c.minus-w.ensures.value i) in
    ap (λ (z : ℤ). int_lt (pos 0) z) (small_kept (2 ^ 65) c.dot.result (lit≤ tt) c.dot.ensures.size ∙ size)
    ∙ sym (corner_flat c.args.a c.args.p c.args.n flat)
