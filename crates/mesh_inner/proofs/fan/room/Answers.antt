-- The least of the four numbers, where the edge does not turn back.
use Rattle.std.proofs.Common.{◌^◌, ◌∙◌, lit≤, arith, subst, rules}
use Rattle.std.specs.Prelude.{ℤ, pos, ◌*ℤ◌, ◌+ℤ◌, ◌≤ℤ◌}
use Rattle.std.proofs.lemmas.Int.{ints, to_z-of_z}
use mir.Syntax.{w128}
use Rattle.mesh_plane.specs.Bounds.{IsSmall}
use Rattle.mesh_plane.specs.Plane.{cross}
use Rattle.mesh_lattice.proofs.Arithmetic.{small_kept, small_product, small_sum}
use Rattle.mesh_inner.proofs.Rooms.{room_is}
use Rattle.mesh_inner.proofs.fan.room.Goals as goal

pub returns : goal.returns
returns c =
    let two : IsSmall 3 (pos 2) = record { low = omega (arith, ints); high = omega (arith, ints) } in
    let f = small_kept (2 ^ 65) c.dot-first.result (lit≤ tt) c.dot-first.ensures.size in
    let l = small_kept (2 ^ 65) c.dot-last.result (lit≤ tt) c.dot-last.ensures.size in
    let b = small_kept (2 ^ 65) c.dot-between.result (lit≤ tt) c.dot-between.ensures.size in
    let ff = small_kept (2 ^ 67) (pos 2 *ℤ c.dot-first.result) (lit≤ tt) (small_product 3 (2 ^ 65) (2 ^ 67) (pos 2) c.dot-first.result (lit≤ tt) two c.dot-first.ensures.size) in
    let ll = small_kept (2 ^ 67) (pos 2 *ℤ c.dot-last.result) (lit≤ tt) (small_product 3 (2 ^ 65) (2 ^ 67) (pos 2) c.dot-last.result (lit≤ tt) two c.dot-last.ensures.size) in
    let fb = small_kept (2 ^ 66) (c.dot-first.result +ℤ c.dot-between.result) (lit≤ tt) (small_sum (2 ^ 65) (2 ^ 65) (2 ^ 66) c.dot-first.result c.dot-between.result (lit≤ tt) c.dot-first.ensures.size c.dot-between.ensures.size) in
    let lb = small_kept (2 ^ 66) (c.dot-last.result +ℤ c.dot-between.result) (lit≤ tt) (small_sum (2 ^ 65) (2 ^ 65) (2 ^ 66) c.dot-last.result c.dot-between.result (lit≤ tt) c.dot-last.ensures.size c.dot-between.ensures.size) in
    let ends = to_z-of_z w128 c.min-ends.result (record { sfits = c.min-ends.type_inv }) in
    let inner = to_z-of_z w128 c.min.result (record { sfits = c.min.type_inv }) in
    let all = to_z-of_z w128 c.min-2.result (record { sfits = c.min-2.type_inv }) in
    let own = small_kept (2 ^ 65) c.cross.result (lit≤ tt) c.cross.ensures.size in
    let ahead : pos 0 ≤ℤ cross c.args.v c.args.w = subst (λ (z : ℤ). pos 0 ≤ℤ z) (own ∙ c.cross.ensures.value) (search rules) in
    rw all
    (room_is c.args.v c.args.w c.dot-first.result c.dot-last.result c.dot-between.result c.min-ends.result c.min.result c.min-2.result
    ahead c.dot-first.ensures.value c.dot-last.ensures.value c.dot-between.ensures.value
    (simp (f, l, ff, ll) at c.min-ends.ensures.value) (simp (f, b, fb, ends) at c.min.ensures.value) (simp (l, b, lb, inner) at c.min-2.ensures.value))
