-- Both components are parts of the vector with this squared length.
use Rattle.std.proofs.Common.{◌∙◌, sym, subst, arith}
use Rattle.std.proofs.lemmas.Int.{to_z-of_z}
use mir.Syntax.{w128}
use Rattle.mesh_plane.specs.Plane.{Point, length_sq}
use Rattle.mesh_num.specs.Direction.{IsDirection}
use Rattle.mesh_num.proofs.Products.{left_within, right_within, squares_fit}
use Rattle.mesh_num.proofs.Parts.{parts_join, direction_short}
use Rattle.mesh_num.proofs.num.share.direction.Goals as goal

pub square_sum-square-requires-clause-x_size : goal.square_sum-square-requires-clause-x_size
square_sum-square-requires-clause-x_size c = rw (to_z-of_z w128 c.args.x c.ranges.x) (omega (arith, c.requires.x_size))

pub square_sum-square-requires-clause-y_size : goal.square_sum-square-requires-clause-y_size
square_sum-square-requires-clause-y_size c = rw (to_z-of_z w128 c.args.y c.ranges.y) (omega (arith, c.requires.y_size))

pub fine_length-root-requires-clause-square : goal.fine_length-root-requires-clause-square
fine_length-root-requires-clause-square c =
    rw (c.unsigned_abs.ensures.value, c.unsigned_abs-2.ensures.value) c.square_sum-square.ensures

pub fine_length-root-requires-clause-width : goal.fine_length-root-requires-clause-width
fine_length-root-requires-clause-width c =
    rw (c.unsigned_abs.ensures.value, to_z-of_z w128 c.args.x c.ranges.x) c.requires.x_size

pub fine_length-root-requires-clause-height : goal.fine_length-root-requires-clause-height
fine_length-root-requires-clause-height c =
    rw (c.unsigned_abs-2.ensures.value, to_z-of_z w128 c.args.y c.ranges.y) c.requires.y_size

pub part-requires-clause-square : goal.part-requires-clause-square
part-requires-clause-square c =
    rw (c.square_sum-square.ensures, to_z-of_z w128 c.args.x c.ranges.x, to_z-of_z w128 c.args.y c.ranges.y)
    (squares_fit _ _ c.requires.x_size c.requires.y_size)

pub part-requires-clause-size : goal.part-requires-clause-size
part-requires-clause-size c = left_within _ _ _ c.square_sum-square.ensures

pub part-requires-2-clause-square : goal.part-requires-2-clause-square
part-requires-2-clause-square c =
    rw (c.square_sum-square.ensures, to_z-of_z w128 c.args.x c.ranges.x, to_z-of_z w128 c.args.y c.ranges.y)
    (squares_fit _ _ c.requires.x_size c.requires.y_size)

pub part-requires-2-clause-size : goal.part-requires-2-clause-size
part-requires-2-clause-size c = right_within _ _ _ c.square_sum-square.ensures

pub returns-then-square-eq0-clause-value : goal.returns-then-square-eq0-clause-value
returns-then-square-eq0-clause-value c =
    let x = to_z-of_z w128 c.args.x c.ranges.x in
    let y = to_z-of_z w128 c.args.y c.ranges.y in
    sym (λ i. length_sq (x i, y i)) ∙ sym c.square_sum-square.ensures ∙ c.if-square-eq0.true

pub returns-clause-short : goal.returns-clause-short
returns-clause-short c =
    rw
    (to_z-of_z w128 c.part.result (record { sfits = c.part.type_inv }), to_z-of_z w128 c.part-2.result (record { sfits = c.part-2.type_inv }))
    (direction_short (parts_join c.square_sum-square.ensures c.part.ensures.value c.part-2.ensures.value))

pub returns-clause-value : goal.returns-clause-value
returns-clause-value c =
    let x = to_z-of_z w128 c.args.x c.ranges.x in
    let y = to_z-of_z w128 c.args.y c.ranges.y in
    let d = parts_join c.square_sum-square.ensures c.part.ensures.value c.part-2.ensures.value in
    rw
    (to_z-of_z w128 c.part.result (record { sfits = c.part.type_inv }), to_z-of_z w128 c.part-2.result (record { sfits = c.part-2.type_inv }))
    (subst (λ (v : Point). IsDirection c.args.unit v (c.part.result, c.part-2.result)) (λ i. (x i, y i)) d)
