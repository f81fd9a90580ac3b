-- The greatest number with a share, with the sign of the component.
use Rattle.std.proofs.Common.{◌∙◌, ap, arith}
use Rattle.std.specs.Prelude.{pos, unsigned_abs}
use Rattle.std.proofs.lemmas.Int.{to_z-of_z, to_z_pos, fits_signed_from_abs}
use mir.Syntax.{w128}
use Rattle.mesh_plane.proofs.Sizes.{size_neg}
use Rattle.mesh_num.proofs.Parts.{part_negative, part_positive}
use Rattle.mesh_num.proofs.Passed.{negated_fits, passed_negated}
use Rattle.mesh_num.proofs.num.share.part.Goals as goal

pub part_size-size-requires-clause-size : goal.part_size-size-requires-clause-size
part_size-size-requires-clause-size c =
    rw (c.unsigned_abs.ensures.value, to_z-of_z w128 c.args.x c.ranges.x) c.requires.size

pub overflow_cast-size : goal.overflow_cast-size
overflow_cast-size c =
    fits_signed_from_abs w128 (pos c.part_size-size.result) (omega (arith, c.part_size-size.ensures.bounded, c.requires.unit))

pub overflow_sub-result : goal.overflow_sub-result
overflow_sub-result c = negated_fits c.part_size-size.result (omega (arith, c.part_size-size.ensures.bounded, c.requires.unit))

pub returns-then-x-lt0-clause-value : goal.returns-then-x-lt0-clause-value
returns-then-x-lt0-clause-value c =
    let x = to_z-of_z w128 c.args.x c.ranges.x in
    let s = c.unsigned_abs.ensures.value ∙ ap unsigned_abs x in
    rw (passed_negated c.part_size-size.result (omega (arith, c.part_size-size.ensures.bounded, c.requires.unit)))
    (part_negative c.args.unit c.args.square c.part_size-size.result c.args.x (rw x at c.if-x-lt0.true)
    (rw s at c.part_size-size.ensures.within) (rw s at c.part_size-size.ensures.greatest))

pub returns-then-x-lt0-clause-bounded : goal.returns-then-x-lt0-clause-bounded
returns-then-x-lt0-clause-bounded c =
    rw
    (passed_negated c.part_size-size.result (omega (arith, c.part_size-size.ensures.bounded, c.requires.unit)), size_neg (pos c.part_size-size.result))
    c.part_size-size.ensures.bounded

pub returns-else-x-lt0-clause-value : goal.returns-else-x-lt0-clause-value
returns-else-x-lt0-clause-value c =
    let x = to_z-of_z w128 c.args.x c.ranges.x in
    let s = c.unsigned_abs.ensures.value ∙ ap unsigned_abs x in
    rw (to_z_pos w128 c.part_size-size.result (omega (arith, c.part_size-size.ensures.bounded, c.requires.unit)))
    (part_positive c.args.unit c.args.square c.part_size-size.result c.args.x c.requires.length (rw x at c.if-x-lt0.false)
    (rw s at c.part_size-size.ensures.within) (rw s at c.part_size-size.ensures.greatest))

pub returns-else-x-lt0-clause-bounded : goal.returns-else-x-lt0-clause-bounded
returns-else-x-lt0-clause-bounded c =
    rw (to_z_pos w128 c.part_size-size.result (omega (arith, c.part_size-size.ensures.bounded, c.requires.unit)))
    c.part_size-size.ensures.bounded
