use Rattle.std.proofs.Common.{◌≡◌, ◌*◌, ◌<◌, ◌^◌, ltb-true, ◌∙◌, ap, arith}
use Rattle.std.specs.Prelude.{◌-ℤ◌, ◌*ℤ◌, unsigned_abs}
use Rattle.std.proofs.lemmas.Int.{to_z-of_z}
use mir.Syntax.{w64}
use Rattle.mesh_plane.proofs.Sizes.{small_size}
use Rattle.mesh_meeting.proofs.Kept.{rest_fits, rest_size, rest_small, IsRest}
use Rattle.mesh_meeting.proofs.meeting.is_nearest.Goals as goal

pub overflow_sub-rest : goal.overflow_sub-rest
overflow_sub-rest c =
    rest_fits c.args.way c.args.height c.args.whole c.args.guess (record { way = c.requires.way; height = c.requires.height; whole = c.requires.whole; guess = c.ranges.guess })

pub overflow_mul-result : goal.overflow_mul-result
overflow_mul-result c =
    let r : IsRest c.args.way c.args.height c.args.whole c.args.guess = record { way = c.requires.way; height = c.requires.height; whole = c.requires.whole; guess = c.ranges.guess } in
    let size : c.unsigned_abs.result ≡ unsigned_abs ((c.args.way *ℤ c.args.height) -ℤ (c.args.guess *ℤ c.args.whole)) = c.unsigned_abs.ensures.value ∙ rest_size c.args.way c.args.height c.args.whole c.args.guess r in
    omega (arith, size, small_size (2 ^ 97) ((c.args.way *ℤ c.args.height) -ℤ (c.args.guess *ℤ c.args.whole)) (rest_small c.args.way c.args.height c.args.whole c.args.guess r))

pub returns : goal.returns
returns c = λ t.
    let r : IsRest c.args.way c.args.height c.args.whole c.args.guess = record { way = c.requires.way; height = c.requires.height; whole = c.requires.whole; guess = c.ranges.guess } in
    let size : c.unsigned_abs.result ≡ unsigned_abs ((c.args.way *ℤ c.args.height) -ℤ (c.args.guess *ℤ c.args.whole)) = c.unsigned_abs.ensures.value ∙ rest_size c.args.way c.args.height c.args.whole c.args.guess r in
    let whole : c.unsigned_abs-2.result ≡ unsigned_abs c.args.whole = c.unsigned_abs-2.ensures.value ∙ ap unsigned_abs (to_z-of_z w64 c.args.whole c.ranges.whole) in
    let less : 2 * c.unsigned_abs.result < c.unsigned_abs-2.result = ltb-true _ _ t in
    omega (arith, size, whole, less)
