-- Lemmas over lists: sines and cosines are together at most 2 ^ 30 long, and no direction of an arc is longer than the first.
use Rattle.std.proofs.Common.{ℕ, ◌+◌, ◌*◌, ◌/◌, ◌%◌, ◌^◌, ◌≤◌, Bool, true, false, arith, zero, suc, [], lit<}
use Rattle.std.specs.Prelude.{pos, if◌then◌else◌}
use Rattle.std.specs.List.{All}
use Rattle.std.proofs.lemmas.List.Elements.{All-nil, All-cons}
use Rattle.mesh_plane.specs.Plane.{Point}
use Rattle.mesh_plane.proofs.Sizes.{size_neg}
use Rattle.mesh_sine.specs.Sine.{one, low_pair, in_quarter, sin_cos, IsWithinOne}
use Rattle.mesh_sine.proofs.Lengths.{IsPair, cut_length, with_bits_is_pair}
use Rattle.mesh_num.specs.Direction.{IsShort}
use Rattle.mesh_num.specs.Rotation.{rotated}
use Rattle.mesh_num.proofs.Rotations.{rotated_length, turned_round_length}
use Rattle.mesh_arc.specs.Arcs.{least, turned_list, is_within, ends_after, most_directions, step_bits, step_of, bound_of, stepped, arc}
use Rattle.mesh_arc.specs.declared.arc.ArcDirection.{ArcDirection}
use Rattle.mesh_arc.specs.declared.arc.ArcDirection.TheVariants.{Clockwise, Counterclockwise}
use Rattle.mesh_arc.specs.declared.arc.ArcOptions.{ArcOptions}

quarter_short : (quarter c s : ℕ) → c * c + s * s ≤ 2 ^ 60 → IsWithinOne (in_quarter quarter c s)
quarter_short zero c s h = omega (arith, h)
quarter_short (suc zero) c s h = rw (size_neg (pos s)) (omega (arith, h))
quarter_short (suc (suc zero)) c s h = rw (size_neg (pos s), size_neg (pos c)) (omega (arith, h))
quarter_short (suc (suc (suc n))) c s h = rw (size_neg (pos c)) (omega (arith, h))

pub sin_cos_short : (bits : ℕ) → IsWithinOne (sin_cos bits)
sin_cos_short bits =
    let a : ℕ × ℕ = low_pair (bits % 2 ^ 30) in
    let p : IsPair a = with_bits_is_pair (bits % 2 ^ 30) 30 (one, 0) (omega arith) in
    quarter_short (bits / 2 ^ 30) (a.0 / 2 ^ 30) (a.1 / 2 ^ 30) (cut_length a.0 a.1 (2 ^ 30) (2 ^ 60) (lit< tt) (omega (arith, p)))

step_short : (unit : ℕ) (options : ArcOptions) (sense : ArcDirection) → IsWithinOne (step_of unit options sense)
step_short unit options Counterclockwise = sin_cos_short (step_bits unit options)
step_short unit options Clockwise = rw (turned_round_length (sin_cos (step_bits unit options))) (sin_cos_short (step_bits unit options))

list_short : (unit : ℕ) (step from : Point) (n : ℕ) → IsWithinOne step → IsShort unit from → All (IsShort unit) (turned_list step from n)
unfolding turned_list
list_short unit step from zero h s = All-nil (IsShort unit)
list_short unit step from (suc n) h s =
    let t : IsShort unit (rotated step from) = omega (arith, rotated_length step from h, s) in
    All-cons (IsShort unit) (rotated step from) (turned_list step (rotated step from) n) t (list_short unit step (rotated step from) n h t)

-- each direction of an arc is as short as a direction is
pub arc_short : (unit : ℕ) (options : ArcOptions) (sense : ArcDirection) (from end : Point) → IsShort unit from → All (IsShort unit) (arc unit options sense from end)
unfolding arc stepped
arc_short unit options sense from end s = by (is_within sense (bound_of options) from end)
  where
    n : ℕ
    n = least (ends_after sense (bound_of options) (step_of unit options sense) from end) most_directions

    by : (b : Bool) → All (IsShort unit) (if b then [] else turned_list (step_of unit options sense) from n)
    by true = All-nil (IsShort unit)
    by false = list_short unit (step_of unit options sense) from n (step_short unit options sense) s
