-- Lemmas over points: the half turn round an end is a turn, so joins can be drawn there.
use Rattle.std.proofs.Common.{◌≡◌, ℕ, ◌*◌, ◌-◌, ◌<◌, ◌≤◌, refl, sym, ap, ◌∙◌, subst, arith, [], ◌∷◌}
use Rattle.std.specs.Prelude.{ℤ, pos, neg_ℤ, ◌+ℤ◌, ◌-ℤ◌, ◌*ℤ◌, ◌≤ℤ◌}
use Rattle.std.proofs.lemmas.Int.{ints}
use Rattle.mesh_plane.specs.Plane.{Point, plus, minus, opposite, cross, right_quarter}
use Rattle.mesh_plane.proofs.Ring.{ring, var, lit, neg, ◌⊕◌, ◌⊖◌, cross_of}
use Rattle.mesh_plane.proofs.Sizes.{length_opposite}
use Rattle.mesh_plane.proofs.Whole.{one_mul}
use Rattle.mesh_num.specs.Direction.{IsShort, IsFresh, scaled_direction}
use Rattle.mesh_num.proofs.Scaling.{scaled_direction_opposite}
use Rattle.mesh_arc.specs.declared.arc.ArcDirection.TheVariants.{Clockwise, Counterclockwise}
use Rattle.mesh_join.specs.Joints.{Joint, IsTurn, contact}
use Rattle.mesh_stroke.specs.Ends.{IsEnd, half_turn}

-- the point to the left is the one to the right for the opposite direction
left_is_right : (unit : ℕ) (radius : ℤ) (v n : Point) → 0 < unit
    → contact unit radius Clockwise v n ≡ contact unit radius Counterclockwise v (opposite n)
left_is_right unit radius v n some =
    let s : Point = scaled_direction unit radius n in
    let x : (v.0 -ℤ s.1) ≡ (v.0 +ℤ neg_ℤ s.1) = omega (arith, ints) in
    let y : (v.1 -ℤ neg_ℤ s.0) ≡ (v.1 +ℤ neg_ℤ (neg_ℤ s.0)) = omega (arith, ints) in
    let e : minus v (right_quarter s) ≡ plus v (right_quarter (opposite s)) = λ i. (x i, y i) in
    e ∙ ap (λ (w : Point). plus v (right_quarter w)) (sym (scaled_direction_opposite unit radius n some))

-- both points lie on one line with the end
half_turn_straight : (v s : Point)
    → cross (minus (plus v (right_quarter s)) v) (minus (minus v (right_quarter s)) v) ≡ pos 0
half_turn_straight v s =
    ring (v.0 ∷ v.1 ∷ s.0 ∷ s.1 ∷ [])
    (cross_of ((var 0 ⊕ var 3) ⊖ var 0) ((var 1 ⊕ neg (var 2)) ⊖ var 1) ((var 0 ⊖ var 3) ⊖ var 0)
    ((var 1 ⊖ neg (var 2)) ⊖ var 1))
    (lit (pos 0)) refl

-- a number of at least 0, as the turn to the left of an edge
pub ahead_by : (t : ℤ) (n : ℕ) → t ≡ pos n → pos 0 ≤ℤ (pos 1 *ℤ t)
ahead_by t n e = rw (one_mul t, e) (omega (arith, ints))

pub half_turn_is : (unit : ℕ) (radius : ℤ) (v n : Point) → 0 < unit → IsFresh unit n → pos 0 ≤ℤ radius
    → IsTurn unit (half_turn unit radius v n)
half_turn_is unit radius v n some fresh sign = record {
  radius_sign = sign;
  fresh_incoming = fresh;
  fresh_outgoing = subst (λ (k : ℕ). (unit - 2) * (unit - 2) ≤ k) (sym (length_opposite n)) fresh;
  first = refl;
  last = left_is_right unit radius v n some;
  no_turn_back = ahead_by _ 0 (half_turn_straight v (scaled_direction unit radius n));
}

pub opposite_short : (unit : ℕ) (n : Point) → IsShort unit n → IsShort unit (opposite n)
opposite_short unit n short = subst (λ (k : ℕ). k ≤ unit * unit) (sym (length_opposite n)) short

-- an end is a turn
pub end_is_turn : (unit : ℕ) (j : Joint) → 0 < unit → IsEnd unit j → pos 0 ≤ℤ j.radius → IsTurn unit j
end_is_turn unit j some h sign =
    subst (IsTurn unit) (sym h.made) (half_turn_is unit j.radius j.center j.incoming some h.fresh sign)
