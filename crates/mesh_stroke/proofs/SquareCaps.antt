-- Lemmas over points: what the theory of strokes needs of square caps.
use Rattle.std.proofs.Common.{◌≡◌, ℕ, ◌*◌, ◌<◌, ◌≤◌, refl, ◌∙◌, arith, [], ◌∷◌}
use Rattle.std.specs.Prelude.{ℤ, pos, ◌+ℤ◌, ◌*ℤ◌, ◌≤ℤ◌, unsigned_abs}
use Rattle.std.specs.List.{All}
use Rattle.std.proofs.lemmas.Int.{ints}
use Rattle.std.proofs.lemmas.List.Elements.{All-nil, All-cons, All-head, All-tail}
use Rattle.mesh_plane.specs.Plane.{Point, Edge, plus, minus, dot, turn, right_quarter, length_sq}
use Rattle.mesh_plane.specs.Bounds.{IsSafe}
use Rattle.mesh_plane.proofs.Ring.{ring, var, neg, ◌⊕◌, ◌⊖◌, cross_of, dot_of}
use Rattle.mesh_plane.proofs.Sizes.{dot_self}
use Rattle.mesh_num.specs.Direction.{IsShort, scaled_direction}
use Rattle.mesh_num.proofs.Scaling.{scaled_direction_bounded}
use Rattle.mesh_join.specs.Joints.{Joint, IsWithinPadding}
use Rattle.mesh_join.proofs.Joints.{within_safe}
use Rattle.mesh_stroke.specs.Caps.{CapKind, IsCapped}
use Rattle.mesh_stroke.specs.Ends.{half_turn}
use Rattle.mesh_stroke.specs.SquareCaps.{square_padding}
use Rattle.mesh_stroke.proofs.CapLaws.{KeepsEnd, KeepsEnds, keeps_by_half_turns}
use Rattle.mesh_stroke.proofs.Ends.{ahead_by}

-- ---- the three turns round the end `v`, by the direction times the radius

abbrev right : Point → Point → Point
right v s = plus v (right_quarter s)

abbrev left : Point → Point → Point
left v s = minus v (right_quarter s)

abbrev right_out : Point → Point → Point
right_out v s = plus (right v s) s

abbrev left_out : Point → Point → Point
left_out v s = plus (left v s) s

first_turn : (v s : Point) → turn v (right v s) (right_out v s) ≡ dot s s
first_turn v s =
    ring (v.0 ∷ v.1 ∷ s.0 ∷ s.1 ∷ [])
    (cross_of ((var 0 ⊕ var 3) ⊖ var 0) ((var 1 ⊕ neg (var 2)) ⊖ var 1) (((var 0 ⊕ var 3) ⊕ var 2) ⊖ var 0)
    (((var 1 ⊕ neg (var 2)) ⊕ var 3) ⊖ var 1))
    (dot_of (var 2) (var 3) (var 2) (var 3)) refl

second_turn : (v s : Point) → turn v (right_out v s) (left_out v s) ≡ dot s s +ℤ dot s s
second_turn v s =
    ring (v.0 ∷ v.1 ∷ s.0 ∷ s.1 ∷ [])
    (cross_of
    (((var 0 ⊕ var 3) ⊕ var 2) ⊖ var 0) (((var 1 ⊕ neg (var 2)) ⊕ var 3) ⊖ var 1)
    (((var 0 ⊖ var 3) ⊕ var 2) ⊖ var 0) (((var 1 ⊖ neg (var 2)) ⊕ var 3) ⊖ var 1))
    (dot_of (var 2) (var 3) (var 2) (var 3) ⊕ dot_of (var 2) (var 3) (var 2) (var 3)) refl

third_turn : (v s : Point) → turn v (left_out v s) (left v s) ≡ dot s s
third_turn v s =
    ring (v.0 ∷ v.1 ∷ s.0 ∷ s.1 ∷ [])
    (cross_of (((var 0 ⊖ var 3) ⊕ var 2) ⊖ var 0) (((var 1 ⊖ neg (var 2)) ⊕ var 3) ⊖ var 1) ((var 0 ⊖ var 3) ⊖ var 0)
    ((var 1 ⊖ neg (var 2)) ⊖ var 1))
    (dot_of (var 2) (var 3) (var 2) (var 3)) refl

twice : (s : Point) → dot s s +ℤ dot s s ≡ pos (2 * length_sq s)
twice s = rw (dot_self s) (omega (arith, ints))

-- ---- the points are near

right_within : (m : ℕ) (v s : Point) → unsigned_abs s.0 ≤ m → unsigned_abs s.1 ≤ m
    → IsWithinPadding (pos (2 * m)) v (right_out v s)
right_within m v s x y =
    record {
      west = omega (arith, ints);
      south = omega (arith, ints);
      east = omega (arith, ints);
      north = omega (arith, ints);
    }

left_within : (m : ℕ) (v s : Point) → unsigned_abs s.0 ≤ m → unsigned_abs s.1 ≤ m
    → IsWithinPadding (pos (2 * m)) v (left_out v s)
left_within m v s x y =
    record {
      west = omega (arith, ints);
      south = omega (arith, ints);
      east = omega (arith, ints);
      north = omega (arith, ints);
    }

-- ---- the cap at an end

square_keeps_half_turn : (unit : ℕ) (radius : ℤ) (v n : Point) → 0 < unit → IsShort unit n
    → KeepsEnd unit CapKind.Square (half_turn unit radius v n)
square_keeps_half_turn unit radius v n some short = record {
  never_turns_back = λ _.
      All-cons Ahead (right v s, right_out v s) ((right_out v s, left_out v s) ∷ (left_out v s, left v s) ∷ [])
      (ahead_by _ (length_sq s) (first_turn v s ∙ dot_self s))
      (All-cons Ahead (right_out v s, left_out v s) ((left_out v s, left v s) ∷ [])
      (ahead_by _ (2 * length_sq s) (second_turn v s ∙ twice s))
      (All-cons Ahead (left_out v s, left v s) [] (ahead_by _ (length_sq s) (third_turn v s ∙ dot_self s))
      (All-nil Ahead)));
  near =
      All-cons Near (right_out v s) (left_out v s ∷ []) (right_within (unsigned_abs radius) v s b.0 b.1)
      (All-cons Near (left_out v s) [] (left_within (unsigned_abs radius) v s b.0 b.1) (All-nil Near));
  few = λ _. omega arith;
}
  where
    s : Point
    s = scaled_direction unit radius n

    b : (unsigned_abs s.0 ≤ unsigned_abs radius) × (unsigned_abs s.1 ≤ unsigned_abs radius)
    b = scaled_direction_bounded unit radius n some short

    Ahead : Edge → Type 0
    Ahead e = pos 0 ≤ℤ (pos 1 *ℤ turn v e.0 e.1)

    Near : Point → Type 0
    Near = IsWithinPadding (square_padding radius) v

-- what holds of square caps
pub square_keeps : (unit : ℕ) → 0 < unit → KeepsEnds unit CapKind.Square
square_keeps unit some =
    keeps_by_half_turns unit CapKind.Square (λ r. omega (arith, ints)) (λ few. few)
    (λ radius v n short _ _. square_keeps_half_turn unit radius v n some short)

-- ---- what the code knows of its points

pub square_points_safe : (unit : ℕ) (j : Joint) → 0 < unit → IsShort unit j.incoming → IsCapped unit CapKind.Square j
    → IsSafe unit (plus j.first (scaled_direction unit j.radius j.incoming)) × IsSafe unit
    (plus j.last (scaled_direction unit j.radius j.incoming))
square_points_safe unit j some short h =
    let near : All Near (first ∷ last ∷ []) = ((square_keeps unit some).at_end j short h.end h.radius_sign).near in (
      within_safe unit (square_padding j.radius) j.center first h.safe (All-head Near first (last ∷ []) near),
      within_safe unit (square_padding j.radius) j.center last h.safe
          (All-head Near last [] (All-tail Near first (last ∷ []) near)),
    )
  where
    first : Point
    first = plus j.first (scaled_direction unit j.radius j.incoming)

    last : Point
    last = plus j.last (scaled_direction unit j.radius j.incoming)

    Near : Point → Type 0
    Near = IsWithinPadding (square_padding j.radius) j.center
