-- Lemmas over points: sections of safe points are safe, and are what their definition says.
use Rattle.std.proofs.Common.{◌≡◌, ℕ, ◌<◌, ◌≤◌, [], ◌∷◌, ◌∙◌, sym, ap, arith}
use Rattle.std.specs.Prelude.{ℤ, pos, unsigned_abs}
use Rattle.std.proofs.lemmas.Int.{ints}
use Rattle.mesh_plane.specs.Bounds.{IsSafe}
use Rattle.mesh_plane.specs.Plane.{Point, plus, minus, opposite, right_quarter}
use Rattle.mesh_num.specs.Direction.{IsDirection, scaled_direction}
use Rattle.mesh_num.specs.Directed.{direction_of}
use Rattle.mesh_num.specs.Rectangle.{IsSafeWidened}
use Rattle.mesh_num.proofs.Directed.{is_direction_of}
use Rattle.mesh_join.specs.declared.style.StrokeSide.{StrokeSide}
use Rattle.mesh_join.specs.declared.style.StrokeSide.TheVariants.{Both, Left, Right}
use Rattle.mesh_stroke.specs.Private.Sections.{Section, section_of, own_edge, on_side, IsMade}
use Rattle.mesh_stroke.specs.Strokes.{half_ends}
use Rattle.mesh_stroke.proofs.Corners.{apart_back}
use Rattle.mesh_stroke.proofs.Sides.{heading_back, right_back, left_back}

-- a point on the left is safe where a point moved by the padding is
pub left_safe : (unit n : ℕ) (a s : Point) → IsSafeWidened unit (pos n) a → unsigned_abs s.0 ≤ n → unsigned_abs s.1 ≤ n → IsSafe unit (minus a (right_quarter s))
left_safe unit n a s w x y = record {
  x = record { low = omega (arith, ints, w.0.x.low, w.1.x.high); high = omega (arith, ints, w.0.x.low, w.1.x.high) };
  y = record { low = omega (arith, ints, w.0.y.low, w.1.y.high); high = omega (arith, ints, w.0.y.low, w.1.y.high) };
}

-- what the code puts together is the section of its definition
pub section_made : (unit : ℕ) (radius : ℤ) (a b v n s al ar bl br : Point) → v ≡ minus b a → IsDirection unit v n → s ≡ scaled_direction unit radius n →
    al ≡ minus a (right_quarter s) → ar ≡ plus a (right_quarter s) → bl ≡ minus b (right_quarter s) → br ≡ plus b (right_quarter s) →
    ◌≡◌ {A = Section} (record { a = a; b = b; direction = n; a_left = al; a_right = ar; b_left = bl; b_right = br }) (section_of unit radius (a, b))
section_made unit radius a b v n s al ar bl br e d f g h j l =
    let k : n ≡ direction_of unit (minus b a) = is_direction_of unit v n d ∙ ap (direction_of unit) e in
    let m : s ≡ scaled_direction unit radius (direction_of unit (minus b a)) = f ∙ ap (scaled_direction unit radius) k in
    λ i. record {
      a = a;
      b = b;
      direction = k i;
      a_left = (g ∙ ap (λ (t : Point). minus a (right_quarter t)) m) i;
      a_right = (h ∙ ap (λ (t : Point). plus a (right_quarter t)) m) i;
      b_left = (j ∙ ap (λ (t : Point). minus b (right_quarter t)) m) i;
      b_right = (l ∙ ap (λ (t : Point). plus b (right_quarter t)) m) i;
    }

-- the section of the edge read backwards
abbrev pub reversed_section : Section → Section
reversed_section s = record {
  a = s.b;
  b = s.a;
  direction = opposite s.direction;
  a_left = s.b_right;
  a_right = s.b_left;
  b_left = s.a_right;
  b_right = s.a_left;
}

pub reversed_made : (unit : ℕ) (radius : ℤ) → 0 < unit → (s : Section) → IsMade unit radius s
    → IsMade unit radius (reversed_section s)
reversed_made unit radius some s h = record {
  made = (λ i. reversed_section (h.made i)) ∙ turned;
  differ = apart_back (own_edge s) h.differ;
  safe_a = h.safe_b;
  safe_b = h.safe_a;
}
  where
    turned : reversed_section (section_of unit radius (own_edge s)) ≡ section_of unit radius (s.b, s.a)
    turned = λ i. record {
      a = s.b;
      b = s.a;
      direction = sym (heading_back unit (own_edge s) h.differ) i;
      a_left = sym (left_back unit radius (own_edge s) s.b some h.differ) i;
      a_right = sym (right_back unit radius (own_edge s) s.b some h.differ) i;
      b_left = sym (left_back unit radius (own_edge s) s.a some h.differ) i;
      b_right = sym (right_back unit radius (own_edge s) s.a some h.differ) i;
    }

-- what sections on a side have beside their ends is what their edges have there
module _ (unit : ℕ) (radius : ℤ) where
  ends_are : (side : StrokeSide) (s t : Section) → IsMade unit radius s → IsMade unit radius t
      → half_ends unit radius side (own_edge s) (own_edge t)
      ≡ ((on_side side s).a_left, (on_side side s).a_right) ∷ ((on_side side t).b_right, (on_side side t).b_left) ∷ []
  ends_are Both s t h k = λ i.
      ((sym h.made i).a_left, (sym h.made i).a_right) ∷ ((sym k.made i).b_right, (sym k.made i).b_left) ∷ []
  ends_are Left s t h k = λ i. ((sym h.made i).a_left, s.a) ∷ (t.b, (sym k.made i).b_left) ∷ []
  ends_are Right s t h k = λ i. (s.a, (sym h.made i).a_right) ∷ ((sym k.made i).b_right, t.b) ∷ []

  pub ends_pushed : (side : StrokeSide) (s t u w : Section) → IsMade unit radius s → IsMade unit radius t
      → u ≡ on_side side s → w ≡ on_side side t
      → half_ends unit radius side (own_edge s) (own_edge t) ≡ (u.a_left, u.a_right) ∷ (w.b_right, w.b_left) ∷ []
  ends_pushed side s t u w h k e f =
      ends_are side s t h k
      ∙ (λ i. ((sym e i).a_left, (sym e i).a_right) ∷ ((sym f i).b_right, (sym f i).b_left) ∷ [])
