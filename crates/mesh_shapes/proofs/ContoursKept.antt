-- Lemmas over points and lists: a closed list without the points that it runs straight through winds as the whole list.
use Rattle.std.proofs.Common.{◌≡◌, ℕ, ◌⊎◌, inl, inr, Bool, true, false, cond, List, [], ◌∷◌, refl, sym, ◌∙◌, ap, subst, arith}
use Rattle.std.specs.Prelude.{ℤ, pos, ◌+ℤ◌}
use Rattle.mesh_plane.specs.Plane.{Point, turn}
use Rattle.mesh_plane.specs.Winding.{total, route, boundary, winding, IsStraight, crossing_on}
use Rattle.mesh_plane.proofs.Turning.{straight_turn}
use Rattle.mesh_plane.proofs.Whole.{linear}
use Rattle.mesh_plane.proofs.Crossings.{turn_swap, turn_cycle, straight_none}
use Rattle.mesh_plane.proofs.Triangles.{crossing_on_straight}
use Rattle.mesh_plane.specs.Turning.{turns_at, first_or}
use Rattle.mesh_shapes.specs.Contours.{turning_points, vertices}
use Rattle.mesh_lattice.proofs.Each.{Each}
use Rattle.mesh_lattice.proofs.SoundSplits.{ProperEnds}
use Rattle.mesh_plane.proofs.LineTurns.{line_turn}

-- `k` is `a`, or on a line with `a` and the next point
abbrev Onward : Point → Point → Point → Type 0
Onward k a n = (k ≡ a) ⊎ (turn k a n ≡ pos 0)

onward_step : (k a x n : Point) → (a ≡ x → ⊥) → Onward k a x → turn a x n ≡ pos 0 → turn k x n ≡ pos 0
onward_step k a x n differ (inl e) h = subst (λ (p : Point). turn p x n ≡ pos 0) (sym e) h
onward_step k a x n differ (inr e) h =
    let back : x ≡ a → ⊥ = λ (s : x ≡ a). differ (sym s) in
    let first : turn x a k ≡ pos 0 = omega (arith, linear, turn_cycle k a x, turn_swap a x k, turn_cycle x a k, turn_cycle a k x, turn_swap x k a) in
    let second : turn x a n ≡ pos 0 = omega (arith, linear, turn_cycle a x n, turn_cycle x n a, turn_swap x a n) in
    let line : turn k n x ≡ pos 0 = line_turn k n x a back first second in
    omega (arith, linear, turn_swap k x n)

module _ (f : Point → Point → ℤ) (straight : IsStraight f) where
  onward_sum : (k a n : Point) → Onward k a n → f k a +ℤ f a n ≡ f k n
  onward_sum k a n (inl e) = ap (λ (p : Point). f p a +ℤ f a n) e ∙ (omega (arith, linear, straight_none f straight a) ∙ ap (λ (p : Point). f p n) (sym e))
  onward_sum k a n (inr e) = straight k a n e

  corner_sum : (k a : Point) (xs : List Point) (z : Point) → Each ProperEnds (route a xs z) →
      Onward k a (first_or z xs) →
      f k a +ℤ total f (route a xs z) ≡ total f (route k (turning_points a xs z) z)
  corner_sum k a [] z proper on = omega (arith, linear, onward_sum k a z on)
  corner_sum k a (x ∷ xs) z proper on =
      by (turns_at a x (first_or z xs)) refl (corner_sum x x xs z) (corner_sum k x xs z)
    where
      by : (b : Bool) → turns_at a x (first_or z xs) ≡ b →
          (Each ProperEnds (route x xs z) → Onward x x (first_or z xs) → f x x +ℤ total f (route x xs z) ≡ total f (route x (turning_points x xs z) z)) →
          (Each ProperEnds (route x xs z) → Onward k x (first_or z xs) → f k x +ℤ total f (route x xs z) ≡ total f (route k (turning_points x xs z) z)) →
          f k a +ℤ (f a x +ℤ total f (route x xs z)) ≡ total f (route k (cond b (x ∷ turning_points x xs z) (turning_points x xs z)) z)
      by true h own further =
          omega (arith, linear, onward_sum k a x on, own proper.1 (inl refl), straight_none f straight x)
      by false h own further =
          let next : turn k x (first_or z xs) ≡ pos 0 = onward_step k a x (first_or z xs) proper.0 on (straight_turn a x (first_or z xs) h) in
          omega (arith, linear, onward_sum k a x on, further proper.1 (inr next))

  -- the answered vertices have the sum of the whole contour
  pub vertices_sum : (all : Bool) (contour : List Point) → Each ProperEnds (boundary contour) → total f (boundary (vertices all contour)) ≡ total f (boundary contour)
  vertices_sum all [] proper = refl
  vertices_sum true (p ∷ xs) proper = refl
  vertices_sum false (p ∷ xs) proper = sym (omega (arith, linear, corner_sum p p xs p proper (inl refl), straight_none f straight p))

-- the answered vertices wind as the whole contour
pub vertices_winding : (all : Bool) (contour : List Point) (m : ℕ) (q : Point) → Each ProperEnds (boundary contour) →
    winding m q (boundary (vertices all contour)) ≡ winding m q (boundary contour)
vertices_winding all contour m q proper = vertices_sum (crossing_on m q) (λ (p r s : Point) (e : turn p r s ≡ pos 0). crossing_on_straight m q p r s e) all contour proper
