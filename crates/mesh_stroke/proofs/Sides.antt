-- Lemmas over points: the two sides of an edge, and of the edge read backwards.
use Rattle.std.proofs.Common.{◌≡◌, ◌≢◌, ℕ, ◌<◌, sym, ◌∙◌, ap, arith}
use Rattle.std.specs.Prelude.{ℤ, pos, neg_ℤ, ◌+ℤ◌, ◌-ℤ◌}
use Rattle.mesh_plane.specs.Plane.{Point, Edge, plus, minus, opposite, turn, right_quarter}
use Rattle.mesh_plane.proofs.Whole.{linear, multiplied}
use Rattle.mesh_num.specs.Direction.{scaled_direction, IsDirection}
use Rattle.mesh_num.specs.Directed.{direction_of}
use Rattle.mesh_num.proofs.Directed.{direction_of_is, is_direction_of}
use Rattle.mesh_num.proofs.Parts.{direction_opposite}
use Rattle.mesh_num.proofs.Scaling.{scaled_direction_opposite}
use Rattle.mesh_lattice.specs.Split.{back}
use Rattle.mesh_offset.proofs.Apart.{apart_long}
use Rattle.mesh_stroke.specs.Strokes.{heading, right_of, left_of}

-- an edge with different ends has a direction
pub heading_is : (unit : ℕ) (e : Edge) → e.0 ≢ e.1 → IsDirection unit (minus e.1 e.0) (heading unit e)
heading_is unit e apart = direction_of_is unit (minus e.1 e.0) (apart_long e apart)

-- read backwards it has the opposite one
pub heading_back : (unit : ℕ) (e : Edge) → e.0 ≢ e.1 → heading unit (back e) ≡ opposite (heading unit e)
heading_back unit e apart =
    let x : e.0.0 -ℤ e.1.0 ≡ neg_ℤ (e.1.0 -ℤ e.0.0) = omega (arith, linear) in
    let y : e.0.1 -ℤ e.1.1 ≡ neg_ℤ (e.1.1 -ℤ e.0.1) = omega (arith, linear) in
    let v : minus e.0 e.1 ≡ opposite (minus e.1 e.0) = λ i. (x i, y i) in
    ap (direction_of unit) v ∙ sym (is_direction_of unit (opposite (minus e.1 e.0)) (opposite (heading unit e)) (direction_opposite (heading_is unit e apart)))

-- and its sides exchanged
pub right_back : (unit : ℕ) (radius : ℤ) (e : Edge) (v : Point) → 0 < unit → e.0 ≢ e.1 → right_of unit radius (back e) v ≡ left_of unit radius e v
right_back unit radius e v some apart =
    let s = scaled_direction unit radius (heading unit e) in
    let h : scaled_direction unit radius (heading unit (back e)) ≡ opposite s =
    ap (scaled_direction unit radius) (heading_back unit e apart) ∙ scaled_direction_opposite unit radius (heading unit e) some in
    let x : v.0 +ℤ neg_ℤ s.1 ≡ v.0 -ℤ s.1 = omega (arith, linear) in
    let y : v.1 +ℤ neg_ℤ (neg_ℤ s.0) ≡ v.1 -ℤ neg_ℤ s.0 = omega (arith, linear) in
    let moved : plus v (right_quarter (opposite s)) ≡ minus v (right_quarter s) = λ i. (x i, y i) in
    ap (λ (t : Point). plus v (right_quarter t)) h ∙ moved

pub left_back : (unit : ℕ) (radius : ℤ) (e : Edge) (v : Point) → 0 < unit → e.0 ≢ e.1 → left_of unit radius (back e) v ≡ right_of unit radius e v
left_back unit radius e v some apart =
    let s = scaled_direction unit radius (heading unit e) in
    let h : scaled_direction unit radius (heading unit (back e)) ≡ opposite s =
    ap (scaled_direction unit radius) (heading_back unit e apart) ∙ scaled_direction_opposite unit radius (heading unit e) some in
    let x : v.0 -ℤ neg_ℤ s.1 ≡ v.0 +ℤ s.1 = omega (arith, linear) in
    let y : v.1 -ℤ neg_ℤ (neg_ℤ s.0) ≡ v.1 +ℤ neg_ℤ s.0 = omega (arith, linear) in
    let moved : minus v (right_quarter (opposite s)) ≡ plus v (right_quarter s) = λ i. (x i, y i) in
    ap (λ (t : Point). minus v (right_quarter t)) h ∙ moved

-- a point lies straight between its two sides
pub sides_straight : (unit : ℕ) (radius : ℤ) (e : Edge) (v : Point) → turn (right_of unit radius e v) v (left_of unit radius e v) ≡ pos 0
sides_straight unit radius e v =
    let s = scaled_direction unit radius (heading unit e) in
    straight v (right_quarter s)
  where
    straight : (p s : Point) → turn (plus p s) p (minus p s) ≡ pos 0
    straight p s = simp multiplied (omega (arith, linear))
