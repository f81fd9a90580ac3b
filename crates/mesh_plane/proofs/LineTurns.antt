-- Lemmas over whole numbers: points on one line.
use Rattle.std.proofs.Common.{◌≡◌, [], ◌∷◌, refl, ◌∙◌, ⊎_elim, arith}
use Rattle.std.specs.Prelude.{◌-ℤ◌, ◌*ℤ◌, ℤ, pos}
use Rattle.mesh_plane.specs.Plane.{Point, turn}
use Rattle.mesh_plane.proofs.Ring.{ring, var, ◌⊖◌, ◌⊗◌, lit}
use Rattle.mesh_plane.proofs.PointExprs.{point_var, coordinates, turned}
use Rattle.std.proofs.lemmas.Int.{ints}
use Rattle.mesh_plane.proofs.Whole.{factor}

pub along_x : (a b p r : Point) →
    (r.0 -ℤ p.0) *ℤ turn a b p ≡ ((a.0 -ℤ p.0) *ℤ (turn p r b -ℤ turn p r a)) -ℤ ((b.0 -ℤ a.0) *ℤ turn p r a)
along_x a b p r =
    ring (coordinates (a ∷ b ∷ p ∷ r ∷ []) [])
    ((var 6 ⊖ var 4) ⊗ turned (point_var 0) (point_var 1) (point_var 2))
    (((var 0 ⊖ var 4) ⊗ (turned (point_var 2) (point_var 3) (point_var 1) ⊖ turned (point_var 2) (point_var 3) (point_var 0))) ⊖ ((var 2 ⊖ var 0) ⊗ turned (point_var 2) (point_var 3) (point_var 0)))
    refl

pub along_y : (a b p r : Point) →
    (r.1 -ℤ p.1) *ℤ turn a b p ≡ ((a.1 -ℤ p.1) *ℤ (turn p r b -ℤ turn p r a)) -ℤ ((b.1 -ℤ a.1) *ℤ turn p r a)
along_y a b p r =
    ring (coordinates (a ∷ b ∷ p ∷ r ∷ []) [])
    ((var 7 ⊖ var 5) ⊗ turned (point_var 0) (point_var 1) (point_var 2))
    (((var 1 ⊖ var 5) ⊗ (turned (point_var 2) (point_var 3) (point_var 1) ⊖ turned (point_var 2) (point_var 3) (point_var 0))) ⊖ ((var 3 ⊖ var 1) ⊗ turned (point_var 2) (point_var 3) (point_var 0)))
    refl

none_of : (c d x y : ℤ) → x ≡ pos 0 → y ≡ pos 0 → (c *ℤ (y -ℤ x)) -ℤ (d *ℤ x) ≡ pos 0
none_of c d x y ex ey =
    (λ i. (c *ℤ (ey i -ℤ ex i)) -ℤ (d *ℤ ex i))
    ∙ ring (c ∷ d ∷ []) ((var 0 ⊗ (lit (pos 0) ⊖ lit (pos 0))) ⊖ (var 1 ⊗ lit (pos 0))) (lit (pos 0)) refl

-- two points on the line of two others: the first of these is on theirs
pub line_turn : (a b p r : Point) → (p ≡ r → ⊥) → turn p r a ≡ pos 0 → turn p r b ≡ pos 0 → turn a b p ≡ pos 0
line_turn a b p r differ ea eb =
    ⊎_elim
    (λ (hx : r.0 -ℤ p.0 ≡ pos 0).
    ⊎_elim
    (λ (hy : r.1 -ℤ p.1 ≡ pos 0).
    let x : p.0 ≡ r.0 = omega (arith, ints) in
    let y : p.1 ≡ r.1 = omega (arith, ints) in
    absurd (differ (λ i. (x i, y i))))
    (λ (h : turn a b p ≡ pos 0). h)
    (factor (r.1 -ℤ p.1) (turn a b p) (along_y a b p r ∙ none_of (a.1 -ℤ p.1) (b.1 -ℤ a.1) (turn p r a) (turn p r b) ea eb)))
    (λ (h : turn a b p ≡ pos 0). h)
    (factor (r.0 -ℤ p.0) (turn a b p) (along_x a b p r ∙ none_of (a.0 -ℤ p.0) (b.0 -ℤ a.0) (turn p r a) (turn p r b) ea eb))
