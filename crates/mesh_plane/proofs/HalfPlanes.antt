-- Lemmas over points and lists: a closed list on one side of a line winds round no point beyond it.
use Rattle.std.proofs.Common.{◌≡◌, ℕ, ⊎_elim, cond, List, [], ◌∷◌, refl, ◌∙◌, arith}
use Rattle.std.specs.Prelude.{ℤ, pos, ◌+ℤ◌, ◌-ℤ◌, ◌*ℤ◌, ◌≤ℤ◌, neg_ℤ, int_lt}
use Rattle.std.specs.List.{All}
use lib.Signed.{◌<ℤ◌}
use Rattle.std.proofs.lemmas.Int.{ints, by_lt_z}
use Rattle.std.proofs.lemmas.List.Elements.{All-weaker}
use Rattle.mesh_plane.specs.Plane.{Point, Edge, turn}
use Rattle.mesh_plane.specs.Winding.{crossing, refined, crossing_on, winding, boundary}
use Rattle.mesh_plane.proofs.ClosedLists.{boundary_all, boundary_steps}
use Rattle.mesh_plane.proofs.Crossings.{crossing_low, crossing_high, crossing_up, crossing_odd}
use Rattle.mesh_plane.proofs.PointExprs.{point_var, coordinates, turned}
use Rattle.mesh_plane.proofs.Ring.{ring, var, neg, ◌⊕◌, ◌⊖◌, ◌⊗◌}
use Rattle.mesh_plane.proofs.Sums.{sum_of_equal}
use Rattle.mesh_plane.proofs.Whole.{linear, mul_nonneg, mul_pos, neg_of_mul, pos_of_mul, neg_mul}

-- a linear measure of points
abbrev pub along_by : ℤ → ℤ → Point → ℤ
along_by u v p = (u *ℤ p.0) +ℤ (v *ℤ p.1)

turn_along : (u v : ℤ) (q p r : Point) →
    u *ℤ turn p r q ≡ neg_ℤ (((along_by u v q -ℤ along_by u v r) *ℤ (q.1 -ℤ p.1)) +ℤ ((along_by u v q -ℤ along_by u v p) *ℤ (r.1 -ℤ q.1)))
turn_along u v q p r =
    let along = λ (i : ℕ). λ (j : ℕ). (var 6 ⊗ var i) ⊕ (var 7 ⊗ var j) in
    ring (coordinates (q ∷ p ∷ r ∷ []) (u ∷ v ∷ []))
    (var 6 ⊗ turned (point_var 1) (point_var 2) (point_var 0))
    (neg (((along 0 1 ⊖ along 4 5) ⊗ (var 1 ⊖ var 3)) ⊕ ((along 0 1 ⊖ along 2 3) ⊗ (var 5 ⊖ var 1))))
    refl

-- on one side of a line, an edge that goes up past a point beyond it has the point on the side that the line's slope says
turn_beyond : (u v : ℤ) (q p r : Point) → along_by u v p <ℤ along_by u v q → along_by u v r <ℤ along_by u v q →
    p.1 ≤ℤ q.1 → q.1 <ℤ r.1 → (u *ℤ turn p r q) <ℤ pos 0
turn_beyond u v q p r hp hr low high =
    omega (
      arith,
      linear,
      turn_along u v q p r,
      mul_nonneg (along_by u v q -ℤ along_by u v r) (q.1 -ℤ p.1) (omega (arith, linear)) (omega (arith, linear)),
      mul_pos (along_by u v q -ℤ along_by u v p) (r.1 -ℤ q.1) (omega (arith, linear)) (omega (arith, linear)),
    )

-- ---- crossings on one side of a line are steps of a function of the ends: of none where all lie to the west of the point
-- at its height, and of the one that counts what is above it where all lie to the east

record IsPotential (u v : ℤ) (q : Point) (f : Point → ℤ) : Type 0 where
  steps : (p r : Point) → along_by u v p <ℤ along_by u v q → along_by u v r <ℤ along_by u v q → crossing q p r ≡ f r -ℤ f p

-- it is enough to look at edges upwards
by_rises : (u v : ℤ) (q : Point) (f : Point → ℤ) →
    ((p r : Point) → along_by u v p <ℤ along_by u v q → along_by u v r <ℤ along_by u v q → p.1 ≤ℤ q.1 → q.1 <ℤ r.1 → crossing q p r ≡ f r -ℤ f p) →
    ((p r : Point) → p.1 ≤ℤ q.1 → r.1 ≤ℤ q.1 → f r ≡ f p) → ((p r : Point) → q.1 <ℤ p.1 → q.1 <ℤ r.1 → f r ≡ f p) → IsPotential u v q f
by_rises u v q f rises low high = record {
  steps = λ (p r : Point) (hp : along_by u v p <ℤ along_by u v q) (hr : along_by u v r <ℤ along_by u v q).
      by_lt_z q.1 p.1
      (λ (a : q.1 <ℤ p.1).
      by_lt_z q.1 r.1
      (λ (b : q.1 <ℤ r.1). let same = high p r a b in let none = crossing_high p.1 r.1 q.1 (turn p r q) a b in omega (arith, linear, same, none))
      (λ (b : r.1 ≤ℤ q.1). let back = rises r p hr hp b a in omega (arith, linear, back, crossing_odd q p r)))
      (λ (a : p.1 ≤ℤ q.1).
      by_lt_z q.1 r.1
      (λ (b : q.1 <ℤ r.1). rises p r hp hr a b)
      (λ (b : r.1 ≤ℤ q.1). let same = low p r a b in let none = crossing_low p.1 r.1 q.1 (turn p r q) a b in omega (arith, linear, same, none)));
}

west : (u v : ℤ) (q : Point) → pos 0 ≤ℤ u → IsPotential u v q (λ (p : Point). pos 0)
west u v q least =
    by_rises u v q (λ (p : Point). pos 0)
    (λ (p r : Point) hp hr low high.
    let right : turn p r q <ℤ pos 0 = neg_of_mul u (turn p r q) least (turn_beyond u v q p r hp hr low high) in
    ⊎_elim
    (λ (h : (crossing q p r ≡ pos 1) × (pos 0 <ℤ turn p r q)). absurd (let left = h.1 in omega (arith, linear, left, right)))
    (λ (h : (crossing q p r ≡ pos 0) × (turn p r q ≤ℤ pos 0)). h.0)
    (crossing_up p.1 r.1 q.1 (turn p r q) low high))
    (λ (p r : Point) a b. refl)
    (λ (p r : Point) a b. refl)

-- 1 above a height
abbrev is_above : ℤ → Point → ℤ
is_above h p = cond (int_lt h p.1) (pos 1) (pos 0)

above_yes : (h : ℤ) (p : Point) → h <ℤ p.1 → is_above h p ≡ pos 1
above_yes h p l = grind (arith, ints)

above_no : (h : ℤ) (p : Point) → p.1 ≤ℤ h → is_above h p ≡ pos 0
above_no h p l = grind (arith, ints)

east : (u v : ℤ) (q : Point) → u ≤ℤ pos 0 → IsPotential u v q (is_above q.1)
east u v q most =
    by_rises u v q (is_above q.1)
    (λ (p r : Point) hp hr low high.
    let turned : (neg_ℤ u *ℤ turn p r q) ≡ neg_ℤ (u *ℤ turn p r q) = neg_mul u (turn p r q) in
    let left : pos 0 <ℤ turn p r q = pos_of_mul (neg_ℤ u) (turn p r q) (omega (arith, linear)) (omega (arith, linear, turned, turn_beyond u v q p r hp hr low high)) in
    ⊎_elim
    (λ (h : (crossing q p r ≡ pos 1) × (pos 0 <ℤ turn p r q)).
    let once = h.0 in omega (arith, ints, once, above_yes q.1 r high, above_no q.1 p low))
    (λ (h : (crossing q p r ≡ pos 0) × (turn p r q ≤ℤ pos 0)). absurd (let right = h.1 in omega (arith, linear, left, right)))
    (crossing_up p.1 r.1 q.1 (turn p r q) low high))
    (λ (p r : Point) a b. omega (arith, linear, above_no q.1 p a, above_no q.1 r b))
    (λ (p r : Point) a b. omega (arith, linear, above_yes q.1 p a, above_yes q.1 r b))

closed_steps : (u v : ℤ) (m : ℕ) (q : Point) (f : Point → ℤ) → IsPotential u v q f → (points : List Point) →
    All (λ (p : Point). along_by u v (refined m p) <ℤ along_by u v q) points → winding m q (boundary points) ≡ pos 0
closed_steps u v m q f h points before =
    sum_of_equal (λ (e : Edge). crossing_on m q e.0 e.1) (λ (e : Edge). f (refined m e.1) -ℤ f (refined m e.0)) (boundary points)
    (All-weaker (λ (e : Edge). (along_by u v (refined m e.0) <ℤ along_by u v q) × (along_by u v (refined m e.1) <ℤ along_by u v q))
    (λ (e : Edge). crossing_on m q e.0 e.1 ≡ f (refined m e.1) -ℤ f (refined m e.0))
    (λ (e : Edge) both. h.steps (refined m e.0) (refined m e.1) both.0 both.1)
    (boundary points)
    (boundary_all (λ (p : Point). along_by u v (refined m p) <ℤ along_by u v q) points before))
    ∙ boundary_steps (λ (p : Point). f (refined m p)) points

-- a closed list all of which a point lies beyond, by some linear measure, does not wind round the point
pub closed_before : (u v : ℤ) (m : ℕ) (q : Point) (points : List Point) →
    All (λ (p : Point). along_by u v (refined m p) <ℤ along_by u v q) points → winding m q (boundary points) ≡ pos 0
closed_before u v m q points before =
    by_lt_z u (pos 0)
    (λ (h : u <ℤ pos 0). closed_steps u v m q (is_above q.1) (east u v q (omega (arith, linear))) points before)
    (λ (h : pos 0 ≤ℤ u). closed_steps u v m q (λ (p : Point). pos 0) (west u v q h) points before)
