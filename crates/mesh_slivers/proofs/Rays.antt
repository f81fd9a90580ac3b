-- Lemmas over points and lists: a closed list of edges none of which meets a ray from a point does not wind round it.
use Rattle.std.proofs.Common.{◌≡◌, ℕ, List, [], ◌∷◌, refl, sym, ◌∙◌, subst, arith}
use Rattle.std.specs.Prelude.{ℤ, pos, ◌+ℤ◌, ◌-ℤ◌, ◌*ℤ◌, ◌≤ℤ◌, ◌<ℤ◌, neg_ℤ}
use Rattle.std.specs.List.{All}
use Rattle.std.proofs.lemmas.Int.{by_lt_z}
use Rattle.std.proofs.lemmas.List.Elements.{All-nil, All-cons, All-weaker}
use Rattle.mesh_plane.specs.Plane.{Point, Edge, minus}
use Rattle.mesh_plane.specs.Winding.{crossing, crossing_on, refined, winding, boundary}
use Rattle.mesh_plane.proofs.ClosedLists.{boundary_steps}
use Rattle.mesh_plane.proofs.Crossings.{crossing_odd}
use Rattle.mesh_plane.proofs.HalfPlanes.{along_by, closed_before}
use Rattle.mesh_plane.proofs.Ring.{ring, var, neg, ◌⊕◌, ◌⊖◌, ◌⊗◌}
use Rattle.mesh_plane.proofs.Sums.{sum_of_equal}
use Rattle.mesh_plane.proofs.Whole.{linear, one_mul, mul_one, mul_add, mul_nonneg, mul_le_mul_left, mul_lt_mul_left, mul_le_mul_right}

-- an edge lies before the point by a measure that grows along the way: so it does not meet the ray that goes this way
pub record LiesBefore (way q p r : Point) : Type 0 where
  pub u : ℤ
  pub v : ℤ
  pub grows : pos 0 <ℤ along_by u v way
  pub start : along_by u v p <ℤ along_by u v q
  pub end : along_by u v r <ℤ along_by u v q

refined_once : (p : Point) → refined 1 p ≡ p
refined_once p = λ i. (one_mul p.0 i, one_mul p.1 i)

-- its crossing is the step between those of two edges from a point on the other side
crossing_steps : (way q p r : Point) → LiesBefore way q p r → crossing q p r ≡ crossing q (minus q way) r -ℤ crossing q (minus q way) p
crossing_steps way q p r h = omega (arith, linear, closed, crossing_odd q r s)
  where
    s : Point
    s = minus q way

    back : along_by h.u h.v s ≡ along_by h.u h.v q -ℤ along_by h.u h.v way
    back =
        ring (h.u ∷ h.v ∷ q.0 ∷ q.1 ∷ way.0 ∷ way.1 ∷ [])
        ((var 0 ⊗ (var 2 ⊖ var 4)) ⊕ (var 1 ⊗ (var 3 ⊖ var 5)))
        (((var 0 ⊗ var 2) ⊕ (var 1 ⊗ var 3)) ⊖ ((var 0 ⊗ var 4) ⊕ (var 1 ⊗ var 5)))
        refl

    Before : Point → Type 0
    Before x = along_by h.u h.v (refined 1 x) <ℤ along_by h.u h.v q

    before : (x : Point) → along_by h.u h.v x <ℤ along_by h.u h.v q → Before x
    before x l = subst (λ (y : Point). along_by h.u h.v y <ℤ along_by h.u h.v q) (sym (refined_once x)) l

    closed : crossing q s p +ℤ (crossing q p r +ℤ (crossing q r s +ℤ pos 0)) ≡ pos 0
    closed =
        sym (λ i. crossing q (refined_once s i) (refined_once p i) +ℤ (crossing q (refined_once p i) (refined_once r i) +ℤ (crossing q (refined_once r i) (refined_once s i) +ℤ pos 0)))
        ∙ closed_before h.u h.v 1 q (s ∷ p ∷ r ∷ [])
        (All-cons Before s (p ∷ r ∷ []) (before s (omega (arith, linear, back, h.grows)))
        (All-cons Before p (r ∷ []) (before p h.start)
        (All-cons Before r [] (before r h.end) (All-nil Before))))

abbrev pub LiesBeforeOn : Point → ℕ → Point → Edge → Type 0
LiesBeforeOn way m q e = LiesBefore way q (refined m e.0) (refined m e.1)

pub closed_on_ray : (way : Point) (m : ℕ) (q : Point) (points : List Point) → All (LiesBeforeOn way m q) (boundary points) → winding m q (boundary points) ≡ pos 0
closed_on_ray way m q points before =
    sum_of_equal (λ (e : Edge). crossing_on m q e.0 e.1) (λ (e : Edge). f (refined m e.1) -ℤ f (refined m e.0)) (boundary points)
    (All-weaker (LiesBeforeOn way m q) (λ (e : Edge). crossing_on m q e.0 e.1 ≡ f (refined m e.1) -ℤ f (refined m e.0))
    (λ (e : Edge) (h : LiesBeforeOn way m q e). crossing_steps way q (refined m e.0) (refined m e.1) h) (boundary points) before)
    ∙ boundary_steps (λ (p : Point). f (refined m p)) points
  where
    f : Point → ℤ
    f p = crossing q (minus q way) p

-- ---- when an edge lies before a point

-- in a strip: by a measure that grows along the way, both ends lie at most `wide` steps of the way beyond the point
pub record LiesInStrip (way q p r : Point) (wide : ℤ) : Type 0 where
  pub u : ℤ
  pub v : ℤ
  pub grows : pos 0 <ℤ along_by u v way
  pub start : along_by u v p ≤ℤ (along_by u v q +ℤ (wide *ℤ along_by u v way))
  pub end : along_by u v r ≤ℤ (along_by u v q +ℤ (wide *ℤ along_by u v way))

-- a sum of two measures
mixed : (k l u v x y : ℤ) (z : Point) → along_by ((k *ℤ u) +ℤ (l *ℤ x)) ((k *ℤ v) +ℤ (l *ℤ y)) z ≡ (k *ℤ along_by u v z) +ℤ (l *ℤ along_by x y z)
mixed k l u v x y z =
    ring (k ∷ l ∷ u ∷ v ∷ x ∷ y ∷ z.0 ∷ z.1 ∷ [])
    ((((var 0 ⊗ var 2) ⊕ (var 1 ⊗ var 4)) ⊗ var 6) ⊕ (((var 0 ⊗ var 3) ⊕ (var 1 ⊗ var 5)) ⊗ var 7))
    ((var 0 ⊗ ((var 2 ⊗ var 6) ⊕ (var 3 ⊗ var 7))) ⊕ (var 1 ⊗ ((var 4 ⊗ var 6) ⊕ (var 5 ⊗ var 7))))
    refl

-- a measure that does not fall along the way, and the strip's, give one that grows
by_level : (way q p r : Point) (wide : ℤ) → pos 0 ≤ℤ wide → LiesInStrip way q p r wide → (u v : ℤ) → pos 0 ≤ℤ along_by u v way →
    along_by u v p <ℤ along_by u v q → along_by u v r <ℤ along_by u v q → LiesBefore way q p r
by_level way q p r wide least strip u v level start end = record {
  u = (many *ℤ u) +ℤ (pos 1 *ℤ strip.u);
  v = (many *ℤ v) +ℤ (pos 1 *ℤ strip.v);
  grows = omega (arith, linear, mixed many (pos 1) u v strip.u strip.v way, one_mul (along_by strip.u strip.v way), strip.grows, mul_nonneg many (along_by u v way) (omega (arith, linear, some)) level);
  start = past p start strip.start;
  end = past r end strip.end;
}
  where
    many_less : ℤ
    many_less = wide *ℤ along_by strip.u strip.v way

    some : pos 0 ≤ℤ many_less
    some = mul_nonneg wide (along_by strip.u strip.v way) least (omega (arith, linear, strip.grows))

    many : ℤ
    many = many_less +ℤ pos 1

    past : (z : Point) → along_by u v z <ℤ along_by u v q → along_by strip.u strip.v z ≤ℤ (along_by strip.u strip.v q +ℤ (wide *ℤ along_by strip.u strip.v way)) →
        along_by ((many *ℤ u) +ℤ (pos 1 *ℤ strip.u)) ((many *ℤ v) +ℤ (pos 1 *ℤ strip.v)) z <ℤ along_by ((many *ℤ u) +ℤ (pos 1 *ℤ strip.u)) ((many *ℤ v) +ℤ (pos 1 *ℤ strip.v)) q
    past z l h =
        omega (
          arith,
          linear,
          mixed many (pos 1) u v strip.u strip.v z,
          mixed many (pos 1) u v strip.u strip.v q,
          one_mul (along_by strip.u strip.v z),
          one_mul (along_by strip.u strip.v q),
          mul_le_mul_left many (along_by u v z +ℤ pos 1) (along_by u v q) (omega (arith, linear, some)) (omega (arith, linear)),
          mul_add many (along_by u v z) (pos 1),
          mul_one many,
        )

-- so do the strip's and one by which the point lies `wide` beyond the edge, and that falls by no more than `most` along the way
pub by_strip : (way q p r : Point) (wide : ℤ) → pos 0 ≤ℤ wide → LiesInStrip way q p r wide → (u v most : ℤ) → pos 0 ≤ℤ most → neg_ℤ most ≤ℤ along_by u v way →
    (along_by u v p +ℤ (most *ℤ wide)) <ℤ along_by u v q → (along_by u v r +ℤ (most *ℤ wide)) <ℤ along_by u v q → LiesBefore way q p r
by_strip way q p r wide least strip u v most some slow start end =
    by_lt_z fall (pos 0)
    (λ (falls : fall <ℤ pos 0).
    by_level way q p r wide least strip ((rise *ℤ u) +ℤ (neg_ℤ fall *ℤ strip.u)) ((rise *ℤ v) +ℤ (neg_ℤ fall *ℤ strip.v))
    (omega (arith, linear, mixed rise (neg_ℤ fall) u v strip.u strip.v way, level))
    (past falls p start strip.start) (past falls r end strip.end))
    (λ (rises : pos 0 ≤ℤ fall).
    by_level way q p r wide least strip u v rises (omega (arith, linear, start, gap)) (omega (arith, linear, end, gap)))
  where
    fall : ℤ
    fall = along_by u v way

    rise : ℤ
    rise = along_by strip.u strip.v way

    gap : pos 0 ≤ℤ (most *ℤ wide)
    gap = mul_nonneg most wide some least

    level : (rise *ℤ fall) +ℤ (neg_ℤ fall *ℤ rise) ≡ pos 0
    level = ring (rise ∷ fall ∷ []) ((var 0 ⊗ var 1) ⊕ (neg (var 1) ⊗ var 0)) (var 0 ⊖ var 0) refl ∙ omega (arith, linear)

    past : fall <ℤ pos 0 → (z : Point) → (along_by u v z +ℤ (most *ℤ wide)) <ℤ along_by u v q → along_by strip.u strip.v z ≤ℤ (along_by strip.u strip.v q +ℤ (wide *ℤ rise)) →
        along_by ((rise *ℤ u) +ℤ (neg_ℤ fall *ℤ strip.u)) ((rise *ℤ v) +ℤ (neg_ℤ fall *ℤ strip.v)) z <ℤ along_by ((rise *ℤ u) +ℤ (neg_ℤ fall *ℤ strip.u)) ((rise *ℤ v) +ℤ (neg_ℤ fall *ℤ strip.v)) q
    past falls z l h =
        omega (
          arith,
          linear,
          mixed rise (neg_ℤ fall) u v strip.u strip.v z,
          mixed rise (neg_ℤ fall) u v strip.u strip.v q,
          mul_lt_mul_left rise (along_by u v z +ℤ (most *ℤ wide)) (along_by u v q) strip.grows l,
          mul_add rise (along_by u v z) (most *ℤ wide),
          mul_le_mul_left (neg_ℤ fall) (along_by strip.u strip.v z) (along_by strip.u strip.v q +ℤ (wide *ℤ rise)) (omega (arith, linear)) h,
          mul_add (neg_ℤ fall) (along_by strip.u strip.v q) (wide *ℤ rise),
          mul_le_mul_right (wide *ℤ rise) (neg_ℤ fall) most (mul_nonneg wide rise least (omega (arith, linear, strip.grows))) (omega (arith, linear, slow)),
          ring (rise ∷ most ∷ wide ∷ []) (var 0 ⊗ (var 1 ⊗ var 2)) (var 1 ⊗ (var 2 ⊗ var 0)) refl,
        )
