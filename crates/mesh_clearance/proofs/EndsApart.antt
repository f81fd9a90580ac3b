-- Lemmas over points: two segments that do not cross are as far apart as their ends are from the other one.
use Rattle.std.proofs.Common.{◌≡◌, ℕ, ◌*◌, ◌<◌, ◌≤◌, ◌⊎◌, inl, inr, refl, sym, ◌∙◌, ap, subst, arith, List, [], ◌∷◌}
use Rattle.std.specs.Prelude.{ℤ, pos, neg_ℤ, ◌+ℤ◌, ◌-ℤ◌, ◌*ℤ◌, ◌≤ℤ◌, ◌<ℤ◌}
use Rattle.std.proofs.lemmas.Int.{ints, by_lt_z}
use Rattle.mesh_plane.specs.Plane.{Point, Edge, minus, dot, cross, turn, length_sq}
use Rattle.mesh_plane.proofs.Identities.{lagrange, dot_through, cross_through}
use Rattle.mesh_plane.proofs.PointExprs.{PointExpr, coordinates, point_var, apart, crossed}
use Rattle.mesh_plane.proofs.Ring.{Expr, ring, var, neg, ◌⊕◌, ◌⊖◌, ◌⊗◌}
use Rattle.mesh_plane.proofs.Whole.{linear, mul_both_neg, mul_nonneg, mul_nonneg_nonpos, mul_nonpos, mul_pos, mul_neg_pos, pos_of_mul, nonpos_of_mul, square_nonneg, square_zero}
use Rattle.mesh_lattice.specs.Split.{back, IsCrossing, AreOpposite}
use Rattle.mesh_clearance.specs.Clearance.{AreApart}
use Rattle.mesh_clearance.proofs.CommonPoints.{HaveCommon, common_rising, common_falling, differ}
use Rattle.mesh_clearance.proofs.Ends.{apart_by_left, apart_of_way, far_from_start, far_from_end, far_from_line}
use Rattle.mesh_clearance.proofs.Symmetries.{apart_back, apart_mirrored, apart_swapped, mirror, mirror_edge}
use Rattle.mesh_clearance.proofs.Ways.{no_distance, product_some}

abbrev dotted : PointExpr → PointExpr → Expr
dotted v w = (v.0 ⊗ w.0) ⊕ (v.1 ⊗ w.1)

-- the four ends: a and b of the first segment, r and s of the second
abbrev a' : PointExpr
a' = point_var 0

abbrev b' : PointExpr
b' = point_var 1

abbrev r' : PointExpr
r' = point_var 2

abbrev s' : PointExpr
s' = point_var 3

abbrev ends : Point → Point → Point → Point → List ℤ
ends a b r s = coordinates (a ∷ b ∷ r ∷ s ∷ []) []

-- ---- what is nearest to the start of the first segment

record IsAhead (a b r s : Point) : Type 0 where
  beyond : dot (minus b a) (minus r a) <ℤ pos 0
  left : pos 0 ≤ℤ cross (minus b a) (minus r a)
  rising : pos 0 ≤ℤ cross (minus b a) (minus s r)

-- the way to the second's start
to_start : (t : ℕ) (a b r s : Point) → IsAhead a b r s → pos t ≤ℤ dot (minus a r) (minus a r) → pos 0 ≤ℤ dot (minus s r) (minus r a) → AreApart t (a, b) (r, s)
to_start t a b r s h far past =
    let beyond = h.beyond in
    apart_of_way t (minus r a) (a, b) (r, s)
    (omega (arith, linear, far, ring (ends a b r s) (dotted (apart a' r') (apart a' r')) (dotted (apart r' a') (apart r' a')) refl)) (record {
      start_start = omega (arith, linear);
      end_start = omega (arith, linear, beyond, ring (ends a b r s) (dotted (apart r' a') (apart r' b')) (dotted (apart r' a') (apart r' a') ⊖ dotted (apart b' a') (apart r' a')) refl);
      start_end = omega (arith, linear, past, ring (ends a b r s) (dotted (apart r' a') (apart s' a')) (dotted (apart r' a') (apart r' a') ⊕ dotted (apart s' r') (apart r' a')) refl);
      end_end =
          omega (arith, linear, beyond, past, ring (ends a b r s) (dotted (apart r' a') (apart s' b')) ((dotted (apart r' a') (apart r' a') ⊕ dotted (apart s' r') (apart r' a')) ⊖ dotted (apart b' a') (apart r' a')) refl);
    })

-- the second turns back beside the first's start
turned_back : (a b r s : Point) → IsAhead a b r s → dot (minus s r) (minus r a) <ℤ pos 0 → pos 0 ≤ℤ cross (minus s r) (minus r a)
turned_back a b r s h back =
    let beyond = h.beyond in
    let left = h.left in
    let rising = h.rising in
    let u = minus r a in
    let v = minus b a in
    let w = minus s r in
    by_lt_z (cross w u) (pos 0)
    (λ (right : cross w u <ℤ pos 0).
    absurd (omega (
      arith,
      linear,
      cross_through u v w,
      mul_nonneg (dot u u) (cross v w) (omega (arith, linear, square_nonneg u.0, square_nonneg u.1)) rising,
      mul_neg_pos (dot u v) (cross u w)
          (omega (arith, linear, beyond, ring (ends a b r s) (dotted (apart r' a') (apart b' a')) (dotted (apart b' a') (apart r' a')) refl))
          (omega (arith, linear, right, ring (ends a b r s) (crossed (apart r' a') (apart s' r')) (neg (crossed (apart s' r') (apart r' a'))) refl)),
      mul_nonpos (cross u v) (dot u w)
          (omega (arith, linear, left, ring (ends a b r s) (crossed (apart r' a') (apart b' a')) (neg (crossed (apart b' a') (apart r' a'))) refl))
          (omega (arith, linear, back, ring (ends a b r s) (dotted (apart r' a') (apart s' r')) (dotted (apart s' r') (apart r' a')) refl)),
    )))
    (λ (least : pos 0 ≤ℤ cross w u). least)

-- the way to the second's line
to_line : (t : ℕ) (a b r s : Point) → IsAhead a b r s → AreApart t (a, a) (r, s) → dot (minus s r) (minus r a) <ℤ pos 0 → pos 0 ≤ℤ dot (minus s r) (minus s a) → AreApart t (a, b) (r, s)
to_line t a b r s h far back past =
    let w = minus s r in
    let rising = h.rising in
    let flat = turned_back a b r s h back in
    let length : dot w w ≡ dot w (minus s a) -ℤ dot w (minus r a) =
    ring (ends a b r s) (dotted (apart s' r') (apart s' r')) (dotted (apart s' r') (apart s' a') ⊖ dotted (apart s' r') (apart r' a')) refl in
    let foot : dot w (minus a r) ≡ neg_ℤ (dot w (minus r a)) =
    ring (ends a b r s) (dotted (apart s' r') (apart a' r')) (neg (dotted (apart s' r') (apart r' a'))) refl in
    let some : pos 0 <ℤ dot w w = omega (arith, linear, length, back, past) in
    apart_by_left t w (cross w (minus r a)) (a, b) (r, s) flat some
    (omega (
      arith,
      linear,
      far_from_line t a (r, s) far some (omega (arith, linear, foot, back)) (omega (arith, linear, foot, length, past)),
      ring (ends a b r s) (crossed (apart s' r') (apart a' r') ⊗ crossed (apart s' r') (apart a' r')) (crossed (apart s' r') (apart r' a') ⊗ crossed (apart s' r') (apart r' a')) refl,
    ))
    (omega (arith, linear))
    (omega (arith, linear, rising, ring (ends a b r s) (crossed (apart s' r') (apart r' b')) (crossed (apart s' r') (apart r' a') ⊕ crossed (apart b' a') (apart s' r')) refl))
    (omega (arith, linear, ring (ends a b r s) (crossed (apart s' r') (apart s' a')) (crossed (apart s' r') (apart r' a')) refl))
    (omega (arith, linear, rising, ring (ends a b r s) (crossed (apart s' r') (apart s' b')) (crossed (apart s' r') (apart r' a') ⊕ crossed (apart b' a') (apart s' r')) refl))

-- the way to the second's end, which is not beside the first either
end_ahead : (a b r s : Point) → IsAhead a b r s → dot (minus s r) (minus r a) <ℤ pos 0 → dot (minus s r) (minus s a) ≤ℤ pos 0 → dot (minus b a) (minus s a) ≤ℤ pos 0
end_ahead a b r s h back past =
    let beyond = h.beyond in
    let left = h.left in
    let rising = h.rising in
    let flat = turned_back a b r s h back in
    let u = minus r a in
    let v = minus b a in
    let w = minus s r in
    let x = minus s a in
    let uw : dot u w <ℤ pos 0 = omega (arith, linear, back, ring (ends a b r s) (dotted (apart r' a') (apart s' r')) (dotted (apart s' r') (apart r' a')) refl) in
    let uv : dot u v <ℤ pos 0 = omega (arith, linear, beyond, ring (ends a b r s) (dotted (apart r' a') (apart b' a')) (dotted (apart b' a') (apart r' a')) refl) in
    let cuw : cross u w ≤ℤ pos 0 = omega (arith, linear, flat, ring (ends a b r s) (crossed (apart r' a') (apart s' r')) (neg (crossed (apart s' r') (apart r' a'))) refl) in
    let cuv : cross u v ≤ℤ pos 0 = omega (arith, linear, left, ring (ends a b r s) (crossed (apart r' a') (apart b' a')) (neg (crossed (apart b' a') (apart r' a'))) refl) in
    let same_way : pos 0 <ℤ dot w v =
    pos_of_mul (dot u u) (dot w v) (omega (arith, linear, square_nonneg u.0, square_nonneg u.1))
    (omega (arith, linear, dot_through u w v, mul_both_neg (dot u w) (dot u v) uw uv, mul_nonpos (cross u w) (cross u v) cuw cuv)) in
    let some : pos 0 <ℤ dot w w =
    pos_of_mul (dot u u) (dot w w) (omega (arith, linear, square_nonneg u.0, square_nonneg u.1))
    (omega (arith, linear, lagrange u w, mul_both_neg (dot u w) (dot u w) uw uw, square_nonneg (cross u w))) in
    let cwv : cross w v ≤ℤ pos 0 = omega (arith, linear, rising, ring (ends a b r s) (crossed (apart s' r') (apart b' a')) (neg (crossed (apart b' a') (apart s' r'))) refl) in
    let cwx : pos 0 ≤ℤ cross w x = omega (arith, linear, flat, ring (ends a b r s) (crossed (apart s' r') (apart s' a')) (crossed (apart s' r') (apart r' a')) refl) in
    nonpos_of_mul (dot w w) (dot v x) some
    (omega (
      arith,
      linear,
      dot_through w v x,
      mul_nonneg_nonpos (dot w v) (dot w x) (omega (arith, linear)) past,
      mul_nonneg_nonpos (cross w x) (cross w v) cwx cwv,
      ring (cross w x ∷ cross w v ∷ []) (var 0 ⊗ var 1) (var 1 ⊗ var 0) refl,
    ))

to_end : (t : ℕ) (a b r s : Point) → IsAhead a b r s → pos t ≤ℤ dot (minus a s) (minus a s) → dot (minus s r) (minus r a) <ℤ pos 0 → dot (minus s r) (minus s a) ≤ℤ pos 0 → AreApart t (a, b) (r, s)
to_end t a b r s h far back past =
    let ahead = end_ahead a b r s h back past in
    apart_of_way t (minus s a) (a, b) (r, s)
    (omega (arith, linear, far, ring (ends a b r s) (dotted (apart a' s') (apart a' s')) (dotted (apart s' a') (apart s' a')) refl)) (record {
      start_start = omega (arith, linear, past, ring (ends a b r s) (dotted (apart s' a') (apart r' a')) (dotted (apart s' a') (apart s' a') ⊖ dotted (apart s' r') (apart s' a')) refl);
      end_start =
          omega (arith, linear, ahead, past, ring (ends a b r s) (dotted (apart s' a') (apart r' b')) ((dotted (apart s' a') (apart s' a') ⊖ dotted (apart s' r') (apart s' a')) ⊖ dotted (apart b' a') (apart s' a')) refl);
      start_end = omega (arith, linear);
      end_end = omega (arith, linear, ahead, ring (ends a b r s) (dotted (apart s' a') (apart s' b')) (dotted (apart s' a') (apart s' a') ⊖ dotted (apart b' a') (apart s' a')) refl);
    })

near_start : (t : ℕ) (a b r s : Point) → IsAhead a b r s → AreApart t (a, a) (r, s) → AreApart t (a, b) (r, s)
near_start t a b r s h far =
    by_lt_z (dot (minus s r) (minus r a)) (pos 0)
    (λ (back : dot (minus s r) (minus r a) <ℤ pos 0).
    by_lt_z (dot (minus s r) (minus s a)) (pos 0)
    (λ (past : dot (minus s r) (minus s a) <ℤ pos 0). to_end t a b r s h (far_from_end t a (r, s) far) back (omega (arith, linear)))
    (λ (past : pos 0 ≤ℤ dot (minus s r) (minus s a)). to_line t a b r s h far back past))
    (λ (past : pos 0 ≤ℤ dot (minus s r) (minus r a)). to_start t a b r s h (far_from_start t a (r, s) far) past)

-- ---- a second segment on the first's left that goes away from it

-- each end is that far from the other segment
pub record AreEndsApart (t : ℕ) (e f : Edge) : Type 0 where
  pub start_first : AreApart t (e.0, e.0) f
  pub end_first : AreApart t (e.1, e.1) f
  pub start_second : AreApart t (f.0, f.0) e
  pub end_second : AreApart t (f.1, f.1) e

near_end : (t : ℕ) (a b r s : Point) → pos 0 <ℤ dot (minus b a) (minus r b) → pos 0 ≤ℤ cross (minus b a) (minus r a) → pos 0 ≤ℤ cross (minus b a) (minus s r) →
    AreApart t (b, b) (r, s) → AreApart t (a, b) (r, s)
near_end t a b r s beyond left rising far =
    apart_back t (a, b) (r, s)
    (apart_mirrored t (b, a) (r, s)
    (near_start t (mirror b) (mirror a) (mirror r) (mirror s) (record {
      beyond =
          omega (
            arith,
            linear,
            beyond,
            ring (ends a b r s)
                (dotted (apart (b'.1, b'.0) (b'.1, b'.0)) (apart (b'.1, b'.0) (b'.1, b'.0)) ⊕ dotted (apart (a'.1, a'.0) (b'.1, b'.0)) (apart (r'.1, r'.0) (b'.1, b'.0)))
                (dotted (apart (b'.1, b'.0) (b'.1, b'.0)) (apart (b'.1, b'.0) (b'.1, b'.0)) ⊖ dotted (apart b' a') (apart r' b'))
                refl,
          );
      left =
          omega (arith, linear, left, ring (ends a b r s) (crossed (apart (a'.1, a'.0) (b'.1, b'.0)) (apart (r'.1, r'.0) (b'.1, b'.0))) (crossed (apart b' a') (apart r' a')) refl);
      rising =
          omega (arith, linear, rising, ring (ends a b r s) (crossed (apart (a'.1, a'.0) (b'.1, b'.0)) (apart (s'.1, s'.0) (r'.1, r'.0))) (crossed (apart b' a') (apart s' r')) refl);
    })
    (apart_mirrored t (mirror b, mirror b) (mirror r, mirror s) far)))

-- the way to the second's start from the first's line
beside : (t : ℕ) (a b r s : Point) → pos 0 <ℤ dot (minus b a) (minus b a) → pos 0 ≤ℤ dot (minus b a) (minus r a) → dot (minus b a) (minus r b) ≤ℤ pos 0 →
    pos 0 ≤ℤ cross (minus b a) (minus r a) → pos 0 ≤ℤ cross (minus b a) (minus s r) → AreApart t (r, r) (a, b) → AreApart t (a, b) (r, s)
beside t a b r s some after before left rising far =
    apart_by_left t (minus b a) (cross (minus b a) (minus r a)) (a, b) (r, s) left some
    (far_from_line t r (a, b) far some after
    (omega (arith, linear, before, ring (ends a b r s) (dotted (apart b' a') (apart r' b')) (dotted (apart b' a') (apart r' a') ⊖ dotted (apart b' a') (apart b' a')) refl)))
    (omega (arith, linear))
    (omega (arith, linear, ring (ends a b r s) (crossed (apart b' a') (apart r' b')) (crossed (apart b' a') (apart r' a')) refl))
    (omega (arith, linear, rising, ring (ends a b r s) (crossed (apart b' a') (apart s' a')) (crossed (apart b' a') (apart r' a') ⊕ crossed (apart b' a') (apart s' r')) refl))
    (omega (arith, linear, rising, ring (ends a b r s) (crossed (apart b' a') (apart s' b')) (crossed (apart b' a') (apart r' a') ⊕ crossed (apart b' a') (apart s' r')) refl))

rising_left : (t : ℕ) (a b r s : Point) → pos 0 <ℤ dot (minus b a) (minus b a) → pos 0 ≤ℤ cross (minus b a) (minus r a) → pos 0 ≤ℤ cross (minus b a) (minus s r) →
    AreEndsApart t (a, b) (r, s) → AreApart t (a, b) (r, s)
rising_left t a b r s some left rising h =
    by_lt_z (dot (minus b a) (minus r a)) (pos 0)
    (λ (beyond : dot (minus b a) (minus r a) <ℤ pos 0). near_start t a b r s (record { beyond = beyond; left = left; rising = rising }) h.start_first)
    (λ (after : pos 0 ≤ℤ dot (minus b a) (minus r a)).
    by_lt_z (pos 0) (dot (minus b a) (minus r b))
    (λ (beyond : pos 0 <ℤ dot (minus b a) (minus r b)). near_end t a b r s beyond left rising h.end_first)
    (λ (before : dot (minus b a) (minus r b) ≤ℤ pos 0). beside t a b r s some after before left rising h.start_second))

-- ---- both ends of the second on one side of the first's line

turns_apart : (a b r s : Point) → cross (minus b a) (minus s r) ≡ turn a b s -ℤ turn a b r
turns_apart a b r s = ring (ends a b r s) (crossed (apart b' a') (apart s' r')) (crossed (apart b' a') (apart s' a') ⊖ crossed (apart b' a') (apart r' a')) refl

back_second : (t : ℕ) (e f : Edge) → AreApart t e (back f) → AreApart t e f
back_second t e f h = apart_swapped t f e (apart_back t f e (apart_swapped t e (back f) h))

ends_back : (t : ℕ) (e f : Edge) → AreEndsApart t e f → AreEndsApart t e (back f)
ends_back t e f h = record {
  start_first = back_second t (e.0, e.0) (back f) h.start_first;
  end_first = back_second t (e.1, e.1) (back f) h.end_first;
  start_second = h.end_second;
  end_second = h.start_second;
}

left : (t : ℕ) (a b r s : Point) → pos 0 <ℤ dot (minus b a) (minus b a) → pos 0 ≤ℤ turn a b r → pos 0 ≤ℤ turn a b s → AreEndsApart t (a, b) (r, s) → AreApart t (a, b) (r, s)
left t a b r s some first second h =
    by_lt_z (turn a b s) (turn a b r)
    (λ (less : turn a b s <ℤ turn a b r).
    back_second t (a, b) (r, s)
    (rising_left t a b s r some second (omega (arith, linear, turns_apart a b s r, less)) (ends_back t (a, b) (r, s) h)))
    (λ (less : turn a b r ≤ℤ turn a b s). rising_left t a b r s some first (omega (arith, linear, turns_apart a b r s, less)) h)

ends_mirrored : (t : ℕ) (e f : Edge) → AreEndsApart t e f → AreEndsApart t (mirror_edge e) (mirror_edge f)
ends_mirrored t e f h = record {
  start_first = apart_mirrored t (mirror e.0, mirror e.0) (mirror_edge f) h.start_first;
  end_first = apart_mirrored t (mirror e.1, mirror e.1) (mirror_edge f) h.end_first;
  start_second = apart_mirrored t (mirror f.0, mirror f.0) (mirror_edge e) h.start_second;
  end_second = apart_mirrored t (mirror f.1, mirror f.1) (mirror_edge e) h.end_second;
}

right : (t : ℕ) (a b r s : Point) → pos 0 <ℤ dot (minus b a) (minus b a) → turn a b r ≤ℤ pos 0 → turn a b s ≤ℤ pos 0 → AreEndsApart t (a, b) (r, s) → AreApart t (a, b) (r, s)
right t a b r s some first second h =
    apart_mirrored t (a, b) (r, s)
    (left t (mirror a) (mirror b) (mirror r) (mirror s)
    (omega (arith, linear, some, ring (ends a b r s) (dotted (apart (b'.1, b'.0) (a'.1, a'.0)) (apart (b'.1, b'.0) (a'.1, a'.0))) (dotted (apart b' a') (apart b' a')) refl))
    (omega (arith, linear, first, ring (ends a b r s) (crossed (apart (b'.1, b'.0) (a'.1, a'.0)) (apart (r'.1, r'.0) (a'.1, a'.0))) (neg (crossed (apart b' a') (apart r' a'))) refl))
    (omega (arith, linear, second, ring (ends a b r s) (crossed (apart (b'.1, b'.0) (a'.1, a'.0)) (apart (s'.1, s'.0) (a'.1, a'.0))) (neg (crossed (apart b' a') (apart s' a'))) refl))
    (ends_mirrored t (a, b) (r, s) h))

-- ---- together

-- an edge with one point as both ends
one_point : (a b : Point) → dot (minus b a) (minus b a) ≤ℤ pos 0 → b ≡ a
one_point a b none = λ i. (x i, y i)
  where
    x : b.0 ≡ a.0
    x = let e = square_zero (b.0 -ℤ a.0) (omega (arith, linear, none, square_nonneg (b.1 -ℤ a.1))) in omega (arith, linear, e)

    y : b.1 ≡ a.1
    y = let e = square_zero (b.1 -ℤ a.1) (omega (arith, linear, none, square_nonneg (b.0 -ℤ a.0))) in omega (arith, linear, e)

-- the first's line parts the second's ends, or the two are apart
opposite_or_apart : (t : ℕ) (e f : Edge) → AreEndsApart t e f → AreOpposite (turn e.0 e.1 f.0) (turn e.0 e.1 f.1) ⊎ AreApart t e f
opposite_or_apart t e f h =
    by_lt_z (pos 0) (dot (minus e.1 e.0) (minus e.1 e.0))
    (λ (some : pos 0 <ℤ dot (minus e.1 e.0) (minus e.1 e.0)).
    by_lt_z (turn e.0 e.1 f.0) (pos 0)
    (λ (x : turn e.0 e.1 f.0 <ℤ pos 0).
    by_lt_z (pos 0) (turn e.0 e.1 f.1) (λ (y : pos 0 <ℤ turn e.0 e.1 f.1). inl (inr (x, y)))
    (λ (y : turn e.0 e.1 f.1 ≤ℤ pos 0). inr (right t e.0 e.1 f.0 f.1 some (omega (arith, linear)) y h)))
    (λ (x : pos 0 ≤ℤ turn e.0 e.1 f.0).
    by_lt_z (turn e.0 e.1 f.1) (pos 0)
    (λ (y : turn e.0 e.1 f.1 <ℤ pos 0).
    by_lt_z (pos 0) (turn e.0 e.1 f.0) (λ (z : pos 0 <ℤ turn e.0 e.1 f.0). inl (inl (z, y)))
    (λ (z : turn e.0 e.1 f.0 ≤ℤ pos 0). inr (right t e.0 e.1 f.0 f.1 some z (omega (arith, linear)) h)))
    (λ (y : pos 0 ≤ℤ turn e.0 e.1 f.1). inr (left t e.0 e.1 f.0 f.1 some x y h))))
    (λ (none : dot (minus e.1 e.0) (minus e.1 e.0) ≤ℤ pos 0).
    inr (subst (λ (z : Point). AreApart t (e.0, z) f) (sym (one_point e.0 e.1 none)) h.start_first))

-- segments that do not cross are as far apart as their ends are from the other one
pub apart_of_ends : (t : ℕ) (e f : Edge) → (IsCrossing e f → ⊥) → AreEndsApart t e f → AreApart t e f
apart_of_ends t e f uncrossed h =
    by (opposite_or_apart t e f h)
    (opposite_or_apart t f e (record { start_first = h.start_second; end_first = h.end_second; start_second = h.start_first; end_second = h.end_first }))
  where
    by : AreOpposite (turn e.0 e.1 f.0) (turn e.0 e.1 f.1) ⊎ AreApart t e f → AreOpposite (turn f.0 f.1 e.0) (turn f.0 f.1 e.1) ⊎ AreApart t f e → AreApart t e f
    by (inr x) y = x
    by (inl x) (inr y) = apart_swapped t f e y
    by (inl x) (inl y) = absurd (uncrossed (record { second_parted = x; first_parted = y }))

-- ---- segments that cross

crossing_common : (e f : Edge) → AreOpposite (turn e.0 e.1 f.0) (turn e.0 e.1 f.1) → AreOpposite (turn f.0 f.1 e.0) (turn f.0 f.1 e.1) → HaveCommon e.0 e.1 f.0 f.1
crossing_common e f (inl x) (inl y) = absurd (let a = x.0 in let b = x.1 in let c = y.0 in let d = y.1 in omega (arith, linear, differ e.0 e.1 f.0 f.1, a, b, c, d))
crossing_common e f (inl x) (inr y) =
    let a = x.0 in let b = x.1 in let c = y.0 in let d = y.1 in
    common_falling e.0 e.1 f.0 f.1 (omega (arith, linear, a)) (omega (arith, linear, b)) (omega (arith, linear, c)) (omega (arith, linear, d)) (omega (arith, linear, a, b))
crossing_common e f (inr x) (inl y) =
    let a = x.0 in let b = x.1 in let c = y.0 in let d = y.1 in
    common_rising e.0 e.1 f.0 f.1 (omega (arith, linear, a)) (omega (arith, linear, b)) (omega (arith, linear, c)) (omega (arith, linear, d)) (omega (arith, linear, a, b))
crossing_common e f (inr x) (inr y) = absurd (let a = x.0 in let b = x.1 in let c = y.0 in let d = y.1 in omega (arith, linear, differ e.0 e.1 f.0 f.1, a, b, c, d))

pub crossing_not_apart : (e f : Edge) → IsCrossing e f → AreApart 1 e f → ⊥
crossing_not_apart e f h apart =
    let c = crossing_common e f h.second_parted h.first_parted in
    let far = apart c.grid c.point c.point c.first c.second in
    let some = product_some c.grid c.grid c.positive c.positive in
    omega (arith, no_distance c.point, far, some)
