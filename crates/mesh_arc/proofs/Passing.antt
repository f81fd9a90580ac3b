-- Lemmas over whole numbers: tests of gaps as facts, and the last gap of an arc whose next step passes the end.
use Rattle.std.proofs.Common.{◌≡◌, ◌<◌, true, refl, sym, ◌∙◌, ap, [], ◌∷◌, ⊎_elim, arith}
use Rattle.std.specs.Prelude.{ℤ, pos, ◌+ℤ◌, ◌*ℤ◌, ◌≤ℤ◌, ◌<ℤ◌, neg_ℤ, int_le, int_lt, ◌&&◌}
use Rattle.std.proofs.lemmas.Bool.{and_parts, and_from}
use Rattle.std.proofs.lemmas.Int.{ints, by_lt_z}
use Rattle.mesh_plane.specs.Plane.{Point, cross, dot, length_sq}
use Rattle.mesh_plane.proofs.Ring.{ring, var, neg, ◌⊕◌, ◌⊗◌, cross_of, dot_of}
use Rattle.mesh_plane.proofs.Comparing.{less_test, at_most_test, test_less, test_at_most}
use Rattle.mesh_plane.proofs.Identities.{lagrange}
use Rattle.mesh_plane.proofs.Sizes.{dot_self}
use Rattle.mesh_plane.proofs.Whole.{linear, add_mul, mul_assoc, mul_left_comm, mul_nonneg, mul_pos, mul_le_mul_left, le_of_mul_le_mul, nonneg_of_mul, square_nonneg, factor}
use Rattle.mesh_arc.specs.Arcs.{sense_of, ahead, is_within, is_good, is_passed}
use Rattle.mesh_arc.specs.declared.arc.ArcDirection.{ArcDirection}
use Rattle.mesh_arc.specs.declared.arc.ArcDirection.TheVariants.{Clockwise, Counterclockwise}

-- `w` lies ahead of `v` by at most the angle with the sine and cosine of the bound
pub record IsWithinBound (sense : ArcDirection) (bound v w : Point) : Type 0 where
  pub onward : pos 0 ≤ℤ ahead sense v w
  pub same_way : pos 0 <ℤ dot v w
  pub small : (ahead sense v w *ℤ bound.1) ≤ℤ (dot v w *ℤ bound.0)

pub within_from : (sense : ArcDirection) (bound v w : Point) → IsWithinBound sense bound v w → is_within sense bound v w ≡ true
within_from sense bound v w h =
    let a = ahead sense v w in
    let d = dot v w in
    and_from (int_le (pos 0) a) (int_lt (pos 0) d && int_le (a *ℤ bound.1) (d *ℤ bound.0))
    (at_most_test (pos 0) a h.onward)
    (and_from (int_lt (pos 0) d) (int_le (a *ℤ bound.1) (d *ℤ bound.0)) (less_test (pos 0) d h.same_way) (at_most_test (a *ℤ bound.1) (d *ℤ bound.0) h.small))

pub within_parts : (sense : ArcDirection) (bound v w : Point) → is_within sense bound v w ≡ true → IsWithinBound sense bound v w
within_parts sense bound v w h =
    let a = ahead sense v w in
    let d = dot v w in
    let p = and_parts (int_le (pos 0) a) (int_lt (pos 0) d && int_le (a *ℤ bound.1) (d *ℤ bound.0)) h in
    let q = and_parts (int_lt (pos 0) d) (int_le (a *ℤ bound.1) (d *ℤ bound.0)) p.1 in
    record { onward = test_at_most (pos 0) a p.0; same_way = test_less (pos 0) d q.0; small = test_at_most (a *ℤ bound.1) (d *ℤ bound.0) q.1 }

pub good_from : (sense : ArcDirection) (bound v w : Point) → IsWithinBound sense bound v w → pos 0 <ℤ ahead sense v w → is_good sense bound v w ≡ true
good_from sense bound v w h l =
    and_from (is_within sense bound v w) (int_lt (pos 0) (ahead sense v w)) (within_from sense bound v w h) (less_test (pos 0) (ahead sense v w) l)

pub good_parts : (sense : ArcDirection) (bound v w : Point) → is_good sense bound v w ≡ true → IsWithinBound sense bound v w × (pos 0 <ℤ ahead sense v w)
good_parts sense bound v w h =
    let p = and_parts (is_within sense bound v w) (int_lt (pos 0) (ahead sense v w)) h in
    (within_parts sense bound v w p.0, test_less (pos 0) (ahead sense v w) p.1)

pub good_within : (sense : ArcDirection) (bound v w : Point) → is_good sense bound v w ≡ true → is_within sense bound v w ≡ true
good_within sense bound v w h = (and_parts (is_within sense bound v w) (int_lt (pos 0) (ahead sense v w)) h).0

passed_parts : (sense : ArcDirection) (end v w : Point) → is_passed sense end v w ≡ true → (pos 0 ≤ℤ ahead sense v end) × (ahead sense w end ≤ℤ pos 0)
passed_parts sense end v w h =
    let a = ahead sense v end in
    let d = dot v end in
    let b = ahead sense w end in
    let p = and_parts (int_le (pos 0) a) (int_le (pos 0) d && int_le b (pos 0)) h in
    let q = and_parts (int_le (pos 0) d) (int_le b (pos 0)) p.1 in
    (test_at_most (pos 0) a p.0, test_at_most b (pos 0) q.1)

-- ---- the core, over plain numbers: `x` to the next step, `y` to the end, `z` from the end to the next step

end_ahead : (x y z w t n : ℤ) → pos 0 <ℤ x → pos 0 ≤ℤ y → pos 0 ≤ℤ z → pos 0 <ℤ w → pos 0 ≤ℤ n → x *ℤ t ≡ (z *ℤ n) +ℤ (y *ℤ w)
    → (y ≡ pos 0 → t ≡ pos 0 → ⊥) → pos 0 <ℤ t
end_ahead x y z w t n hx hy hz hw hn e differ =
    let p : pos 0 ≤ℤ (z *ℤ n) = mul_nonneg z n hz hn in
    let v : pos 0 ≤ℤ w = omega (arith, linear) in
    let q : pos 0 ≤ℤ (y *ℤ w) = mul_nonneg y w hy v in
    let r : pos 0 ≤ℤ (x *ℤ t) = omega (arith, linear) in
    let s : pos 0 ≤ℤ t = nonneg_of_mul x t hx r in
    by_lt_z (pos 0) t (λ l. l)
    (λ l.
    let zero_t : t ≡ pos 0 = omega (arith, linear) in
    let none : x *ℤ t ≡ pos 0 = rw zero_t (omega (arith, ints)) in
    by_lt_z (pos 0) y
    (λ m. absurd (omega (arith, linear, mul_pos y w m hw)))
    (λ m. absurd (differ (omega (arith, linear)) zero_t)))

end_small : (x y z w t n c s : ℤ) → pos 0 <ℤ x → pos 0 ≤ℤ y → pos 0 ≤ℤ z → pos 0 ≤ℤ n → pos 0 ≤ℤ s → x *ℤ t ≡ (z *ℤ n) +ℤ (y *ℤ w)
    → (x *ℤ c) ≤ℤ (w *ℤ s) → (y *ℤ c) ≤ℤ (t *ℤ s)
end_small x y z w t n c s hx hy hz hn hs e l =
    let p : (y *ℤ (x *ℤ c)) ≤ℤ (y *ℤ (w *ℤ s)) = mul_le_mul_left y (x *ℤ c) (w *ℤ s) hy l in
    let q : pos 0 ≤ℤ ((z *ℤ n) *ℤ s) = mul_nonneg (z *ℤ n) s (mul_nonneg z n hz hn) hs in
    let f : (x *ℤ t) *ℤ s ≡ ((z *ℤ n) *ℤ s) +ℤ ((y *ℤ w) *ℤ s) = ap (λ (m : ℤ). m *ℤ s) e ∙ add_mul (z *ℤ n) (y *ℤ w) s in
    let r : (x *ℤ (y *ℤ c)) ≤ℤ (x *ℤ (t *ℤ s)) = omega (arith, linear, mul_left_comm x y c, mul_assoc x t s, mul_assoc y w s) in
    le_of_mul_le_mul x (y *ℤ c) (t *ℤ s) hx r

-- [u,v] (u·t) = [t,v] |u|² + [u,t] (u·v)
turned_products : (f : ℤ) (u v t : Point) →
    (f *ℤ cross u v) *ℤ dot u t ≡ (neg_ℤ (f *ℤ cross v t) *ℤ dot u u) +ℤ ((f *ℤ cross u t) *ℤ dot u v)
turned_products f u v t =
    let g = var 0 in
    let a = var 1 in
    let b = var 2 in
    let c = var 3 in
    let d = var 4 in
    let p = var 5 in
    let q = var 6 in
    ring (f ∷ u.0 ∷ u.1 ∷ v.0 ∷ v.1 ∷ t.0 ∷ t.1 ∷ [])
    ((g ⊗ cross_of a b c d) ⊗ dot_of a b p q)
    ((neg (g ⊗ cross_of c d p q) ⊗ dot_of a b a b) ⊕ ((g ⊗ cross_of a b p q) ⊗ dot_of a b c d))
    refl

ahead_zero : (sense : ArcDirection) (v w : Point) → ahead sense v w ≡ pos 0 → cross v w ≡ pos 0
ahead_zero Counterclockwise v w e = omega (arith, ints)
ahead_zero Clockwise v w e = omega (arith, ints)

-- a vector other than 0 is across or along another other than 0
never_both : (u v t : Point) → pos 0 <ℤ dot u v → 0 < length_sq t → cross u t ≡ pos 0 → dot u t ≡ pos 0 → ⊥
never_both u v t hw ht e f =
    let s : dot t t ≡ pos (length_sq t) = dot_self t in
    let none : dot u u *ℤ dot t t ≡ pos 0 = sym (lagrange u t) ∙ (rw (e, f) refl) in
    ⊎_elim
    (λ (z : dot u u ≡ pos 0).
    let m : dot u u *ℤ dot v v ≡ pos 0 = rw z (omega (arith, ints)) in
    omega (arith, linear, lagrange u v, mul_pos (dot u v) (dot u v) hw hw, square_nonneg (cross u v)))
    (λ (z : dot t t ≡ pos 0). omega (arith, ints))
    (factor (dot u u) (dot t t) none)

-- where the next step is good and passes the end, the end is within a step
pub passing : (sense : ArcDirection) (bound u v t : Point) → is_good sense bound u v ≡ true → is_passed sense t u v ≡ true → 0 < length_sq t
    → pos 0 ≤ℤ bound.0 → is_within sense bound u t ≡ true
passing sense bound u v t good passed ht hs =
    let g = good_parts sense bound u v good in
    let p = passed_parts sense t u v passed in
    let x = ahead sense u v in
    let y = ahead sense u t in
    let z = neg_ℤ (ahead sense v t) in
    let hz : pos 0 ≤ℤ z = omega (arith, linear, p.1) in
    let hn : pos 0 ≤ℤ dot u u = omega (arith, ints, dot_self u) in
    let e : x *ℤ dot u t ≡ (z *ℤ dot u u) +ℤ (y *ℤ dot u v) = turned_products (sense_of sense) u v t in
    within_from sense bound u t (record {
      onward = p.0;
      same_way = end_ahead x y z (dot u v) (dot u t) (dot u u) g.1 p.0 hz g.0.same_way hn e (λ a b. never_both u v t g.0.same_way ht (ahead_zero sense u t a) b);
      small = end_small x y z (dot u v) (dot u t) (dot u u) bound.1 bound.0 g.1 p.0 hz hn hs e g.0.small;
    })
