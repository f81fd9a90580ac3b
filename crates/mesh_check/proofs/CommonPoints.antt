-- Lemmas over points: edges that have no point in common, on no grid however fine, are clear of each other.
use Rattle.std.proofs.Common.{◌≡◌, inl, inr, ℕ, ◌<◌, [], ◌∷◌, refl, sym, ◌∙◌, subst, arith}
use Rattle.std.specs.Prelude.{ℤ, pos, ◌+ℤ◌, ◌-ℤ◌, ◌*ℤ◌, ◌≤ℤ◌, ◌<ℤ◌, neg_ℤ, unsigned_abs}
use Rattle.std.proofs.lemmas.Int.{ints}
use Rattle.mesh_plane.specs.Plane.{Point, Edge, turn}
use Rattle.mesh_plane.specs.Winding.{refined}
use Rattle.mesh_plane.proofs.PointExprs.{point_var, coordinates, turned}
use Rattle.mesh_plane.proofs.Ring.{ring, var, neg, ◌⊕◌, ◌⊖◌, ◌⊗◌}
use Rattle.mesh_plane.proofs.Whole.{linear, one_mul}
use Rattle.mesh_lattice.specs.Clean.{refined_edge, IsOn}
use Rattle.mesh_lattice.specs.Split.{AreClear, AreOpposite, IsInside}
use Rattle.mesh_lattice.proofs.Boxes.{between_end, between_start, turn_end, turn_start}
use Rattle.mesh_lattice.proofs.Means.{on_of_mean}
use Rattle.mesh_lattice.proofs.Meeting.{clear_of_tests}
use Rattle.mesh_check.proofs.Parted.{turns_differ}

-- two edges have no point in common
abbrev pub AreDisjoint : Edge → Edge → Type 0
AreDisjoint e f = (m : ℕ) → 0 < m → (z : Point) → IsOn (refined_edge m e) z → IsOn (refined_edge m f) z → ⊥

-- ---- ends

as_refined : (p : Point) → refined 1 p ≡ p
as_refined p = λ i. (one_mul p.0 i, one_mul p.1 i)

on_given : (e : Edge) (z : Point) → IsOn e z → IsOn (refined_edge 1 e) z
on_given e z h = subst (λ (d : Edge). IsOn d z) (λ i. (sym (as_refined e.0) i, sym (as_refined e.1) i)) h

on_inside : (e : Edge) (z : Point) → IsInside e z → IsOn e z
on_inside e z h = record { on_line = h.on_line; in_box = h.in_box }

on_start : (e : Edge) → IsOn e e.0
on_start e = record { on_line = turn_start e.0 e.1; in_box = record { by_x = between_start e.0.0 e.1.0; by_y = between_start e.0.1 e.1.1 } }

on_end : (e : Edge) → IsOn e e.1
on_end e = record { on_line = turn_end e.0 e.1; in_box = record { by_x = between_end e.0.0 e.1.0; by_y = between_end e.0.1 e.1.1 } }

-- ---- crossings

-- where two edges cross, both coordinates times how much the turns of an edge's ends differ
crossing_x : (a b p r : Point) → (b.0 *ℤ turn p r a) -ℤ (a.0 *ℤ turn p r b) ≡ (p.0 *ℤ turn a b r) -ℤ (r.0 *ℤ turn a b p)
crossing_x a b p r =
    let e = turned (point_var 2) (point_var 3) in
    let f = turned (point_var 0) (point_var 1) in
    ring (coordinates (a ∷ b ∷ p ∷ r ∷ []) [])
    ((var 2 ⊗ e (point_var 0)) ⊖ (var 0 ⊗ e (point_var 1)))
    ((var 4 ⊗ f (point_var 3)) ⊖ (var 6 ⊗ f (point_var 2)))
    refl

crossing_y : (a b p r : Point) → (b.1 *ℤ turn p r a) -ℤ (a.1 *ℤ turn p r b) ≡ (p.1 *ℤ turn a b r) -ℤ (r.1 *ℤ turn a b p)
crossing_y a b p r =
    let e = turned (point_var 2) (point_var 3) in
    let f = turned (point_var 0) (point_var 1) in
    ring (coordinates (a ∷ b ∷ p ∷ r ∷ []) [])
    ((var 3 ⊗ e (point_var 0)) ⊖ (var 1 ⊗ e (point_var 1)))
    ((var 5 ⊗ f (point_var 3)) ⊖ (var 7 ⊗ f (point_var 2)))
    refl

scaled : (s t m a b z : ℤ) → m ≡ s +ℤ t → z ≡ (b *ℤ t) +ℤ (a *ℤ s) → (s +ℤ t) *ℤ z ≡ (s *ℤ (m *ℤ a)) +ℤ (t *ℤ (m *ℤ b))
scaled s t m a b z size at =
    (λ i. (s +ℤ t) *ℤ at i)
    ∙ (ring (s ∷ t ∷ a ∷ b ∷ [])
    ((var 0 ⊕ var 1) ⊗ ((var 3 ⊗ var 1) ⊕ (var 2 ⊗ var 0)))
    ((var 0 ⊗ ((var 0 ⊕ var 1) ⊗ var 2)) ⊕ (var 1 ⊗ ((var 0 ⊕ var 1) ⊗ var 3)))
    refl
    ∙ (λ i. (s *ℤ (sym size i *ℤ a)) +ℤ (t *ℤ (sym size i *ℤ b))))

-- the mean of an edge's ends by weights is a point of it on the grid that is finer by the sum of the weights
on_weighed : (m : ℕ) (s t : ℤ) (e : Edge) (z : Point) → pos m ≡ s +ℤ t → pos 0 ≤ℤ s → pos 0 ≤ℤ t → pos 0 <ℤ (s +ℤ t)
    → z.0 ≡ (e.1.0 *ℤ t) +ℤ (e.0.0 *ℤ s) → z.1 ≡ (e.1.1 *ℤ t) +ℤ (e.0.1 *ℤ s) → IsOn (refined_edge m e) z
on_weighed m s t e z size first second some x y = on_of_mean (refined m e.0) (refined m e.1) z (record {
  first = s;
  second = t;
  first_least = first;
  second_least = second;
  some = some;
  by_x = scaled s t (pos m) e.0.0 e.1.0 z.0 size x;
  by_y = scaled s t (pos m) e.0.1 e.1.1 z.1 size y;
})

minus_times : (a s : ℤ) → a *ℤ neg_ℤ s ≡ neg_ℤ (a *ℤ s)
minus_times a s = ring (a ∷ s ∷ []) (var 0 ⊗ neg (var 1)) (neg (var 0 ⊗ var 1)) refl

-- the ends of `e` lie at `n` and `o` beside `f`, those of `f` at `s` and `t` beside `e`
module _ (e f : Edge) (disjoint : AreDisjoint e f) where
  abbrev n : ℤ
  n = turn f.0 f.1 e.0

  abbrev o : ℤ
  o = turn f.0 f.1 e.1

  abbrev s : ℤ
  s = turn e.0 e.1 f.0

  abbrev t : ℤ
  t = turn e.0 e.1 f.1

  differ : n -ℤ o ≡ t -ℤ s
  differ = turns_differ e.0 e.1 f.0 f.1

  falls : o <ℤ pos 0 → pos 0 <ℤ n → s <ℤ pos 0 → pos 0 <ℤ t → ⊥
  falls ho hn hs ht =
      disjoint m (omega (arith, ints, size, ho, hn)) z
      (on_weighed m (neg_ℤ o) n e z (omega (arith, linear, size)) (omega (arith, linear, ho)) (omega (arith, linear, hn)) (omega (arith, linear, ho, hn))
      (omega (arith, linear, minus_times e.0.0 o))
      (omega (arith, linear, minus_times e.0.1 o)))
      (on_weighed m t (neg_ℤ s) f z (omega (arith, linear, size, differ)) (omega (arith, linear, ht)) (omega (arith, linear, hs)) (omega (arith, linear, ht, hs))
      (omega (arith, linear, minus_times f.1.0 s, crossing_x e.0 e.1 f.0 f.1))
      (omega (arith, linear, minus_times f.1.1 s, crossing_y e.0 e.1 f.0 f.1)))
    where
      m : ℕ
      m = unsigned_abs (n -ℤ o)

      size : pos m ≡ n -ℤ o
      size = omega (arith, ints, ho, hn)

      z : Point
      z = ((e.1.0 *ℤ n) -ℤ (e.0.0 *ℤ o), (e.1.1 *ℤ n) -ℤ (e.0.1 *ℤ o))

  rises : n <ℤ pos 0 → pos 0 <ℤ o → pos 0 <ℤ s → t <ℤ pos 0 → ⊥
  rises hn ho hs ht =
      disjoint m (omega (arith, ints, size, ho, hn)) z
      (on_weighed m o (neg_ℤ n) e z (omega (arith, linear, size)) (omega (arith, linear, ho)) (omega (arith, linear, hn)) (omega (arith, linear, ho, hn))
      (omega (arith, linear, minus_times e.1.0 n))
      (omega (arith, linear, minus_times e.1.1 n)))
      (on_weighed m (neg_ℤ t) s f z (omega (arith, linear, size, differ)) (omega (arith, linear, ht)) (omega (arith, linear, hs)) (omega (arith, linear, ht, hs))
      (omega (arith, linear, minus_times f.0.0 t, crossing_x e.0 e.1 f.0 f.1))
      (omega (arith, linear, minus_times f.0.1 t, crossing_y e.0 e.1 f.0 f.1)))
    where
      m : ℕ
      m = unsigned_abs (o -ℤ n)

      size : pos m ≡ o -ℤ n
      size = omega (arith, ints, ho, hn)

      z : Point
      z = ((e.0.0 *ℤ o) -ℤ (e.1.0 *ℤ n), (e.0.1 *ℤ o) -ℤ (e.1.1 *ℤ n))

  no_crossing : AreOpposite s t → AreOpposite n o → ⊥
  no_crossing (inl b) (inl a) = omega (arith, linear, differ, a.0, a.1, b.0, b.1)
  no_crossing (inl b) (inr a) = rises a.0 a.1 b.0 b.1
  no_crossing (inr b) (inl a) = falls a.1 a.0 b.0 b.1
  no_crossing (inr b) (inr a) = omega (arith, linear, differ, a.0, a.1, b.0, b.1)

  none_at : (z : Point) → IsOn e z → IsOn f z → ⊥
  none_at z first second = disjoint 1 (omega arith) z (on_given e z first) (on_given f z second)

  pub disjoint_clear : AreClear e f
  disjoint_clear =
      clear_of_tests e f
      (λ h. none_at f.0 (on_inside e f.0 h) (on_start f))
      (λ h. none_at f.1 (on_inside e f.1 h) (on_end f))
      (λ h. none_at e.0 (on_start e) (on_inside f e.0 h))
      (λ h. none_at e.1 (on_end e) (on_inside f e.1 h))
      (λ h. no_crossing h.second_parted h.first_parted)
