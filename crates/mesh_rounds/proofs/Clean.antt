-- Lemmas over points and lists: segments that are clear of each other share only common ends, on every grid.
use Rattle.std.proofs.Common.{◌≡◌, ◌⊎◌, inl, inr, ⊎_elim, ℕ, ◌<◌, true, false, sym, ◌∙◌, ap, subst, arith, List, [], ◌∷◌}
use Rattle.std.specs.Prelude.{ℤ, pos, ◌*ℤ◌, ◌≤ℤ◌, ◌<ℤ◌}
use Rattle.std.proofs.lemmas.Bool.{both_ways, cases_Bool}
use Rattle.std.proofs.lemmas.Int.{ints}
use Rattle.mesh_plane.specs.Plane.{Point, Edge, turn}
use Rattle.mesh_plane.specs.Winding.{same_point, refined}
use Rattle.mesh_plane.proofs.Crossings.{turn_refined}
use Rattle.mesh_plane.proofs.Whole.{linear, factor, le_of_mul_le_mul, mul_le_mul_left}
use Rattle.mesh_lattice.specs.Clean.{IsOn, refined_edge, ShareEnds, IsClean, IsProper}
use Rattle.mesh_lattice.specs.Counted.{Counted, IsCountOf, bit, times}
use Rattle.mesh_lattice.specs.Split.{back, same_edge, same_ends, occurs, is_end, IsBetween, IsInside, at_start_of_second, at_end_of_second, at_start_of_first, at_end_of_first, at_crossing}
use Rattle.mesh_store.specs.Steps.{exactly, AllClear}
use Rattle.mesh_lattice.specs.Split.{AreClear}
use Rattle.mesh_lattice.proofs.Ends.{decides_edge, decides_end, decides_ends}
use Rattle.mesh_store.proofs.Entries.{exactly_least}
use Rattle.mesh_rounds.proofs.Sharing.{ShareNoInside, apart_swap, apart_back, inside_both}
use Rattle.mesh_lattice.proofs.Counts.{bit_least}

pub apart_of : (e f : Edge) → AreClear e f → ShareNoInside e f
apart_of e f h = record {
  first_start = λ i. h e.0 (at_start_of_first i);
  first_end = λ i. h e.1 (at_end_of_first i);
  second_start = λ i. h f.0 (at_start_of_second i);
  second_end = λ i. h f.1 (at_end_of_second i);
  crossing = λ c. h _ (at_crossing c);
}

-- ---- from a finer grid down to the points of the grid

between_coarse : (m : ℕ) (a z b : ℤ) → 0 < m → IsBetween (pos m *ℤ a) (pos m *ℤ z) (pos m *ℤ b) → IsBetween a z b
between_coarse m a z b some h =
    let k : pos 0 <ℤ pos m = omega (arith, ints) in
    let l : pos 0 ≤ℤ pos m = omega (arith, ints) in
    record {
      up = λ o.
          let r = h.up (mul_le_mul_left (pos m) a b l o) in
          (le_of_mul_le_mul (pos m) a z k r.0, le_of_mul_le_mul (pos m) z b k r.1);
      down = λ o.
          let r = h.down (mul_le_mul_left (pos m) b a l o) in
          (le_of_mul_le_mul (pos m) b z k r.0, le_of_mul_le_mul (pos m) z a k r.1);
    }

zero_coarse : (m : ℕ) (t : ℤ) → 0 < m → pos m *ℤ (pos m *ℤ t) ≡ pos 0 → t ≡ pos 0
zero_coarse m t some h = once t (once (pos m *ℤ t) h)
  where
    once : (x : ℤ) → pos m *ℤ x ≡ pos 0 → x ≡ pos 0
    once x e = ⊎_elim (λ (z : pos m ≡ pos 0). absurd (omega (arith, ints))) (λ (z : x ≡ pos 0). z) (factor (pos m) x e)

-- a point of the grid that lies on an edge of the finer one, and is no end there, lies inside the edge
inside_coarse : (m : ℕ) (e : Edge) (c : Point) → 0 < m → IsOn (refined_edge m e) (refined m c) → is_end (refined m c) (refined_edge m e) ≡ false → IsInside e c
inside_coarse m e c some on inner = record {
  on_line = zero_coarse m (turn e.0 e.1 c) some (sym (turn_refined m e.0 e.1 c) ∙ on.on_line);
  in_box = record { by_x = between_coarse m e.0.0 c.0 e.1.0 some on.in_box.by_x; by_y = between_coarse m e.0.1 c.1 e.1.1 some on.in_box.by_y };
  no_end =
      ⊎_elim
      (λ (t : is_end c e ≡ true).
      absurd
      (both_ways _ inner
      ((decides_end (refined m c) (refined_edge m e)).1
      (⊎_elim (λ (p : c ≡ e.0). inl (ap (refined m) p)) (λ (p : c ≡ e.1). inr (ap (refined m) p)) ((decides_end c e).0 t)))))
      (λ (n : is_end c e ≡ false). n)
      (cases_Bool (is_end c e));
}

-- an end of the second edge that lies on the first is an end of the first too
end_of_both : (m : ℕ) (e f : Edge) (z : Point) → 0 < m → ShareNoInside e f → IsOn (refined_edge m e) z → is_end z (refined_edge m f) ≡ true → is_end z (refined_edge m e) ≡ true
end_of_both m e f z some apart on end =
    ⊎_elim
    (λ (t : is_end z (refined_edge m e) ≡ true). t)
    (λ (n : is_end z (refined_edge m e) ≡ false).
    ⊎_elim
    (λ (p : z ≡ refined m f.0).
    absurd (apart.second_start (inside_coarse m e f.0 some (subst (IsOn (refined_edge m e)) p on) (subst (λ (v : Point). is_end v (refined_edge m e) ≡ false) p n))))
    (λ (p : z ≡ refined m f.1).
    absurd (apart.second_end (inside_coarse m e f.1 some (subst (IsOn (refined_edge m e)) p on) (subst (λ (v : Point). is_end v (refined_edge m e) ≡ false) p n))))
    ((decides_end z (refined_edge m f)).0 end))
    (cases_Bool (is_end z (refined_edge m e)))

pub share_of_apart : (m : ℕ) (e f : Edge) → 0 < m → same_point e.0 e.1 ≡ false → same_point f.0 f.1 ≡ false → ShareNoInside e f → same_ends e f ≡ false → ShareEnds m e f
share_of_apart m e f some proper also apart other = record {
  shared = λ z on_e on_f.
      ⊎_elim
      (λ (t : is_end z (refined_edge m f) ≡ true). (end_of_both m e f z some apart on_e t, t))
      (λ (n : is_end z (refined_edge m f) ≡ false).
      ⊎_elim
      (λ (t : is_end z (refined_edge m e) ≡ true). (t, end_of_both m f e z some (apart_swap e f apart) on_f t))
      (λ (k : is_end z (refined_edge m e) ≡ false). absurd (both_ways _ other (inside_both m e f z some proper also apart on_e k on_f n)))
      (cases_Bool (is_end z (refined_edge m e))))
      (cases_Bool (is_end z (refined_edge m f)));
}

-- ---- the segments of a list

-- what stands, stands one way or the other
one_way : (e : Edge) (ks : List Counted) → pos 0 <ℤ times e ks → (pos 0 <ℤ exactly e ks) ⊎ (pos 0 <ℤ exactly (back e) ks)
one_way e [] h = absurd (omega (arith, ints, h))
one_way e (k ∷ ks) h =
    ⊎_elim
    (λ (t : same_ends e k.0 ≡ true).
    ⊎_elim
    (λ (p : e ≡ k.0).
    let one = ap bit ((decides_edge e k.0).1 p) in
    inl (omega (arith, linear, one, exactly_least e ks)))
    (λ (p : e ≡ back k.0).
    let one = ap bit ((decides_edge (back e) k.0).1 (ap back p)) in
    inr (omega (arith, linear, one, exactly_least (back e) ks)))
    ((decides_ends e k.0).0 t))
    (λ (n : same_ends e k.0 ≡ false).
    let rest : pos 0 <ℤ times e ks = omega (arith, linear, ap bit n) in
    ⊎_elim
    (λ (p : pos 0 <ℤ exactly e ks). inl (omega (arith, linear, bit_least (same_edge e k.0))))
    (λ (p : pos 0 <ℤ exactly (back e) ks). inr (omega (arith, linear, bit_least (same_edge (back e) k.0))))
    (one_way e ks rest))
    (cases_Bool (same_ends e k.0))

stands : (es : List Edge) (ks : List Counted) (e : Edge) → IsCountOf es ks → occurs e es ≡ true → pos 0 <ℤ times e ks
stands es ks e h t = omega (arith, ints, h.once e, ap bit t)

all_apart : (es : List Edge) (ks : List Counted) (e f : Edge) → IsCountOf es ks → AllClear ks → occurs e es ≡ true → occurs f es ≡ true → ShareNoInside e f
all_apart es ks e f h clear s t =
    ⊎_elim
    (λ (p : pos 0 <ℤ exactly e ks).
    ⊎_elim
    (λ (q : pos 0 <ℤ exactly f ks). apart_of e f (clear e p f q))
    (λ (q : pos 0 <ℤ exactly (back f) ks). apart_swap f e (apart_back (back f) e (apart_swap e (back f) (apart_of e (back f) (clear e p (back f) q)))))
    (one_way f ks (stands es ks f h t)))
    (λ (p : pos 0 <ℤ exactly (back e) ks).
    apart_back (back e) f
    (⊎_elim
    (λ (q : pos 0 <ℤ exactly f ks). apart_of (back e) f (clear (back e) p f q))
    (λ (q : pos 0 <ℤ exactly (back f) ks).
    apart_swap f (back e) (apart_back (back f) (back e) (apart_swap (back e) (back f) (apart_of (back e) (back f) (clear (back e) p (back f) q)))))
    (one_way f ks (stands es ks f h t))))
    (one_way e ks (stands es ks e h s))

-- clear segments that stand for a list of edges: the list is clean
pub clean_of_clear : (es : List Edge) (ks : List Counted) → IsProper es → IsCountOf es ks → AllClear ks → IsClean es
clean_of_clear es ks proper h clear e f s t other m some =
    share_of_apart m e f some (proper e s) (proper f t) (all_apart es ks e f h clear s t) other
