-- Lemmas over points: the pieces of a path that never goes back are clear of each other.
use Rattle.std.proofs.Common.{◌≡◌, ◌⊎◌, inl, inr, ⊎_elim, ℕ, suc, ◌<◌, ◌≤◌, refl, sym, ◌∙◌, ap, subst, arith}
use Rattle.std.specs.Prelude.{ℤ, pos, negsuc, ◌*ℤ◌, ◌≤ℤ◌, ◌<ℤ◌}
use Rattle.std.proofs.lemmas.Int.{ints, by_lt_z}
use Rattle.mesh_plane.specs.Plane.{Point, Edge}
use Rattle.mesh_plane.proofs.HalfPlanes.{along_by}
use Rattle.mesh_plane.proofs.Whole.{linear, either_order, one_mul}
use Rattle.mesh_lattice.specs.Split.{AreClear, IsInside}
use Rattle.mesh_lattice.proofs.Meeting.{clear_of_tests}
use Rattle.mesh_check.specs.Heights.{GoesAlong, IsPathAlong}
use Rattle.mesh_check.proofs.LeadingApart.{clear_swapped}
use Rattle.mesh_check.proofs.Parted.{end_not_inside, inside_above, inside_below, joined_cross_not, parted_clear}
use Rattle.mesh_check.proofs.Strips.{minus}

-- a sign by which what goes from `a` towards `b` grows
record Onward (a b : ℤ) : Type 0 where
  s : ℤ
  up : (p q : ℤ) → (a ≤ℤ b → p ≤ℤ q) → (b ≤ℤ a → q ≤ℤ p) → (s *ℤ p) ≤ℤ (s *ℤ q)
  same : (p q : ℤ) → (a ≤ℤ b → p ≤ℤ q) → (b ≤ℤ a → q ≤ℤ p) → (s *ℤ q) ≤ℤ (s *ℤ p) → p ≡ q

onward : (a b : ℤ) → Onward a b
onward a b =
    ⊎_elim
    (λ (h : a ≤ℤ b). record {
      s = pos 1;
      up = λ p q rise fall. omega (arith, ints, one_mul p, one_mul q, rise h);
      same = λ p q rise fall back. omega (arith, ints, one_mul p, one_mul q, rise h, back);
    })
    (λ (h : b ≤ℤ a). record {
      s = negsuc 0;
      up = λ p q rise fall. omega (arith, ints, minus p, minus q, fall h);
      same = λ p q rise fall back. omega (arith, ints, minus p, minus q, fall h, back);
    })
    (either_order a b)

-- an edge is clear of itself
clear_of_itself : (e : Edge) → AreClear e e
clear_of_itself e =
    clear_of_tests e e (end_not_inside e e.0 (inl refl)) (end_not_inside e e.1 (inr refl)) (end_not_inside e e.0 (inl refl)) (end_not_inside e e.1 (inr refl))
    (joined_cross_not e e e.0 (inl refl) (inl refl))

module _ (e : Edge) where
  x : Onward e.0.0 e.1.0
  x = onward e.0.0 e.1.0

  y : Onward e.0.1 e.1.1
  y = onward e.0.1 e.1.1

  abbrev far : Point → ℤ
  far p = along_by x.s y.s p

  goes_up : (p q : Point) → GoesAlong e p q → far p ≤ℤ far q
  goes_up p q g = omega (arith, linear, x.up p.0 q.0 g.east g.west, y.up p.1 q.1 g.up g.down)

  goes_nowhere : (p q : Point) → GoesAlong e p q → far q ≤ℤ far p → p ≡ q
  goes_nowhere p q g back =
      let same_x : p.0 ≡ q.0 = x.same p.0 q.0 g.east g.west (omega (arith, linear, back, y.up p.1 q.1 g.up g.down)) in
      let same_y : p.1 ≡ q.1 = y.same p.1 q.1 g.up g.down (omega (arith, linear, back, x.up p.0 q.0 g.east g.west)) in
      λ i. (same_x i, same_y i)

  -- two pieces, the second of which begins where the first one ends
  joined_clear : (a b c d : Point) → GoesAlong e a b → GoesAlong e c d → b ≡ c → AreClear (a, b) (c, d)
  joined_clear a b c d first second same =
      clear_of_tests (a, b) (c, d) (end_not_inside (a, b) c (inr (sym same))) end_beyond start_before (end_not_inside (c, d) b (inl same))
      (joined_cross_not (a, b) (c, d) b (inr refl) (inl same))
    where
      level : far b ≡ far c
      level = ap far same

      end_beyond : IsInside (a, b) d → ⊥
      end_beyond h =
          let low : far d ≤ℤ far b = inside_below x.s y.s (far b) (a, b) d h (goes_up a b first) (omega (arith, linear)) in
          let none : c ≡ d = goes_nowhere c d second (omega (arith, linear, low, level)) in
          end_not_inside (a, b) d (inr (sym (same ∙ none))) h

      start_before : IsInside (c, d) a → ⊥
      start_before h =
          let high : far c ≤ℤ far a = inside_above x.s y.s (far c) (c, d) a h (omega (arith, linear)) (goes_up c d second) in
          let none : a ≡ b = goes_nowhere a b first (omega (arith, linear, high, level)) in
          end_not_inside (c, d) a (inl (none ∙ same)) h

  -- two pieces, the second of which begins where the first one ends, or after that
  ordered_clear : (a b c d : Point) → GoesAlong e a b → GoesAlong e b c → GoesAlong e c d → AreClear (a, b) (c, d)
  ordered_clear a b c d first between second =
      by_lt_z (far b) (far c)
      (λ (h : far b <ℤ far c).
      clear_swapped (c, d) (a, b)
      (parted_clear x.s y.s (far b) (c, d) (a, b) h (omega (arith, linear, h, goes_up c d second)) (goes_up a b first) (omega (arith, linear))))
      (λ (h : far c ≤ℤ far b). joined_clear a b c d first second (goes_nowhere b c between h))

before_or_after : (p q : ℕ) → (p ≡ q) ⊎ ((suc p ≤ q) ⊎ (suc q ≤ p))
before_or_after p q = grind arith

pub pieces_clear : (k : ℕ) (e : Edge) (a : ℕ → Point) (n : ℕ) → IsPathAlong k e a n → (p q : ℕ) → p < n → q < n → AreClear (a p, a (suc p)) (a q, a (suc q))
pieces_clear k e a n path p q p_low q_low =
    ⊎_elim
    (λ (h : p ≡ q). same h)
    (⊎_elim (λ (h : suc p ≤ q). in_order p q h q_low) (λ (h : suc q ≤ p). clear_swapped (a q, a (suc q)) (a p, a (suc p)) (in_order q p h p_low)))
    (before_or_after p q)
  where
    same : p ≡ q → AreClear (a p, a (suc p)) (a q, a (suc q))
    same h = subst (λ (m : ℕ). AreClear (a p, a (suc p)) (a m, a (suc m))) h (clear_of_itself (a p, a (suc p)))

    in_order : (i j : ℕ) → suc i ≤ j → j < n → AreClear (a i, a (suc i)) (a j, a (suc j))
    in_order i j h low =
        ordered_clear e (a i) (a (suc i)) (a j) (a (suc j)) (path.along i (suc i) (omega arith) (omega arith)) (path.along (suc i) j h (omega arith))
        (path.along j (suc j) (omega arith) (omega arith))
