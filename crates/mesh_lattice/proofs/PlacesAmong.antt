-- Lemmas over whole numbers and lists: places among marks.
use Rattle.std.proofs.Common.{◌≡◌, ℕ, ◌+◌, ◌-◌, ◌<◌, ◌≤◌, ◌⊎◌, inl, inr, ⊎_elim, Bool, true, false, cond, List, [], ◌∷◌, ◌++◌, length, get_or, zero, suc, refl, sym, ◌∙◌, ap, subst, arith, length-append}
use Rattle.std.specs.Prelude.{ℤ, ◌≤ℤ◌, ◌<ℤ◌, int_le, Vec}
use Rattle.std.specs.List.Sorted.{IsPartitionedBy}
use Rattle.std.specs.declared.alloc.Global.{Global}
use Rattle.std.proofs.Math.ListN.{get_or-append}
use Rattle.std.proofs.Math.Seq.{get_or-append_seam}
use Rattle.std.proofs.lemmas.Bool.{both_ways}
use Rattle.std.proofs.lemmas.Int.{ints}
use Rattle.mesh_plane.proofs.Comparing.{at_most_test, test_at_most, test_above}
use Rattle.mesh_lattice.specs.declared.places.Mark.{Mark}
use Rattle.mesh_lattice.specs.Marks.{place, AreRising, IsPutTo}
use Rattle.mesh_lattice.proofs.Arithmetic.{below_or_last}

rise : (a b : Bool) (m x y : ℤ) (p q : ℕ) → x ≤ℤ y → int_le m x ≡ a → int_le m y ≡ b → p ≤ q → cond a 1 0 + p ≤ cond b 1 0 + q
rise true true m x y p q h u v l = omega arith
rise true false m x y p q h u v l = absurd (both_ways (int_le m y) v (at_most_test m y (omega (arith, ints, test_at_most m x u))))
rise false true m x y p q h u v l = omega arith
rise false false m x y p q h u v l = omega arith

-- a greater number has no lesser place
pub place_rises : (ms : List Mark) (x y : ℤ) → x ≤ℤ y → place ms x ≤ place ms y
place_rises [] x y h = omega arith
place_rises (m ∷ ms) x y h = rise (int_le m.at x) (int_le m.at y) m.at x y (place ms x) (place ms y) h refl refl (place_rises ms x y h)

-- a number of lesser place is less
pub lesser_place : (ms : List Mark) (x y : ℤ) → place ms x < place ms y → x <ℤ y
lesser_place ms x y h = by (int_le y x) refl
  where
    by : (b : Bool) → int_le y x ≡ b → x <ℤ y
    by true p = absurd (omega (arith, place_rises ms y x (test_at_most y x p)))
    by false p = test_above y x p

most : (b : Bool) (p l : ℕ) → p ≤ l → cond b 1 0 + p ≤ suc l
most true p l h = omega arith
most false p l h = omega arith

-- no place is past the last mark
pub place_most : (ms : List Mark) (x : ℤ) → place ms x ≤ length ms
place_most [] x = omega arith
place_most (m ∷ ms) x = most (int_le m.at x) (place ms x) (length ms) (place_most ms x)

-- the place is where what is not above the number ends
pub place_is : (ms : List Mark) (x : ℤ) (n : ℕ) → n ≤ length ms
    → ((k : ℕ) (d : Mark) → k < n → int_le (get_or ms k d).at x ≡ true) → ((k : ℕ) (d : Mark) → n ≤ k → k < length ms → int_le (get_or ms k d).at x ≡ false)
    → n ≡ place ms x
place_is [] x n h below above = omega arith
place_is (m ∷ ms) x zero h below above =
    let rest = place_is ms x zero (omega arith) (λ k d l. absurd (omega arith)) (λ k d l g. above (suc k) d (omega arith) (omega arith)) in
    rw (above 0 m (omega arith) (omega arith)) (omega arith)
place_is (m ∷ ms) x (suc n) h below above =
    let rest = place_is ms x n (omega arith) (λ k d l. below (suc k) d (omega arith)) (λ k d l g. above (suc k) d (omega arith) (omega arith)) in
    rw (below 0 m (omega arith)) (omega arith)

-- rising marks are parted at a number: those that are not above it come first
pub parted_at : (ms : List Mark) (x : ℤ) → AreRising ms → IsPartitionedBy (λ (m : Mark). int_le m.at x) ms
parted_at ms x r i j d le low h = at_most_test (get_or ms i d).at x (omega (arith, ints, r.rising i j d le low, test_at_most (get_or ms j d).at x h))

-- ---- one more mark

-- one more mark that is not below the last
pub rising_more : (ms : List Mark) (m : Mark) → AreRising ms → ((d : Mark) → 0 < length ms → (get_or ms (length ms - 1) d).at ≤ℤ m.at) → AreRising (ms ++ m ∷ [])
rising_more ms m r last = record {
  rising = λ i j d h l.
      let len : j ≤ length ms = omega (arith, length-append ms (m ∷ [])) in
      ⊎_elim
      (λ (jl : j < length ms).
      subst (λ (z : ℤ). z ≤ℤ (get_or (ms ++ m ∷ []) j d).at) (ap (λ (n : Mark). n.at) (sym (get_or-append ms (m ∷ []) d i (omega arith))))
      (subst (λ (z : ℤ). (get_or ms i d).at ≤ℤ z) (ap (λ (n : Mark). n.at) (sym (get_or-append ms (m ∷ []) d j jl))) (r.rising i j d h jl)))
      (λ (jl : j ≡ length ms).
      let own : (get_or (ms ++ m ∷ []) j d).at ≡ m.at = ap (λ (n : Mark). n.at) (ap (λ (k : ℕ). get_or (ms ++ m ∷ []) k d) jl ∙ get_or-append_seam ms m [] d) in
      ⊎_elim
      (λ (il : i < length ms).
      let first : (get_or (ms ++ m ∷ []) i d).at ≡ (get_or ms i d).at = ap (λ (n : Mark). n.at) (get_or-append ms (m ∷ []) d i il) in
      omega (arith, ints, own, first, r.rising i (length ms - 1) d (omega arith) (omega arith), last d (omega arith)))
      (λ (il : i ≡ length ms).
      let first : (get_or (ms ++ m ∷ []) i d).at ≡ m.at = ap (λ (n : Mark). n.at) (ap (λ (k : ℕ). get_or (ms ++ m ∷ []) k d) il ∙ get_or-append_seam ms m [] d) in
      omega (arith, ints, own, first))
      (below_or_last i (length ms) (omega arith)))
      (below_or_last j (length ms) len);
}

-- ---- lists by number

is_or_not : (a b : ℕ) → (a ≡ b) ⊎ (a ≡ b → ⊥)
is_or_not a b = grind arith

-- the element was put to none yet
pub put_none : {A : Type 0} (lists : List (Vec A Global)) (first : ℕ) (x : A) → IsPutTo lists lists first first x
put_none lists first x = record { len = refl; inside = λ i d h k l. absurd (omega arith); outside = λ i d h. refl }

-- nothing more was put
pub put_same : {A : Type 0} (old mid new : List (Vec A Global)) (first end : ℕ) (x : A) → IsPutTo old mid first end x → length new ≡ length mid
    → ((d : Vec A Global) → (get_or new end d).items ≡ (get_or mid end d).items)
    → ((k : ℕ) (d : Vec A Global) → (k ≡ end → ⊥) → get_or new k d ≡ get_or mid k d) → IsPutTo old new first end x
put_same {A = A} old mid new first end x p len at others = record {
  len = len ∙ p.len;
  inside = λ i d h k l. ap (λ (v : Vec A Global). v.items) (others i d (λ e. omega arith)) ∙ p.inside i d h k l;
  outside = λ i d h. same i d ∙ p.outside i d h;
}
  where
    same : (i : ℕ) (d : Vec A Global) → (get_or new i d).items ≡ (get_or mid i d).items
    same i d =
        ⊎_elim (λ (e : i ≡ end). subst (λ (k : ℕ). (get_or new k d).items ≡ (get_or mid k d).items) (sym e) (at d))
        (λ (n : i ≡ end → ⊥). ap (λ (v : Vec A Global). v.items) (others i d n)) (is_or_not i end)

-- the element was put to one list more
pub put_more : {A : Type 0} (old mid new : List (Vec A Global)) (first end : ℕ) (x : A) → IsPutTo old mid first end x → first ≤ end → length new ≡ length mid
    → ((d : Vec A Global) → (get_or new end d).items ≡ (get_or mid end d).items ++ x ∷ [])
    → ((k : ℕ) (d : Vec A Global) → (k ≡ end → ⊥) → get_or new k d ≡ get_or mid k d) → IsPutTo old new first (end + 1) x
put_more {A = A} old mid new first end x p order len at others = record {
  len = len ∙ p.len;
  inside = λ i d h k l.
      ⊎_elim
      (λ (e : i ≡ end).
      subst (λ (n : ℕ). (get_or new n d).items ≡ (get_or old n d).items ++ x ∷ []) (sym e)
      (at d ∙ ap (λ (xs : List A). xs ++ x ∷ []) (p.outside end d (inr (omega arith)))))
      (λ (n : i ≡ end → ⊥). other i d n ∙ p.inside i d h (below i end k n) l) (is_or_not i end);
  outside = λ i d h. other i d (away i h) ∙ p.outside i d (away_too i h);
}
  where
    other : (i : ℕ) (d : Vec A Global) → (i ≡ end → ⊥) → (get_or new i d).items ≡ (get_or mid i d).items
    other i d n = ap (λ (v : Vec A Global). v.items) (others i d n)

    below : (i e : ℕ) → i < e + 1 → (i ≡ e → ⊥) → i < e
    below i e h n = grind arith

    away : (i : ℕ) → (i < first) ⊎ (end + 1 ≤ i) → i ≡ end → ⊥
    away i (inl h) e = omega arith
    away i (inr h) e = omega arith

    away_too : (i : ℕ) → (i < first) ⊎ (end + 1 ≤ i) → (i < first) ⊎ (end ≤ i)
    away_too i (inl h) = inl h
    away_too i (inr h) = inr (omega arith)
