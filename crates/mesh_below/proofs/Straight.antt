-- Lemmas over points: vectors that look the same way, and the parts of an edge that a point of it makes.
use Rattle.std.proofs.Common.{◌≡◌, true, false, ℕ, ◌<◌, ◌⊎◌, inl, inr, ⊎_elim, [], ◌∷◌, refl, sym, ◌∙◌, ap, subst, arith}
use Rattle.std.specs.Prelude.{ℤ, pos, neg_ℤ, ◌+ℤ◌, ◌-ℤ◌, ◌*ℤ◌, ◌≤ℤ◌, ◌<ℤ◌}
use Rattle.std.proofs.lemmas.Int.{ints, by_lt_z}
use Rattle.mesh_plane.specs.Plane.{Point, cross, dot, minus, turn}
use Rattle.mesh_plane.specs.Winding.{refined}
use Rattle.mesh_plane.proofs.Whole.{linear, square_nonneg, mul_pos, mul_pos_neg, mul_nonpos_nonneg, mul_nonpos, mul_neg, add_mul, nonneg_of_mul, nonpos_of_mul, pos_of_mul, neg_of_mul, both_le, factor, times_zero, square_zero}
use Rattle.mesh_plane.proofs.Identities.{lagrange}
use Rattle.mesh_plane.proofs.Ring.{ring, var, lit, ◌⊕◌, ◌⊖◌, ◌⊗◌}
use Rattle.mesh_lattice.specs.Clean.{IsOn, refined_edge}
use Rattle.mesh_lattice.specs.Split.{IsBetween, IsInside, is_end}
use Rattle.mesh_lattice.specs.Boundary.{middle, rises}
use Rattle.mesh_lattice.proofs.Ends.{decides_end}
use Rattle.mesh_lattice.proofs.SidesBack.{rises_up, rises_flat}
use Rattle.mesh_plane.proofs.Crossings.{turn_swap}
use Rattle.mesh_plane.proofs.Turning.{straight_parts}
use Rattle.mesh_plane.specs.Turning.{turns_at}
use Rattle.std.proofs.lemmas.Bool.{cases_Bool}

-- two vectors look the same way
pub record LookAlike (v w : Point) : Type 0 where
  pub flat : cross v w ≡ pos 0
  pub ahead : pos 0 <ℤ dot v w

zero_times : (a b : ℤ) → a ≡ pos 0 → a *ℤ b ≡ pos 0
zero_times a b e = ap (λ (x : ℤ). x *ℤ b) e ∙ ring (b ∷ []) (lit (pos 0) ⊗ var 0) (lit (pos 0)) refl

-- ---- coordinates

first_share : (v w : Point) → dot v v *ℤ w.0 ≡ (dot v w *ℤ v.0) -ℤ (cross v w *ℤ v.1)
first_share v w =
    ring (v.0 ∷ v.1 ∷ w.0 ∷ w.1 ∷ [])
    (((var 0 ⊗ var 0) ⊕ (var 1 ⊗ var 1)) ⊗ var 2)
    ((((var 0 ⊗ var 2) ⊕ (var 1 ⊗ var 3)) ⊗ var 0) ⊖ (((var 0 ⊗ var 3) ⊖ (var 1 ⊗ var 2)) ⊗ var 1)) refl

second_share : (v w : Point) → dot v v *ℤ w.1 ≡ (dot v w *ℤ v.1) +ℤ (cross v w *ℤ v.0)
second_share v w =
    ring (v.0 ∷ v.1 ∷ w.0 ∷ w.1 ∷ [])
    (((var 0 ⊗ var 0) ⊕ (var 1 ⊗ var 1)) ⊗ var 3)
    ((((var 0 ⊗ var 2) ⊕ (var 1 ⊗ var 3)) ⊗ var 1) ⊕ (((var 0 ⊗ var 3) ⊖ (var 1 ⊗ var 2)) ⊗ var 0)) refl

-- a vector that looks as another does has a length
has_length : (v w : Point) → LookAlike v w → pos 0 <ℤ dot v v
has_length v w l =
    by_lt_z (pos 0) (dot v v) (λ (h : pos 0 <ℤ dot v v). h)
    (λ (h : dot v v ≤ℤ pos 0).
    absurd (
    let none = mul_nonpos_nonneg (dot v v) (dot w w) h (omega (arith, linear, square_nonneg w.0, square_nonneg w.1)) in
    omega (arith, linear, none, lagrange v w, mul_pos (dot v w) (dot v w) l.ahead l.ahead, square_nonneg (cross v w))
    ))

-- numbers with one sign
pub record HaveOneSign (s r : ℤ) : Type 0 where
  pub above : pos 0 <ℤ s → pos 0 <ℤ r
  pub below : s <ℤ pos 0 → r <ℤ pos 0
  pub none : s ≡ pos 0 → r ≡ pos 0

one_sign : (n d s r : ℤ) → pos 0 <ℤ n → pos 0 <ℤ d → n *ℤ r ≡ d *ℤ s → HaveOneSign s r
one_sign n d s r some more e = record {
  above = λ (h : pos 0 <ℤ s). pos_of_mul n r (omega (arith, linear)) (omega (arith, linear, e, mul_pos d s more h));
  below = λ (h : s <ℤ pos 0). neg_of_mul n r (omega (arith, linear)) (omega (arith, linear, e, mul_pos_neg d s more h));
  none = λ (h : s ≡ pos 0).
      ⊎_elim (λ (z : n ≡ pos 0). absurd (omega (arith, linear, z))) (λ (z : r ≡ pos 0). z) (factor n r (e ∙ times_zero d s h));
}

pub first_signs : (v w : Point) → LookAlike v w → HaveOneSign v.0 w.0
first_signs v w l =
    one_sign (dot v v) (dot v w) v.0 w.0 (has_length v w l) l.ahead
    (let z = zero_times (cross v w) v.1 l.flat in omega (arith, linear, first_share v w, z))

pub second_signs : (v w : Point) → LookAlike v w → HaveOneSign v.1 w.1
second_signs v w l =
    one_sign (dot v v) (dot v w) v.1 w.1 (has_length v w l) l.ahead
    (let z = zero_times (cross v w) v.0 l.flat in omega (arith, linear, second_share v w, z))

-- the one number is 0 or below where the other is above 0, and the other way about
record LeanApart (s r : ℤ) : Type 0 where
  above : pos 0 <ℤ s → r ≤ℤ pos 0
  below : s <ℤ pos 0 → pos 0 ≤ℤ r
  none : s ≡ pos 0 → r ≡ pos 0

lean_apart : (n d s r : ℤ) → pos 0 <ℤ n → d ≤ℤ pos 0 → n *ℤ r ≡ d *ℤ s → LeanApart s r
lean_apart n d s r some less e = record {
  above = λ (h : pos 0 <ℤ s). nonpos_of_mul n r some (let z = mul_nonpos_nonneg d s less (omega (arith, linear)) in omega (arith, linear, e, z));
  below = λ (h : s <ℤ pos 0). nonneg_of_mul n r some (let z = mul_nonpos d s less (omega (arith, linear)) in omega (arith, linear, e, z));
  none = λ (h : s ≡ pos 0).
      ⊎_elim (λ (z : n ≡ pos 0). absurd (omega (arith, linear, z))) (λ (z : r ≡ pos 0). z) (factor n r (e ∙ times_zero d s h));
}

-- ---- a way straight through

-- from `a` to `b` and on to `c` in the same direction
abbrev pub RunsThrough : Point → Point → Point → Type 0
RunsThrough a b c = LookAlike (minus b a) (minus c b)

pub runs_refined : (m : ℕ) → 0 < m → (a b c : Point) → RunsThrough a b c → RunsThrough (refined m a) (refined m b) (refined m c)
runs_refined m some a b c l = record {
  flat = crossed ∙ times_zero (pos m *ℤ pos m) (cross (minus b a) (minus c b)) l.flat;
  ahead = subst (λ (z : ℤ). pos 0 <ℤ z) (sym dotted) (mul_pos (pos m *ℤ pos m) (dot (minus b a) (minus c b)) (mul_pos (pos m) (pos m) above above) l.ahead);
}
  where
    above : pos 0 <ℤ pos m
    above = omega (arith, ints)

    crossed : cross (minus (refined m b) (refined m a)) (minus (refined m c) (refined m b)) ≡ (pos m *ℤ pos m) *ℤ cross (minus b a) (minus c b)
    crossed =
        ring (pos m ∷ a.0 ∷ a.1 ∷ b.0 ∷ b.1 ∷ c.0 ∷ c.1 ∷ [])
        ((((var 0 ⊗ var 3) ⊖ (var 0 ⊗ var 1)) ⊗ ((var 0 ⊗ var 6) ⊖ (var 0 ⊗ var 4))) ⊖ (((var 0 ⊗ var 4) ⊖ (var 0 ⊗ var 2)) ⊗ ((var 0 ⊗ var 5) ⊖ (var 0 ⊗ var 3))))
        ((var 0 ⊗ var 0) ⊗ (((var 3 ⊖ var 1) ⊗ (var 6 ⊖ var 4)) ⊖ ((var 4 ⊖ var 2) ⊗ (var 5 ⊖ var 3)))) refl

    dotted : dot (minus (refined m b) (refined m a)) (minus (refined m c) (refined m b)) ≡ (pos m *ℤ pos m) *ℤ dot (minus b a) (minus c b)
    dotted =
        ring (pos m ∷ a.0 ∷ a.1 ∷ b.0 ∷ b.1 ∷ c.0 ∷ c.1 ∷ [])
        ((((var 0 ⊗ var 3) ⊖ (var 0 ⊗ var 1)) ⊗ ((var 0 ⊗ var 5) ⊖ (var 0 ⊗ var 3))) ⊕ (((var 0 ⊗ var 4) ⊖ (var 0 ⊗ var 2)) ⊗ ((var 0 ⊗ var 6) ⊖ (var 0 ⊗ var 4))))
        ((var 0 ⊗ var 0) ⊗ (((var 3 ⊖ var 1) ⊗ (var 5 ⊖ var 3)) ⊕ ((var 4 ⊖ var 2) ⊗ (var 6 ⊖ var 4)))) refl

-- one coordinate: before the middle, or after it
before_middle : (a b c z : ℤ) → HaveOneSign (b -ℤ a) (c -ℤ b) → LeanApart (b -ℤ a) (z -ℤ b) → IsBetween a z c → IsBetween a z b
before_middle a b c z h l box =
    by_lt_z (pos 0) (b -ℤ a)
    (λ (s : pos 0 <ℤ (b -ℤ a)).
    let r = h.above s in
    let t = l.above s in
    let within = box.up (omega (arith, linear)) in
    record { up = λ (k : a ≤ℤ b). (within.0, omega (arith, linear)); down = λ (k : b ≤ℤ a). absurd (omega (arith, linear)) })
    (λ (s : (b -ℤ a) ≤ℤ pos 0).
    by_lt_z (b -ℤ a) (pos 0)
    (λ (s' : (b -ℤ a) <ℤ pos 0).
    let r = h.below s' in
    let t = l.below s' in
    let within = box.down (omega (arith, linear)) in
    record { up = λ (k : a ≤ℤ b). absurd (omega (arith, linear)); down = λ (k : b ≤ℤ a). (omega (arith, linear), within.1) })
    (λ (s' : pos 0 ≤ℤ (b -ℤ a)).
    let t = l.none (both_le (b -ℤ a) (pos 0) s s') in
    record { up = λ (k : a ≤ℤ b). (omega (arith, linear), omega (arith, linear)); down = λ (k : b ≤ℤ a). (omega (arith, linear), omega (arith, linear)) }))

after_middle : (a b c z : ℤ) → HaveOneSign (b -ℤ a) (c -ℤ b) → HaveOneSign (b -ℤ a) (z -ℤ b) → IsBetween a z c → IsBetween b z c
after_middle a b c z h l box =
    by_lt_z (pos 0) (b -ℤ a)
    (λ (s : pos 0 <ℤ (b -ℤ a)).
    let r = h.above s in
    let t = l.above s in
    let within = box.up (omega (arith, linear)) in
    record { up = λ (k : b ≤ℤ c). (omega (arith, linear), within.1); down = λ (k : c ≤ℤ b). absurd (omega (arith, linear)) })
    (λ (s : (b -ℤ a) ≤ℤ pos 0).
    by_lt_z (b -ℤ a) (pos 0)
    (λ (s' : (b -ℤ a) <ℤ pos 0).
    let r = h.below s' in
    let t = l.below s' in
    let within = box.down (omega (arith, linear)) in
    record { up = λ (k : b ≤ℤ c). absurd (omega (arith, linear)); down = λ (k : c ≤ℤ b). (within.0, omega (arith, linear)) })
    (λ (s' : pos 0 ≤ℤ (b -ℤ a)).
    let t = l.none (both_le (b -ℤ a) (pos 0) s s') in
    let r = h.none (both_le (b -ℤ a) (pos 0) s s') in
    record { up = λ (k : b ≤ℤ c). (omega (arith, linear), omega (arith, linear)); down = λ (k : c ≤ℤ b). (omega (arith, linear), omega (arith, linear)) }))

-- a point of the whole way is one of its first part or of its second
pub on_parts : (a b c z : Point) → RunsThrough a b c → IsOn (a, c) z → IsOn (a, b) z ⊎ IsOn (b, c) z
on_parts a b c z l on =
    by_lt_z (pos 0) (dot v t)
    (λ (h : pos 0 <ℤ dot v t).
    let alike : LookAlike v t = record { flat = first_flat; ahead = h } in
    inr (record {
      on_line = second_line;
      in_box = record {
        by_x = after_middle a.0 b.0 c.0 z.0 (first_signs v w l) (first_signs v t alike) on.in_box.by_x;
        by_y = after_middle a.1 b.1 c.1 z.1 (second_signs v w l) (second_signs v t alike) on.in_box.by_y;
      };
    }))
    (λ (h : dot v t ≤ℤ pos 0).
    inl (record {
      on_line = first_line;
      in_box = record {
        by_x = before_middle a.0 b.0 c.0 z.0 (first_signs v w l)
            (lean_apart (dot v v) (dot v t) v.0 t.0 some h (let n = zero_times (cross v t) v.1 first_flat in omega (arith, linear, first_share v t, n))) on.in_box.by_x;
        by_y = before_middle a.1 b.1 c.1 z.1 (second_signs v w l)
            (lean_apart (dot v v) (dot v t) v.1 t.1 some h (let n = zero_times (cross v t) v.0 first_flat in omega (arith, linear, second_share v t, n))) on.in_box.by_y;
      };
    }))
  where
    v : Point
    v = minus b a

    w : Point
    w = minus c b

    t : Point
    t = minus z b

    some : pos 0 <ℤ dot v v
    some = has_length v w l

    whole_turn : turn a c z ≡ (cross v t +ℤ cross w t) -ℤ cross v w
    whole_turn =
        ring (a.0 ∷ a.1 ∷ b.0 ∷ b.1 ∷ c.0 ∷ c.1 ∷ z.0 ∷ z.1 ∷ [])
        (((var 4 ⊖ var 0) ⊗ (var 7 ⊖ var 1)) ⊖ ((var 5 ⊖ var 1) ⊗ (var 6 ⊖ var 0)))
        (((((var 2 ⊖ var 0) ⊗ (var 7 ⊖ var 3)) ⊖ ((var 3 ⊖ var 1) ⊗ (var 6 ⊖ var 2)))
        ⊕ (((var 4 ⊖ var 2) ⊗ (var 7 ⊖ var 3)) ⊖ ((var 5 ⊖ var 3) ⊗ (var 6 ⊖ var 2))))
        ⊖ (((var 2 ⊖ var 0) ⊗ (var 5 ⊖ var 3)) ⊖ ((var 3 ⊖ var 1) ⊗ (var 4 ⊖ var 2)))) refl

    shares : dot v v *ℤ cross w t ≡ (dot v w *ℤ cross v t) -ℤ (cross v w *ℤ dot v t)
    shares =
        ring (v.0 ∷ v.1 ∷ w.0 ∷ w.1 ∷ t.0 ∷ t.1 ∷ [])
        (((var 0 ⊗ var 0) ⊕ (var 1 ⊗ var 1)) ⊗ ((var 2 ⊗ var 5) ⊖ (var 3 ⊗ var 4)))
        ((((var 0 ⊗ var 2) ⊕ (var 1 ⊗ var 3)) ⊗ ((var 0 ⊗ var 5) ⊖ (var 1 ⊗ var 4)))
        ⊖ (((var 0 ⊗ var 3) ⊖ (var 1 ⊗ var 2)) ⊗ ((var 0 ⊗ var 4) ⊕ (var 1 ⊗ var 5)))) refl

    both : cross w t ≡ neg_ℤ (cross v t)
    both = omega (arith, linear, whole_turn, on.on_line, l.flat)

    product : (dot v v +ℤ dot v w) *ℤ cross v t ≡ pos 0
    product =
        let n = zero_times (cross v w) (dot v t) l.flat in
        let m : dot v v *ℤ cross w t ≡ neg_ℤ (dot v v *ℤ cross v t) = ap (λ (x : ℤ). dot v v *ℤ x) both ∙ mul_neg (dot v v) (cross v t) in
        omega (arith, linear, add_mul (dot v v) (dot v w) (cross v t), shares, n, m)

    first_flat : cross v t ≡ pos 0
    first_flat =
        ⊎_elim (λ (e : dot v v +ℤ dot v w ≡ pos 0). absurd (let d = l.ahead in omega (arith, linear, e, some, d))) (λ (e : cross v t ≡ pos 0). e)
        (factor (dot v v +ℤ dot v w) (cross v t) product)

    first_line : turn a b z ≡ pos 0
    first_line =
        ring (a.0 ∷ a.1 ∷ b.0 ∷ b.1 ∷ z.0 ∷ z.1 ∷ [])
        (((var 2 ⊖ var 0) ⊗ (var 5 ⊖ var 1)) ⊖ ((var 3 ⊖ var 1) ⊗ (var 4 ⊖ var 0)))
        (((var 2 ⊖ var 0) ⊗ (var 5 ⊖ var 3)) ⊖ ((var 3 ⊖ var 1) ⊗ (var 4 ⊖ var 2))) refl
        ∙ first_flat

    second_line : turn b c z ≡ pos 0
    second_line = omega (arith, linear, both, first_flat)

-- ---- the middle point

middle_between : (a b c : ℤ) → HaveOneSign (b -ℤ a) (c -ℤ b) → IsBetween a b c
middle_between a b c h =
    by_lt_z (pos 0) (b -ℤ a)
    (λ (s : pos 0 <ℤ (b -ℤ a)).
    let r = h.above s in
    record { up = λ (k : a ≤ℤ c). (omega (arith, linear), omega (arith, linear)); down = λ (k : c ≤ℤ a). absurd (omega (arith, linear)) })
    (λ (s : (b -ℤ a) ≤ℤ pos 0).
    by_lt_z (b -ℤ a) (pos 0)
    (λ (s' : (b -ℤ a) <ℤ pos 0).
    let r = h.below s' in
    record { up = λ (k : a ≤ℤ c). absurd (omega (arith, linear)); down = λ (k : c ≤ℤ a). (omega (arith, linear), omega (arith, linear)) })
    (λ (s' : pos 0 ≤ℤ (b -ℤ a)).
    let r = h.none (both_le (b -ℤ a) (pos 0) s s') in
    record { up = λ (k : a ≤ℤ c). (omega (arith, linear), omega (arith, linear)); down = λ (k : c ≤ℤ a). (omega (arith, linear), omega (arith, linear)) }))

whole_line : (a b c : Point) → RunsThrough a b c → turn a c b ≡ pos 0
whole_line a b c l =
    let e : turn a c b ≡ pos 0 -ℤ cross (minus b a) (minus c b) =
    ring (a.0 ∷ a.1 ∷ b.0 ∷ b.1 ∷ c.0 ∷ c.1 ∷ [])
    (((var 4 ⊖ var 0) ⊗ (var 3 ⊖ var 1)) ⊖ ((var 5 ⊖ var 1) ⊗ (var 2 ⊖ var 0)))
    (lit (pos 0) ⊖ (((var 2 ⊖ var 0) ⊗ (var 5 ⊖ var 3)) ⊖ ((var 3 ⊖ var 1) ⊗ (var 4 ⊖ var 2)))) refl in
    let f = l.flat in
    omega (arith, linear, e, f)

pub straight_on : (a b c : Point) → RunsThrough a b c → turn a b c ≡ pos 0
straight_on a b c l = omega (arith, linear, turn_swap a c b, whole_line a b c l)

-- it lies on the whole way
pub middle_on : (a b c : Point) → RunsThrough a b c → IsOn (a, c) b
middle_on a b c l = record {
  on_line = whole_line a b c l;
  in_box = record {
    by_x = middle_between a.0 b.0 c.0 (first_signs (minus b a) (minus c b) l);
    by_y = middle_between a.1 b.1 c.1 (second_signs (minus b a) (minus c b) l);
  };
}

-- the ends of the whole way differ, and those of each part
no_length : (v w : Point) → LookAlike v w → v.0 ≡ pos 0 → v.1 ≡ pos 0 → ⊥
no_length v w l x y =
    let first = zero_times v.0 w.0 x in
    let second = zero_times v.1 w.1 y in
    let ahead = l.ahead in
    omega (arith, linear, first, second, ahead)

one_turned : (s r : ℤ) → HaveOneSign s r → s +ℤ r ≡ pos 0 → s ≡ pos 0
one_turned s r h e =
    by_lt_z (pos 0) s (λ (k : pos 0 <ℤ s). absurd (let l = h.above k in omega (arith, linear, e)))
    (λ (k : s ≤ℤ pos 0).
    by_lt_z s (pos 0) (λ (k' : s <ℤ pos 0). absurd (let l = h.below k' in omega (arith, linear, e))) (λ (k' : pos 0 ≤ℤ s). both_le s (pos 0) k k'))

pub whole_apart : (a b c : Point) → RunsThrough a b c → a ≡ c → ⊥
whole_apart a b c l e =
    let x = ap (λ (p : Point). p.0) e in
    let y = ap (λ (p : Point). p.1) e in
    no_length (minus b a) (minus c b) l
    (one_turned (b.0 -ℤ a.0) (c.0 -ℤ b.0) (first_signs (minus b a) (minus c b) l) (omega (arith, linear, x)))
    (one_turned (b.1 -ℤ a.1) (c.1 -ℤ b.1) (second_signs (minus b a) (minus c b) l) (omega (arith, linear, y)))

twice : (a : ℤ) → pos 2 *ℤ a ≡ a +ℤ a
twice a = ring (a ∷ []) (lit (pos 2) ⊗ var 0) (var 0 ⊕ var 0) refl

-- the midpoint of the first part lies inside the whole way
part_between : (a b c : ℤ) → HaveOneSign (b -ℤ a) (c -ℤ b) → IsBetween (pos 2 *ℤ a) (a +ℤ b) (pos 2 *ℤ c)
part_between a b c h =
    by_lt_z (pos 0) (b -ℤ a)
    (λ (s : pos 0 <ℤ (b -ℤ a)).
    let r = h.above s in
    record { up = λ (k : (pos 2 *ℤ a) ≤ℤ (pos 2 *ℤ c)). (omega (arith, linear, twice a, twice c), omega (arith, linear, twice a, twice c)); down = λ (k : (pos 2 *ℤ c) ≤ℤ (pos 2 *ℤ a)). absurd (omega (arith, linear, twice a, twice c)) })
    (λ (s : (b -ℤ a) ≤ℤ pos 0).
    by_lt_z (b -ℤ a) (pos 0)
    (λ (s' : (b -ℤ a) <ℤ pos 0).
    let r = h.below s' in
    record { up = λ (k : (pos 2 *ℤ a) ≤ℤ (pos 2 *ℤ c)). absurd (omega (arith, linear, twice a, twice c)); down = λ (k : (pos 2 *ℤ c) ≤ℤ (pos 2 *ℤ a)). (omega (arith, linear, twice a, twice c), omega (arith, linear, twice a, twice c)) })
    (λ (s' : pos 0 ≤ℤ (b -ℤ a)).
    let r = h.none (both_le (b -ℤ a) (pos 0) s s') in
    record { up = λ (k : (pos 2 *ℤ a) ≤ℤ (pos 2 *ℤ c)). (omega (arith, linear, twice a, twice c), omega (arith, linear, twice a, twice c)); down = λ (k : (pos 2 *ℤ c) ≤ℤ (pos 2 *ℤ a)). (omega (arith, linear, twice a, twice c), omega (arith, linear, twice a, twice c)) }))

half_turned : (s r : ℤ) → HaveOneSign s r → s +ℤ (pos 2 *ℤ r) ≡ pos 0 → s ≡ pos 0
half_turned s r h e =
    by_lt_z (pos 0) s (λ (k : pos 0 <ℤ s). absurd (let l = h.above k in omega (arith, linear, e, twice r)))
    (λ (k : s ≤ℤ pos 0).
    by_lt_z s (pos 0) (λ (k' : s <ℤ pos 0). absurd (let l = h.below k' in omega (arith, linear, e, twice r))) (λ (k' : pos 0 ≤ℤ s). both_le s (pos 0) k k'))

pub part_inside : (a b c : Point) → RunsThrough a b c → IsInside (refined_edge 2 (a, c)) (middle (a, b))
part_inside a b c l = record {
  on_line = line ∙ times_zero (pos 2) (pos 0 -ℤ cross (minus b a) (minus c b)) (let f = l.flat in omega (arith, linear, f));
  in_box = record {
    by_x = part_between a.0 b.0 c.0 (first_signs (minus b a) (minus c b) l);
    by_y = part_between a.1 b.1 c.1 (second_signs (minus b a) (minus c b) l);
  };
  no_end = ⊎_elim (λ (t : is_end (middle (a, b)) (refined_edge 2 (a, c)) ≡ true). absurd (⊎_elim at_start at_end ((decides_end (middle (a, b)) (refined_edge 2 (a, c))).0 t))) (λ (f : is_end (middle (a, b)) (refined_edge 2 (a, c)) ≡ false). f)
      (cases_Bool (is_end (middle (a, b)) (refined_edge 2 (a, c))));
}
  where
    line : turn (refined 2 a) (refined 2 c) (middle (a, b)) ≡ pos 2 *ℤ (pos 0 -ℤ cross (minus b a) (minus c b))
    line =
        ring (a.0 ∷ a.1 ∷ b.0 ∷ b.1 ∷ c.0 ∷ c.1 ∷ [])
        ((((lit (pos 2) ⊗ var 4) ⊖ (lit (pos 2) ⊗ var 0)) ⊗ ((var 1 ⊕ var 3) ⊖ (lit (pos 2) ⊗ var 1)))
        ⊖ (((lit (pos 2) ⊗ var 5) ⊖ (lit (pos 2) ⊗ var 1)) ⊗ ((var 0 ⊕ var 2) ⊖ (lit (pos 2) ⊗ var 0))))
        (lit (pos 2) ⊗ (lit (pos 0) ⊖ (((var 2 ⊖ var 0) ⊗ (var 5 ⊖ var 3)) ⊖ ((var 3 ⊖ var 1) ⊗ (var 4 ⊖ var 2))))) refl

    at_start : middle (a, b) ≡ refined 2 a → ⊥
    at_start e =
        let x = ap (λ (p : Point). p.0) e in
        let y = ap (λ (p : Point). p.1) e in
        no_length (minus b a) (minus c b) l (omega (arith, linear, x, twice a.0)) (omega (arith, linear, y, twice a.1))

    at_end : middle (a, b) ≡ refined 2 c → ⊥
    at_end e =
        let x = ap (λ (p : Point). p.0) e in
        let y = ap (λ (p : Point). p.1) e in
        no_length (minus b a) (minus c b) l
        (half_turned (b.0 -ℤ a.0) (c.0 -ℤ b.0) (first_signs (minus b a) (minus c b) l) (omega (arith, linear, x, twice c.0, twice (c.0 -ℤ b.0))))
        (half_turned (b.1 -ℤ a.1) (c.1 -ℤ b.1) (second_signs (minus b a) (minus c b) l) (omega (arith, linear, y, twice c.1, twice (c.1 -ℤ b.1))))

-- the whole way rises where its first part does
pub rise_alike : (a b c : Point) → RunsThrough a b c → rises (a, c) ≡ rises (a, b)
rise_alike a b c l =
    by_lt_z a.1 b.1
    (λ (u : a.1 <ℤ b.1). (rises_up (a, c) (let h = second.above (omega (arith, linear)) in omega (arith, linear, h))).0 ∙ sym (rises_up (a, b) u).0)
    (λ (u : b.1 ≤ℤ a.1).
    by_lt_z b.1 a.1
    (λ (d : b.1 <ℤ a.1). (rises_up (c, a) (let h = second.below (omega (arith, linear)) in omega (arith, linear, h))).1 ∙ sym (rises_up (b, a) d).1)
    (λ (d : a.1 ≤ℤ b.1).
    let level : a.1 ≡ b.1 = both_le a.1 b.1 d u in
    let whole : a.1 ≡ c.1 = let h = second.none (omega (arith, linear, level)) in omega (arith, linear, h, level) in
    by_lt_z a.0 b.0
    (λ (e : a.0 <ℤ b.0). (rises_flat (a, c) whole (let h = first.above (omega (arith, linear)) in omega (arith, linear, h))).0 ∙ sym (rises_flat (a, b) level e).0)
    (λ (e : b.0 ≤ℤ a.0).
    by_lt_z b.0 a.0
    (λ (w : b.0 <ℤ a.0). (rises_flat (c, a) (sym whole) (let h = first.below (omega (arith, linear)) in omega (arith, linear, h))).1 ∙ sym (rises_flat (b, a) (sym level) w).1)
    (λ (w : a.0 ≤ℤ b.0). absurd (no_length (minus b a) (minus c b) l (omega (arith, linear, both_le a.0 b.0 w e)) (omega (arith, linear, level)))))))
  where
    first : HaveOneSign (b.0 -ℤ a.0) (c.0 -ℤ b.0)
    first = first_signs (minus b a) (minus c b) l

    second : HaveOneSign (b.1 -ℤ a.1) (c.1 -ℤ b.1)
    second = second_signs (minus b a) (minus c b) l

-- ---- vectors that look alike

-- from one point to another
pub apart_alike : (p x : Point) → (p ≡ x → ⊥) → LookAlike (minus x p) (minus x p)
apart_alike p x differ = record {
  flat = ring (v.0 ∷ v.1 ∷ []) ((var 0 ⊗ var 1) ⊖ (var 1 ⊗ var 0)) (lit (pos 0)) refl;
  ahead =
      by_lt_z (pos 0) (v.0 *ℤ v.0) (λ (h : pos 0 <ℤ (v.0 *ℤ v.0)). omega (arith, linear, square_nonneg v.1))
      (λ (h : (v.0 *ℤ v.0) ≤ℤ pos 0).
      by_lt_z (pos 0) (v.1 *ℤ v.1) (λ (k : pos 0 <ℤ (v.1 *ℤ v.1)). omega (arith, linear, square_nonneg v.0))
      (λ (k : (v.1 *ℤ v.1) ≤ℤ pos 0).
      absurd (
      let a = square_zero v.0 h in
      let b = square_zero v.1 k in
      differ (λ i. (same_number x.0 p.0 a i, same_number x.1 p.1 b i))
      )));
}
  where
    v : Point
    v = minus x p

    same_number : (a b : ℤ) → a -ℤ b ≡ pos 0 → b ≡ a
    same_number a b e = omega (arith, linear, e)

-- where the way runs straight through a point
pub straight_alike : (p x n : Point) → turns_at p x n ≡ false → (p ≡ x → ⊥) → (x ≡ n → ⊥) → LookAlike (minus x p) (minus n x)
straight_alike p x n h differ further = record { flat = flat; ahead = ahead }
  where
    v : Point
    v = minus x p

    w : Point
    w = minus n x

    parts : (cross v (minus x n) ≡ pos 0) × (dot v (minus x n) ≤ℤ pos 0)
    parts = straight_parts p x n h

    crossed : cross v w ≡ pos 0 -ℤ cross v (minus x n)
    crossed =
        ring (p.0 ∷ p.1 ∷ x.0 ∷ x.1 ∷ n.0 ∷ n.1 ∷ [])
        (((var 2 ⊖ var 0) ⊗ (var 5 ⊖ var 3)) ⊖ ((var 3 ⊖ var 1) ⊗ (var 4 ⊖ var 2)))
        (lit (pos 0) ⊖ (((var 2 ⊖ var 0) ⊗ (var 3 ⊖ var 5)) ⊖ ((var 3 ⊖ var 1) ⊗ (var 2 ⊖ var 4)))) refl

    dotted : dot v w ≡ pos 0 -ℤ dot v (minus x n)
    dotted =
        ring (p.0 ∷ p.1 ∷ x.0 ∷ x.1 ∷ n.0 ∷ n.1 ∷ [])
        (((var 2 ⊖ var 0) ⊗ (var 4 ⊖ var 2)) ⊕ ((var 3 ⊖ var 1) ⊗ (var 5 ⊖ var 3)))
        (lit (pos 0) ⊖ (((var 2 ⊖ var 0) ⊗ (var 2 ⊖ var 4)) ⊕ ((var 3 ⊖ var 1) ⊗ (var 3 ⊖ var 5)))) refl

    flat : cross v w ≡ pos 0
    flat = let e = parts.0 in omega (arith, linear, crossed, e)

    sizes : pos 0 <ℤ (dot v v *ℤ dot w w)
    sizes = mul_pos (dot v v) (dot w w) (apart_alike p x differ).ahead (apart_alike x n further).ahead

    ahead : pos 0 <ℤ dot v w
    ahead =
        by_lt_z (pos 0) (dot v w) (λ (k : pos 0 <ℤ dot v w). k)
        (λ (k : dot v w ≤ℤ pos 0).
        absurd (
        let e = parts.1 in
        let none : dot v w ≡ pos 0 = omega (arith, linear, dotted, e, k) in
        let first = times_zero (dot v w) (dot v w) none in
        let second = times_zero (cross v w) (cross v w) flat in
        omega (arith, linear, lagrange v w, first, second, sizes)
        ))

-- one after another
pub alike_through : (v u w : Point) → LookAlike v u → LookAlike u w → LookAlike v w
alike_through v u w l k = record {
  flat =
      ⊎_elim (λ (e : dot u u ≡ pos 0). absurd (omega (arith, linear, e, some))) (λ (e : cross v w ≡ pos 0). e)
      (factor (dot u u) (cross v w)
      (let first = times_zero (dot v u) (cross u w) k.flat in
      let second = zero_times (cross v u) (dot u w) l.flat in
      omega (arith, linear, crossed, first, second)));
  ahead =
      pos_of_mul (dot u u) (dot v w) (omega (arith, linear, some))
      (let first = mul_pos (dot v u) (dot u w) l.ahead k.ahead in
      let second = zero_times (cross v u) (cross u w) l.flat in
      omega (arith, linear, dotted, first, second));
}
  where
    some : pos 0 <ℤ dot u u
    some = has_length u w k

    crossed : dot u u *ℤ cross v w ≡ (dot v u *ℤ cross u w) +ℤ (cross v u *ℤ dot u w)
    crossed =
        ring (v.0 ∷ v.1 ∷ u.0 ∷ u.1 ∷ w.0 ∷ w.1 ∷ [])
        (((var 2 ⊗ var 2) ⊕ (var 3 ⊗ var 3)) ⊗ ((var 0 ⊗ var 5) ⊖ (var 1 ⊗ var 4)))
        ((((var 0 ⊗ var 2) ⊕ (var 1 ⊗ var 3)) ⊗ ((var 2 ⊗ var 5) ⊖ (var 3 ⊗ var 4))) ⊕ (((var 0 ⊗ var 3) ⊖ (var 1 ⊗ var 2)) ⊗ ((var 2 ⊗ var 4) ⊕ (var 3 ⊗ var 5)))) refl

    dotted : dot u u *ℤ dot v w ≡ (dot v u *ℤ dot u w) -ℤ (cross v u *ℤ cross u w)
    dotted =
        ring (v.0 ∷ v.1 ∷ u.0 ∷ u.1 ∷ w.0 ∷ w.1 ∷ [])
        (((var 2 ⊗ var 2) ⊕ (var 3 ⊗ var 3)) ⊗ ((var 0 ⊗ var 4) ⊕ (var 1 ⊗ var 5)))
        ((((var 0 ⊗ var 2) ⊕ (var 1 ⊗ var 3)) ⊗ ((var 2 ⊗ var 4) ⊕ (var 3 ⊗ var 5))) ⊖ (((var 0 ⊗ var 3) ⊖ (var 1 ⊗ var 2)) ⊗ ((var 2 ⊗ var 5) ⊖ (var 3 ⊗ var 4)))) refl

-- the whole way and its second part
pub whole_alike : (a b c : Point) → RunsThrough a b c → LookAlike (minus c a) (minus c b)
whole_alike a b c l = record { flat = crossed ∙ l.flat; ahead = let h = l.ahead in omega (arith, linear, dotted, h, square_nonneg (c.0 -ℤ b.0), square_nonneg (c.1 -ℤ b.1)) }
  where
    crossed : cross (minus c a) (minus c b) ≡ cross (minus b a) (minus c b)
    crossed =
        ring (a.0 ∷ a.1 ∷ b.0 ∷ b.1 ∷ c.0 ∷ c.1 ∷ [])
        (((var 4 ⊖ var 0) ⊗ (var 5 ⊖ var 3)) ⊖ ((var 5 ⊖ var 1) ⊗ (var 4 ⊖ var 2)))
        (((var 2 ⊖ var 0) ⊗ (var 5 ⊖ var 3)) ⊖ ((var 3 ⊖ var 1) ⊗ (var 4 ⊖ var 2))) refl

    dotted : dot (minus c a) (minus c b) ≡ dot (minus b a) (minus c b) +ℤ (((c.0 -ℤ b.0) *ℤ (c.0 -ℤ b.0)) +ℤ ((c.1 -ℤ b.1) *ℤ (c.1 -ℤ b.1)))
    dotted =
        ring (a.0 ∷ a.1 ∷ b.0 ∷ b.1 ∷ c.0 ∷ c.1 ∷ [])
        (((var 4 ⊖ var 0) ⊗ (var 4 ⊖ var 2)) ⊕ ((var 5 ⊖ var 1) ⊗ (var 5 ⊖ var 3)))
        ((((var 2 ⊖ var 0) ⊗ (var 4 ⊖ var 2)) ⊕ ((var 3 ⊖ var 1) ⊗ (var 5 ⊖ var 3))) ⊕ (((var 4 ⊖ var 2) ⊗ (var 4 ⊖ var 2)) ⊕ ((var 5 ⊖ var 3) ⊗ (var 5 ⊖ var 3)))) refl
