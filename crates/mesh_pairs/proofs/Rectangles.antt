-- Lemmas over rectangles: the tests of the code.
use Rattle.std.proofs.Common.{◌≡◌, ℕ, ◌+◌, ◌*◌, ◌%◌, ◌<◌, ◌^◌, ◌⊎◌, inl, inr, Bool, true, false, ◌||◌, refl, sym, ◌∙◌, ap, subst, arith}
use Rattle.std.specs.Prelude.{ℤ, ◌≤ℤ◌, ◌↔◌, bit_or}
use Rattle.std.specs.Int.{bit_at, int_min, int_max}
use Rattle.std.proofs.lemmas.Int.{ints, clamps}
use Rattle.std.proofs.lemmas.Nat.{or_lt, one_shl, pow_below}
use Rattle.std.proofs.lemmas.Nat.Bits.{bit_at_or, bit_at-zero, bit_at_set_same, bit_at_set_other, bit_at_above}
use Rattle.std.proofs.lemmas.Bool.{false≢true}
use lib.Signed.{lt_z}
use mir.Syntax.{w32}
use Rattle.mesh_plane.specs.Plane.{Point}
use Rattle.mesh_plane.proofs.Whole.{either_order}
use Rattle.mesh_lattice.specs.Split.{IsBetween, IsInBox}
use Rattle.mesh_pairs.specs.declared.boxes.Bounds.{Bounds}
use Rattle.mesh_pairs.specs.declared.boxes.EightBounds.{EightBounds}
use Rattle.mesh_pairs.specs.Boxes.{lane, Covers, DoMeet, Holds, IsIn}

-- ---- apart or not

abbrev pub apart_test : Bounds → Bounds → Bool
apart_test s o = ((lt_z o.east s.west || lt_z s.east o.west) || lt_z o.north s.south) || lt_z s.north o.south

neither : (a b : Bool) → (a || b) ≡ false → (a ≡ false) × (b ≡ false)
neither false b h = (refl, h)
neither true b h = absurd (false≢true (sym h))

none_of : (a b : Bool) → a ≡ false → b ≡ false → (a || b) ≡ false
none_of false b h l = l
none_of true b h l = h

at_most : (a b : ℤ) → lt_z a b ≡ false → b ≤ℤ a
at_most a b h = grind (arith, ints)

not_below : (a b : ℤ) → b ≤ℤ a → lt_z a b ≡ false
not_below a b h = grind (arith, ints)

pub apart_decides : (s o : Bounds) → (apart_test s o ≡ false → DoMeet s o) × (DoMeet s o → apart_test s o ≡ false)
apart_decides s o = (
  λ h.
      let all = neither ((lt_z o.east s.west || lt_z s.east o.west) || lt_z o.north s.south) (lt_z s.north o.south) h in
      let three = neither (lt_z o.east s.west || lt_z s.east o.west) (lt_z o.north s.south) all.0 in
      let two = neither (lt_z o.east s.west) (lt_z s.east o.west) three.0 in
      record {
        west = at_most o.east s.west two.0;
        east = at_most s.east o.west two.1;
        south = at_most o.north s.south three.1;
        north = at_most s.north o.south all.1;
      },
  λ m.
      none_of ((lt_z o.east s.west || lt_z s.east o.west) || lt_z o.north s.south) (lt_z s.north o.south)
      (none_of (lt_z o.east s.west || lt_z s.east o.west) (lt_z o.north s.south)
      (none_of (lt_z o.east s.west) (lt_z s.east o.west) (not_below o.east s.west m.west) (not_below s.east o.west m.east))
      (not_below o.north s.south m.south))
      (not_below s.north o.south m.north),
)

pub meet_or_not : (s o : Bounds) → DoMeet s o ⊎ (DoMeet s o → ⊥)
meet_or_not s o = by (apart_test s o) refl
  where
    by : (t : Bool) → apart_test s o ≡ t → DoMeet s o ⊎ (DoMeet s o → ⊥)
    by false h = inl ((apart_decides s o).0 h)
    by true h = inr (λ m. false≢true (sym ((apart_decides s o).1 m) ∙ h))

-- ---- least and greatest coordinates

pub record IsRange (low high a b : ℤ) : Type 0 where
  pub low_is : low ≡ int_min a b
  pub high_is : high ≡ int_max a b

in_range : (low high a b z : ℤ) → IsRange low high a b → low ≤ℤ z → z ≤ℤ high → IsBetween a z b
in_range low high a b z r l h = record {
  up = λ o. (omega (arith, ints, clamps, r.low_is), omega (arith, ints, clamps, r.high_is));
  down = λ o. (omega (arith, ints, clamps, r.low_is), omega (arith, ints, clamps, r.high_is));
}

range_in : (low high a b z : ℤ) → IsRange low high a b → IsBetween a z b → (low ≤ℤ z) × (z ≤ℤ high)
range_in low high a b z r h = by (either_order a b)
  where
    by : (a ≤ℤ b) ⊎ (b ≤ℤ a) → (low ≤ℤ z) × (z ≤ℤ high)
    by (inl o) = let w = h.up o in (omega (arith, ints, clamps, r.low_is, w.0), omega (arith, ints, clamps, r.high_is, w.1))
    by (inr o) = let w = h.down o in (omega (arith, ints, clamps, r.low_is, w.0), omega (arith, ints, clamps, r.high_is, w.1))

pub box_of : (a b : Point) (r : Bounds) → IsRange r.west r.east a.0 b.0 → IsRange r.south r.north a.1 b.1 → (p : Point) → Holds r p ↔ IsInBox (a, b) p
box_of a b r x y p = (
  λ h. record { by_x = in_range r.west r.east a.0 b.0 p.0 x h.west h.east; by_y = in_range r.south r.north a.1 b.1 p.1 y h.south h.north },
  λ box.
      let u = range_in r.west r.east a.0 b.0 p.0 x box.by_x in
      let v = range_in r.south r.north a.1 b.1 p.1 y box.by_y in
      record { west = u.0; east = u.1; south = v.0; north = v.1 },
)

-- the rectangle of both
pub record IsUnion (r s o : Bounds) : Type 0 where
  pub west : r.west ≡ int_min s.west o.west
  pub east : r.east ≡ int_max s.east o.east
  pub south : r.south ≡ int_min s.south o.south
  pub north : r.north ≡ int_max s.north o.north

pub union_first : (r s o : Bounds) → IsUnion r s o → Covers r s
union_first r s o u = record {
  west = omega (arith, ints, clamps, u.west);
  east = omega (arith, ints, clamps, u.east);
  south = omega (arith, ints, clamps, u.south);
  north = omega (arith, ints, clamps, u.north);
}

pub union_second : (r s o : Bounds) → IsUnion r s o → Covers r o
union_second r s o u = record {
  west = omega (arith, ints, clamps, u.west);
  east = omega (arith, ints, clamps, u.east);
  south = omega (arith, ints, clamps, u.south);
  north = omega (arith, ints, clamps, u.north);
}

pub union_least : (r s o c : Bounds) → IsUnion r s o → Covers c s → Covers c o → Covers c r
union_least r s o c u p q = record {
  west = omega (arith, ints, clamps, u.west, p.west, q.west);
  east = omega (arith, ints, clamps, u.east, p.east, q.east);
  south = omega (arith, ints, clamps, u.south, p.south, q.south);
  north = omega (arith, ints, clamps, u.north, p.north, q.north);
}

-- ---- sets of places

below_or_at : (k n : ℕ) → k < n + 1 → (k < n) ⊎ (k ≡ n)
below_or_at k n h = grind arith

one_or_zero : (a b : ℕ) → a ≡ b → (a ≡ 1) ↔ (b ≡ 1)
one_or_zero a b e = (λ h. omega arith, λ h. omega arith)

-- the places below `k` that meet, and whether that at `k` does
pub places_more : (e : EightBounds) (b : Bounds) (n x k : ℕ) (t : Bool) → k < 8 → n < 2 ^ k → (t ≡ false) ↔ DoMeet (lane e k) b
    → ((t ≡ true) × (x ≡ 0)) ⊎ ((t ≡ false) × (x ≡ 1 * 2 ^ k % 2 ^ 32))
    → ((j : ℕ) → j < k → IsIn n j ↔ DoMeet (lane e j) b) → (j : ℕ) → j < k + 1 → IsIn (bit_or n x) j ↔ DoMeet (lane e j) b
places_more e b n x k t within few is next all j h = by (below_or_at j k h) next
  where
    both : (P Q R : Type 0) → (P ↔ Q) → (Q ↔ R) → P ↔ R
    both P Q R f g = (λ p. g.0 (f.0 p), λ r. f.1 (g.1 r))

    by : (j < k) ⊎ (j ≡ k) → ((t ≡ true) × (x ≡ 0)) ⊎ ((t ≡ false) × (x ≡ 1 * 2 ^ k % 2 ^ 32)) → IsIn (bit_or n x) j ↔ DoMeet (lane e j) b
    by (inl l) (inl none) =
        both (IsIn (bit_or n x) j) (IsIn n j) (DoMeet (lane e j) b)
        (one_or_zero (bit_at (bit_or n x) j) (bit_at n j) (omega (arith, bit_at_or n x j, ap (λ (y : ℕ). bit_at y j) none.1, bit_at-zero j))) (all j l)
    by (inl l) (inr one) =
        both (IsIn (bit_or n x) j) (IsIn n j) (DoMeet (lane e j) b)
        (one_or_zero (bit_at (bit_or n x) j) (bit_at n j)
        (ap (λ (y : ℕ). bit_at (bit_or n y) j) one.1 ∙ bit_at_set_other w32 n k (omega arith) j (λ (q : j ≡ k). omega arith))) (all j l)
    by (inr q) (inl none) =
        subst (λ (i : ℕ). IsIn (bit_or n x) i ↔ DoMeet (lane e i) b) (sym q) (
          λ h.
              let zero : bit_at (bit_or n x) k ≡ 0 = omega (arith, bit_at_or n x k, ap (λ (y : ℕ). bit_at y k) none.1, bit_at-zero k, bit_at_above n k k few (omega arith)) in
              absurd (omega (arith, zero, h)),
          λ m. absurd (false≢true (sym (is.1 m) ∙ none.0)),
        )
    by (inr q) (inr one) =
        subst (λ (i : ℕ). IsIn (bit_or n x) i ↔ DoMeet (lane e i) b) (sym q) (
          λ h. is.0 one.0,
          λ m. ap (λ (y : ℕ). bit_at (bit_or n y) k) one.1 ∙ bit_at_set_same w32 n k (omega arith),
        )

pub places_few : (n x k : ℕ) → k < 8 → n < 2 ^ k → (x ≡ 0) ⊎ (x ≡ 1 * 2 ^ k % 2 ^ 32) → bit_or n x < 2 ^ (k + 1)
places_few n x k within few next = or_lt (k + 1) n x (omega (arith, more)) (small next)
  where
    more : 2 ^ k < 2 ^ (k + 1)
    more = pow_below k (k + 1) (omega arith)

    small : (x ≡ 0) ⊎ (x ≡ 1 * 2 ^ k % 2 ^ 32) → x < 2 ^ (k + 1)
    small (inl h) = omega (arith, more)
    small (inr h) = omega (arith, more, one_shl k 32 (omega arith))
