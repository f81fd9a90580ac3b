-- Lemmas over points and lists: the direction as a function is the direction.
use Rattle.std.proofs.Common.{◌⊎◌, inl, inr, ◌≡◌, ℕ, ◌*◌, ◌<◌, ◌≤◌, refl, sym, ◌∙◌, ap, arith, zero, suc}
use Rattle.std.specs.Prelude.{Bool, true, false, cond, leb, ℤ, pos, negsuc, neg_ℤ, unsigned_abs}
use Rattle.std.proofs.Math.Nat.{mul-le-mul, mul-le-mul_left, mul-le-mul_right}
use Rattle.std.proofs.lemmas.Bool.{leb-true, le-leb, true≢false}
use Rattle.std.proofs.lemmas.Bool.Decides.{leb_tells}
use Rattle.std.proofs.lemmas.Int.{ints}
use Rattle.mesh_plane.specs.Plane.{Point, length_sq}
use Rattle.mesh_num.specs.Direction.{IsShare, IsPart, IsDirection}
use Rattle.mesh_num.specs.Directed.{greatest, share_of, part_of, direction_of}
use Rattle.mesh_num.proofs.Parts.{part_unique, has_length}

greatest_passes : (test : ℕ → Bool) → test 0 ≡ true → (n : ℕ) → test (greatest test n) ≡ true
unfolding greatest
greatest_passes test none zero = none
greatest_passes test none (suc n) =
    step (greatest_passes test none n) (test (suc n)) refl
  where
    step : test (greatest test n) ≡ true → (b : Bool) → test (suc n) ≡ b → test (cond b (suc n) (greatest test n)) ≡ true
    step rest true e = e
    step rest false e = rest

greatest_above : (test : ℕ → Bool) (n j : ℕ) → j ≤ n → test j ≡ true → j ≤ greatest test n
unfolding greatest
greatest_above test zero j h e = omega arith
greatest_above test (suc n) j h e =
    step (λ l. greatest_above test n j l e) (test (suc n)) refl
  where
    smaller : test (suc n) ≡ false → ((leb j n ≡ true) × (j ≤ n)) ⊎ ((leb j n ≡ false) × (n < j)) → j ≤ n
    smaller k (inl l) = l.1
    smaller k (inr l) = let same : j ≡ suc n = omega arith in absurd (true≢false (sym e ∙ (ap test same ∙ k)))

    step : (j ≤ n → j ≤ greatest test n) → (b : Bool) → test (suc n) ≡ b → j ≤ cond b (suc n) (greatest test n)
    step rest true k = h
    step rest false k = rest (smaller k (leb_tells j n))

share_within : (unit square size : ℕ) → IsShare unit square size (share_of unit square size)
share_within unit square size =
    leb-true (share_of unit square size * share_of unit square size * square) (unit * unit * (size * size))
    (greatest_passes (λ j. leb (j * j * square) (unit * unit * (size * size))) (le-leb (0 * 0 * square) (unit * unit * (size * size)) (omega arith)) unit)

-- no share is above `unit`
share_bound : (unit square size j : ℕ) → 0 < square → size * size ≤ square → IsShare unit square size j → j ≤ unit
share_bound unit square size j some fits within =
    by_contra (leb_tells j unit)
  where
    by_contra : ((leb j unit ≡ true) × (j ≤ unit)) ⊎ ((leb j unit ≡ false) × (unit < j)) → j ≤ unit
    by_contra (inl l) = l.1
    by_contra (inr l) =
        let more : suc unit ≤ j = omega arith in
        let squares : suc unit * suc unit ≤ j * j = mul-le-mul more more in
        let times : suc unit * suc unit * square ≤ j * j * square = mul-le-mul_right square squares in
        let most : unit * unit * (size * size) ≤ unit * unit * square = mul-le-mul_left (unit * unit) fits in
        absurd (omega arith)

share_greatest : (unit square size : ℕ) → 0 < square → size * size ≤ square → (j : ℕ) → IsShare unit square size j → j ≤ share_of unit square size
share_greatest unit square size some fits j within =
    greatest_above (λ i. leb (i * i * square) (unit * unit * (size * size))) unit j (share_bound unit square size j some fits within)
    (le-leb (j * j * square) (unit * unit * (size * size)) within)

share_none : (unit square : ℕ) → 0 < square → share_of unit square 0 ≡ 0
share_none unit square some = least (share_of unit square 0) (share_within unit square 0)
  where
    least : (j : ℕ) → IsShare unit square 0 j → j ≡ 0
    least zero h = refl
    least (suc j) h =
        let one : 1 ≤ suc j = omega arith in
        let product : 1 * 1 * square ≤ suc j * suc j * square = mul-le-mul_right square (mul-le-mul one one) in
        absurd (omega arith)

part_of_is : (unit square : ℕ) (x : ℤ) → 0 < square → unsigned_abs x * unsigned_abs x ≤ square → IsPart unit square x (part_of unit square x)
part_of_is unit square (pos zero) some fits = record {
  sign = record { nonneg = λ h. omega (arith, ints); nonpos = λ h. omega (arith, ints, share_none unit square some) };
  within = share_within unit square 0;
  greatest = share_greatest unit square 0 some fits;
}
part_of_is unit square (pos (suc x)) some fits = record {
  sign = record { nonneg = λ h. omega (arith, ints); nonpos = λ h. absurd (omega (arith, ints)) };
  within = share_within unit square (suc x);
  greatest = share_greatest unit square (suc x) some fits;
}
part_of_is unit square (negsuc x) some fits = record {
  sign = record { nonneg = λ h. absurd (omega (arith, ints)); nonpos = λ h. omega (arith, ints) };
  within = rw (unsigned_abs-neg (share_of unit square (suc x))) (share_within unit square (suc x));
  greatest = λ j h. rw (unsigned_abs-neg (share_of unit square (suc x))) (share_greatest unit square (suc x) some fits j h);
}
  where
    unsigned_abs-neg : (n : ℕ) → unsigned_abs (neg_ℤ (pos n)) ≡ n
    unsigned_abs-neg n = omega (arith, ints)

pub direction_of_is : (unit : ℕ) (v : Point) → 0 < length_sq v → IsDirection unit v (direction_of unit v)
unfolding direction_of
direction_of_is unit v some = record {
  x = part_of_is unit (length_sq v) v.0 some (omega arith);
  y = part_of_is unit (length_sq v) v.1 some (omega arith);
}

pub is_direction_of : (unit : ℕ) (v n : Point) → IsDirection unit v n → n ≡ direction_of unit v
is_direction_of unit v n d =
    let e = direction_of_is unit v (has_length d) in
    λ i. (part_unique d.x e.x i, part_unique d.y e.y i)
