-- Lemmas over whole numbers and lists: sums of counts, as 128 bits hold them.
use Rattle.std.proofs.Common.{◌≡◌, ℕ, ◌+◌, ◌<◌, ◌^◌, List, [], ◌∷◌, take, length, get_or, add-one, refl, sym, ◌∙◌, ap, arith, zero, suc}
use Rattle.std.specs.Prelude.{ℤ, pos, neg_ℤ, ◌+ℤ◌, ◌*ℤ◌, ◌≤ℤ◌, ◌<ℤ◌, unsigned_abs}
use Rattle.std.proofs.lemmas.Int.{ints, to_z-of_z}
use mir.Syntax.{w128}
use mir.Val.{SFits, to_z, of_z}
use Rattle.mesh_plane.specs.Bounds.{IsSmall}
use Rattle.mesh_plane.specs.Winding.{sum_of}
use Rattle.mesh_plane.proofs.Whole.{mul_zero, mul_one, mul_neg}
use Rattle.mesh_lattice.specs.Counted.{Counted}
use Rattle.mesh_lattice.specs.Counted.{size}

pub times_up : (n d : ℤ) → IsSmall 2 d → pos 0 <ℤ d → n ≡ n *ℤ d
times_up n d s h =
    let e : d ≡ pos 1 = omega (arith, ints, s.high) in
    sym (ap (λ (z : ℤ). n *ℤ z) e ∙ mul_one n)

pub times_down : (n d : ℤ) → IsSmall 2 d → d <ℤ pos 0 → neg_ℤ n ≡ n *ℤ d
times_down n d s h =
    let e : d ≡ neg_ℤ (pos 1) = omega (arith, ints, s.low) in
    sym (ap (λ (z : ℤ). n *ℤ z) e ∙ (mul_neg n (pos 1) ∙ ap neg_ℤ (mul_one n)))

pub times_none : (n d : ℤ) → d ≤ℤ pos 0 → pos 0 ≤ℤ d → pos 0 ≡ n *ℤ d
times_none n d h k =
    let e : d ≡ pos 0 = omega (arith, ints) in
    sym (ap (λ (z : ℤ). n *ℤ z) e ∙ mul_zero n)

-- ---- sums over the first of a list

pub sum_suc : {A : Type 0} (f : A → ℤ) (xs : List A) (i : ℕ) (d : A) → i < length xs → sum_of f (take (suc i) xs) ≡ sum_of f (take i xs) +ℤ f (get_or xs i d)
sum_suc f [] i d h = absurd (omega arith)
sum_suc f (x ∷ xs) zero d h = omega (arith, ints)
sum_suc f (x ∷ xs) (suc i) d h = omega (arith, ints, sum_suc f xs i d (omega arith))

pub sum_more : {A : Type 0} (f : A → ℤ) (xs : List A) (i : ℕ) (d : A) → i < length xs → sum_of f (take (i + 1) xs) ≡ sum_of f (take i xs) +ℤ f (get_or xs i d)
sum_more f xs i d h = ap (λ (n : ℕ). sum_of f (take n xs)) (add-one i) ∙ sum_suc f xs i d h

-- a part of a sum of sizes is at most the whole
pub sum_part : {A : Type 0} (f : A → ℤ) → ((x : A) → pos 0 ≤ℤ f x) → (xs : List A) (i : ℕ) → sum_of f (take i xs) ≤ℤ sum_of f xs
sum_part f h [] zero = omega (arith, ints)
sum_part f h [] (suc i) = omega (arith, ints)
sum_part f h (x ∷ xs) zero = omega (arith, ints, sum_part f h xs zero, h x, none f xs)
  where
    none : {A : Type 0} (f : A → ℤ) (xs : List A) → sum_of f (take 0 xs) ≡ pos 0
    none f [] = refl
    none f (x ∷ xs) = refl
sum_part f h (x ∷ xs) (suc i) = omega (arith, ints, sum_part f h xs i)

-- a count below 2 ^ 120 in size
pub count_small : (n : ℤ) → pos (unsigned_abs n) ≤ℤ pos (2 ^ 120) → IsSmall (2 ^ 121) n
count_small n h = record { low = omega (arith, ints, h); high = omega (arith, ints, h) }

pub size_least : (k : Counted) → pos 0 ≤ℤ size k
size_least k = omega (arith, ints)

-- a part of a sum and the next element make at most the whole
pub next_part : {A : Type 0} (f : A → ℤ) → ((x : A) → pos 0 ≤ℤ f x) → (xs : List A) (i : ℕ) (d : A) → i < length xs → (sum_of f (take i xs) +ℤ f (get_or xs i d)) ≤ℤ sum_of f xs
next_part f h xs i d low = omega (arith, ints, sum_more f xs i d low, sum_part f h xs (i + 1))

-- two numbers that add up, in size, to at most 2 ^ 122
pub record Adds (a b : ℤ) : Type 0 where
  pub fits : SFits w128 (a +ℤ b)
  pub kept : to_z w128 (of_z w128 (a +ℤ b)) ≡ a +ℤ b
  pub size : pos (unsigned_abs (a +ℤ b)) ≤ℤ (pos (unsigned_abs a) +ℤ pos (unsigned_abs b))

pub adds_of : (a b : ℤ) → (pos (unsigned_abs a) +ℤ pos (unsigned_abs b)) ≤ℤ pos (2 ^ 122) → Adds a b
adds_of a b h =
    let f : SFits w128 (a +ℤ b) = omega (arith, ints, h) in
    record { fits = f; kept = to_z-of_z w128 (a +ℤ b) f; size = omega (arith, ints) }
