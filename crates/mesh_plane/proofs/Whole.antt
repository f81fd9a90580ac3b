-- Lemmas over whole numbers: laws that std lacks, of products of sums, of opposites, and of signs.
use Rattle.std.proofs.Common.{◌≡◌, ◌*◌, ◌⊎◌, inl, inr, sym, ◌∙◌, ap, arith, zero, suc}
use Rattle.std.specs.Prelude.{ℤ, pos, negsuc, ◌+ℤ◌, ◌-ℤ◌, ◌*ℤ◌, ◌≤ℤ◌, neg_ℤ}
use lib.IntN.{*ℤ_comm}
use lib.Signed.{◌<ℤ◌}
use Rattle.std.proofs.lemmas.Int.{ints, by_lt_z}
use borrow.Author.Differences.{up, down, sum_is_lem, neg_is, product_is, same_out, same_in, lt_out, le_out, below_in, at_most_in}

-- linear facts on whole numbers, each product one unknown
pub ruleset linear = (same_out, same_in, lt_out, le_out, below_in, at_most_in, sum_is_lem, neg_is)

-- two numbers stand in the one order or in the other
pub either_order : (a b : ℤ) → (a ≤ℤ b) ⊎ (b ≤ℤ a)
either_order a b = grind (arith, ints)

-- ---- products of sums, of opposites and of products

pub mul_add : (a b c : ℤ) → a *ℤ (b +ℤ c) ≡ (a *ℤ b) +ℤ (a *ℤ c)
mul_add a b c = omega (arith, ints, ap (λ n. up a * n) (sum_is_lem b c), ap (λ n. down a * n) (sum_is_lem b c))

pub mul_neg : (a b : ℤ) → a *ℤ neg_ℤ b ≡ neg_ℤ (a *ℤ b)
mul_neg a b = omega (arith, ints, ap (λ n. up a * n) (neg_is b).0, ap (λ n. down a * n) (neg_is b).0, ap (λ n. up a * n) (neg_is b).1, ap (λ n. down a * n) (neg_is b).1)

pub add_mul : (a b c : ℤ) → (a +ℤ b) *ℤ c ≡ (a *ℤ c) +ℤ (b *ℤ c)
add_mul a b c = omega (arith, ints, mul_add c a b)

pub neg_mul : (a b : ℤ) → neg_ℤ a *ℤ b ≡ neg_ℤ (a *ℤ b)
neg_mul a b = omega (arith, ints, mul_neg b a)

pub neg_mul_neg : (a b : ℤ) → neg_ℤ a *ℤ neg_ℤ b ≡ a *ℤ b
neg_mul_neg a b = omega (arith, linear, neg_mul a (neg_ℤ b), mul_neg a b)

pub mul_sub : (a b c : ℤ) → a *ℤ (b -ℤ c) ≡ (a *ℤ b) -ℤ (a *ℤ c)
mul_sub a b c = omega (arith, linear, mul_add a b (neg_ℤ c), mul_neg a c)

pub mul_assoc : (a b c : ℤ) → (a *ℤ b) *ℤ c ≡ a *ℤ (b *ℤ c)
mul_assoc a b c =
    omega (
      arith,
      ints,
      ap (λ n. n * up c) (product_is a b).0,
      ap (λ n. n * up c) (product_is a b).1,
      ap (λ n. n * down c) (product_is a b).0,
      ap (λ n. n * down c) (product_is a b).1,
      ap (λ n. up a * n) (product_is b c).0,
      ap (λ n. up a * n) (product_is b c).1,
      ap (λ n. down a * n) (product_is b c).0,
      ap (λ n. down a * n) (product_is b c).1,
    )

pub mul_left_comm : (a b c : ℤ) → a *ℤ (b *ℤ c) ≡ b *ℤ (a *ℤ c)
mul_left_comm a b c = sym (mul_assoc a b c) ∙ ap (λ n. n *ℤ c) (*ℤ_comm a b) ∙ mul_assoc b a c

pub one_mul : (a : ℤ) → pos 1 *ℤ a ≡ a
one_mul a = omega (arith, ints)

pub zero_mul : (a : ℤ) → pos 0 *ℤ a ≡ pos 0
zero_mul a = omega (arith, ints)

pub mul_zero : (a : ℤ) → a *ℤ pos 0 ≡ pos 0
mul_zero a = omega (arith, ints)

pub times_zero : (a b : ℤ) → b ≡ pos 0 → a *ℤ b ≡ pos 0
times_zero a b e = ap (λ (n : ℤ). a *ℤ n) e ∙ mul_zero a

pub mul_one : (a : ℤ) → a *ℤ pos 1 ≡ a
mul_one a = omega (arith, ints)

-- multiplies out and sorts
pub ruleset multiplied = (mul_add, add_mul, mul_neg, neg_mul, mul_assoc, mul_left_comm, *ℤ_comm)

pub both_le : (a b : ℤ) → a ≤ℤ b → b ≤ℤ a → a ≡ b
both_le a b h l = omega (arith, ints)

-- ---- signs of products

pub square_nonneg : (a : ℤ) → pos 0 ≤ℤ (a *ℤ a)
square_nonneg (pos a) = omega (arith, ints)
square_nonneg (negsuc a) = omega (arith, ints)

pub mul_nonneg : (a b : ℤ) → pos 0 ≤ℤ a → pos 0 ≤ℤ b → pos 0 ≤ℤ (a *ℤ b)
mul_nonneg (pos a) (pos b) h k = omega (arith, ints)
mul_nonneg (pos a) (negsuc b) h k = absurd (omega (arith, ints))
mul_nonneg (negsuc a) (pos b) h k = absurd (omega (arith, ints))
mul_nonneg (negsuc a) (negsuc b) h k = absurd (omega (arith, ints))

pub mul_nonneg_nonpos : (a b : ℤ) → pos 0 ≤ℤ a → b ≤ℤ pos 0 → (a *ℤ b) ≤ℤ pos 0
mul_nonneg_nonpos a b h k =
    let p : pos 0 ≤ℤ neg_ℤ b = omega (arith, linear) in
    let q : pos 0 ≤ℤ (a *ℤ neg_ℤ b) = mul_nonneg a (neg_ℤ b) h p in
    omega (arith, linear, mul_neg a b)

pub mul_nonpos_nonneg : (a b : ℤ) → a ≤ℤ pos 0 → pos 0 ≤ℤ b → (a *ℤ b) ≤ℤ pos 0
mul_nonpos_nonneg a b h k = omega (arith, linear, *ℤ_comm a b, mul_nonneg_nonpos b a k h)

pub mul_nonpos : (a b : ℤ) → a ≤ℤ pos 0 → b ≤ℤ pos 0 → pos 0 ≤ℤ (a *ℤ b)
mul_nonpos a b h k =
    let p : pos 0 ≤ℤ neg_ℤ b = omega (arith, linear) in
    let q : (a *ℤ neg_ℤ b) ≤ℤ pos 0 = mul_nonpos_nonneg a (neg_ℤ b) h p in
    omega (arith, linear, mul_neg a b)

pub mul_pos : (a b : ℤ) → pos 0 <ℤ a → pos 0 <ℤ b → pos 0 <ℤ (a *ℤ b)
mul_pos (pos zero) b h k = absurd (omega (arith, ints))
mul_pos (pos (suc a)) (pos zero) h k = absurd (omega (arith, ints))
mul_pos (pos (suc a)) (pos (suc b)) h k = omega (arith, ints)
mul_pos (pos (suc a)) (negsuc b) h k = absurd (omega (arith, ints))
mul_pos (negsuc a) b h k = absurd (omega (arith, ints))

pub mul_pos_neg : (a b : ℤ) → pos 0 <ℤ a → b <ℤ pos 0 → (a *ℤ b) <ℤ pos 0
mul_pos_neg a b h k =
    let p : pos 0 <ℤ neg_ℤ b = omega (arith, linear) in
    let q : pos 0 <ℤ (a *ℤ neg_ℤ b) = mul_pos a (neg_ℤ b) h p in
    omega (arith, linear, mul_neg a b)

pub mul_neg_pos : (a b : ℤ) → a <ℤ pos 0 → pos 0 <ℤ b → (a *ℤ b) <ℤ pos 0
mul_neg_pos a b h k = omega (arith, linear, *ℤ_comm a b, mul_pos_neg b a k h)

pub mul_both_neg : (a b : ℤ) → a <ℤ pos 0 → b <ℤ pos 0 → pos 0 <ℤ (a *ℤ b)
mul_both_neg a b h k =
    let p : pos 0 <ℤ neg_ℤ b = omega (arith, linear) in
    let q : (a *ℤ neg_ℤ b) <ℤ pos 0 = mul_neg_pos a (neg_ℤ b) h p in
    omega (arith, linear, mul_neg a b)

-- a product is 0 only where a factor is
pub factor : (a b : ℤ) → a *ℤ b ≡ pos 0 → (a ≡ pos 0) ⊎ (b ≡ pos 0)
factor a b e =
    by_lt_z a (pos 0)
    (λ h.
    by_lt_z b (pos 0)
    (λ k. absurd (omega (arith, linear, mul_both_neg a b h k)))
    (λ k.
    by_lt_z (pos 0) b
    (λ l. absurd (omega (arith, linear, mul_neg_pos a b h l)))
    (λ l. inr (omega (arith, linear)))))
    (λ h.
    by_lt_z (pos 0) a
    (λ p.
    by_lt_z b (pos 0)
    (λ k. absurd (omega (arith, linear, mul_pos_neg a b p k)))
    (λ k.
    by_lt_z (pos 0) b
    (λ l. absurd (omega (arith, linear, mul_pos a b p l)))
    (λ l. inr (omega (arith, linear)))))
    (λ p. inl (omega (arith, linear))))

pub square_zero : (a : ℤ) → (a *ℤ a) ≤ℤ pos 0 → a ≡ pos 0
square_zero a h = by (factor a a (omega (arith, linear, h, square_nonneg a)))
  where
    by : (a ≡ pos 0) ⊎ (a ≡ pos 0) → a ≡ pos 0
    by (inl e) = e
    by (inr e) = e

-- ---- a factor that is not negative keeps the order, and one above 0 can be cancelled

pub mul_le_mul_left : (c a b : ℤ) → pos 0 ≤ℤ c → a ≤ℤ b → (c *ℤ a) ≤ℤ (c *ℤ b)
mul_le_mul_left c a b h k =
    let p : pos 0 ≤ℤ (b -ℤ a) = omega (arith, linear) in
    let q : pos 0 ≤ℤ (c *ℤ (b -ℤ a)) = mul_nonneg c (b -ℤ a) h p in
    omega (arith, linear, mul_sub c b a)

pub mul_le_mul_right : (c a b : ℤ) → pos 0 ≤ℤ c → a ≤ℤ b → (a *ℤ c) ≤ℤ (b *ℤ c)
mul_le_mul_right c a b h k = omega (arith, linear, mul_le_mul_left c a b h k, *ℤ_comm c a, *ℤ_comm c b)

pub mul_lt_mul_left : (c a b : ℤ) → pos 0 <ℤ c → a <ℤ b → (c *ℤ a) <ℤ (c *ℤ b)
mul_lt_mul_left c a b h k =
    let p : pos 0 <ℤ (b -ℤ a) = omega (arith, linear) in
    let q : pos 0 <ℤ (c *ℤ (b -ℤ a)) = mul_pos c (b -ℤ a) h p in
    omega (arith, linear, mul_sub c b a)

pub le_of_mul_le_mul : (c a b : ℤ) → pos 0 <ℤ c → (c *ℤ a) ≤ℤ (c *ℤ b) → a ≤ℤ b
le_of_mul_le_mul c a b h k = by_lt_z b a (λ l. absurd (omega (arith, linear, mul_lt_mul_left c b a h l))) (λ l. l)

pub lt_of_mul_lt_mul : (c a b : ℤ) → pos 0 ≤ℤ c → (c *ℤ a) <ℤ (c *ℤ b) → a <ℤ b
lt_of_mul_lt_mul c a b h k = by_lt_z a b (λ l. l) (λ l. absurd (omega (arith, linear, mul_le_mul_left c b a h l)))

pub mul_cancel : (c a b : ℤ) → pos 0 <ℤ c → c *ℤ a ≡ c *ℤ b → a ≡ b
mul_cancel c a b h e =
    let p : a ≤ℤ b = le_of_mul_le_mul c a b h (omega (arith, linear)) in
    let q : b ≤ℤ a = le_of_mul_le_mul c b a h (omega (arith, linear)) in
    omega (arith, linear)

pub nonneg_of_mul : (c a : ℤ) → pos 0 <ℤ c → pos 0 ≤ℤ (c *ℤ a) → pos 0 ≤ℤ a
nonneg_of_mul c a h k = by_lt_z a (pos 0) (λ l. absurd (omega (arith, linear, mul_pos_neg c a h l))) (λ l. l)

pub nonpos_of_mul : (c a : ℤ) → pos 0 <ℤ c → (c *ℤ a) ≤ℤ pos 0 → a ≤ℤ pos 0
nonpos_of_mul c a h k = by_lt_z (pos 0) a (λ l. absurd (omega (arith, linear, mul_pos c a h l))) (λ l. l)

pub pos_of_mul : (c a : ℤ) → pos 0 ≤ℤ c → pos 0 <ℤ (c *ℤ a) → pos 0 <ℤ a
pos_of_mul c a h k = by_lt_z (pos 0) a (λ l. l) (λ l. absurd (omega (arith, linear, mul_nonneg_nonpos c a h l)))

pub neg_of_mul : (c a : ℤ) → pos 0 ≤ℤ c → (c *ℤ a) <ℤ pos 0 → a <ℤ pos 0
neg_of_mul c a h k = by_lt_z a (pos 0) (λ l. l) (λ l. absurd (omega (arith, linear, mul_nonneg c a h l)))
