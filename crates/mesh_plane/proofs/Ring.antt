-- Lemmas over whole numbers: a solver for identities of polynomials in any number of variables.
-- For one, `ring (x ∷ y ∷ []) (var 0 ⊗ var 1) (var 1 ⊗ var 0) refl`, proves
-- `x *ℤ y ≡ y *ℤ x`: the list gives the variables' values, and the normal form of the difference is computed.
use Rattle.std.proofs.Common.{◌≡◌, ℕ, sym, refl, ◌∙◌, ap, arith, zero, suc, Bool, true, false, List, [], ◌∷◌}
use Rattle.std.specs.Prelude.{ℤ, pos, negsuc, ◌+ℤ◌, ◌-ℤ◌, ◌*ℤ◌, neg_ℤ, eqb, leb, ◌&&◌}
use lib.IntN.{*ℤ-zero, zero-*ℤ}
use Rattle.std.proofs.lemmas.Bool.{false≢true, eqb-true, and_parts}
use Rattle.mesh_plane.proofs.Whole.{linear, one_mul, mul_one, mul_add, add_mul, neg_mul, mul_assoc, mul_left_comm}

infixl 60 ◌⊕◌
infixl 60 ◌⊖◌
infixl 70 ◌⊗◌
-- a polynomial as it is written
pub data Expr : Type 0 where
  var : ℕ → Expr
  lit : ℤ → Expr
  neg : Expr → Expr
  ◌⊕◌ : Expr → Expr → Expr
  ◌⊖◌ : Expr → Expr → Expr
  ◌⊗◌ : Expr → Expr → Expr

-- the value of the variable `i`
abbrev pub value_of : List ℤ → ℕ → ℤ
value_of [] i = pos 0
value_of (x ∷ xs) zero = x
value_of (x ∷ xs) (suc i) = value_of xs i

abbrev pub eval : List ℤ → Expr → ℤ
eval r (var i) = value_of r i
eval r (lit c) = c
eval r (neg a) = neg_ℤ (eval r a)
eval r (a ⊕ b) = eval r a +ℤ eval r b
eval r (a ⊖ b) = eval r a -ℤ eval r b
eval r (a ⊗ b) = eval r a *ℤ eval r b

-- a sorted product of variables with its coefficient
abbrev Term : Type 0
Term = ℤ × List ℕ

abbrev same : List ℕ → List ℕ → Bool
same [] [] = true
same [] (j ∷ m) = false
same (i ∷ l) [] = false
same (i ∷ l) (j ∷ m) = eqb i j && same l m

abbrev before : List ℕ → List ℕ → Bool
before [] m = true
before (i ∷ l) [] = false
before (i ∷ l) (j ∷ m) = elim (eqb i j) [ true ↦ before l m | false ↦ leb i j ]

-- a term before others, none where its coefficient is 0
abbrev put : ℤ → List ℕ → List Term → List Term
put (pos zero) m p = p
put (pos (suc c)) m p = (pos (suc c), m) ∷ p
put (negsuc c) m p = (negsuc c, m) ∷ p

abbrev add_term : ℤ → List ℕ → List Term → List Term
add_term c m [] = put c m []
add_term c m (t ∷ p) =
    elim (same m t.1) [ true ↦ put (c +ℤ t.0) t.1 p | false ↦ elim (before m t.1) [ true ↦ put c m (t ∷ p) | false ↦ t ∷ add_term c m p ] ]

abbrev add_terms : List Term → List Term → List Term
add_terms [] q = q
add_terms (t ∷ p) q = add_term t.0 t.1 (add_terms p q)

abbrev insert : ℕ → List ℕ → List ℕ
insert i [] = i ∷ []
insert i (j ∷ m) = elim (leb i j) [ true ↦ i ∷ j ∷ m | false ↦ j ∷ insert i m ]

abbrev merge : List ℕ → List ℕ → List ℕ
merge [] m = m
merge (i ∷ l) m = insert i (merge l m)

abbrev mul_term : ℤ → List ℕ → List Term → List Term
mul_term c m [] = []
mul_term c m (t ∷ p) = add_term (c *ℤ t.0) (merge m t.1) (mul_term c m p)

abbrev mul_terms : List Term → List Term → List Term
mul_terms [] q = []
mul_terms (t ∷ p) q = add_terms (mul_term t.0 t.1 q) (mul_terms p q)

abbrev negate : List Term → List Term
negate [] = []
negate (t ∷ p) = (neg_ℤ t.0, t.1) ∷ negate p

-- the normal form: the polynomial's terms in order, each once
abbrev pub normal : Expr → List Term
normal (var i) = (pos 1, i ∷ []) ∷ []
normal (lit c) = put c [] []
normal (neg a) = negate (normal a)
normal (a ⊕ b) = add_terms (normal a) (normal b)
normal (a ⊖ b) = add_terms (normal a) (negate (normal b))
normal (a ⊗ b) = mul_terms (normal a) (normal b)

abbrev product_of : List ℤ → List ℕ → ℤ
product_of r [] = pos 1
product_of r (i ∷ m) = value_of r i *ℤ product_of r m

abbrev total_of : List ℤ → List Term → ℤ
total_of r [] = pos 0
total_of r (t ∷ p) = (t.0 *ℤ product_of r t.1) +ℤ total_of r p

-- ---- each step keeps the value

same-eq : (l m : List ℕ) → same l m ≡ true → l ≡ m
same-eq [] [] e = refl
same-eq [] (j ∷ m) e = absurd (false≢true e)
same-eq (i ∷ l) [] e = absurd (false≢true e)
same-eq (i ∷ l) (j ∷ m) e =
    let both : (eqb i j ≡ true) × (same l m ≡ true) = and_parts (eqb i j) (same l m) e in
    let head : i ≡ j = eqb-true i j both.0 in
    let tail : l ≡ m = same-eq l m both.1 in
    λ k. head k ∷ tail k

put_value : (r : List ℤ) (c : ℤ) (m : List ℕ) (p : List Term) → total_of r (put c m p) ≡ (c *ℤ product_of r m) +ℤ total_of r p
put_value r (pos zero) m p = omega (arith, linear, zero-*ℤ (product_of r m))
put_value r (pos (suc c)) m p = refl
put_value r (negsuc c) m p = refl

add_term_value : (r : List ℤ) (c : ℤ) (m : List ℕ) (p : List Term) → total_of r (add_term c m p) ≡ (c *ℤ product_of r m) +ℤ total_of r p
add_term_value r c m [] = put_value r c m []
add_term_value r c m (t ∷ p) = by (same m t.1) refl (before m t.1) (add_term_value r c m p)
  where
    by : (b : Bool) → same m t.1 ≡ b → (d : Bool) → total_of r (add_term c m p) ≡ (c *ℤ product_of r m) +ℤ total_of r p
        → total_of r (elim b [ true ↦ put (c +ℤ t.0) t.1 p | false ↦ elim d [ true ↦ put c m (t ∷ p) | false ↦ t ∷ add_term c m p ] ]) ≡ (c *ℤ product_of r m) +ℤ ((t.0 *ℤ product_of r t.1) +ℤ total_of r p)
    by true e d h =
        let f : product_of r m ≡ product_of r t.1 = ap (product_of r) (same-eq m t.1 e) in
        let k : c *ℤ product_of r m ≡ c *ℤ product_of r t.1 = ap (λ (n : ℤ). c *ℤ n) f in
        omega (arith, linear, put_value r (c +ℤ t.0) t.1 p, add_mul c t.0 (product_of r t.1))
    by false e true h = put_value r c m (t ∷ p)
    by false e false h = omega (arith, linear, h)

add_terms_value : (r : List ℤ) (p q : List Term) → total_of r (add_terms p q) ≡ total_of r p +ℤ total_of r q
add_terms_value r [] q = omega (arith, linear)
add_terms_value r (t ∷ p) q = omega (arith, linear, add_term_value r t.0 t.1 (add_terms p q), add_terms_value r p q)

insert_value : (r : List ℤ) (i : ℕ) (m : List ℕ) → product_of r (insert i m) ≡ value_of r i *ℤ product_of r m
insert_value r i [] = refl
insert_value r i (j ∷ m) = by (leb i j) (insert_value r i m)
  where
    by : (b : Bool) → product_of r (insert i m) ≡ value_of r i *ℤ product_of r m
        → product_of r (elim b [ true ↦ i ∷ j ∷ m | false ↦ j ∷ insert i m ]) ≡ value_of r i *ℤ (value_of r j *ℤ product_of r m)
    by true h = refl
    by false h = ap (λ (n : ℤ). value_of r j *ℤ n) h ∙ mul_left_comm (value_of r j) (value_of r i) (product_of r m)

merge_value : (r : List ℤ) (l m : List ℕ) → product_of r (merge l m) ≡ product_of r l *ℤ product_of r m
merge_value r [] m = sym (one_mul (product_of r m))
merge_value r (i ∷ l) m =
    insert_value r i (merge l m)
    ∙ ap (λ (n : ℤ). value_of r i *ℤ n) (merge_value r l m)
    ∙ sym (mul_assoc (value_of r i) (product_of r l) (product_of r m))

-- (a b) (c d) = (a c) (b d)
exchange : (a b c d : ℤ) → (a *ℤ b) *ℤ (c *ℤ d) ≡ (a *ℤ c) *ℤ (b *ℤ d)
exchange a b c d =
    mul_assoc a b (c *ℤ d) ∙ ap (λ (n : ℤ). a *ℤ n) (mul_left_comm b c d) ∙ sym (mul_assoc a c (b *ℤ d))

mul_term_value : (r : List ℤ) (c : ℤ) (m : List ℕ) (p : List Term) → total_of r (mul_term c m p) ≡ (c *ℤ product_of r m) *ℤ total_of r p
mul_term_value r c m [] = sym (*ℤ-zero (c *ℤ product_of r m))
mul_term_value r c m (t ∷ p) =
    let e : (c *ℤ t.0) *ℤ product_of r (merge m t.1) ≡ (c *ℤ product_of r m) *ℤ (t.0 *ℤ product_of r t.1) =
    ap (λ (n : ℤ). (c *ℤ t.0) *ℤ n) (merge_value r m t.1) ∙ exchange c t.0 (product_of r m) (product_of r t.1) in
    omega (
      arith,
      linear,
      add_term_value r (c *ℤ t.0) (merge m t.1) (mul_term c m p),
      mul_term_value r c m p,
      mul_add (c *ℤ product_of r m) (t.0 *ℤ product_of r t.1) (total_of r p),
    )

mul_terms_value : (r : List ℤ) (p q : List Term) → total_of r (mul_terms p q) ≡ total_of r p *ℤ total_of r q
mul_terms_value r [] q = sym (zero-*ℤ (total_of r q))
mul_terms_value r (t ∷ p) q =
    omega (
      arith,
      linear,
      add_terms_value r (mul_term t.0 t.1 q) (mul_terms p q),
      mul_term_value r t.0 t.1 q,
      mul_terms_value r p q,
      add_mul (t.0 *ℤ product_of r t.1) (total_of r p) (total_of r q),
    )

negate_value : (r : List ℤ) (p : List Term) → total_of r (negate p) ≡ neg_ℤ (total_of r p)
negate_value r [] = refl
negate_value r (t ∷ p) = omega (arith, linear, negate_value r p, neg_mul t.0 (product_of r t.1))

normal_value : (r : List ℤ) (a : Expr) → total_of r (normal a) ≡ eval r a
normal_value r (var i) = omega (arith, linear, one_mul (value_of r i *ℤ pos 1), mul_one (value_of r i))
normal_value r (lit c) = omega (arith, linear, put_value r c [] [], mul_one c)
normal_value r (neg a) = negate_value r (normal a) ∙ ap neg_ℤ (normal_value r a)
normal_value r (a ⊕ b) = omega (arith, linear, add_terms_value r (normal a) (normal b), normal_value r a, normal_value r b)
normal_value r (a ⊖ b) =
    omega (arith, linear, add_terms_value r (normal a) (negate (normal b)), negate_value r (normal b), normal_value r a, normal_value r b)
normal_value r (a ⊗ b) =
    mul_terms_value r (normal a) (normal b)
    ∙ ap (λ (n : ℤ). n *ℤ total_of r (normal b)) (normal_value r a)
    ∙ ap (λ (n : ℤ). eval r a *ℤ n) (normal_value r b)

-- two polynomials whose difference has no term are equal at all values
pub ring : (r : List ℤ) (a b : Expr) → normal (a ⊖ b) ≡ [] → eval r a ≡ eval r b
ring r a b e = omega (arith, linear, normal_value r (a ⊖ b), ap (total_of r) e)

-- the cross and the dot product of two vectors with these coordinates, as they are written
abbrev pub cross_of : Expr → Expr → Expr → Expr → Expr
cross_of a b c d = (a ⊗ d) ⊖ (b ⊗ c)

abbrev pub dot_of : Expr → Expr → Expr → Expr → Expr
dot_of a b c d = (a ⊗ c) ⊕ (b ⊗ d)
