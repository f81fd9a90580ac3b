-- Lemmas over points: directions, and directions times a radius, keep turns, parallels and opposites.
use Rattle.std.proofs.Common.{◌≡◌, ℕ, ◌+◌, ◌*◌, ◌<◌, ◌≤◌, refl, sym, ◌∙◌, ap, arith, [], ◌∷◌}
use Rattle.std.specs.Prelude.{ℤ, pos, ◌+ℤ◌, ◌*ℤ◌, ◌≤ℤ◌, ◌<ℤ◌, unsigned_abs}
use Rattle.std.proofs.Math.Nat.{mul-le-mul}
use Rattle.std.proofs.lemmas.Int.{unsigned_abs-mul}
use Rattle.mesh_plane.specs.Plane.{Point, opposite, cross, dot, length_sq}
use Rattle.mesh_plane.specs.Signs.{HasSignOf}
use Rattle.mesh_num.specs.Direction.{IsPart, IsDirection, SameWay, KeepsTurns}
use Rattle.mesh_plane.proofs.Whole.{linear, mul_nonneg, mul_nonpos_nonneg, nonneg_of_mul, nonpos_of_mul, mul_zero, neg_mul}
use Rattle.mesh_plane.proofs.Ring.{ring, var, ◌⊕◌, ◌⊗◌, cross_of, dot_of}
use Rattle.mesh_plane.proofs.Identities.{cross_flip}
use Rattle.mesh_plane.proofs.Sizes.{dot_self}
use Rattle.mesh_plane.proofs.Signs.{sign_self, sign_through, sign_product, order_kept, same_number}
use Rattle.mesh_num.proofs.Parts.{part_grows, has_length, direction_opposite}

-- a map of components that keeps signs and the order of sizes
pub record KeepsProducts (f : ℤ → ℤ) : Type 0 where
  pub signs : (x : ℤ) → HasSignOf x (f x)
  pub grows : (x y : ℤ) → unsigned_abs x ≤ unsigned_abs y → unsigned_abs (f x) ≤ unsigned_abs (f y)

pub keeps_self : KeepsProducts (λ (x : ℤ). x)
keeps_self = record { signs = sign_self; grows = λ x y h. h }

-- components a, b of one vector and c, d of another: where |bc| is at most |ad|, the same holds of the directions,
-- and of what `f` makes of them
products_kept : {unit l m : ℕ} {a b c d p q r s : ℤ} → (f : ℤ → ℤ) → KeepsProducts f → 0 < l → 0 < m
    → l ≡ unsigned_abs a * unsigned_abs a + unsigned_abs b * unsigned_abs b
    → m ≡ unsigned_abs c * unsigned_abs c + unsigned_abs d * unsigned_abs d
    → IsPart unit l a p → IsPart unit l b q → IsPart unit m c r → IsPart unit m d s
    → unsigned_abs (b *ℤ c) ≤ unsigned_abs (a *ℤ d) → unsigned_abs (f q *ℤ f r) ≤ unsigned_abs (f p *ℤ f s)
products_kept {unit} {l} {m} {a} {b} {c} {d} {p} {q} {r} {s} f k i j e g ha hb hc hd h =
    let o : unsigned_abs b * unsigned_abs c ≤ unsigned_abs a * unsigned_abs d = omega (arith, unsigned_abs-mul b c, unsigned_abs-mul a d) in
    let x : unsigned_abs r ≤ unsigned_abs p = part_grows j hc ha (share l m (unsigned_abs a) (unsigned_abs b) (unsigned_abs c) (unsigned_abs d) e g o) in
    let y : unsigned_abs q ≤ unsigned_abs s = part_grows i hb hd (turned l m (unsigned_abs a) (unsigned_abs b) (unsigned_abs c) (unsigned_abs d) e g o) in
    let z : unsigned_abs (f q) * unsigned_abs (f r) ≤ unsigned_abs (f s) * unsigned_abs (f p) = mul-le-mul (k.grows q s y) (k.grows r p x) in
    omega (arith, unsigned_abs-mul (f q) (f r), unsigned_abs-mul (f p) (f s))
  where
    share : (l m a b c d : ℕ) → l ≡ a * a + b * b → m ≡ c * c + d * d → b * c ≤ a * d → c * c * l ≤ a * a * m
    share l m a b c d e g h = let o : b * c * (b * c) ≤ a * d * (a * d) = mul-le-mul h h in rw (e, g) (omega arith)

    turned : (l m a b c d : ℕ) → l ≡ a * a + b * b → m ≡ c * c + d * d → b * c ≤ a * d → b * b * m ≤ d * d * l
    turned l m a b c d e g h = let o : b * c * (b * c) ≤ a * d * (a * d) = mul-le-mul h h in rw (e, g) (omega arith)

-- a turn to the left, by at most half a turn, is not turned to the right
pub turn_kept_by : {unit : ℕ} {v n w m : Point} → (f : ℤ → ℤ) → KeepsProducts f → IsDirection unit v n → IsDirection unit w m
    → pos 0 ≤ℤ cross v w → pos 0 ≤ℤ cross (f n.0, f n.1) (f m.0, f m.1)
turn_kept_by {unit} {v} {n} {w} {m} f k p q h =
    let a : HasSignOf v.0 (f n.0) = sign_through p.x.sign (k.signs n.0) in
    let b : HasSignOf v.1 (f n.1) = sign_through p.y.sign (k.signs n.1) in
    let c : HasSignOf w.0 (f m.0) = sign_through q.x.sign (k.signs m.0) in
    let d : HasSignOf w.1 (f m.1) = sign_through q.y.sign (k.signs m.1) in
    let i : 0 < length_sq v = has_length p in
    let j : 0 < length_sq w = has_length q in
    let g : (v.1 *ℤ w.0) ≤ℤ (v.0 *ℤ w.1) = omega (arith, linear) in
    let o : (f n.1 *ℤ f m.0) ≤ℤ (f n.0 *ℤ f m.1) =
    order_kept (v.0 *ℤ w.1) (f n.0 *ℤ f m.1) (v.1 *ℤ w.0) (f n.1 *ℤ f m.0) (sign_product a d) (sign_product b c)
    (products_kept f k i j refl refl p.x p.y q.x q.y)
    (products_kept f k i j (omega arith) (omega arith) p.y p.x q.y q.x)
    g in
    omega (arith, linear)

-- two vectors on one line have directions on one line
pub parallel_kept_by : {unit : ℕ} {v n w m : Point} → (f : ℤ → ℤ) → KeepsProducts f → IsDirection unit v n → IsDirection unit w m
    → cross v w ≡ pos 0 → cross (f n.0, f n.1) (f m.0, f m.1) ≡ pos 0
parallel_kept_by {unit} {v} {n} {w} {m} f k p q e =
    let a : pos 0 ≤ℤ cross (f n.0, f n.1) (f m.0, f m.1) = turn_kept_by f k p q (omega (arith, linear)) in
    let b : pos 0 ≤ℤ cross w v = omega (arith, linear, cross_flip v w) in
    let c : pos 0 ≤ℤ cross (f m.0, f m.1) (f n.0, f n.1) = turn_kept_by f k q p b in
    omega (arith, linear, cross_flip (f n.0, f n.1) (f m.0, f m.1))

-- ---- directions

pub turn_kept : {unit : ℕ} {v n w m : Point} → IsDirection unit v n → IsDirection unit w m → pos 0 ≤ℤ cross v w → pos 0 ≤ℤ cross n m
turn_kept p q h = turn_kept_by (λ (x : ℤ). x) keeps_self p q h

pub direction_keeps_turns : {unit : ℕ} {v n : Point} → IsDirection unit v n → KeepsTurns unit v n
direction_keeps_turns p w m q h = turn_kept p q h

-- a component of a vector has the sign of that of a parallel vector that looks the same way
same_signs : (a b c d : ℤ) → pos 0 <ℤ dot (a, b) (a, b) → cross (a, b) (c, d) ≡ pos 0 → pos 0 <ℤ dot (a, b) (c, d) → HasSignOf a c
same_signs a b c d l e h =
    let x = var 0 in
    let y = var 1 in
    let z = var 2 in
    let t = var 3 in
    let i : a *ℤ dot (a, b) (c, d) ≡ (dot (a, b) (a, b) *ℤ c) +ℤ (b *ℤ cross (a, b) (c, d)) =
    ring (a ∷ b ∷ c ∷ d ∷ []) (x ⊗ dot_of x y z t) ((dot_of x y x y ⊗ z) ⊕ (y ⊗ cross_of x y z t)) refl in
    let j : b *ℤ cross (a, b) (c, d) ≡ pos 0 = ap (λ (n : ℤ). b *ℤ n) e ∙ mul_zero b in
    record {
      nonneg = λ k.
          let o : pos 0 ≤ℤ (a *ℤ dot (a, b) (c, d)) = mul_nonneg a (dot (a, b) (c, d)) k (omega (arith, linear)) in
          nonneg_of_mul (dot (a, b) (a, b)) c l (omega (arith, linear));
      nonpos = λ k.
          let o : (a *ℤ dot (a, b) (c, d)) ≤ℤ pos 0 = mul_nonpos_nonneg a (dot (a, b) (c, d)) k (omega (arith, linear)) in
          nonpos_of_mul (dot (a, b) (a, b)) c l (omega (arith, linear));
    }

-- parallel components have one share of their vectors
same_share : (a b c d : ℤ) → cross (a, b) (c, d) ≡ pos 0
    → unsigned_abs c * unsigned_abs c * (unsigned_abs a * unsigned_abs a + unsigned_abs b * unsigned_abs b)
    ≡ unsigned_abs a * unsigned_abs a * (unsigned_abs c * unsigned_abs c + unsigned_abs d * unsigned_abs d)
same_share a b c d e =
    let i : a *ℤ d ≡ b *ℤ c = omega (arith, linear) in
    let j : unsigned_abs a * unsigned_abs d ≡ unsigned_abs b * unsigned_abs c = sym (unsigned_abs-mul a d) ∙ ap unsigned_abs i ∙ unsigned_abs-mul b c in
    equal (unsigned_abs a) (unsigned_abs b) (unsigned_abs c) (unsigned_abs d) j
  where
    equal : (a b c d : ℕ) → a * d ≡ b * c → c * c * (a * a + b * b) ≡ a * a * (c * c + d * d)
    equal a b c d e = let f : a * d * (a * d) ≡ b * c * (b * c) = ap (λ (n : ℕ). n * n) e in omega arith

-- parallel vectors that look the same way have one direction
pub same_kept : {unit : ℕ} {v n w m : Point} → IsDirection unit v n → IsDirection unit w m → cross v w ≡ pos 0 → pos 0 <ℤ dot v w → n ≡ m
same_kept {unit} {v} {n} {w} {m} p q e h =
    let i : 0 < length_sq v = has_length p in
    let j : 0 < length_sq w = has_length q in
    let l : pos 0 <ℤ dot v v = omega (arith, linear, dot_self v) in
    let f : cross (v.1, v.0) (w.1, w.0) ≡ pos 0 = omega (arith, linear) in
    let x : HasSignOf v.0 w.0 = same_signs v.0 v.1 w.0 w.1 l e h in
    let y : HasSignOf v.1 w.1 = same_signs v.1 v.0 w.1 w.0 (omega (arith, linear)) f (omega (arith, linear)) in
    let s = same_share v.0 v.1 w.0 w.1 e in
    let t = same_share v.1 v.0 w.1 w.0 f in
    let a : unsigned_abs n.0 ≤ unsigned_abs m.0 = part_grows i p.x q.x (omega (arith, s)) in
    let b : unsigned_abs m.0 ≤ unsigned_abs n.0 = part_grows j q.x p.x (omega (arith, s)) in
    let c : unsigned_abs n.1 ≤ unsigned_abs m.1 = part_grows i p.y q.y (omega (arith, t)) in
    let d : unsigned_abs m.1 ≤ unsigned_abs n.1 = part_grows j q.y p.y (omega (arith, t)) in
    λ k.
    (same_number p.x.sign (sign_through x q.x.sign) (omega arith) k, same_number p.y.sign (sign_through y q.y.sign) (omega arith) k)

pub direction_same_way : {unit : ℕ} {v n : Point} → IsDirection unit v n → SameWay unit v n
direction_same_way p w m q e h = same_kept p q e h

-- parallel vectors that look opposite ways have opposite directions, for joins and caps where an edge turns back
pub opposite_kept : {unit : ℕ} {v n w m : Point} → IsDirection unit v n → IsDirection unit w m → cross v w ≡ pos 0 → dot v w <ℤ pos 0 → m ≡ opposite n
opposite_kept {unit} {v} {n} {w} {m} p q e h =
    sym
    (same_kept
    (direction_opposite p)
    q
    (omega (arith, linear, neg_mul v.0 w.1, neg_mul v.1 w.0))
    (omega (arith, linear, neg_mul v.0 w.0, neg_mul v.1 w.1)))
