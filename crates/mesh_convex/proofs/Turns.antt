-- Lemmas over whole numbers: points that turn to the left, three by three.
use Rattle.std.proofs.Common.{◌≡◌, ◌⊎◌, ⊎_elim, inl, inr, ℕ, zero, suc, ◌<◌, ◌≤◌, ◌-◌, List, [], ◌∷◌, length, refl, sym, ap, subst, arith}
use Rattle.std.specs.Prelude.{ℤ, pos, ◌<ℤ◌, ◌≤ℤ◌, ◌+ℤ◌, ◌*ℤ◌}
use lib.IntN.{*ℤ_comm}
use Rattle.std.proofs.lemmas.Int.{ints}
use Rattle.mesh_plane.specs.Plane.{Point, Edge, cross, minus, turn}
use Rattle.mesh_plane.proofs.Crossings.{turn_cycle}
use Rattle.mesh_plane.proofs.PointExprs.{apart, coordinates, crossed, point_var, turned}
use Rattle.mesh_plane.proofs.Ring.{ring, ◌⊕◌, ◌⊗◌}
use Rattle.mesh_plane.proofs.Whole.{mul_pos, pos_of_mul}
use Rattle.mesh_convex.specs.Convex.{edge_at, start_at, IsConvexLoop, IsTurningOn, TurnLeft}

-- of four vectors, the products of two pairs in the middle are those of the outer ones
between : (h a b c : Point) → cross h b *ℤ cross a c ≡ (cross h a *ℤ cross b c) +ℤ (cross h c *ℤ cross a b)
between h a b c =
    let v = point_var 0 in
    let x = point_var 1 in
    let y = point_var 2 in
    let z = point_var 3 in
    ring (coordinates (h ∷ a ∷ b ∷ c ∷ []) []) (crossed v y ⊗ crossed x z) ((crossed v x ⊗ crossed y z) ⊕ (crossed v z ⊗ crossed x y)) refl

sum_pos : (x y : ℤ) → pos 0 <ℤ x → pos 0 <ℤ y → pos 0 <ℤ (x +ℤ y)
sum_pos x y h k = omega (arith, ints)

swapped : (x y : ℤ) → x *ℤ y ≡ y *ℤ x
swapped x y = *ℤ_comm x y

outer_pos : (h a b c : Point) → pos 0 <ℤ cross h a → pos 0 <ℤ cross b c → pos 0 <ℤ cross h c → pos 0 <ℤ cross a b → pos 0 <ℤ (cross h b *ℤ cross a c)
outer_pos h a b c ha bc hc ab =
    subst (λ (n : ℤ). pos 0 <ℤ n) (sym (between h a b c))
    (sum_pos (cross h a *ℤ cross b c) (cross h c *ℤ cross a b) (mul_pos (cross h a) (cross b c) ha bc) (mul_pos (cross h c) (cross a b) hc ab))

nonneg : (x : ℤ) → pos 0 <ℤ x → pos 0 ≤ℤ x
nonneg x h = omega (arith, ints)

-- vectors to the left of one, each to the left of the one before
ahead : (h a b c : Point) → pos 0 <ℤ cross h a → pos 0 <ℤ cross h b → pos 0 <ℤ cross h c → pos 0 <ℤ cross a b → pos 0 <ℤ cross b c → pos 0 <ℤ cross a c
ahead h a b c ha hb hc ab bc = pos_of_mul (cross h b) (cross a c) (nonneg (cross h b) hb) (outer_pos h a b c ha bc hc ab)

-- the same of a vector in the middle
amid : (h a b c : Point) → pos 0 <ℤ cross h a → pos 0 <ℤ cross h c → pos 0 <ℤ cross a b → pos 0 <ℤ cross b c → pos 0 <ℤ cross a c → pos 0 <ℤ cross h b
amid h a b c ha hc ab bc ac =
    pos_of_mul (cross a c) (cross h b) (nonneg (cross a c) ac)
    (subst (λ (n : ℤ). pos 0 <ℤ n) (swapped (cross h b) (cross a c)) (outer_pos h a b c ha bc hc ab))

-- ---- turns

-- a turn seen from another of its points
pub cycled : (p r s : Point) → pos 0 <ℤ turn p r s → pos 0 <ℤ turn r s p
cycled p r s h = subst (λ (n : ℤ). pos 0 <ℤ n) (turn_cycle p r s) h

pub twice : (p r s : Point) → pos 0 <ℤ turn p r s → pos 0 <ℤ turn s p r
twice p r s h = cycled r s p (cycled p r s h)

onward : (p x b : Point) → turn p x b ≡ cross (minus x p) (minus b x)
onward p x b =
    ring (coordinates (p ∷ x ∷ b ∷ []) []) (turned (point_var 0) (point_var 1) (point_var 2))
    (crossed (apart (point_var 1) (point_var 0)) (apart (point_var 2) (point_var 1))) refl

led : (p x b : Point) → pos 0 <ℤ turn p x b → pos 0 <ℤ cross (minus x p) (minus b x)
led p x b h = subst (λ (n : ℤ). pos 0 <ℤ n) (onward p x b) h

-- ---- one more point

pub less_or_same : (j n : ℕ) → j ≤ n → (j < n) ⊎ (j ≡ n)
less_or_same zero zero h = inr refl
less_or_same zero (suc n) h = inl (omega arith)
less_or_same (suc j) zero h = absurd (omega arith)
less_or_same (suc j) (suc n) h = ⊎_elim (λ (l : j < n). inl (omega (arith, l))) (λ (e : j ≡ n). inr (ap suc e)) (less_or_same j n (omega (arith, h)))

-- the last point but one, the last one and a new one, and those of an edge that goes on to it
abbrev IsNext : (ℕ → Point) → ℕ → Type 0
IsNext p k = IsTurningOn (p 0) (p 1) (p k) (p (suc k), p (suc (suc k)))

-- seen from the first point, the new one lies to the left of each
seen_all : (p : ℕ → Point) (k : ℕ) → TurnLeft p (suc (suc k)) → IsNext p k → (j : ℕ) → 0 < j → j ≤ suc k → pos 0 <ℤ turn (p 0) (p j) (p (suc (suc k)))
seen_all p k left t j some most =
    ⊎_elim
    (λ (low : j < suc k).
    ⊎_elim
    (λ (more : 1 < j).
    ahead (minus (p 1) (p 0)) (minus (p j) (p 0)) (minus (p (suc k)) (p 0)) (minus (p (suc (suc k))) (p 0)) (left 0 1 j (omega arith) more (omega (arith, low)))
    (left 0 1 (suc k) (omega arith) (omega (arith, low, more)) (omega arith)) t.beside (left 0 j (suc k) some low (omega arith)) t.seen)
    (λ (one : 1 ≡ j). subst (λ (i : ℕ). pos 0 <ℤ turn (p 0) (p i) (p (suc (suc k)))) one t.beside)
    (less_or_same 1 j (omega (arith, some))))
    (λ (last : j ≡ suc k). subst (λ (i : ℕ). pos 0 <ℤ turn (p 0) (p i) (p (suc (suc k)))) (sym last) t.seen)
    (less_or_same j (suc k) most)

-- the way from each point over the last one turns to the left
onto_last : (p : ℕ → Point) (k : ℕ) → TurnLeft p (suc (suc k)) → IsNext p k → (i : ℕ) → i ≤ k → pos 0 <ℤ turn (p i) (p (suc k)) (p (suc (suc k)))
onto_last p k left t i most =
    ⊎_elim
    (λ (low : i < k).
    ⊎_elim
    (λ (more : 0 < i).
    let y = p (suc k) in
    let z = p (suc (suc k)) in
    twice y z (p i)
    (amid (minus z y) (minus (p 0) y) (minus (p i) y) (minus (p k) y) (cycled (p 0) y z t.seen) (cycled (p k) y z t.at_corner)
    (twice (p 0) (p i) y (left 0 i (suc k) more (omega (arith, low)) (omega arith)))
    (twice (p i) (p k) y (left i k (suc k) low (omega arith) (omega arith)))
    (twice (p 0) (p k) y (left 0 k (suc k) (omega (arith, low)) (omega arith) (omega arith)))))
    (λ (none : 0 ≡ i). subst (λ (n : ℕ). pos 0 <ℤ turn (p n) (p (suc k)) (p (suc (suc k)))) none t.seen)
    (less_or_same 0 i (omega arith)))
    (λ (last : i ≡ k). subst (λ (n : ℕ). pos 0 <ℤ turn (p n) (p (suc k)) (p (suc (suc k)))) (sym last) t.at_corner)
    (less_or_same i k most)

-- and so does that over each other one
over_each : (p : ℕ → Point) (k : ℕ) → TurnLeft p (suc (suc k)) → IsNext p k → (i j : ℕ) → i < j → j < suc k → pos 0 <ℤ turn (p i) (p j) (p (suc (suc k)))
over_each p k left t i j low most =
    ⊎_elim
    (λ (more : 0 < i).
    let x = p i in
    let y = p (suc k) in
    let z = p (suc (suc k)) in
    ahead (minus x (p 0)) (minus (p j) x) (minus y x) (minus z x) (led (p 0) x (p j) (left 0 i j more low (omega (arith, most))))
    (led (p 0) x y (left 0 i (suc k) more (omega (arith, low, most)) (omega arith)))
    (led (p 0) x z (seen_all p k left t i more (omega (arith, low, most))))
    (left i j (suc k) low most (omega arith))
    (onto_last p k left t i (omega (arith, low, most))))
    (λ (none : 0 ≡ i). subst (λ (n : ℕ). pos 0 <ℤ turn (p n) (p j) (p (suc (suc k)))) none (seen_all p k left t j (omega (arith, low)) (omega (arith, most))))
    (less_or_same 0 i (omega arith))

one_more : (p : ℕ → Point) (k : ℕ) → TurnLeft p (suc (suc k)) → IsNext p k → TurnLeft p (suc (suc (suc k)))
one_more p k left t i j m low mid most =
    ⊎_elim
    (λ (old : m < suc (suc k)). left i j m low mid old)
    (λ (new : m ≡ suc (suc k)).
    subst (λ (n : ℕ). pos 0 <ℤ turn (p i) (p j) (p n)) (sym new)
    (⊎_elim
    (λ (h : j < suc k). over_each p k left t i j low h)
    (λ (last : j ≡ suc k). subst (λ (n : ℕ). pos 0 <ℤ turn (p i) (p n) (p (suc (suc k)))) (sym last) (onto_last p k left t i (omega (arith, low, last))))
    (less_or_same j (suc k) (omega (arith, mid, new)))))
    (less_or_same m (suc (suc k)) (omega (arith, most)))

-- an edge that goes on, with its end and the second point named otherwise
pub turning_on : (first second q before : Point) (e : Edge) (z : Point) → second ≡ q → e.1 ≡ z → IsTurningOn first second before e → IsTurningOn first q before (e.0, z)
turning_on first second q before e z same end t = subst (λ (r : Point). IsTurningOn first q before (e.0, r)) end (subst (λ (r : Point). IsTurningOn first r before e) same t)

-- where an edge goes on to the left, so do all points with its end
pub turn_on : (p : ℕ → Point) (k : ℕ) → 0 < k → TurnLeft p (suc k) → IsTurningOn (p 0) (p 1) (p (k - 1)) (p k, p (suc k)) → TurnLeft p (suc (suc k))
turn_on p zero some left t = absurd (omega (arith, some))
turn_on p (suc k) some left t =
    let before : suc k - 1 ≡ k = omega arith in
    one_more p k left (subst (λ (n : ℕ). IsTurningOn (p 0) (p 1) (p n) (p (suc k), p (suc (suc k)))) before t)

-- so each edge of a convex loop does
pub loop_turns : (es : List Edge) → IsConvexLoop es → (k : ℕ) → 0 < k → suc k < length es → IsTurningOn (start_at es 0) (edge_at es 0).1 (start_at es (k - 1)) (edge_at es k)
loop_turns es c zero some low = absurd (omega (arith, some))
loop_turns es c (suc k) some low =
    let before : suc k - 1 ≡ k = omega arith in
    let end : start_at es (suc (suc k)) ≡ (edge_at es (suc k)).1 = sym (c.chained (suc k) low) in
    let second : start_at es 1 ≡ (edge_at es 0).1 = sym (c.chained 0 (omega (arith, low))) in
    subst (λ (n : ℕ). IsTurningOn (start_at es 0) (edge_at es 0).1 (start_at es n) (edge_at es (suc k))) (sym before)
    (record {
      at_corner = subst (λ (z : Point). pos 0 <ℤ turn (start_at es k) (start_at es (suc k)) z) end (c.left k (suc k) (suc (suc k)) (omega arith) (omega arith) low);
      seen = subst (λ (z : Point). pos 0 <ℤ turn (start_at es 0) (start_at es (suc k)) z) end (c.left 0 (suc k) (suc (suc k)) (omega arith) (omega arith) low);
      beside =
          subst (λ (z : Point). pos 0 <ℤ turn (start_at es 0) (edge_at es 0).1 z) end
          (subst (λ (r : Point). pos 0 <ℤ turn (start_at es 0) r (start_at es (suc (suc k)))) second (c.left 0 1 (suc (suc k)) (omega arith) (omega arith) low));
    })
