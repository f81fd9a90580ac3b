-- Lemmas over points and lists: tests of numbers, points and edges, and the orders that sorts and maps go by.
use Rattle.std.proofs.Common.{◌≡◌, Bool, true, false, cond, ◌||◌, ◌&&◌, refl, sym, ap, arith, Ordering}
use Rattle.std.specs.Prelude.{ℤ, ◌≤ℤ◌, ◌<ℤ◌, int_le, int_lt}
use Rattle.std.specs.Bool.{Decides}
use Rattle.std.specs.declared.cmp.Ordering.TheVariants.{Less, Equal, Greater}
use Rattle.std.specs.Ordering.{int_cmp, ordering_then, is_lt, is_eq}
use Rattle.std.proofs.lemmas.Bool.{false_from_ne_true}
use Rattle.std.proofs.lemmas.Bool.Decides.{Decides-int_eq, Decides-and, Decides-like, same_from_decides}
use Rattle.std.proofs.lemmas.Int.{ints}
use Rattle.mesh_plane.specs.Plane.{Point, Edge}
use Rattle.mesh_plane.specs.Winding.{same_point}

-- ---- tests

pub less_test : (a b : ℤ) → a <ℤ b → int_lt a b ≡ true
less_test a b h = grind (arith, ints)

pub not_less_test : (a b : ℤ) → b ≤ℤ a → int_lt a b ≡ false
not_less_test a b h = grind (arith, ints)

pub test_less : (a b : ℤ) → int_lt a b ≡ true → a <ℤ b
test_less a b h = grind (arith, ints)

pub test_not_less : (a b : ℤ) → int_lt a b ≡ false → b ≤ℤ a
test_not_less a b h = grind (arith, ints)

pub at_most_test : (a b : ℤ) → a ≤ℤ b → int_le a b ≡ true
at_most_test a b h = grind (arith, ints)

pub test_at_most : (a b : ℤ) → int_le a b ≡ true → a ≤ℤ b
test_at_most a b h = grind (arith, ints)

pub test_above : (a b : ℤ) → int_le a b ≡ false → b <ℤ a
test_above a b h = grind (arith, ints)

pub decides_point : (p q : Point) → Decides (same_point p q) (p ≡ q)
decides_point p q =
    Decides-like (same_point p q) (λ (h : (p.0 ≡ q.0) × (p.1 ≡ q.1)). λ i. (h.0 i, h.1 i))
    (λ (h : p ≡ q). (ap (λ (v : Point). v.0) h, ap (λ (v : Point). v.1) h))
    (Decides-and _ _ (Decides-int_eq p.0 q.0) (Decides-int_eq p.1 q.1))

pub point_self : (p : Point) → same_point p p ≡ true
point_self p = (decides_point p p).1 refl

pub points_apart : (p q : Point) → (p ≡ q → ⊥) → same_point p q ≡ false
points_apart p q n = false_from_ne_true (same_point p q) (λ e. n ((decides_point p q).0 e))

pub points_swap : (p q : Point) → same_point q p ≡ same_point p q
points_swap p q = same_from_decides (same_point q p) (same_point p q) (Decides-like (same_point q p) sym sym (decides_point q p)) (decides_point p q)

-- ---- orders

-- the order of points and that of edges, by their coordinates in turn
abbrev pub point_cmp : Point → Point → Ordering
point_cmp p q = ordering_then (int_cmp p.0 q.0) (int_cmp p.1 q.1)

abbrev pub edge_cmp : Edge → Edge → Ordering
edge_cmp e f = ordering_then (ordering_then (int_cmp e.0.0 f.0.0) (int_cmp e.0.1 f.0.1)) (ordering_then (int_cmp e.1.0 f.1.0) (int_cmp e.1.1 f.1.1))

pub cmp_lt : (a b : ℤ) → is_lt (int_cmp a b) ≡ int_lt a b
cmp_lt a b = by (int_lt a b) (int_lt b a)
  where
    by : (x y : Bool) → is_lt (cond x Less (cond y Greater Equal)) ≡ x
    by true y = refl
    by false true = refl
    by false false = refl

pub then_lt : (o p : Ordering) → is_lt (ordering_then o p) ≡ (is_lt o || (is_eq o && is_lt p))
then_lt Less p = refl
then_lt Equal p = refl
then_lt Greater p = refl

pub then_eq : (o p : Ordering) → is_eq (ordering_then o p) ≡ (is_eq o && is_eq p)
then_eq Less p = refl
then_eq Equal p = refl
then_eq Greater p = refl

-- what is not less is not less by the first order already
pub first_not_less : (o p : Ordering) → is_lt (ordering_then o p) ≡ false → is_lt o ≡ false
first_not_less Less p h = h
first_not_less Equal p h = refl
first_not_less Greater p h = refl
