-- Lemmas over points and lists: the farthest point where one more is looked at.
use Rattle.std.proofs.Common.{◌≡◌, ℕ, ◌+◌, ◌<◌, ◌≤◌, cond, List, [], ◌∷◌, ◌++◌, length, get_or, take, sym, ◌∙◌, ap, arith}
use Rattle.std.specs.Prelude.{ℤ, nat_le, nat_lt, ◌-ℤ◌, unsigned_abs}
use Rattle.std.proofs.Math.Nat.{max-le}
use Rattle.std.proofs.lemmas.Bool.Decides.{nat_tests}
use Rattle.std.proofs.lemmas.Int.{ints}
use Rattle.std.proofs.lemmas.List.{take_more}
use Rattle.mesh_plane.specs.Plane.{Point}
use Rattle.mesh_slivers.specs.Slivers.{distance, farther, farthest}
use Rattle.mesh_slivers.proofs.Winding.{one_point}

merged : (f : Point → ℕ) (x y b : Point) →
    cond (nat_le (f (cond (nat_lt (f b) (f x)) x b)) (f y)) y (cond (nat_lt (f b) (f x)) x b) ≡ cond (nat_lt (f (cond (nat_le (f b) (f y)) y b)) (f x)) x (cond (nat_le (f b) (f y)) y b)
merged f x y b = grind (arith, nat_tests)

begun : (f : Point → ℕ) (x a : Point) → f a ≡ 0 → (f x ≤ 0 → x ≡ a) → cond (nat_le (f a) (f x)) x a ≡ cond (nat_lt (f a) (f x)) x a
begun f x a none same = grind (arith, nat_tests)

itself : (a : Point) → distance a a ≡ 0
itself a = let most : distance a a ≤ 0 = max-le (size a.0) (size a.1) in omega arith
  where
    size : (z : ℤ) → unsigned_abs (z -ℤ z) ≤ 0
    size z = omega (arith, ints)

farthest_push : (a : Point) (xs : List Point) (x : Point) → farthest a (xs ++ x ∷ []) ≡ cond (nat_lt (distance a (farthest a xs)) (distance a x)) x (farthest a xs)
farthest_push a [] x = begun (distance a) x a (itself a) (one_point a x)
farthest_push a (y ∷ xs) x = ap (farther a y) (farthest_push a xs x) ∙ merged (distance a) x y (farthest a xs)

farthest_more : (a : Point) (xs : List Point) (i : ℕ) (d : Point) → i < length xs →
    farthest a (take (i + 1) xs) ≡ cond (nat_lt (distance a (farthest a (take i xs))) (distance a (get_or xs i d))) (get_or xs i d) (farthest a (take i xs))
farthest_more a xs i d h = ap (farthest a) (take_more xs i d h) ∙ farthest_push a (take i xs) (get_or xs i d)

more : (a : Point) (xs : List Point) (i : ℕ) (x b : Point) → i < length xs → x ≡ get_or xs i x → b ≡ farthest a (take i xs) →
    farthest a (take (i + 1) xs) ≡ cond (nat_lt (distance a b) (distance a x)) x b
more a xs i x b h e f =
    farthest_more a xs i x h
    ∙ (λ j. cond (nat_lt (distance a (sym f j)) (distance a (sym e j))) (sym e j) (sym f j))

by_more : (s t : ℕ) (x b : Point) → s < t → cond (nat_lt s t) x b ≡ x
by_more s t x b h = grind (arith, nat_tests)

by_less : (s t : ℕ) (x b : Point) → t ≤ s → cond (nat_lt s t) x b ≡ b
by_less s t x b h = grind (arith, nat_tests)

-- where a point is farther than the farthest before it, it is the farthest now; else that one stays so
pub moved : (a : Point) (xs : List Point) (i : ℕ) (x b : Point) → i < length xs → x ≡ get_or xs i x → b ≡ farthest a (take i xs) →
    distance a b < distance a x → x ≡ farthest a (take (i + 1) xs)
moved a xs i x b h e f l = sym (more a xs i x b h e f ∙ by_more (distance a b) (distance a x) x b l)

pub stayed : (a : Point) (xs : List Point) (i : ℕ) (x b : Point) → i < length xs → x ≡ get_or xs i x → b ≡ farthest a (take i xs) →
    distance a x ≤ distance a b → b ≡ farthest a (take (i + 1) xs)
stayed a xs i x b h e f l = sym (more a xs i x b h e f ∙ by_less (distance a b) (distance a x) x b l)
