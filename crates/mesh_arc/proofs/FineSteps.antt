-- Lemmas over points: a default step from a long direction leads on, and takes at most 4 from its length.
use Rattle.std.proofs.Common.{◌≡◌, ℕ, ◌+◌, ◌-◌, ◌*◌, ◌^◌, ◌<◌, ◌≤◌, true, [], ◌∷◌, refl, sym, ap, ◌∙◌, subst, arith, zero, suc, lit≤, ◌⊎◌, ⊎_elim}
use Rattle.std.specs.Prelude.{ℤ, pos, negsuc, ◌+ℤ◌, ◌-ℤ◌, ◌*ℤ◌, ◌≤ℤ◌, ◌<ℤ◌, neg_ℤ, unsigned_abs}
use Rattle.std.proofs.Math.Nat.{mul-le-mul}
use Rattle.std.proofs.lemmas.Bool.{cases_lt}
use Rattle.std.proofs.lemmas.Int.{ints, unsigned_abs-mul}
use Rattle.mesh_plane.specs.Plane.{Point, cross, dot, length_sq}
use Rattle.mesh_plane.proofs.Ring.{ring, var, lit, ◌⊕◌, ◌⊖◌, ◌⊗◌, cross_of, dot_of}
use Rattle.mesh_plane.proofs.Sizes.{le_of_squares, lt_of_squares, two_products, dot_self}
use Rattle.mesh_plane.proofs.Whole.{linear, neg_mul, mul_le_mul_right}
use Rattle.mesh_num.specs.Rotation.{cut, rotated, turned_round}
use Rattle.mesh_num.specs.Direction.{IsShort, IsFresh}
use Rattle.mesh_num.proofs.Rotations.{cut_size, whole_length, rotated_length, turned_round_length}
use Rattle.mesh_sine.specs.Sine.{sin_cos, IsWithinOne}
use Rattle.mesh_arc.specs.Arcs.{ahead, step_bits, step_of, is_good, turned_times}
use Rattle.mesh_arc.specs.Gaps.{NoStepFails, default_options}
use Rattle.mesh_arc.specs.declared.arc.ArcDirection.{ArcDirection}
use Rattle.mesh_arc.specs.declared.arc.ArcDirection.TheVariants.{Clockwise, Counterclockwise}
use Rattle.mesh_arc.proofs.Passing.{good_from}
use Rattle.mesh_arc.proofs.StepConstants.{narrow_step, wide_step, greatest_step}

-- what is used of the sine and the cosine of a default step; 1073741822 is 2 ^ 30 - 2
pub record IsFineStep (s : Point) : Type 0 where
  pub sine : pos (2 ^ 20) ≤ℤ s.0
  pub wide : pos (2 ^ 20) ≤ℤ (s.1 -ℤ s.0)
  pub short : IsWithinOne s
  pub long : 1073741822 * 1073741822 ≤ length_sq s

-- sine and cosine of a turn to the left, in this sense
abbrev pub sensed : ArcDirection → Point → Point
sensed Counterclockwise s = s
sensed Clockwise s = turned_round s

-- ---- what cutting leaves

cut_rest : (a : ℤ) → unsigned_abs (a -ℤ (pos (2 ^ 30) *ℤ cut a)) ≤ 2 ^ 30
cut_rest (pos a) = omega (arith, ints)
cut_rest (negsuc a) = omega (arith, ints)

-- the components of a turned vector before they are cut
abbrev whole_x : Point → Point → ℤ
whole_x s d = (s.1 *ℤ d.0) -ℤ (s.0 *ℤ d.1)

abbrev whole_y : Point → Point → ℤ
whole_y s d = (s.0 *ℤ d.0) +ℤ (s.1 *ℤ d.1)

-- K (d×v) = sine |d|² - (d.x ey - d.y ex), where ex and ey are what cutting takes
cross_whole : (s d v : Point) → pos (2 ^ 30) *ℤ cross d v
    ≡ (s.0 *ℤ dot d d) -ℤ ((d.0 *ℤ (whole_y s d -ℤ (pos (2 ^ 30) *ℤ v.1))) -ℤ (d.1 *ℤ (whole_x s d -ℤ (pos (2 ^ 30) *ℤ v.0))))
cross_whole s d v =
    let a = var 0 in
    let b = var 1 in
    let x = var 2 in
    let y = var 3 in
    let p = var 4 in
    let q = var 5 in
    let k = lit (pos (2 ^ 30)) in
    ring (s.0 ∷ s.1 ∷ d.0 ∷ d.1 ∷ v.0 ∷ v.1 ∷ [])
    (k ⊗ cross_of x y p q)
    ((a ⊗ dot_of x y x y) ⊖ ((x ⊗ (((a ⊗ x) ⊕ (b ⊗ y)) ⊖ (k ⊗ q))) ⊖ (y ⊗ (((b ⊗ x) ⊖ (a ⊗ y)) ⊖ (k ⊗ p)))))
    refl

-- K (d·v) = cosine |d|² - (d.x ex + d.y ey)
dot_whole : (s d v : Point) → pos (2 ^ 30) *ℤ dot d v
    ≡ (s.1 *ℤ dot d d) -ℤ ((d.0 *ℤ (whole_x s d -ℤ (pos (2 ^ 30) *ℤ v.0))) +ℤ (d.1 *ℤ (whole_y s d -ℤ (pos (2 ^ 30) *ℤ v.1))))
dot_whole s d v =
    let a = var 0 in
    let b = var 1 in
    let x = var 2 in
    let y = var 3 in
    let p = var 4 in
    let q = var 5 in
    let k = lit (pos (2 ^ 30)) in
    ring (s.0 ∷ s.1 ∷ d.0 ∷ d.1 ∷ v.0 ∷ v.1 ∷ [])
    (k ⊗ dot_of x y p q)
    ((b ⊗ dot_of x y x y) ⊖ ((x ⊗ (((b ⊗ x) ⊖ (a ⊗ y)) ⊖ (k ⊗ p))) ⊕ (y ⊗ (((a ⊗ x) ⊕ (b ⊗ y)) ⊖ (k ⊗ q)))))
    refl

-- a component of at most `unit` times what cutting leaves
rest_size : (unit : ℕ) (x e : ℤ) → unsigned_abs x ≤ unit → unsigned_abs e ≤ 2 ^ 30 → unsigned_abs (x *ℤ e) ≤ unit * 2 ^ 30
rest_size unit x e h l =
    let p : unsigned_abs x * unsigned_abs e ≤ unit * 2 ^ 30 = mul-le-mul h l in
    omega (arith, unsigned_abs-mul x e)

-- both products of a direction and its turned one, times 2 ^ 30, up to what cutting takes
record IsTurned (sine cosine rest c e : ℤ) : Type 0 where
  cross_above : (sine -ℤ rest) ≤ℤ c
  cross_below : c ≤ℤ (sine +ℤ rest)
  dot_above : (cosine -ℤ rest) ≤ℤ e

turned_by : (sine cosine c e xx xy yx yy : ℤ) (m : ℕ) → c ≡ sine -ℤ (xy -ℤ yx) → e ≡ cosine -ℤ (xx +ℤ yy)
    → unsigned_abs xx ≤ m → unsigned_abs xy ≤ m → unsigned_abs yx ≤ m → unsigned_abs yy ≤ m → IsTurned sine cosine (pos (2 * m)) c e
turned_by sine cosine c e xx xy yx yy m p q h i j k = record {
  cross_above = omega (arith, ints);
  cross_below = omega (arith, ints);
  dot_above = omega (arith, ints);
}

is_turned : (unit : ℕ) (s d : Point) → length_sq d ≤ unit * unit
    → IsTurned (s.0 *ℤ dot d d) (s.1 *ℤ dot d d) (pos (2 * (unit * 2 ^ 30))) (pos (2 ^ 30) *ℤ cross d (rotated s d)) (pos (2 ^ 30) *ℤ dot d (rotated s d))
is_turned unit s d h =
    let x : unsigned_abs d.0 ≤ unit = le_of_squares (unsigned_abs d.0) unit (omega arith) in
    let y : unsigned_abs d.1 ≤ unit = le_of_squares (unsigned_abs d.1) unit (omega arith) in
    let v = rotated s d in
    let ex = whole_x s d -ℤ (pos (2 ^ 30) *ℤ v.0) in
    let ey = whole_y s d -ℤ (pos (2 ^ 30) *ℤ v.1) in
    turned_by (s.0 *ℤ dot d d) (s.1 *ℤ dot d d) (pos (2 ^ 30) *ℤ cross d v) (pos (2 ^ 30) *ℤ dot d v) (d.0 *ℤ ex) (d.0 *ℤ ey) (d.1 *ℤ ex) (d.1 *ℤ ey) (unit * 2 ^ 30)
    (cross_whole s d v)
    (dot_whole s d v)
    (rest_size unit d.0 ex x (cut_rest (whole_x s d)))
    (rest_size unit d.0 ey x (cut_rest (whole_y s d)))
    (rest_size unit d.1 ex y (cut_rest (whole_x s d)))
    (rest_size unit d.1 ey y (cut_rest (whole_y s d)))

-- ---- a step from a long direction is good

-- a number of at least 2 ^ 20 times the square of a direction that is at least half as long as it may be
far_enough : (unit n : ℕ) (g : ℤ) → 2 ^ 14 ≤ unit → unit * unit ≤ 4 * n → pos (2 ^ 20) ≤ℤ g → pos (unit * 2 ^ 32) ≤ℤ (g *ℤ pos n)
far_enough unit n g h l k =
    let z : pos 0 ≤ℤ pos n = omega (arith, ints) in
    let a : (pos (2 ^ 20) *ℤ pos n) ≤ℤ (g *ℤ pos n) = mul_le_mul_right (pos n) (pos (2 ^ 20)) g z k in
    let o : unit ≤ unit = omega arith in
    let b : 2 ^ 14 * unit ≤ unit * unit = mul-le-mul h o in
    let c : unit * 2 ^ 32 ≤ 2 ^ 20 * n = omega arith in
    let d : pos (unit * 2 ^ 32) ≤ℤ (pos (2 ^ 20) *ℤ pos n) = omega (arith, ints) in
    omega (arith, linear)

-- over plain numbers: `x` and `y` the products ahead and along, `a` and `b` the sine and cosine times the square
record LeadsOn (x y : ℤ) : Type 0 where
  onward : pos 0 <ℤ x
  same_way : pos 0 <ℤ y
  small : x ≤ℤ y

leads_on : (unit : ℕ) (a b x y : ℤ) → 0 < unit → pos (unit * 2 ^ 32) ≤ℤ a → pos (unit * 2 ^ 32) ≤ℤ (b -ℤ a)
    → (a -ℤ pos (2 * (unit * 2 ^ 30))) ≤ℤ (pos (2 ^ 30) *ℤ x) → (pos (2 ^ 30) *ℤ x) ≤ℤ (a +ℤ pos (2 * (unit * 2 ^ 30)))
    → (b -ℤ pos (2 * (unit * 2 ^ 30))) ≤ℤ (pos (2 ^ 30) *ℤ y) → LeadsOn x y
leads_on unit a b x y h p q i j k = record {
  onward = omega (arith, ints);
  same_way = omega (arith, ints);
  small = omega (arith, ints);
}

ahead_by : (unit : ℕ) (sense : ArcDirection) (s d v : Point) → 0 < unit
    → pos (unit * 2 ^ 32) ≤ℤ (s.0 *ℤ dot d d) → pos (unit * 2 ^ 32) ≤ℤ ((s.1 *ℤ dot d d) -ℤ (s.0 *ℤ dot d d))
    → IsTurned ((sensed sense s).0 *ℤ dot d d) ((sensed sense s).1 *ℤ dot d d) (pos (2 * (unit * 2 ^ 30))) (pos (2 ^ 30) *ℤ cross d v) (pos (2 ^ 30) *ℤ dot d v)
    → LeadsOn (ahead sense d v) (dot d v)
ahead_by unit Counterclockwise s d v h p q t =
    let a = s.0 *ℤ dot d d in
    let b = s.1 *ℤ dot d d in
    let x : pos 1 *ℤ cross d v ≡ cross d v = omega (arith, ints) in
    let i : (a -ℤ pos (2 * (unit * 2 ^ 30))) ≤ℤ (pos (2 ^ 30) *ℤ (pos 1 *ℤ cross d v)) = rw x t.cross_above in
    let j : (pos (2 ^ 30) *ℤ (pos 1 *ℤ cross d v)) ≤ℤ (a +ℤ pos (2 * (unit * 2 ^ 30))) = rw x t.cross_below in
    leads_on unit a b (pos 1 *ℤ cross d v) (dot d v) h p q i j t.dot_above
ahead_by unit Clockwise s d v h p q t =
    let a = s.0 *ℤ dot d d in
    let b = s.1 *ℤ dot d d in
    let x : pos (2 ^ 30) *ℤ (negsuc 0 *ℤ cross d v) ≡ neg_ℤ (pos (2 ^ 30) *ℤ cross d v) = omega (arith, ints) in
    let i : (a -ℤ pos (2 * (unit * 2 ^ 30))) ≤ℤ (pos (2 ^ 30) *ℤ (negsuc 0 *ℤ cross d v)) = omega (arith, linear, t.cross_below, neg_mul s.0 (dot d d)) in
    let j : (pos (2 ^ 30) *ℤ (negsuc 0 *ℤ cross d v)) ≤ℤ (a +ℤ pos (2 * (unit * 2 ^ 30))) = omega (arith, linear, t.cross_above, neg_mul s.0 (dot d d)) in
    leads_on unit a b (negsuc 0 *ℤ cross d v) (dot d v) h p q i j t.dot_above

pub good_step : (unit : ℕ) (sense : ArcDirection) (m : ℤ) (s d : Point) → IsFineStep s → pos 0 ≤ℤ m → 2 ^ 14 ≤ unit
    → length_sq d ≤ unit * unit → unit * unit ≤ 4 * length_sq d → is_good sense (m, m) d (rotated (sensed sense s) d) ≡ true
good_step unit sense m s d f z u h l =
    let n = length_sq d in
    let v = rotated (sensed sense s) d in
    let o : 0 < unit = omega arith in
    let e : dot d d ≡ pos n = dot_self d in
    let p : pos (unit * 2 ^ 32) ≤ℤ (s.0 *ℤ dot d d) = rw e (far_enough unit n s.0 u l f.sine) in
    let r : pos (unit * 2 ^ 32) ≤ℤ ((s.1 -ℤ s.0) *ℤ dot d d) = rw e (far_enough unit n (s.1 -ℤ s.0) u l f.wide) in
    let q : pos (unit * 2 ^ 32) ≤ℤ ((s.1 *ℤ dot d d) -ℤ (s.0 *ℤ dot d d)) = omega (arith, linear, r, sub_mul s.1 s.0 (dot d d)) in
    let g : LeadsOn (ahead sense d v) (dot d v) = ahead_by unit sense s d v o p q (is_turned unit (sensed sense s) d h) in
    let w : pos 0 ≤ℤ ahead sense d v = omega (arith, linear, g.onward) in
    good_from sense (m, m) d v
    (record { onward = w; same_way = g.same_way; small = mul_le_mul_right m (ahead sense d v) (dot d v) z g.small })
    g.onward
  where
    sub_mul : (a b c : ℤ) → (a -ℤ b) *ℤ c ≡ (a *ℤ c) -ℤ (b *ℤ c)
    sub_mul a b c = ring (a ∷ b ∷ c ∷ []) ((var 0 ⊖ var 1) ⊗ var 2) ((var 0 ⊗ var 2) ⊖ (var 1 ⊗ var 2)) refl

-- ---- a step takes at most 4 from the length

-- a vector shorter than `m` has components that are together at most one and a half of `m`
short_sum : (x y m : ℕ) → x * x + y * y < m * m → 2 * (x + y) < 3 * m
short_sum x y m h = lt_of_squares (2 * (x + y)) (3 * m) (omega (arith, two_products x y))

-- a whole component is at most the next multiple
next_multiple : (z : ℤ) → unsigned_abs z ≤ 2 ^ 30 * (unsigned_abs (cut z) + 1)
next_multiple z = rw (cut_size z) (omega arith)

-- over plain numbers: `a` and `b` before they are cut, `x` and `y` after, `m` what is to be reached
not_shorter : (a b x y q n m : ℕ) → m + 4 ≤ 2 ^ 30 → (m + 4) * (m + 4) ≤ n → 1073741822 * 1073741822 ≤ q
    → a ≤ 2 ^ 30 * (x + 1) → b ≤ 2 ^ 30 * (y + 1) → a * a + b * b ≡ q * n → m * m ≤ x * x + y * y
not_shorter a b x y q n m most long fine ha hb e =
    ⊎_elim
    (λ (h : x * x + y * y < m * m).
    let s : 2 * (x + y) < 3 * m = short_sum x y m h in
    let c : (x + 1) * (x + 1) + (y + 1) * (y + 1) ≤ m * m + 3 * m = omega arith in
    let f : a * a ≤ (2 ^ 30 * (x + 1)) * (2 ^ 30 * (x + 1)) = mul-le-mul ha ha in
    let g : b * b ≤ (2 ^ 30 * (y + 1)) * (2 ^ 30 * (y + 1)) = mul-le-mul hb hb in
    let i : q * n ≤ 2 ^ 60 * (m * m + 3 * m) = omega arith in
    let j : (1073741822 * 1073741822) * ((m + 4) * (m + 4)) ≤ q * n = mul-le-mul fine long in
    let k : 2 ^ 30 * (m + 2) ≤ 1073741822 * (m + 4) = omega arith in
    let l : (2 ^ 30 * (m + 2)) * (2 ^ 30 * (m + 2)) ≤ (1073741822 * (m + 4)) * (1073741822 * (m + 4)) = mul-le-mul k k in
    absurd (omega arith))
    (λ (h : m * m ≤ x * x + y * y). h)
    (cases_lt (x * x + y * y) (m * m))

pub stays_long : (s d : Point) (l : ℕ) → 4 ≤ l → l ≤ 2 ^ 30 → l * l ≤ length_sq d → 1073741822 * 1073741822 ≤ length_sq s
    → (l - 4) * (l - 4) ≤ length_sq (rotated s d)
stays_long s d l least most long fine =
    let e : l - 4 + 4 ≡ l = omega arith in
    let m : l - 4 + 4 ≤ 2 ^ 30 = omega arith in
    let g : (l - 4 + 4) * (l - 4 + 4) ≤ length_sq d = subst (λ (n : ℕ). n * n ≤ length_sq d) (sym e) long in
    not_shorter (unsigned_abs (whole_x s d)) (unsigned_abs (whole_y s d)) (unsigned_abs (cut (whole_x s d))) (unsigned_abs (cut (whole_y s d))) (length_sq s) (length_sq d) (l - 4)
    m g fine
    (next_multiple (whole_x s d))
    (next_multiple (whole_y s d))
    (whole_length s d)

-- ---- so no step of a default arc fails

-- what is known of a direction after `k` steps
record IsLong (unit k : ℕ) (d : Point) : Type 0 where
  at_most : length_sq d ≤ unit * unit
  at_least : (unit - 2 - 4 * k) * (unit - 2 - 4 * k) ≤ length_sq d

long_after : (unit : ℕ) (s from : Point) → 2 ^ 14 ≤ unit → unit ≤ 2 ^ 30 → IsWithinOne s → 1073741822 * 1073741822 ≤ length_sq s
    → IsShort unit from → IsFresh unit from → (k : ℕ) → k ≤ 1536 → IsLong unit k (turned_times s from k)
unfolding turned_times
long_after unit s from u w short long h f zero b =
    let e : unit - 2 ≡ unit - 2 - 4 * 0 = omega arith in
    record { at_most = h; at_least = subst (λ (m : ℕ). m * m ≤ length_sq from) e f }
long_after unit s from u w short long h f (suc k) b =
    let c : k ≤ 1536 = omega arith in
    let i : IsLong unit k (turned_times s from k) = long_after unit s from u w short long h f k c in
    let l = unit - 2 - 4 * k in
    let least : 4 ≤ l = omega arith in
    let most : l ≤ 2 ^ 30 = omega arith in
    let e : l - 4 ≡ unit - 2 - 4 * suc k = omega arith in
    let g : (l - 4) * (l - 4) ≤ length_sq (rotated s (turned_times s from k)) = stays_long s (turned_times s from k) l least most i.at_least long in
    let r : length_sq (rotated s (turned_times s from k)) ≤ length_sq (turned_times s from k) = rotated_length s (turned_times s from k) short in
    let n : length_sq (rotated s (turned_times s from k)) ≤ unit * unit = omega (arith, i.at_most) in
    record { at_most = n; at_least = subst (λ (m : ℕ). m * m ≤ length_sq (rotated s (turned_times s from k))) e g }

half_left : (unit k n : ℕ) → 2 ^ 14 ≤ unit → k < 1536 → (unit - 2 - 4 * k) * (unit - 2 - 4 * k) ≤ n → unit * unit ≤ 4 * n
half_left unit k n u b h =
    let a : unit ≤ 2 * (unit - 2 - 4 * k) = omega arith in
    let c : unit * unit ≤ (2 * (unit - 2 - 4 * k)) * (2 * (unit - 2 - 4 * k)) = mul-le-mul a a in
    omega arith

sensed_length : (sense : ArcDirection) (s : Point) → length_sq (sensed sense s) ≡ length_sq s
sensed_length Counterclockwise s = refl
sensed_length Clockwise s = turned_round_length s

no_step_fails : (unit : ℕ) (sense : ArcDirection) (m : ℤ) (s from : Point) → IsFineStep s → pos 0 ≤ℤ m → 2 ^ 14 ≤ unit → unit ≤ 2 ^ 30
    → IsShort unit from → IsFresh unit from → (k : ℕ) → k < 1536
    → is_good sense (m, m) (turned_times (sensed sense s) from k) (turned_times (sensed sense s) from (suc k)) ≡ true
unfolding turned_times
no_step_fails unit sense m s from f z u w h l k b =
    let c : k ≤ 1536 = omega arith in
    let short : IsWithinOne (sensed sense s) = rw (sensed_length sense s) f.short in
    let long : 1073741822 * 1073741822 ≤ length_sq (sensed sense s) = rw (sensed_length sense s) f.long in
    let i : IsLong unit k (turned_times (sensed sense s) from k) = long_after unit (sensed sense s) from u w short long h l k c in
    good_step unit sense m s (turned_times (sensed sense s) from k) f z u i.at_most (half_left unit k (length_sq (turned_times (sensed sense s) from k)) u b i.at_least)

-- ---- the default steps of both widths

narrow_fine : IsFineStep (pos 740388522, pos 777654383)
narrow_fine = record { sine = omega (arith, ints); wide = omega (arith, ints); short = lit≤ tt; long = lit≤ tt }

wide_fine : IsFineStep (pos 740966686, pos 777103515)
wide_fine = record { sine = omega (arith, ints); wide = omega (arith, ints); short = lit≤ tt; long = lit≤ tt }

step_sensed : (unit : ℕ) (sense : ArcDirection) → step_of unit default_options sense ≡ sensed sense (sin_cos (step_bits unit default_options))
step_sensed unit Counterclockwise = refl
step_sensed unit Clockwise = refl

default_by : (unit : ℕ) (s : Point) → sin_cos (step_bits unit default_options) ≡ s → IsFineStep s → 2 ^ 14 ≤ unit → unit ≤ 2 ^ 30
    → (sense : ArcDirection) (from : Point) → IsShort unit from → IsFresh unit from → NoStepFails unit default_options sense from
default_by unit s e f u w sense from h l k b =
    let z : pos 0 ≤ℤ pos 759250124 = omega (arith, ints) in
    let p : step_of unit default_options sense ≡ sensed sense s = step_sensed unit sense ∙ ap (sensed sense) e in
    let g : is_good sense (pos 759250124, pos 759250124) (turned_times (sensed sense s) from k) (turned_times (sensed sense s) from (suc k)) ≡ true = no_step_fails unit sense (pos 759250124) s from f z u w h l k b in
    let i : is_good sense (pos 759250124, pos 759250124) (turned_times (step_of unit default_options sense) from k) (turned_times (step_of unit default_options sense) from (suc k)) ≡ true =
    subst (λ (t : Point). is_good sense (pos 759250124, pos 759250124) (turned_times t from k) (turned_times t from (suc k)) ≡ true) (sym p) g in
    subst (λ (q : Point). is_good sense q (turned_times (step_of unit default_options sense) from k) (turned_times (step_of unit default_options sense) from (suc k)) ≡ true) (sym greatest_step) i

pub default_steps : (unit : ℕ) → (unit ≡ 2 ^ 14) ⊎ (unit ≡ 2 ^ 30) → (sense : ArcDirection) (from : Point)
    → IsShort unit from → IsFresh unit from → NoStepFails unit default_options sense from
default_steps unit cases sense from h l =
    ⊎_elim
    (λ (e : unit ≡ 2 ^ 14).
    default_by unit (pos 740388522, pos 777654383) (ap (λ (n : ℕ). sin_cos (step_bits n default_options)) e ∙ narrow_step) narrow_fine (omega arith) (omega arith) sense from h l)
    (λ (e : unit ≡ 2 ^ 30).
    default_by unit (pos 740966686, pos 777103515) (ap (λ (n : ℕ). sin_cos (step_bits n default_options)) e ∙ wide_step) wide_fine (omega arith) (omega arith) sense from h l)
    cases

-- a fresh direction is not 0
pub fresh_nonzero : (unit : ℕ) (d : Point) → 2 ^ 14 ≤ unit → IsFresh unit d → 0 < length_sq d
fresh_nonzero unit d u h =
    let a : 1 ≤ unit - 2 = omega arith in
    let b : 1 * 1 ≤ (unit - 2) * (unit - 2) = mul-le-mul a a in
    omega arith
