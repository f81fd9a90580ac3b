-- Lemmas over whole numbers: weights on one line, and a function that steps along them.
use Rattle.std.proofs.Common.{◌≡◌, ◌⊎◌, inl, inr, List, [], ◌∷◌, cond, refl, sym, ◌∙◌, ap, arith}
use Rattle.std.specs.Prelude.{ℤ, pos, ◌+ℤ◌, ◌-ℤ◌, ◌≤ℤ◌, ◌<ℤ◌, int_lt}
use Rattle.std.proofs.lemmas.Int.{ints, by_lt_z}
use Rattle.mesh_plane.specs.Winding.{sum_of}

-- the weight `w` at the place `p`, as seen from `x`: it counts where the place lies past `x`
abbrev pub past : ℤ → ℤ → ℤ → ℤ
past x p w = cond (int_lt x p) w (pos 0)

-- the sum of the weights of the marks (place, weight) past `x`
abbrev pub beyond : ℤ → List (ℤ × ℤ) → ℤ
beyond x ts = sum_of (λ (t : ℤ × ℤ). past x t.0 t.1) ts

-- the sum over the marks past `x` of what `f` gains at each, where `u` says how much stands beyond a place
abbrev pub steps : (ℤ → ℤ) → (ℤ → ℤ) → ℤ → List (ℤ × ℤ) → ℤ
steps f u x ts = sum_of (λ (t : ℤ × ℤ). past x t.0 (f (u t.0 +ℤ t.1) -ℤ f (u t.0))) ts

-- no mark stands at `y`
abbrev pub Free : ℤ → List (ℤ × ℤ) → Type 0
Free y [] = Unit {0}
Free y (t ∷ ts) = ((y <ℤ t.0) ⊎ (t.0 <ℤ y)) × Free y ts

-- the marks stand at different places
abbrev pub Scattered : List (ℤ × ℤ) → Type 0
Scattered [] = Unit {0}
Scattered (t ∷ ts) = Free t.0 ts × Scattered ts

pub past_yes : (x p w : ℤ) → x <ℤ p → past x p w ≡ w
past_yes x p w h = grind (arith, ints)

pub past_none : (x p w : ℤ) → p ≤ℤ x → past x p w ≡ pos 0
past_none x p w h = grind (arith, ints)

-- with a mark at `y` added that lies not past `x`, the steps past `x` stay
low_step : (f u : ℤ → ℤ) (x y w p v : ℤ) → y ≤ℤ x →
    past x p (f ((past p y w +ℤ u p) +ℤ v) -ℤ f (past p y w +ℤ u p)) ≡ past x p (f (u p +ℤ v) -ℤ f (u p))
low_step f u x y w p v low =
    by_lt_z x p
    (λ (h : x <ℤ p).
    let same : past p y w +ℤ u p ≡ u p = omega (arith, ints, past_none p y w (omega (arith, ints))) in
    ap (λ (z : ℤ). past x p (f (z +ℤ v) -ℤ f z)) same)
    (λ (h : p ≤ℤ x).
    past_none x p (f ((past p y w +ℤ u p) +ℤ v) -ℤ f (past p y w +ℤ u p)) h ∙ sym (past_none x p (f (u p +ℤ v) -ℤ f (u p)) h))

low_steps : (f u : ℤ → ℤ) (x y w : ℤ) → y ≤ℤ x → (ts : List (ℤ × ℤ)) →
    steps f (λ (z : ℤ). past z y w +ℤ u z) x ts ≡ steps f u x ts
low_steps f u x y w low [] = refl
low_steps f u x y w low (t ∷ ts) = omega (arith, ints, low_step f u x y w t.0 t.1 low, low_steps f u x y w low ts)

-- with a mark at `y` past `x` added, the steps before `y` are those of the function moved by its weight
high_step : (f u : ℤ → ℤ) (x y w p v : ℤ) → x <ℤ y → (y <ℤ p) ⊎ (p <ℤ y) →
    past x p (f ((past p y w +ℤ u p) +ℤ v) -ℤ f (past p y w +ℤ u p))
    ≡ (past x p (f (w +ℤ (u p +ℤ v)) -ℤ f (w +ℤ u p)) -ℤ past y p (f (w +ℤ (u p +ℤ v)) -ℤ f (w +ℤ u p)))
    +ℤ past y p (f (u p +ℤ v) -ℤ f (u p))
high_step f u x y w p v high (inl east) =
    let same : past p y w +ℤ u p ≡ u p = omega (arith, ints, past_none p y w (omega (arith, ints))) in
    let moved = ap (λ (z : ℤ). past x p (f (z +ℤ v) -ℤ f z)) same in
    let seen = past_yes x p (f (u p +ℤ v) -ℤ f (u p)) (omega (arith, ints)) in
    let here = past_yes y p (f (u p +ℤ v) -ℤ f (u p)) east in
    let before = past_yes x p (f (w +ℤ (u p +ℤ v)) -ℤ f (w +ℤ u p)) (omega (arith, ints)) in
    let beside = past_yes y p (f (w +ℤ (u p +ℤ v)) -ℤ f (w +ℤ u p)) east in
    omega (arith, ints, moved, seen, here, before, beside)
high_step f u x y w p v high (inr west) =
    let same : past p y w +ℤ u p ≡ w +ℤ u p = omega (arith, ints, past_yes p y w west) in
    let moved = ap (λ (z : ℤ). past x p (f (z +ℤ v) -ℤ f z)) same in
    let joined : (w +ℤ u p) +ℤ v ≡ w +ℤ (u p +ℤ v) = omega (arith, ints) in
    let turned = ap (λ (z : ℤ). past x p (f z -ℤ f (w +ℤ u p))) joined in
    let here = past_none y p (f (u p +ℤ v) -ℤ f (u p)) (omega (arith, ints)) in
    let beside = past_none y p (f (w +ℤ (u p +ℤ v)) -ℤ f (w +ℤ u p)) (omega (arith, ints)) in
    omega (arith, ints, moved, turned, here, beside)

high_steps : (f u : ℤ → ℤ) (x y w : ℤ) → x <ℤ y → (ts : List (ℤ × ℤ)) → Free y ts →
    steps f (λ (z : ℤ). past z y w +ℤ u z) x ts
    ≡ (steps (λ (z : ℤ). f (w +ℤ z)) u x ts -ℤ steps (λ (z : ℤ). f (w +ℤ z)) u y ts) +ℤ steps f u y ts
high_steps f u x y w high [] free = refl
high_steps f u x y w high (t ∷ ts) free =
    omega (arith, ints, high_step f u x y w t.0 t.1 high free.0, high_steps f u x y w high ts free.1)

-- the steps past `x` add up to what `f` gains from nothing to all that stands beyond `x`
pub telescope : (ts : List (ℤ × ℤ)) → Scattered ts → (f : ℤ → ℤ) (x : ℤ) →
    steps f (λ (z : ℤ). beyond z ts) x ts ≡ f (beyond x ts) -ℤ f (pos 0)
telescope [] apart f x = omega (arith, ints)
telescope (t ∷ ts) apart f x =
    let y : ℤ = t.0 in
    let w : ℤ = t.1 in
    let u : ℤ → ℤ = λ (z : ℤ). beyond z ts in
    let own : past y y w ≡ pos 0 = past_none y y w (omega (arith, ints)) in
    let head : past y y w +ℤ u y ≡ u y = omega (arith, ints) in
    by_lt_z x y
    (λ (h : x <ℤ y).
    let moved = ap (λ (z : ℤ). past x y (f (z +ℤ w) -ℤ f z)) head in
    let seen = past_yes x y (f (u y +ℤ w) -ℤ f (u y)) h in
    let turned : f (u y +ℤ w) ≡ f (w +ℤ u y) = ap f (omega (arith, ints)) in
    let sum : f (past x y w +ℤ u x) ≡ f (w +ℤ u x) = ap (λ (z : ℤ). f (z +ℤ u x)) (past_yes x y w h) in
    omega (
      arith,
      ints,
      moved,
      seen,
      turned,
      sum,
      high_steps f u x y w h ts apart.0,
      telescope ts apart.1 (λ (z : ℤ). f (w +ℤ z)) x,
      telescope ts apart.1 (λ (z : ℤ). f (w +ℤ z)) y,
      telescope ts apart.1 f y,
      (let none : f (w +ℤ pos 0) ≡ f w = ap f (omega (arith, ints)) in none),
    ))
    (λ (h : y ≤ℤ x).
    let unseen = past_none x y (f ((past y y w +ℤ u y) +ℤ w) -ℤ f (past y y w +ℤ u y)) h in
    let sum : f (past x y w +ℤ u x) ≡ f (u x) = ap f (omega (arith, ints, past_none x y w h)) in
    omega (arith, ints, unseen, sum, low_steps f u x y w h ts, telescope ts apart.1 f x))
