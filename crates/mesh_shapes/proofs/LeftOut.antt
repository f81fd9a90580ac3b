-- Lemmas over lists: points that contours leave out, and how many edges start at them.
use Rattle.std.proofs.Common.{◌≡◌, ℕ, ◌+◌, ◌<◌, ◌≤◌, ◌⊎◌, inl, inr, ⊎_elim, zero, suc, Bool, true, false, cond, not, ◌||◌, List, [], ◌∷◌, drop, length, get_or, refl, sym, ◌∙◌, ap, subst, arith}
use Rattle.std.specs.Prelude.{pos, ◌+ℤ◌}
use Rattle.std.specs.List.{All}
use Rattle.std.proofs.lemmas.Int.{ints}
use Rattle.std.proofs.lemmas.Bool.{cases_Bool, cases_lt, both_ways, false≢true}
use Rattle.std.proofs.lemmas.List.{get_or_default, drop_all}
use Rattle.std.proofs.lemmas.List.Elements.{All-nil, All-cons}
use Rattle.mesh_plane.specs.Plane.{Point, Edge}
use Rattle.mesh_plane.specs.Order.{point_lt}
use Rattle.mesh_plane.specs.Turning.{turns_at, first_or}
use Rattle.mesh_plane.specs.Winding.{sum_of, same_point}
use Rattle.mesh_plane.proofs.Balance.{marks_counted}
use Rattle.mesh_plane.proofs.Comparing.{decides_point}
use Rattle.mesh_shapes.specs.Contours.{StartsOnce, left_out, omitted, straight_points}
use Rattle.mesh_shapes.specs.Private.Progress.{point_at, point_after, omitted_after}
use Rattle.mesh_shapes.specs.Vectors.{StartsInOrder}
use Rattle.mesh_shapes.proofs.ContoursBegun.{at_place}
use Rattle.mesh_shapes.proofs.Tracing.{lt_self, neither_before}

-- ---- how many edges start at a point

none_marked : {X : Type 0} (t : X → Bool) (xs : List X) → ((i : ℕ) (d : X) → i < length xs → t (get_or xs i d) ≡ false) → sum_of (λ x. cond (t x) (pos 1) (pos 0)) xs ≡ pos 0
none_marked t [] h = refl
none_marked t (x ∷ xs) h =
    let own = ap (λ (b : Bool). cond b (pos 1) (pos 0)) (h 0 x (omega arith)) in
    omega (arith, ints, own, none_marked t xs (λ i d low. h (suc i) d (omega arith)))

-- what is marked at one place at most is marked once at most
one_marked : {X : Type 0} (t : X → Bool) (xs : List X) (k : ℕ) → ((i : ℕ) (d : X) → i < length xs → (i ≡ k → ⊥) → t (get_or xs i d) ≡ false) →
    (sum_of (λ x. cond (t x) (pos 1) (pos 0)) xs ≡ pos 0) ⊎ (sum_of (λ x. cond (t x) (pos 1) (pos 0)) xs ≡ pos 1)
one_marked t [] k h = inl refl
one_marked t (x ∷ xs) zero h =
    by (t x) (none_marked t xs (λ i d low. h (suc i) d (omega arith) (λ (e : suc i ≡ 0). absurd (omega (arith, e)))))
  where
    by : (b : Bool) → sum_of (λ y. cond (t y) (pos 1) (pos 0)) xs ≡ pos 0 →
        (cond b (pos 1) (pos 0) +ℤ sum_of (λ y. cond (t y) (pos 1) (pos 0)) xs ≡ pos 0) ⊎ (cond b (pos 1) (pos 0) +ℤ sum_of (λ y. cond (t y) (pos 1) (pos 0)) xs ≡ pos 1)
    by true none = inr (omega (arith, ints, none))
    by false none = inl (omega (arith, ints, none))
one_marked t (x ∷ xs) (suc k) h =
    let own = ap (λ (b : Bool). cond b (pos 1) (pos 0)) (h 0 x (omega arith) (λ (e : 0 ≡ suc k). absurd (omega (arith, e)))) in
    ⊎_elim (λ (e : sum_of (λ y. cond (t y) (pos 1) (pos 0)) xs ≡ pos 0). inl (omega (arith, ints, own, e))) (λ (e : sum_of (λ y. cond (t y) (pos 1) (pos 0)) xs ≡ pos 1). inr (omega (arith, ints, own, e)))
    (one_marked t xs k (λ i d low differ. h (suc i) d (omega arith) (λ (e : suc i ≡ suc k). differ (omega (arith, e)))))

pub once_marked : (es : List Edge) (p : Point) (k : ℕ) → ((i : ℕ) (d : Edge) → i < length es → (i ≡ k → ⊥) → same_point p (get_or es i d).0 ≡ false) → StartsOnce es p
once_marked es p k h =
    let marks = marks_counted (λ (e : Edge). same_point p e.0) es in
    ⊎_elim (λ e. omega (arith, ints, marks, e)) (λ e. omega (arith, ints, marks, e)) (one_marked (λ (e : Edge). same_point p e.0) es k h)

-- edges in order, of which those before the place `k` start before the point, and no later one at it
pub starts_few : (es : List Edge) (p : Point) (k : ℕ) → ((i : ℕ) (d : Edge) → i < k → point_lt (get_or es i d).0 p ≡ true) →
    ((i : ℕ) (d : Edge) → k < i → i < length es → same_point p (get_or es i d).0 ≡ false) → StartsOnce es p
starts_few es p k before after = once_marked es p k other
  where
    earlier : (i : ℕ) (d : Edge) → i < k → same_point p (get_or es i d).0 ≡ false
    earlier i d l =
        ⊎_elim
        (λ (t : same_point p (get_or es i d).0 ≡ true).
        absurd (both_ways (point_lt p p) (lt_self p) (subst (λ (q : Point). point_lt q p ≡ true) (sym ((decides_point p (get_or es i d).0).0 t)) (before i d l))))
        (λ (f : same_point p (get_or es i d).0 ≡ false). f) (cases_Bool (same_point p (get_or es i d).0))

    order : (i : ℕ) → (i ≡ k → ⊥) → (i < k) ⊎ (k < i)
    order i differ = ⊎_elim (λ (l : i < k). inl l) (λ (h : k ≤ i). inr (omega (arith, differ, h))) (cases_lt i k)

    other : (i : ℕ) (d : Edge) → i < length es → (i ≡ k → ⊥) → same_point p (get_or es i d).0 ≡ false
    other i d low differ = ⊎_elim (λ (l : i < k). earlier i d l) (λ (l : k < i). after i d l low) (order i differ)

pub not_true : (b : Bool) → not b ≡ true → b ≡ false
not_true true h = absurd (false≢true h)
not_true false h = refl

-- of edges in order none starts at the point from a place on where the edge starts past it
pub none_later : (es : List Edge) (p : Point) (n : ℕ) (d₀ : Edge) → StartsInOrder es → n < length es → point_lt (get_or es n d₀).0 p ≡ false → same_point (get_or es n d₀).0 p ≡ false →
    (i : ℕ) (d : Edge) → n ≤ i → i < length es → same_point p (get_or es i d).0 ≡ false
none_later es p n d₀ ordered low after apart i d from within =
    ⊎_elim
    (λ (t : same_point p (get_or es i d).0 ≡ true).
    let upto : point_lt (get_or es i d₀).0 (get_or es n d₀).0 ≡ false = ordered n i d₀ from within in
    let same : get_or es i d₀ ≡ get_or es i d = get_or_default es i d₀ d within in
    let at : p ≡ (get_or es i d₀).0 = (decides_point p (get_or es i d).0).0 t ∙ ap (λ (e : Edge). e.0) (sym same) in
    absurd (both_ways (same_point (get_or es n d₀).0 p) apart
    ((decides_point (get_or es n d₀).0 p).1 (neither_before (get_or es n d₀).0 p after (subst (λ (q : Point). point_lt q (get_or es n d₀).0 ≡ false) (sym at) upto)))))
    (λ (f : same_point p (get_or es i d).0 ≡ false). f) (cases_Bool (same_point p (get_or es i d).0))

-- ---- the points that a contour leaves out, one after another

module _ (P : Point → Type 0) where
  step : (all : Bool) (before x : Point) (xs : List Point) (z : Point) → ((all || turns_at before x (first_or z xs)) ≡ true) ⊎ P x → All P (omitted all x xs z) → All P (omitted all before (x ∷ xs) z)
  step true before x xs z e h = h
  step false before x xs z e h = by (turns_at before x (first_or z xs)) e
    where
      by : (b : Bool) → (b ≡ true) ⊎ P x → All P (cond b (straight_points x xs z) (x ∷ straight_points x xs z))
      by true e = h
      by false (inl t) = absurd (false≢true t)
      by false (inr p) = All-cons P x (straight_points x xs z) p h

  pub omitted_more : (all : Bool) (before : Point) (c : List Point) (i : ℕ) → i < length c → ((all || turns_at before (point_at c i) (point_after c i)) ≡ true) ⊎ P (point_at c i) →
      All P (omitted_after all (point_at c i) c i) → All P (omitted all before (drop i c) (point_at c 0))
  omitted_more all before c i low e h =
      subst (λ (l : List Point). All P (omitted all before l (point_at c 0))) (sym (at_place c i low)) (step all before (point_at c i) (drop (i + 1) c) (point_at c 0) e h)

  pub left_start : (all : Bool) (c : List Point) → 0 < length c → All P (omitted_after all (point_at c 0) c 0) → All P (left_out all c)
  left_start all [] some h = absurd (omega (arith, some))
  left_start all (p ∷ xs) some h = h

  pub omitted_end : (all : Bool) (before : Point) (c : List Point) (i : ℕ) (z : Point) → length c ≤ i → All P (omitted all before (drop i c) z)
  omitted_end all before c i z past = subst (λ (l : List Point). All P (omitted all before l z)) (sym (drop_all i c past)) (none all)
    where
      none : (b : Bool) → All P (cond b [] [])
      none true = All-nil P
      none false = All-nil P
