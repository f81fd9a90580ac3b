-- Lemmas over points and lists: balance, and sums of differences over edges.
use Rattle.std.proofs.Common.{◌≡◌, ℕ, ◌+◌, ◌≤◌, List, [], ◌∷◌, ◌++◌, refl, sym, ◌∙◌, ap, arith}
use Rattle.std.specs.Prelude.{ℤ, pos, ◌+ℤ◌, ◌-ℤ◌, neg_ℤ, Bool, true, false, cond, count_by, map}
use Rattle.std.specs.List.{All}
use Rattle.std.proofs.lemmas.List.Elements.{All-weaker}
use Rattle.std.specs.List.Sorted.{IsPermutation}
use Rattle.std.proofs.lemmas.List.Sums.{sum_by-cons, sum_by-append}
use Rattle.std.proofs.lemmas.List.Sorted.{sum_by-IsPermutation}
use Rattle.std.proofs.lemmas.Int.{ints}
use Rattle.mesh_plane.specs.Plane.{Point, Edge}
use Rattle.mesh_plane.specs.Winding.{sum_of, total, route, boundary, pieces_total, same_point, IsBalanced, IsOdd}
use Rattle.mesh_plane.proofs.Whole.{linear}
use Rattle.mesh_plane.proofs.Sums.{sum_of_same, sum_of_equal, sum_of_none, sum_of_map}
use Rattle.mesh_plane.proofs.ClosedLists.{boundary_ends, route_steps, boundary_steps}
use Rattle.mesh_plane.proofs.Comparing.{decides_point}

-- how much `g` grows along an edge
abbrev pub growth : (Point → ℤ) → Point → Point → ℤ
growth g p r = g r -ℤ g p

pub growth_odd : (g : Point → ℤ) → IsOdd (growth g)
growth_odd g p r = omega (arith, linear)

pub route_growth : (g : Point → ℤ) (a : Point) (xs : List Point) (z : Point) →
    total (growth g) (route a xs z) ≡ g z -ℤ g a
route_growth g a xs z = route_steps g a xs z

pub growth_round : (g : Point → ℤ) (xs : List Point) → total (growth g) (boundary xs) ≡ pos 0
growth_round g xs = boundary_steps g xs

pub growth_of_pieces : (g : Point → ℤ) (pieces : List (List Point)) → pieces_total (growth g) pieces ≡ pos 0
growth_of_pieces g pieces = sum_of_none (λ (piece : List Point). total (growth g) (boundary piece)) (λ piece. growth_round g piece) pieces

-- the sum at the ends less the sum at the starts
pub growth_parts : (g : Point → ℤ) (es : List Edge) →
    total (growth g) es +ℤ sum_of (λ (e : Edge). g e.0) es ≡ sum_of (λ (e : Edge). g e.1) es
growth_parts g [] = refl
growth_parts g (e ∷ es) = omega (arith, linear, growth_parts g es)

abbrev marked : Point → Point → ℤ
marked p x = cond (same_point p x) (pos 1) (pos 0)

marked_is : (b : Bool) → cond b (pos 1) (pos 0) ≡ pos (cond b 1 0)
marked_is true = refl
marked_is false = refl

pub marks_counted : {A : Type 0} (t : A → Bool) (xs : List A) → sum_of (λ x. cond (t x) (pos 1) (pos 0)) xs ≡ pos (count_by t xs)
marks_counted t [] = refl
marks_counted t (x ∷ xs) = omega (arith, ints, marks_counted t xs, marked_is (t x), sum_by-cons (λ x. cond (t x) 1 0) x xs)

-- a list is balanced where the mark of each point does not grow along it
pub balanced_at_points : (es : List Edge) →
    ((p : Point) → total (growth (λ (x : Point). cond (same_point p x) (pos 1) (pos 0))) es ≡ pos 0) → IsBalanced es
balanced_at_points es h p =
    omega (
      arith,
      ints,
      growth_parts (λ (x : Point). cond (same_point p x) (pos 1) (pos 0)) es,
      h p,
      marks_counted (λ (e : Edge). same_point p e.0) es,
      marks_counted (λ (e : Edge). same_point p e.1) es,
    )

pub balanced_by_growth : (es : List Edge) → ((g : Point → ℤ) → total (growth g) es ≡ pos 0) → IsBalanced es
balanced_by_growth es h = balanced_at_points es (λ p. h (λ (x : Point). cond (same_point p x) (pos 1) (pos 0)))

pub boundary_balanced : (xs : List Point) → IsBalanced (boundary xs)
boundary_balanced xs = balanced_by_growth (boundary xs) (λ g. growth_round g xs)

pub balanced_append : (es gs : List Edge) → IsBalanced es → IsBalanced gs → IsBalanced (es ++ gs)
balanced_append es gs h k p =
    omega (arith, h p, k p, sum_by-append (λ (e : Edge). cond (same_point p e.0) 1 0) es gs, sum_by-append (λ (e : Edge). cond (same_point p e.1) 1 0) es gs)

pub balanced_permutation : (es gs : List Edge) → IsPermutation es gs → IsBalanced es → IsBalanced gs
balanced_permutation es gs h k p =
    omega (arith, k p, sum_by-IsPermutation (λ (e : Edge). cond (same_point p e.0) 1 0) es gs h, sum_by-IsPermutation (λ (e : Edge). cond (same_point p e.1) 1 0) es gs h)

-- edges of which each starts where the one before ends, the first where the last does
pub closed_growth : (g : Point → ℤ) (es : List Edge) → All (λ (c : Edge × Edge). c.0.1 ≡ c.1.0) (boundary es) → total (growth g) es ≡ pos 0
closed_growth g es closed =
    let step = λ (c : Edge × Edge). g c.0.1 +ℤ neg_ℤ (g c.1.0) in
    let each : All (λ c. step c ≡ pos 0) (boundary es) =
    All-weaker (λ (c : Edge × Edge). c.0.1 ≡ c.1.0) (λ c. step c ≡ pos 0) (λ c e. omega (arith, linear, ap g e)) (boundary es) closed in
    let none = sum_of_equal step (λ c. pos 0) (boundary es) each ∙ sum_of_none (λ (c : Edge × Edge). pos 0) (λ c. refl) (boundary es) in
    let ends = boundary_ends (λ (e : Edge). g e.1) (λ (e : Edge). neg_ℤ (g e.0)) es in
    sum_of_same (λ (e : Edge). g e.1 -ℤ g e.0) (λ (e : Edge). neg_ℤ (g e.0) +ℤ g e.1) (λ e. omega (arith, linear)) es ∙ (sym ends ∙ none)

pub closed_balanced : (es : List Edge) → All (λ (c : Edge × Edge). c.0.1 ≡ c.1.0) (boundary es) → IsBalanced es
closed_balanced es closed = balanced_by_growth es (λ g. closed_growth g es closed)

without : Point → List Point → List Point
without x [] = []
without x (y ∷ ys) = cond (same_point x y) ys (y ∷ without x ys)

sum_without : (h : Point → ℤ) (x : Point) (ys : List Point) → 1 ≤ count_by (same_point x) ys → sum_of h ys ≡ h x +ℤ sum_of h (without x ys)
unfolding without
sum_without h x [] some = absurd (omega arith)
sum_without h x (y ∷ ys) some =
    step (λ k. sum_without h x ys k) (same_point x y) refl
  where
    step : (1 ≤ count_by (same_point x) ys → sum_of h ys ≡ h x +ℤ sum_of h (without x ys)) →
        (b : Bool) → same_point x y ≡ b → h y +ℤ sum_of h ys ≡ h x +ℤ sum_of h (cond b ys (y ∷ without x ys))
    step rest true e = omega (arith, linear, ap h ((decides_point x y).0 e))
    step rest false e =
        let split : count_by (same_point x) (y ∷ ys) ≡ cond (same_point x y) 1 0 + count_by (same_point x) ys = sum_by-cons (λ z. cond (same_point x z) 1 0) y ys in
        let apart = ap (λ (b : Bool). cond {A = ℕ} b 1 0) e in
        omega (arith, linear, rest (omega arith))

equal_sums : (xs ys : List Point) → ((p : Point) → count_by (same_point p) xs ≡ count_by (same_point p) ys) → (g : Point → ℤ) → sum_of g xs ≡ sum_of g ys
equal_sums [] [] h g = refl
equal_sums [] (y ∷ ys) h g =
    let split : count_by (same_point y) (y ∷ ys) ≡ cond (same_point y y) 1 0 + count_by (same_point y) ys = sum_by-cons (λ z. cond (same_point y z) 1 0) y ys in
    let here = ap (λ (b : Bool). cond {A = ℕ} b 1 0) ((decides_point y y).1 refl) in
    absurd (omega (arith, h y))
equal_sums (x ∷ xs) ys h g =
    let counted = λ (p : Point). sum_by-cons (λ z. cond {A = ℕ} (same_point p z) 1 0) x xs in
    let here = ap (λ (b : Bool). cond {A = ℕ} b 1 0) ((decides_point x x).1 refl) in
    let some : 1 ≤ count_by (same_point x) ys = omega (arith, h x, counted x) in
    let rest : (p : Point) → count_by (same_point p) xs ≡ count_by (same_point p) (without x ys) = λ p.
    omega (
      arith,
      ints,
      h p,
      counted p,
      marked_is (same_point p x),
      sum_without (marked p) x ys some,
      marks_counted (same_point p) ys,
      marks_counted (same_point p) (without x ys),
    ) in
    omega (arith, linear, equal_sums xs (without x ys) rest g, sum_without g x ys some)

counted_ends : (end : Edge → Point) (p : Point) (es : List Edge) → count_by (same_point p) (map end es) ≡ count_by (λ e. same_point p (end e)) es
counted_ends end p [] = refl
counted_ends end p (e ∷ es) =
    omega (arith, counted_ends end p es, sum_by-cons (λ z. cond {A = ℕ} (same_point p z) 1 0) (end e) (map end es), sum_by-cons (λ d. cond {A = ℕ} (same_point p (end d)) 1 0) e es)

pub growth_of_balanced : (es : List Edge) → IsBalanced es → (g : Point → ℤ) → total (growth g) es ≡ pos 0
growth_of_balanced es h g =
    let starts = λ (e : Edge). e.0 in
    let ends = λ (e : Edge). e.1 in
    let equal = λ (p : Point). counted_ends starts p es ∙ (h p ∙ sym (counted_ends ends p es)) in
    omega (arith, linear, growth_parts g es, equal_sums (map starts es) (map ends es) equal g, sum_of_map g starts es, sum_of_map g ends es)

-- edges that differ from balanced ones by the boundaries of pieces are balanced
pub balanced_by_pieces : (es own : List Edge) (pieces : List (List Point)) →
    ((g : Point → ℤ) → total (growth g) es ≡ total (growth g) own +ℤ pieces_total (growth g) pieces) → IsBalanced own → IsBalanced es
balanced_by_pieces es own pieces h k =
    balanced_by_growth es (λ g. omega (arith, linear, h g, growth_of_balanced own k g, growth_of_pieces g pieces))
