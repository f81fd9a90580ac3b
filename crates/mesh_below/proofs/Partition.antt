-- Lemmas over lists: each ring stands in one shape, so what is added up over an answer's contours is added up over the rings.
use Rattle.std.proofs.Common.{◌≡◌, ℕ, ◌+◌, ◌<◌, ◌≤◌, zero, suc, ⊎_elim, Bool, true, false, cond, not, ◌&&◌, ◌||◌, List, [], ◌∷◌, map, length, get_or, refl, sym, ◌∙◌, ap, subst, arith}
use Rattle.std.specs.Prelude.{ℤ, pos, ◌+ℤ◌, int_lt, nat_eq, nat_le, unsigned_abs, Option, Some, None, MatchOption}
use Rattle.std.specs.List.{All, filter, flat_map, list_any, enumerate_from}
use Rattle.std.proofs.lemmas.Bool.{cases_Bool, both_ways, and_parts, eqb-true, eq-eqb}
use Rattle.std.proofs.lemmas.List.{get_or_default}
use Rattle.std.proofs.lemmas.List.FromFn.{length-enumerate_from, get_or-enumerate_from}
use Rattle.std.proofs.Math.Bool.{and-not_self}
use Rattle.mesh_num.specs.Paths.{contours_of}
use Rattle.mesh_plane.specs.Plane.{Point, Edge}
use Rattle.mesh_plane.specs.Winding.{sum_of, boundary, crossing_on, winding, holds}
use Rattle.mesh_plane.proofs.Sums.{sum_of_map, sum_of_flat_map, sum_of_add, sum_of_same, sum_of_equal, sum_of_zero, sum_of_permutation}
use Rattle.mesh_plane.proofs.Whole.{linear}
use Rattle.mesh_shapes.specs.Contours.{vertices, double_area}
use Rattle.mesh_shapes.specs.Homes.{ring_at, placed, encloses_at, IsHome, NoneEncloses, IsHolder}
use Rattle.mesh_shapes.specs.Resolution.{Choices, IsResolution, Ring, Placed, ring_of, is_large, is_positive, is_head, encloses, stands_with, shape_of, rings_by_shape, answered}
use Rattle.mesh_shapes.proofs.Groups.{area, holder_none, holder_kept, holder_no_less, holder_first, holder_less, home_positive, home_alone, home_held, member_test, head_test}

-- ---- where each ring belongs
abbrev KnownHolder : List Ring → Point → ℕ → Type 0
KnownHolder rs q n = (best : Option ℕ) × MatchOption best (NoneEncloses rs n q) (IsHolder rs n q)

holder_more : (rs : List Ring) (q : Point) (n : ℕ) → KnownHolder rs q n → KnownHolder rs q (n + 1)
holder_more rs q n (best, known) = by (encloses_at rs n q) refl best known
  where
    by : (r : Bool) → encloses_at rs n q ≡ r → (best : Option ℕ) → MatchOption best (NoneEncloses rs n q) (IsHolder rs n q) → KnownHolder rs q (n + 1)
    by false f best known = (best, holder_kept rs q n best known f)
    by true t None known = (Some n, holder_first rs q n known t)
    by true t (Some b) known =
        ⊎_elim
        (λ (l : int_lt (area rs n) (area rs b) ≡ true). (Some n, holder_less rs q n b known t l))
        (λ (l : int_lt (area rs n) (area rs b) ≡ false). (Some b, holder_no_less rs q n b known l))
        (cases_Bool (int_lt (area rs n) (area rs b)))

holder_to : (rs : List Ring) (q : Point) (n : ℕ) → KnownHolder rs q n
holder_to rs q zero = (None, holder_none rs q)
holder_to rs q (suc n) = subst (KnownHolder rs q) (omega arith) (holder_more rs q n (holder_to rs q n))

-- a ring's place is that of a head
record Homed (rs : List Ring) (i : ℕ) : Type 0 where
  at : ℕ
  home : IsHome rs i at
  within : at < length rs
  heads : is_head (placed rs) (ring_at rs at) ≡ true

own_place : (rs : List Ring) (i : ℕ) → i < length rs → IsHome rs i i → Homed rs i
own_place rs i low home = record { at = i; home = home; within = low; heads = head_test rs i i home ∙ eq-eqb i i refl }

homed : (rs : List Ring) (i : ℕ) → i < length rs → Homed rs i
homed rs i low = by (is_positive (ring_at rs i)) refl (holder_to rs (ring_at rs i).1.1 (length rs))
  where
    by : (b : Bool) → is_positive (ring_at rs i) ≡ b → KnownHolder rs (ring_at rs i).1.1 (length rs) → Homed rs i
    by true t known = own_place rs i low (home_positive rs i t)
    by false f (None, none) = own_place rs i low (home_alone rs i none)
    by false f (Some b, h) =
        let positive = (and_parts (is_positive (ring_at rs b)) (holds 2 (ring_at rs i).1.1 (ring_at rs b).1.0) h.enclosing).0 in
        record {
          at = b;
          home = home_held rs i b f h;
          within = h.within;
          heads = λ j. positive j || not (list_any (λ (k : Placed). encloses k (ring_at rs b)) (placed rs));
        }

-- ---- sums over placed rings
-- what holds at each place holds of each placed ring
placed_all : (P : Placed → Type 0) (rs : List Ring) → ((k : ℕ) → k < length rs → P (ring_at rs k)) → All P (placed rs)
placed_all P rs h k d low =
    let l : k < length rs = subst (λ (n : ℕ). k < n) (length-enumerate_from 0 rs) low in
    let number : 0 + k ≡ k = omega arith in
    let ring : get_or rs k d.1 ≡ get_or rs k ([], (pos 0, pos 0)) = get_or_default rs k d.1 ([], (pos 0, pos 0)) l in
    let e : get_or (placed rs) k d ≡ ring_at rs k = get_or-enumerate_from 0 rs k d l ∙ (λ i. (number i, ring i)) in
    subst P (sym e) (h k l)

sum_filtered : {X : Type 0} (g : X → ℤ) (p : X → Bool) (xs : List X) → sum_of g (filter p xs) ≡ sum_of (λ (x : X). cond (p x) (g x) (pos 0)) xs
sum_filtered g p [] = refl
sum_filtered g p (x ∷ xs) = by (p x) (sum_filtered g p xs)
  where
    by : (b : Bool) → sum_of g (filter p xs) ≡ sum_of (λ x. cond (p x) (g x) (pos 0)) xs →
        sum_of g (cond b (x ∷ filter p xs) (filter p xs)) ≡ cond b (g x) (pos 0) +ℤ sum_of (λ x. cond (p x) (g x) (pos 0)) xs
    by true h = omega (arith, linear)
    by false h = omega (arith, linear)

sum_none : {Y : Type 0} (ys : List Y) → pos 0 ≡ sum_of (λ (y : Y). pos 0) ys
sum_none [] = refl
sum_none (y ∷ ys) = omega (arith, linear, sum_none ys)

sum_swapped : {X Y : Type 0} (t : X → Y → ℤ) (xs : List X) (ys : List Y) → sum_of (λ (x : X). sum_of (t x) ys) xs ≡ sum_of (λ (y : Y). sum_of (λ (x : X). t x y) xs) ys
sum_swapped t [] ys = sum_none ys
sum_swapped t (x ∷ xs) ys = ap (λ (z : ℤ). sum_of (t x) ys +ℤ z) (sum_swapped t xs ys) ∙ sym (sum_of_add (t x) (λ y. sum_of (λ x. t x y) xs) ys)

-- a value at one place alone
at_none : (c : ℤ) (b n : ℕ) (rs : List Ring) → b < n → sum_of (λ (x : Placed). cond (nat_eq b x.0) c (pos 0)) (enumerate_from n rs) ≡ pos 0
at_none c b n [] h = refl
at_none c b n (r ∷ rs) h =
    let apart : nat_eq b n ≡ false = ⊎_elim (λ (t : nat_eq b n ≡ true). absurd (let e = eqb-true b n t in omega (arith, e))) (λ (f : nat_eq b n ≡ false). f) (cases_Bool (nat_eq b n)) in
    let first : cond (nat_eq b n) c (pos 0) ≡ pos 0 = ap (λ (x : Bool). cond x c (pos 0)) apart in
    omega (arith, linear, first, at_none c b (n + 1) rs (omega arith))

at_one : (c : ℤ) (b n : ℕ) (rs : List Ring) → n ≤ b → b < n + length rs → sum_of (λ (x : Placed). cond (nat_eq b x.0) c (pos 0)) (enumerate_from n rs) ≡ c
at_one c b n [] h l = absurd (omega arith)
at_one c b n (r ∷ rs) h l =
    ⊎_elim
    (λ (t : nat_eq b n ≡ true).
    let first : cond (nat_eq b n) c (pos 0) ≡ c = ap (λ (x : Bool). cond x c (pos 0)) t in
    let e : b ≡ n = eqb-true b n t in
    omega (arith, linear, first, at_none c b (n + 1) rs (omega (arith, e))))
    (λ (f : nat_eq b n ≡ false).
    let first : cond (nat_eq b n) c (pos 0) ≡ pos 0 = ap (λ (x : Bool). cond x c (pos 0)) f in
    let differ : b ≡ n → ⊥ = λ e. both_ways (nat_eq b n) f (eq-eqb b n e) in
    let more : n + 1 ≤ b = next_to b n h differ in
    omega (arith, linear, first, at_one c b (n + 1) rs more (omega arith)))
    (cases_Bool (nat_eq b n))
  where
    next_to : (b n : ℕ) → n ≤ b → (b ≡ n → ⊥) → n + 1 ≤ b
    next_to b n h differ = omega (arith, differ)

-- ---- the sum at a ring, over the heads that it may stand with
module _ (g : Ring → ℤ) (rs : List Ring) where
  abbrev Heads : Placed → Bool
  Heads h = is_head (placed rs) h

  abbrev joins : Placed → Placed → Bool
  joins h r = not (is_head (placed rs) r) && stands_with (placed rs) h r

  abbrev share : Placed → Placed → ℤ
  share h r = cond (Heads h) (cond (joins h r) (g r.1) (pos 0)) (pos 0)

  -- a ring that is no head is a member of one shape, a head of none
  member_once : (i : ℕ) → Homed rs i → sum_of (λ (h : Placed). share h (ring_at rs i)) (placed rs) ≡ cond (Heads (ring_at rs i)) (pos 0) (g (ring_at rs i).1)
  member_once i k = by (nat_eq k.at i) refl
    where
      c : ℤ
      c = g (ring_at rs i).1

      own : (j : ℕ) → j < length rs → joins (ring_at rs j) (ring_at rs i) ≡ (nat_eq k.at j && not (nat_eq i j))
      own j low = member_test rs i k.at j k.home low

      none : (a : Bool) → cond a (pos 0) (pos 0) ≡ pos 0
      none true = refl
      none false = refl

      by : (b : Bool) → nat_eq k.at i ≡ b → sum_of (λ (h : Placed). share h (ring_at rs i)) (placed rs) ≡ cond (Heads (ring_at rs i)) (pos 0) (g (ring_at rs i).1)
      by true t =
          sum_of_zero (λ (h : Placed). share h (ring_at rs i)) (placed rs)
          (placed_all (λ (h : Placed). share h (ring_at rs i) ≡ pos 0) rs (λ (j : ℕ) (low : j < length rs).
          ap (λ (x : Bool). cond (Heads (ring_at rs j)) (cond x c (pos 0)) (pos 0)) (own j low ∙ never j) ∙ none (Heads (ring_at rs j))))
          ∙ sym (ap (λ (x : Bool). cond x (pos 0) c) (head_test rs i k.at k.home ∙ t))
        where
          never : (j : ℕ) → (nat_eq k.at j && not (nat_eq i j)) ≡ false
          never j = subst (λ (n : ℕ). (nat_eq n j && not (nat_eq i j)) ≡ false) (sym (eqb-true k.at i t)) (and-not_self (nat_eq i j))
      by false f =
          sum_of_equal (λ (h : Placed). share h (ring_at rs i)) (λ (h : Placed). cond (nat_eq k.at h.0) c (pos 0)) (placed rs)
          (placed_all (λ (h : Placed). share h (ring_at rs i) ≡ cond (nat_eq k.at h.0) c (pos 0)) rs (λ (j : ℕ) (low : j < length rs).
          ap (λ (x : Bool). cond (Heads (ring_at rs j)) (cond x c (pos 0)) (pos 0)) (own j low) ∙ at_place j (nat_eq k.at j) refl))
          ∙ (at_one c k.at 0 rs (omega arith) (omega (arith, k.within))
          ∙ sym (ap (λ (x : Bool). cond x (pos 0) c) (head_test rs i k.at k.home ∙ f)))
        where
          other : nat_eq i k.at ≡ false
          other = ⊎_elim (λ (t : nat_eq i k.at ≡ true). absurd (both_ways (nat_eq k.at i) f (eq-eqb k.at i (sym (eqb-true i k.at t))))) (λ (x : nat_eq i k.at ≡ false). x) (cases_Bool (nat_eq i k.at))

          at_place : (j : ℕ) (b : Bool) → nat_eq k.at j ≡ b → cond (Heads (ring_at rs j)) (cond (b && not (nat_eq i j)) c (pos 0)) (pos 0) ≡ cond b c (pos 0)
          at_place j false n = none (Heads (ring_at rs j))
          at_place j true t =
              subst (λ (n : ℕ). cond (Heads (ring_at rs n)) (cond (not (nat_eq i n)) c (pos 0)) (pos 0) ≡ c) (eqb-true k.at j t)
              (λ x. cond (k.heads x) (cond (not (other x)) c (pos 0)) (pos 0))

  -- the members of a head's shape
  shape_sum : (h : Placed) → sum_of g (shape_of (placed rs) h) ≡ g h.1 +ℤ sum_of (λ (r : Placed). cond (joins h r) (g r.1) (pos 0)) (placed rs)
  shape_sum h =
      ap (λ (z : ℤ). g h.1 +ℤ z)
      (sum_of_map g (λ (r : Placed). r.1) (filter (joins h) (placed rs)) ∙ sum_filtered (λ (r : Placed). g r.1) (joins h) (placed rs))

  head_parts : (h : Placed) → cond (Heads h) (sum_of g (shape_of (placed rs) h)) (pos 0) ≡ cond (Heads h) (g h.1) (pos 0) +ℤ sum_of (share h) (placed rs)
  head_parts h = by (Heads h)
    where
      by : (b : Bool) → cond b (sum_of g (shape_of (placed rs) h)) (pos 0)
          ≡ cond b (g h.1) (pos 0) +ℤ sum_of (λ (r : Placed). cond b (cond (joins h r) (g r.1) (pos 0)) (pos 0)) (placed rs)
      by true = shape_sum h
      by false = sum_none (placed rs) ∙ omega (arith, linear)

  placed_sum : (n : ℕ) (xs : List Ring) → sum_of (λ (r : Placed). g r.1) (enumerate_from n xs) ≡ sum_of g xs
  placed_sum n [] = refl
  placed_sum n (x ∷ xs) = ap (λ (z : ℤ). g x +ℤ z) (placed_sum (n + 1) xs)

  -- what is added up over the shapes is added up over the rings
  pub shapes_sum : sum_of (sum_of g) (rings_by_shape (placed rs)) ≡ sum_of g rs
  shapes_sum =
      let p : List Placed = placed rs in
      let whole : Placed → ℤ = λ (h : Placed). sum_of g (shape_of p h) in
      let led : Placed → ℤ = λ (h : Placed). cond (Heads h) (g h.1) (pos 0) in
      let joined : Placed → ℤ = λ (r : Placed). cond (Heads r) (pos 0) (g r.1) in
      let first : sum_of (sum_of g) (rings_by_shape p) ≡ sum_of (λ (h : Placed). cond (Heads h) (whole h) (pos 0)) p =
      sum_of_map (sum_of g) (shape_of p) (filter Heads p) ∙ sum_filtered whole Heads p in
      let parts : sum_of (λ (h : Placed). cond (Heads h) (whole h) (pos 0)) p ≡ sum_of led p +ℤ sum_of (λ (h : Placed). sum_of (share h) p) p =
      sum_of_same (λ (h : Placed). cond (Heads h) (whole h) (pos 0)) (λ (h : Placed). led h +ℤ sum_of (share h) p) head_parts p ∙ sum_of_add led (λ (h : Placed). sum_of (share h) p) p in
      let members : sum_of (λ (h : Placed). sum_of (share h) p) p ≡ sum_of joined p =
      sum_swapped share p p
      ∙ sum_of_equal (λ (r : Placed). sum_of (λ (h : Placed). share h r) p) joined p
      (placed_all (λ (r : Placed). sum_of (λ (h : Placed). share h r) p ≡ joined r) rs (λ (i : ℕ) (low : i < length rs). member_once i (homed rs i low))) in
      let both : sum_of led p +ℤ sum_of joined p ≡ sum_of (λ (r : Placed). g r.1) p =
      sym (sum_of_add led joined p) ∙ sum_of_same (λ (r : Placed). led r +ℤ joined r) (λ (r : Placed). g r.1) (λ (r : Placed). either (Heads r) (g r.1)) p in
      omega (arith, linear, first, parts, members, both, placed_sum 0 rs)
    where
      either : (b : Bool) (z : ℤ) → cond b z (pos 0) +ℤ cond b (pos 0) z ≡ z
      either true z = omega (arith, linear)
      either false z = omega (arith, linear)

-- ---- the contours of an answer
no_less_than_none : (n : ℕ) → nat_le 0 n ≡ true
no_less_than_none n = grind arith

keeps_all : (rs : List Ring) → filter (is_large 0) rs ≡ rs
keeps_all [] = refl
keeps_all (r ∷ rs) =
    (λ i. cond (no_less_than_none (unsigned_abs (double_area r.0)) i) (r ∷ filter (is_large 0) rs) (filter (is_large 0) rs)) ∙ ap (λ (l : List Ring). r ∷ l) (keeps_all rs)

-- where no contour is left out and none is reversed, what is added up over the answer's edges is added up over those of the
-- contours with their answered vertices
pub answer_sums : (edges : List Edge) (fill : ℤ → Bool) (options : Choices) (answer : List (List (List Point))) → (r : IsResolution edges fill options answer) →
    options.least_area ≡ 0 → options.clockwise ≡ false → (f : Edge → ℤ) →
    sum_of f (flat_map boundary (contours_of answer)) ≡ sum_of f (flat_map boundary (map (vertices options.all_vertices) r.contours))
answer_sums edges fill options answer r least same f =
    let whole : List Point → ℤ = λ (c : List Point). sum_of f (boundary c) in
    let g : Ring → ℤ = λ (x : Ring). whole (answered options.clockwise x) in
    let a = r.arranged in
    let rings : List Ring = map (ring_of options.all_vertices) r.contours in
    let by_contours : sum_of f (flat_map boundary (contours_of answer)) ≡ sum_of (sum_of whole) answer =
    sum_of_flat_map f boundary (contours_of answer) ∙ sum_of_flat_map whole (λ (s : List (List Point)). s) answer in
    let by_rings : sum_of (sum_of whole) answer ≡ sum_of (sum_of g) (rings_by_shape (placed a.sorted)) =
    ap (sum_of (sum_of whole)) a.shapes
    ∙ (sum_of_map (sum_of whole) (map (answered options.clockwise)) (rings_by_shape (placed a.sorted))
    ∙ sum_of_same (λ (s : List Ring). sum_of whole (map (answered options.clockwise) s)) (sum_of g) (λ (s : List Ring). sum_of_map whole (answered options.clockwise) s) (rings_by_shape (placed a.sorted))) in
    let kept : filter (is_large options.least_area) rings ≡ rings = ap (λ (n : ℕ). filter (is_large n) rings) least ∙ keeps_all rings in
    by_contours
    ∙ (by_rings
    ∙ (shapes_sum g a.sorted
    ∙ (sum_of_permutation g (filter (is_large options.least_area) rings) a.sorted a.same
    ∙ (ap (sum_of g) kept
    ∙ (sum_of_map g (ring_of options.all_vertices) r.contours
    ∙ (ap (λ (b : Bool). sum_of (λ (c : List Point). whole (answered b (ring_of options.all_vertices c))) r.contours) same
    ∙ (sym (sum_of_map whole (vertices options.all_vertices) r.contours)
    ∙ sym (sum_of_flat_map f boundary (map (vertices options.all_vertices) r.contours)))))))))

-- so the answer's contours wind as those
pub answer_winds : (edges : List Edge) (fill : ℤ → Bool) (options : Choices) (answer : List (List (List Point))) → (r : IsResolution edges fill options answer) →
    options.least_area ≡ 0 → options.clockwise ≡ false → (m : ℕ) (q : Point) →
    winding m q (flat_map boundary (contours_of answer)) ≡ winding m q (flat_map boundary (map (vertices options.all_vertices) r.contours))
answer_winds edges fill options answer r least same m q = answer_sums edges fill options answer r least same (λ (e : Edge). crossing_on m q e.0 e.1)
