-- Lemmas over points and lists: where a contour begins, and the next vertices of the visits of its least point.
use Rattle.std.proofs.Common.{◌≡◌, ℕ, ◌+◌, ◌<◌, ◌⊎◌, inl, inr, ⊎_elim, zero, suc, Bool, true, false, cond, not, ◌||◌, ◌&&◌, List, [], ◌∷◌, ◌++◌, length, drop, take, append-nil, below_more, refl, sym, ◌∙◌, ap, subst, arith}
use Rattle.std.specs.Prelude.{ℤ, pos, neg_ℤ, ◌+ℤ◌, ◌-ℤ◌, ◌*ℤ◌, ◌≤ℤ◌, ◌<ℤ◌, int_lt}
use Rattle.std.specs.Ordering.{int_eq}
use Rattle.std.specs.List.{All}
use Rattle.std.proofs.lemmas.Int.{ints}
use Rattle.std.proofs.lemmas.Bool.{cases_Bool, both_ways, or_from}
use Rattle.std.proofs.lemmas.Bool.Decides.{Decides-int_eq}
use Rattle.std.proofs.lemmas.List.Elements.{All-head, All-tail, All-from_recursion}
use Rattle.std.proofs.lemmas.List.{take-append-drop}
use Rattle.std.proofs.Math.Seq.{drop-cons}
use Rattle.mesh_plane.specs.Plane.{Point, Edge, minus, cross, dot}
use Rattle.mesh_plane.specs.Order.{point_lt}
use Rattle.mesh_plane.specs.Winding.{sum_of, route, boundary, same_point}
use Rattle.mesh_plane.proofs.Whole.{linear, mul_both_neg, mul_neg_pos, pos_of_mul, neg_mul, square_nonneg, mul_zero, zero_mul}
use Rattle.mesh_plane.proofs.Ring.{ring, var, ◌⊕◌, ◌⊖◌, ◌⊗◌}
use Rattle.mesh_plane.proofs.ClosedLists.{boundary_rotated}
use Rattle.mesh_plane.specs.Turning.{turns_at, first_or, last_of}
use Rattle.mesh_shapes.specs.Contours.{turning_points, kept, vertices, edge_lt, FirstIsLeast, IsBegun, side_point, left_out, StartsOnce, IsRingOf, IsRingAmong}
use Rattle.mesh_lattice.specs.Counted.{bit}
use Rattle.mesh_shapes.specs.Private.Progress.{point_at, next_at, next_kept, IsBestVisit, IsLeastBefore}
use Rattle.mesh_lattice.proofs.Each.{Each, each_more, each_append, each_left, each_right}
use Rattle.mesh_lattice.proofs.SoundSplits.{ProperEnds}
use Rattle.mesh_shapes.proofs.Tracing.{Before, before_of, of_before, not_before, three_ways, lt_self, from_after, before_trans, before_not_self}
use Rattle.mesh_plane.proofs.Comparing.{decides_point, less_test}

-- ---- turning points
pub corner_yes : (a p n : Point) → (cross (minus p a) (minus p n) ≡ pos 0 → ⊥) → turns_at a p n ≡ true
corner_yes a p n h =
    ap (λ (b : Bool). not b || int_lt (pos 0) (dot (minus p a) (minus p n)))
    (⊎_elim (λ (t : int_eq (cross (minus p a) (minus p n)) (pos 0) ≡ true). absurd (h ((Decides-int_eq (cross (minus p a) (minus p n)) (pos 0)).0 t)))
    (λ (f : int_eq (cross (minus p a) (minus p n)) (pos 0) ≡ false). f) (cases_Bool (int_eq (cross (minus p a) (minus p n)) (pos 0))))

pub corner_flat : (a p n : Point) → cross (minus p a) (minus p n) ≡ pos 0 → turns_at a p n ≡ int_lt (pos 0) (dot (minus p a) (minus p n))
corner_flat a p n h = ap (λ (b : Bool). not b || int_lt (pos 0) (dot (minus p a) (minus p n))) ((Decides-int_eq (cross (minus p a) (minus p n)) (pos 0)).1 h)

-- two vectors that both lead to lesser points, and lie on one line, look the same way
same_way : (a b c d : ℤ) → (a <ℤ pos 0) ⊎ ((a ≡ pos 0) × (b <ℤ pos 0)) → (c <ℤ pos 0) ⊎ ((c ≡ pos 0) × (d <ℤ pos 0)) →
    (a *ℤ d) -ℤ (b *ℤ c) ≡ pos 0 → pos 0 <ℤ ((a *ℤ c) +ℤ (b *ℤ d))
same_way a b c d (inl ha) (inl hc) e =
    let id : a *ℤ ((a *ℤ c) +ℤ (b *ℤ d)) ≡ (c *ℤ ((a *ℤ a) +ℤ (b *ℤ b))) +ℤ (b *ℤ ((a *ℤ d) -ℤ (b *ℤ c))) =
    ring (a ∷ b ∷ c ∷ d ∷ []) (var 0 ⊗ ((var 0 ⊗ var 2) ⊕ (var 1 ⊗ var 3))) ((var 2 ⊗ ((var 0 ⊗ var 0) ⊕ (var 1 ⊗ var 1))) ⊕ (var 1 ⊗ ((var 0 ⊗ var 3) ⊖ (var 1 ⊗ var 2)))) refl in
    let none : b *ℤ ((a *ℤ d) -ℤ (b *ℤ c)) ≡ pos 0 = ap (λ (z : ℤ). b *ℤ z) e ∙ mul_zero b in
    let square : pos 0 <ℤ ((a *ℤ a) +ℤ (b *ℤ b)) = omega (arith, linear, mul_both_neg a a ha ha, square_nonneg b) in
    let less : (c *ℤ ((a *ℤ a) +ℤ (b *ℤ b))) <ℤ pos 0 = mul_neg_pos c ((a *ℤ a) +ℤ (b *ℤ b)) hc square in
    pos_of_mul (neg_ℤ a) ((a *ℤ c) +ℤ (b *ℤ d)) (omega (arith, linear)) (omega (arith, linear, neg_mul a ((a *ℤ c) +ℤ (b *ℤ d))))
same_way a b c d (inl ha) (inr hc) e =
    let lean : pos 0 <ℤ (a *ℤ d) = mul_both_neg a d ha hc.1 in
    let none : b *ℤ c ≡ pos 0 = ap (λ (z : ℤ). b *ℤ z) hc.0 ∙ mul_zero b in
    absurd (omega (arith, linear))
same_way a b c d (inr ha) (inl hc) e =
    let lean : pos 0 <ℤ (b *ℤ c) = mul_both_neg b c ha.1 hc in
    let none : a *ℤ d ≡ pos 0 = ap (λ (z : ℤ). z *ℤ d) ha.0 ∙ zero_mul d in
    absurd (omega (arith, linear))
same_way a b c d (inr ha) (inr hc) e =
    let lean : pos 0 <ℤ (b *ℤ d) = mul_both_neg b d ha.1 hc.1 in
    let none : a *ℤ c ≡ pos 0 = ap (λ (z : ℤ). z *ℤ c) ha.0 ∙ zero_mul c in
    omega (arith, linear)

leads_less : (p q : Point) → point_lt q p ≡ false → (q ≡ p → ⊥) → ((minus p q).0 <ℤ pos 0) ⊎ (((minus p q).0 ≡ pos 0) × ((minus p q).1 <ℤ pos 0))
leads_less p q h differ =
    ⊎_elim
    (λ (o : Before q p ⊎ Before p q).
    ⊎_elim (λ (x : Before q p). absurd (both_ways (point_lt q p) h (of_before q p x)))
    (λ (x : Before p q). by x) o)
    (λ (e : q ≡ p). absurd (differ e))
    (three_ways q p)
  where
    by : Before p q → ((minus p q).0 <ℤ pos 0) ⊎ (((minus p q).0 ≡ pos 0) × ((minus p q).1 <ℤ pos 0))
    by (inl x) = inl (omega (arith, linear))
    by (inr x) = inr (omega (arith, linear, x.0), omega (arith, linear, x.1))

-- at the least point the way turns
pub least_corner : (a p n : Point) → point_lt a p ≡ false → point_lt n p ≡ false → (a ≡ p → ⊥) → (n ≡ p → ⊥) → turns_at a p n ≡ true
least_corner a p n la ln da dn =
    by_cross (Decides-int_eq (cross (minus p a) (minus p n)) (pos 0)).0 (cases_Bool (int_eq (cross (minus p a) (minus p n)) (pos 0)))
  where
    by_cross : (int_eq (cross (minus p a) (minus p n)) (pos 0) ≡ true → cross (minus p a) (minus p n) ≡ pos 0) →
        (int_eq (cross (minus p a) (minus p n)) (pos 0) ≡ true) ⊎ (int_eq (cross (minus p a) (minus p n)) (pos 0) ≡ false) → turns_at a p n ≡ true
    by_cross f (inl t) =
        corner_flat a p n (f t)
        ∙ less_test (pos 0) (dot (minus p a) (minus p n)) (same_way (minus p a).0 (minus p a).1 (minus p n).0 (minus p n).1 (leads_less p a la da) (leads_less p n ln dn) (f t))
    by_cross f (inr t) = ap (λ (b : Bool). not b || int_lt (pos 0) (dot (minus p a) (minus p n))) t

-- ---- a contour that comes by its least point `p` again
first_append : (p : Point) (xs ys : List Point) → first_or p (xs ++ p ∷ ys) ≡ first_or p xs
first_append p [] ys = refl
first_append p (x ∷ xs) ys = refl

-- the next vertex is the same, whether the contour ends at the point or goes on from it
pub next_same : (all : Bool) (p a : Point) (xs ys : List Point) → turns_at (last_of a xs) p (first_or p ys) ≡ true →
    next_kept all a (xs ++ p ∷ ys) p ≡ next_kept all a xs p
next_same true p a xs ys h = first_append p xs ys
next_same false p a [] ys h = ap (λ (b : Bool). first_or p (cond b (p ∷ turning_points p ys p) (turning_points p ys p))) h
next_same false p a (x ∷ xs) ys h =
    ap (λ (n : Point). first_or p (cond (turns_at a x n) (x ∷ turning_points x (xs ++ p ∷ ys) p) (turning_points x (xs ++ p ∷ ys) p))) (first_append p xs ys)
    ∙ by (turns_at a x (first_or p xs)) (next_same false p x xs ys h)
  where
    by : (b : Bool) → first_or p (turning_points x (xs ++ p ∷ ys) p) ≡ first_or p (turning_points x xs p) →
        first_or p (cond b (x ∷ turning_points x (xs ++ p ∷ ys) p) (turning_points x (xs ++ p ∷ ys) p)) ≡ first_or p (cond b (x ∷ turning_points x xs p) (turning_points x xs p))
    by true f = refl
    by false f = f

-- at each visit of `p` in the list, which the way ends at `p`, the next vertex is not less than `m`
abbrev pub VisitsLeast : Bool → Point → Point → List Point → Type 0
VisitsLeast all p m [] = Unit {0}
VisitsLeast all p m (y ∷ ys) = (y ≡ p → point_lt (next_kept all y ys p) m ≡ false) × VisitsLeast all p m ys

-- the points are not less than `p`
abbrev NoneLess : Point → List Point → Type 0
NoneLess p xs = Each (λ (q : Point). point_lt q p ≡ false) xs

first_less : (p : Point) (ys : List Point) → NoneLess p ys → point_lt (first_or p ys) p ≡ false
first_less p [] h = lt_self p
first_less p (y ∷ ys) h = h.0

last_less : (p a : Point) (xs : List Point) → point_lt a p ≡ false → NoneLess p xs → point_lt (last_of a xs) p ≡ false
last_less p a [] ha h = ha
last_less p a (x ∷ xs) ha h = last_less p x xs h.0 h.1

-- an edge into the point, and one out of it, where the way `a`, `xs`, `p`, `ys`, `z` is proper
proper_last : (a : Point) (xs : List Point) (p : Point) (ys : List Point) (z : Point) → Each ProperEnds (route a (xs ++ p ∷ ys) z) → last_of a xs ≡ p → ⊥
proper_last a [] p ys z h = h.0
proper_last a (x ∷ xs) p ys z h = proper_last x xs p ys z h.1

proper_first : (a : Point) (xs : List Point) (p : Point) (ys : List Point) (z : Point) → Each ProperEnds (route a (xs ++ p ∷ ys) z) → p ≡ first_or z ys → ⊥
proper_first a [] p [] z h = h.1.0
proper_first a [] p (y ∷ ys) z h = h.1.0
proper_first a (x ∷ xs) p ys z h = proper_first x xs p ys z h.1

-- a contour turns at the least point within it
inner_corner : (p a : Point) (xs ys : List Point) → point_lt a p ≡ false → NoneLess p xs → NoneLess p ys → Each ProperEnds (route a (xs ++ p ∷ ys) p) →
    turns_at (last_of a xs) p (first_or p ys) ≡ true
inner_corner p a xs ys ha hx hy proper =
    least_corner (last_of a xs) p (first_or p ys) (last_less p a xs ha hx) (first_less p ys hy) (proper_last a xs p ys p proper)
    (λ (e : first_or p ys ≡ p). proper_first a xs p ys p proper (sym e))

-- visits before and after a visit in between
pub visits_split : (all : Bool) (p m a : Point) (xs ys : List Point) → point_lt a p ≡ false → NoneLess p xs → NoneLess p ys → Each ProperEnds (route a (xs ++ p ∷ ys) p) →
    VisitsLeast all p m (xs ++ p ∷ ys) → VisitsLeast all p m xs × VisitsLeast all p m (p ∷ ys)
visits_split all p m a [] ys ha hx hy proper v = (tt, v)
visits_split all p m a (x ∷ xs) ys ha hx hy proper v =
    let rest = visits_split all p m x xs ys hx.0 hx.1 hy proper.1 v.1 in
    (((λ (e : x ≡ p). subst (λ (q : Point). point_lt q m ≡ false) (next_same all p x xs ys (inner_corner p x xs ys hx.0 hx.1 hy proper.1)) (v.0 e)), rest.0), rest.1)

pub visits_join : (all : Bool) (p m a : Point) (xs ys : List Point) → point_lt a p ≡ false → NoneLess p xs → NoneLess p ys → Each ProperEnds (route a (xs ++ p ∷ ys) p) →
    VisitsLeast all p m xs → VisitsLeast all p m (p ∷ ys) → VisitsLeast all p m (xs ++ p ∷ ys)
visits_join all p m a [] ys ha hx hy proper v w = w
visits_join all p m a (x ∷ xs) ys ha hx hy proper v w = (
  (λ (e : x ≡ p). subst (λ (q : Point). point_lt q m ≡ false) (sym (next_same all p x xs ys (inner_corner p x xs ys hx.0 hx.1 hy proper.1))) (v.0 e)),
  visits_join all p m x xs ys hx.0 hx.1 hy proper.1 v.1 w,
)

-- ---- the least edge of the vertices
-- an edge that is not less than that from `p` to `m`
abbrev NotLess : Point → Point → Edge → Type 0
NotLess p m e = edge_lt e (p, m) ≡ false

not_less_edge : (p m a b : Point) → point_lt a p ≡ false → (a ≡ p → point_lt b m ≡ false) → NotLess p m (a, b)
not_less_edge p m a b la h =
    or_from (point_lt a p) (same_point a p && point_lt b m) la
    (by (same_point a p) refl)
  where
    by : (s : Bool) → same_point a p ≡ s → (same_point a p && point_lt b m) ≡ false
    by true t = (λ i. t i && h ((decides_point a p).0 t) i)
    by false t = ap (λ (s : Bool). s && point_lt b m) t

kept_edges : (all : Bool) (p m k a : Point) (xs : List Point) → point_lt k p ≡ false → (k ≡ p → point_lt (next_kept all a xs p) m ≡ false) → NoneLess p xs → VisitsLeast all p m xs →
    Each (NotLess p m) (route k (kept all a xs p) p)
kept_edges true p m k a [] lk hk hx v = (not_less_edge p m k p lk hk, tt)
kept_edges true p m k a (x ∷ xs) lk hk hx v = (not_less_edge p m k x lk hk, kept_edges true p m x x xs hx.0 v.0 hx.1 v.1)
kept_edges false p m k a [] lk hk hx v = (not_less_edge p m k p lk hk, tt)
kept_edges false p m k a (x ∷ xs) lk hk hx v = by (turns_at a x (first_or p xs)) hk (kept_edges false p m x x xs hx.0 v.0 hx.1 v.1) (λ (h : k ≡ p → point_lt (first_or p (turning_points x xs p)) m ≡ false). kept_edges false p m k x xs lk h hx.1 v.1)
  where
    by : (b : Bool) → (k ≡ p → point_lt (first_or p (cond b (x ∷ turning_points x xs p) (turning_points x xs p))) m ≡ false) → Each (NotLess p m) (route x (turning_points x xs p) p) →
        ((k ≡ p → point_lt (first_or p (turning_points x xs p)) m ≡ false) → Each (NotLess p m) (route k (turning_points x xs p) p)) →
        Each (NotLess p m) (route k (cond b (x ∷ turning_points x xs p) (turning_points x xs p)) p)
    by true h own further = (not_less_edge p m k x lk h, own)
    by false h own further = further h

first_least : (p m : Point) (xs : List Point) → first_or p xs ≡ m → Each (NotLess p m) (route p xs p) → FirstIsLeast (route p xs p)
first_least p m [] e h = All-from_recursion (λ (f : Edge). edge_lt f (p, p) ≡ false) [] tt
first_least p m (x ∷ xs) e h =
    All-from_recursion (λ (f : Edge). edge_lt f (p, x) ≡ false) (route x xs p) (each_more (NotLess p m) (λ (f : Edge). edge_lt f (p, x) ≡ false) (λ (f : Edge) (g : NotLess p m f). subst (λ (q : Point). edge_lt f (p, q) ≡ false) (sym e) g) (route x xs p) h.1)

-- a contour begins at its least point and at the visit of it with the least next vertex
pub begun_of : (all : Bool) (p : Point) (xs : List Point) → NoneLess p xs → VisitsLeast all p (next_kept all p xs p) (p ∷ xs) → IsBegun all (p ∷ xs)
begun_of all p xs hx v = record {
  at_least = All-from_recursion (λ (q : Point). point_lt q p ≡ false) xs hx;
  least_next =
      first_least p (next_kept all p xs p) (kept all p xs p) refl
      (kept_edges all p (next_kept all p xs p) p p xs (lt_self p) v.0 hx v.1);
}

-- turned to a visit of the least point
pub begun_turned : (all : Bool) (p : Point) (xs ys : List Point) → NoneLess p xs → NoneLess p ys → Each ProperEnds (route p (xs ++ p ∷ ys) p) → Each ProperEnds (route p (ys ++ p ∷ xs) p) →
    VisitsLeast all p (next_kept all p ys p) (p ∷ (xs ++ p ∷ ys)) → IsBegun all (p ∷ (ys ++ p ∷ xs))
begun_turned all p xs ys hx hy proper turned v =
    let m : Point = next_kept all p ys p in
    let parts = visits_split all p m p xs ys (lt_self p) hx hy proper v.1 in
    let corner = inner_corner p p ys xs (lt_self p) hy hx turned in
    let same : next_kept all p (ys ++ p ∷ xs) p ≡ m = next_same all p p ys xs corner in
    let own : p ≡ p → point_lt (next_kept all p xs p) m ≡ false =
    λ (e : p ≡ p). subst (λ (q : Point). point_lt q m ≡ false) (next_same all p p xs ys (inner_corner p p xs ys (lt_self p) hx hy proper)) (v.0 e) in
    begun_of all p (ys ++ p ∷ xs) (each_append (λ (q : Point). point_lt q p ≡ false) ys (p ∷ xs) hy (lt_self p, hx))
    (subst (λ (q : Point). VisitsLeast all p q (p ∷ (ys ++ p ∷ xs))) (sym same) (
      (λ (e : p ≡ p). subst (λ (q : Point). point_lt q m ≡ false) (sym same) (lt_self m)),
      visits_join all p m p ys xs (lt_self p) hy hx turned parts.1.1 (own, parts.0),
    ))

-- ---- from places to lists
each_places : (P : Point → Type 0) (ps : List Point) → ((k : ℕ) → k < length ps → P (point_at ps k)) → Each P ps
each_places P [] h = tt
each_places P (p ∷ ps) h = (h zero (omega arith), each_places P ps (λ (k : ℕ) (l : k < length ps). h (suc k) (omega arith)))

each_drop : (P : Point → Type 0) (n : ℕ) (ps : List Point) → Each P ps → Each P (drop n ps)
each_drop P zero [] h = h
each_drop P zero (p ∷ ps) h = h
each_drop P (suc n) [] h = tt
each_drop P (suc n) (p ∷ ps) h = each_drop P n ps h.1

each_take : (P : Point → Type 0) (n : ℕ) (ps : List Point) → Each P ps → Each P (take n ps)
each_take P zero [] h = tt
each_take P zero (p ∷ ps) h = tt
each_take P (suc n) [] h = tt
each_take P (suc n) (p ∷ ps) h = (h.0, each_take P n ps h.1)

-- the visits of a list, by their places
drop_zero : (l : List Point) → drop 0 l ≡ l
drop_zero [] = refl
drop_zero (x ∷ l) = refl

visits_places : (all : Bool) (p m : Point) (ps : List Point) →
    ((k : ℕ) → k < length ps → point_at ps k ≡ p → point_lt (next_kept all (point_at ps k) (drop (k + 1) ps) p) m ≡ false) → VisitsLeast all p m ps
visits_places all p m [] h = tt
visits_places all p m (y ∷ ys) h = (
  (λ (e : y ≡ p). subst (λ (l : List Point). point_lt (next_kept all y l p) m ≡ false) (drop_zero ys) (h zero (omega arith) e)),
  visits_places all p m ys (λ (k : ℕ) (l : k < length ys) (e : point_at ys k ≡ p).
      subst (λ (l : List Point). point_lt (next_kept all (point_at ys k) l p) m ≡ false) (drop_next k) (h (suc k) (omega arith) e)),
)
  where
    drop_next : (k : ℕ) → drop (suc k + 1) (y ∷ ys) ≡ drop (k + 1) ys
    drop_next k = ap (λ (n : ℕ). drop n (y ∷ ys)) (let e : suc k + 1 ≡ suc (k + 1) = omega arith in e)

-- a list that comes by its first point again at a place, and the list turned to that place
pub record ComesBy (c : List Point) (i : ℕ) (p : Point) : Type 0 where
  pub before : List Point
  pub after : List Point
  pub list_is : c ≡ p ∷ (before ++ p ∷ after)
  pub turned_is : drop i c ++ take i c ≡ p ∷ (after ++ p ∷ before)
  pub rest_is : drop (i + 1) c ≡ after

comes_by : (xs : List Point) (i : ℕ) (p : Point) → i < length xs → point_at xs i ≡ p → ComesBy (p ∷ xs) (suc i) p
comes_by xs i p l e =
    let at : drop i xs ≡ p ∷ drop (suc i) xs = drop-cons xs i (pos 0, pos 0) l ∙ (λ j. e j ∷ drop (suc i) xs) in
    record {
      before = take i xs;
      after = drop (suc i) xs;
      list_is = λ j. p ∷ (sym (take-append-drop i xs) ∙ (λ k. take i xs ++ at k)) j;
      turned_is = λ j. at j ++ (p ∷ take i xs);
      rest_is = ap (λ (n : ℕ). drop n (p ∷ xs)) (let f : suc i + 1 ≡ suc (suc i) = omega arith in f);
    }

-- ---- proper edges, whatever point the list begins at
abbrev ends_bit : Edge → ℤ
ends_bit e = bit (same_point e.0 e.1)

proper_bits : (es : List Edge) → Each ProperEnds es → sum_of ends_bit es ≡ pos 0
proper_bits [] h = refl
proper_bits (e ∷ es) h =
    omega (arith, linear, ap bit (⊎_elim (λ (t : same_point e.0 e.1 ≡ true). absurd (h.0 ((decides_point e.0 e.1).0 t))) (λ (f : same_point e.0 e.1 ≡ false). f) (cases_Bool (same_point e.0 e.1))), proper_bits es h.1)

bits_least : (es : List Edge) → pos 0 ≤ℤ sum_of ends_bit es
bits_least [] = omega (arith, ints)
bits_least (e ∷ es) = by (same_point e.0 e.1) (bits_least es)
  where
    by : (b : Bool) → pos 0 ≤ℤ sum_of ends_bit es → pos 0 ≤ℤ (bit b +ℤ sum_of ends_bit es)
    by true h = omega (arith, ints)
    by false h = omega (arith, ints)

bits_proper : (es : List Edge) → sum_of ends_bit es ≡ pos 0 → Each ProperEnds es
bits_proper [] h = tt
bits_proper (e ∷ es) h = by (same_point e.0 e.1) refl (bits_proper es)
  where
    by : (b : Bool) → same_point e.0 e.1 ≡ b → (sum_of ends_bit es ≡ pos 0 → Each ProperEnds es) →
        Each ProperEnds (e ∷ es)
    by true t f = absurd (omega (arith, ints, ap bit t, bits_least es))
    by false t f = ((λ (x : e.0 ≡ e.1). both_ways (same_point e.0 e.1) t ((decides_point e.0 e.1).1 x)), f (omega (arith, linear, ap bit t)))

pub proper_rotated : (xs ys : List Point) → Each ProperEnds (boundary (xs ++ ys)) →
    Each ProperEnds (boundary (ys ++ xs))
proper_rotated xs ys h = bits_proper (boundary (ys ++ xs)) (sym (boundary_rotated ends_bit xs ys) ∙ proper_bits (boundary (xs ++ ys)) h)

pub ends_if_all : (es : List Edge) → All (λ (e : Edge). same_point e.0 e.1 ≡ false) es → Each ProperEnds es
ends_if_all [] h = tt
ends_if_all (e ∷ es) h = (
  (λ (x : e.0 ≡ e.1). both_ways (same_point e.0 e.1) (All-head (λ (e : Edge). same_point e.0 e.1 ≡ false) e es h) ((decides_point e.0 e.1).1 x)),
  ends_if_all es (All-tail (λ (e : Edge). same_point e.0 e.1 ≡ false) e es h),
)

-- ---- a contour turned to its start
-- a contour that begins at its least point, turned to the best of the visits of it
pub best_begun : (all : Bool) (p : Point) (xs : List Point) (i : ℕ) → NoneLess p xs → Each ProperEnds (boundary (p ∷ xs)) → IsBestVisit all (p ∷ xs) (length (p ∷ xs)) i →
    IsBegun all (drop i (p ∷ xs) ++ take i (p ∷ xs))
best_begun all p xs zero hx proper best =
    subst (IsBegun all) (sym (append-nil (p ∷ xs)))
    (begun_of all p xs hx (visits_places all p (next_kept all p xs p) (p ∷ xs)
    (λ (k : ℕ) (l : k < length (p ∷ xs)) (e : point_at (p ∷ xs) k ≡ p). subst (λ (q : Point). point_lt (next_at all (p ∷ xs) k) q ≡ false) first (best.least k l e))))
  where
    first : next_at all (p ∷ xs) 0 ≡ next_kept all p xs p
    first = ap (λ (l : List Point). next_kept all p l p) (drop_zero xs)
best_begun all p xs (suc i) hx proper best =
    let r = comes_by xs i p (omega (arith, best.within)) best.visit in
    let whole = subst (λ (l : List Point). Each ProperEnds (boundary l)) r.list_is proper in
    let turned = proper_rotated (p ∷ r.before) (p ∷ r.after) whole in
    let least : NoneLess p (r.before ++ p ∷ r.after) =
    subst (λ (l : List Point). NoneLess p (drop 1 l)) r.list_is (drop_one xs hx) in
    let ahead : NoneLess p r.before = each_left (λ (q : Point). point_lt q p ≡ false) r.before (p ∷ r.after) least in
    let behind : NoneLess p (p ∷ r.after) =
    each_right (λ (q : Point). point_lt q p ≡ false) r.before (p ∷ r.after) least in
    let next : next_at all (p ∷ xs) (suc i) ≡ next_kept all p r.after p = λ j. next_kept all (best.visit j) (r.rest_is j) p in
    let places : (k : ℕ) → k < length (p ∷ xs) → point_at (p ∷ xs) k ≡ p → point_lt (next_kept all (point_at (p ∷ xs) k) (drop (k + 1) (p ∷ xs)) p) (next_kept all p r.after p) ≡ false =
    λ (k : ℕ) (l : k < length (p ∷ xs)) (e : point_at (p ∷ xs) k ≡ p). subst (λ (q : Point). point_lt (next_at all (p ∷ xs) k) q ≡ false) next (best.least k l e) in
    subst (IsBegun all) (sym r.turned_is)
    (begun_turned all p r.before r.after ahead behind.1 whole turned
    (subst (λ (l : List Point). VisitsLeast all p (next_kept all p r.after p) l) r.list_is (visits_places all p (next_kept all p r.after p) (p ∷ xs) places)))
  where
    drop_one : (l : List Point) → NoneLess p l → NoneLess p (drop 1 (p ∷ l))
    drop_one [] h = h
    drop_one (x ∷ l) h = h

-- the ring that is made of a contour
pub ring_made : (all : Bool) (given c₀ c₁ vs : List Point) (side : Point) (j i : ℕ) → All (λ (e : Edge). same_point e.0 e.1 ≡ false) (boundary given) →
    IsLeastBefore given (length given) j → c₀ ≡ drop j given ++ take j given → IsBestVisit all c₀ (length c₀) i → c₁ ≡ drop i c₀ ++ take i c₀ →
    vs ≡ vertices all c₁ → side ≡ side_point c₁ → IsRingOf all given (vs, side)
ring_made all given c₀ c₁ vs side j i proper least first best second v s = record {
  contour = c₁;
  same = λ (f : Edge → ℤ). same_sum c₀ c₁ i second f ∙ same_sum given c₀ j first f;
  begun =
      subst (IsBegun all) (sym second)
      (begin_at c₀ (point_at given j) (take j given) (first ∙ λ k. at k ++ take j given) best
      (subst (λ (l : List Point). Each ProperEnds (boundary l)) (sym first)
      (proper_rotated (take j given) (drop j given) (subst (λ (l : List Point). Each ProperEnds (boundary l)) (sym (take-append-drop j given)) (ends_if_all (boundary given) proper))))
      (each_append (λ (q : Point). point_lt q (point_at given j) ≡ false) (drop (suc j) given) (take j given)
      (each_drop (λ (q : Point). point_lt q (point_at given j) ≡ false) (suc j) given none_less) (each_take (λ (q : Point). point_lt q (point_at given j) ≡ false) j given none_less)));
  vertices_are = v;
  side_is = s;
}
  where
    same_sum : (a b : List Point) (n : ℕ) → b ≡ drop n a ++ take n a → (f : Edge → ℤ) → sum_of f (boundary b) ≡ sum_of f (boundary a)
    same_sum a b n e f =
        ap (λ (l : List Point). sum_of f (boundary l)) e
        ∙ (boundary_rotated f (drop n a) (take n a) ∙ ap (λ (l : List Point). sum_of f (boundary l)) (take-append-drop n a))

    at : drop j given ≡ point_at given j ∷ drop (suc j) given
    at = drop-cons given j (pos 0, pos 0) least.within

    none_less : NoneLess (point_at given j) given
    none_less = each_places (λ (q : Point). point_lt q (point_at given j) ≡ false) given least.none_less

    begin_at : (c : List Point) (p : Point) (t : List Point) → c ≡ (p ∷ drop (suc j) given) ++ t → IsBestVisit all c (length c) i → Each ProperEnds (boundary c) → NoneLess p (drop (suc j) given ++ t) →
        IsBegun all (drop i c ++ take i c)
    begin_at c p t e b h n =
        subst (λ (l : List Point). IsBegun all (drop i l ++ take i l)) (sym e)
        (best_begun all p (drop (suc j) given ++ t) i n (subst (λ (l : List Point). Each ProperEnds (boundary l)) e h) (subst (λ (l : List Point). IsBestVisit all l (length l) i) e b))

-- and what edges start at the points that it leaves out
pub ring_among : (all lone : Bool) (edges : List Edge) (given c₀ c₁ vs : List Point) (side : Point) (j i : ℕ) → (proper : All (λ (e : Edge). same_point e.0 e.1 ≡ false) (boundary given)) →
    (least : IsLeastBefore given (length given) j) → (first : c₀ ≡ drop j given ++ take j given) → (best : IsBestVisit all c₀ (length c₀) i) → (second : c₁ ≡ drop i c₀ ++ take i c₀) →
    (v : vs ≡ vertices all c₁) → (s : side ≡ side_point c₁) → (lone ≡ true → All (StartsOnce edges) (left_out all c₁)) → IsRingAmong all edges given (vs, side) lone
unfolding ring_made
ring_among all lone edges given c₀ c₁ vs side j i proper least first best second v s once = record {
  is_ring = ring_made all given c₀ c₁ vs side j i proper least first best second v s;
  starts_once = once;
}

-- ---- steps of the loops over a contour
pub at_place : (c : List Point) (i : ℕ) → i < length c → drop i c ≡ point_at c i ∷ drop (i + 1) c
at_place c i h = drop-cons c i (pos 0, pos 0) h ∙ (let e : suc i ≡ i + 1 = omega arith in ap (λ (n : ℕ). point_at c i ∷ drop n c) e)

-- a better visit, or none
pub visit_same : (all : Bool) (c : List Point) (i best : ℕ) → IsBestVisit all c i best → (point_at c i ≡ point_at c 0 → point_lt (next_at all c i) (next_at all c best) ≡ false) →
    IsBestVisit all c (i + 1) best
visit_same all c i best h f = record {
  within = h.within;
  visit = h.visit;
  least = below_more (λ (k : ℕ). point_at c k ≡ point_at c 0 → point_lt (next_at all c k) (next_at all c best) ≡ false) i h.least f;
}

pub visit_better : (all : Bool) (c : List Point) (i best : ℕ) → i < length c → IsBestVisit all c i best → point_at c i ≡ point_at c 0 → point_lt (next_at all c i) (next_at all c best) ≡ true →
    IsBestVisit all c (i + 1) i
visit_better all c i best low h e less = record {
  within = low;
  visit = e;
  least =
      below_more (λ (k : ℕ). point_at c k ≡ point_at c 0 → point_lt (next_at all c k) (next_at all c i) ≡ false) i
      (λ (k : ℕ) (l : k < i) (v : point_at c k ≡ point_at c 0).
      from_after (next_at all c best) (next_at all c k) (next_at all c i) (h.least k l v) (not_before (next_at all c best) (next_at all c i) (λ (x : Before (next_at all c best) (next_at all c i)).
      before_not_self (next_at all c i) (before_trans (next_at all c i) (next_at all c best) (next_at all c i) (before_of (next_at all c i) (next_at all c best) less) x))))
      (λ (v : point_at c i ≡ point_at c 0). lt_self (next_at all c i));
}
