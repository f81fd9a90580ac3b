-- Lemmas over lists: tests of each element, and balance as a comparison of two sorted lists.
use Rattle.std.proofs.Common.{◌≡◌, ℕ, ◌+◌, ◌<◌, ◌≤◌, ◌⊎◌, ⊎_elim, true, false, List, [], ◌∷◌, map, length, take, get_or, suc, refl, sym, ◌∙◌, ap, subst, arith}
use Rattle.std.specs.Prelude.{ℤ, pos, ◌≤ℤ◌}
use Rattle.std.specs.List.{All}
use Rattle.std.proofs.lemmas.Bool.{both_ways, cases_Bool}
use Rattle.std.proofs.lemmas.List.{take_more, take_all, get_or-map}
use Rattle.std.proofs.lemmas.List.Elements.{All-push}
use Rattle.mesh_plane.specs.Plane.{Point, Edge}
use Rattle.mesh_plane.specs.Winding.{IsBalanced, sum_of, same_point}
use Rattle.mesh_plane.specs.Order.{point_lt}
use Rattle.mesh_plane.proofs.Balance.{growth_parts, growth_of_balanced, balanced_by_growth}
use Rattle.mesh_plane.proofs.Sums.{sum_of_map}
use Rattle.mesh_plane.proofs.Whole.{linear}
use Rattle.mesh_lattice.specs.Counted.{bit}
use Rattle.mesh_lattice.proofs.Counts.{bit_least}
use Rattle.mesh_lattice.specs.Split.{back}
use Rattle.mesh_shapes.specs.Vectors.{StartsInOrder}
use Rattle.mesh_plane.proofs.Sums.{sum_least}
use Rattle.mesh_shapes.proofs.Tracing.{Before, of_before, three_ways}
use Rattle.mesh_plane.proofs.Comparing.{decides_point}

-- ---- elements tested one by one
pub all_more : {X : Type 0} (P : X → Type 0) (xs : List X) (i : ℕ) (d : X) → i < length xs → All P (take i xs) → P (get_or xs i d) → All P (take (i + 1) xs)
all_more P xs i d low h own = subst (λ l. All P l) (sym (take_more xs i d low)) (All-push P (take i xs) (get_or xs i d) h own)

pub all_taken : {X : Type 0} (P : X → Type 0) (xs : List X) (i : ℕ) → length xs ≤ i → All P (take i xs) → All P xs
all_taken P xs i h = subst (λ l. All P l) (take_all i xs h)

-- ---- starts of edges
abbrev pub start : Edge → Point
start e = e.0

-- edges at one place of lists with the same starts start at one point
pub starts_at : (xs ys : List Edge) (i : ℕ) (d : Edge) → i < length xs → i < length ys → map start xs ≡ map start ys → same_point (get_or xs i d).0 (get_or ys i d).0 ≡ true
starts_at xs ys i d h k e =
    (decides_point (get_or xs i d).0 (get_or ys i d).0).1
    (sym (get_or-map start xs i d d.0 h) ∙ (ap (λ (l : List Point). get_or l i d.0) e ∙ get_or-map start ys i d d.0 k))

-- ---- lists in order with the same sums have the same starts
abbrev sums : (Point → ℤ) → List Edge → ℤ
sums g es = sum_of (λ (e : Edge). g e.0) es

rest_ordered : (x : Edge) (xs : List Edge) → StartsInOrder (x ∷ xs) → StartsInOrder xs
rest_ordered x xs h i j d le low = h (suc i) (suc j) d (omega arith) (omega arith)

none_at : (p : Point) (es : List Edge) → All (λ (e : Edge). same_point p e.0 ≡ false) es → sums (λ (q : Point). bit (same_point p q)) es ≡ pos 0
none_at p [] h = refl
none_at p (e ∷ es) h =
    let own : bit (same_point p e.0) ≡ pos 0 = ap bit (h 0 e (omega arith)) in
    let rest : sums (λ (q : Point). bit (same_point p q)) es ≡ pos 0 = none_at p es (λ k d low. h (suc k) d (omega arith)) in
    omega (arith, linear)

-- a start before all of the other list would be counted in one list alone
not_less : (x y : Edge) (xs ys : List Edge) → StartsInOrder (y ∷ ys) → ((g : Point → ℤ) → sums g (x ∷ xs) ≡ sums g (y ∷ ys)) → Before x.0 y.0 → ⊥
not_less x y xs ys ordered same less =
    let none : sums (λ (q : Point). bit (same_point x.0 q)) (y ∷ ys) ≡ pos 0 = none_at x.0 (y ∷ ys) apart in
    let own : bit (same_point x.0 x.0) ≡ pos 1 = ap bit ((decides_point x.0 x.0).1 refl) in
    let rest : pos 0 ≤ℤ sums (λ (q : Point). bit (same_point x.0 q)) xs = sum_least (λ (e : Edge). bit (same_point x.0 e.0)) (λ (e : Edge). bit_least (same_point x.0 e.0)) xs in
    let e = same (λ (q : Point). bit (same_point x.0 q)) in
    omega (arith, linear)
  where
    apart : All (λ (e : Edge). same_point x.0 e.0 ≡ false) (y ∷ ys)
    apart k d low =
        ⊎_elim
        (λ (t : same_point x.0 (get_or (y ∷ ys) k d).0 ≡ true).
        absurd (both_ways (point_lt (get_or (y ∷ ys) k d).0 y.0) (ordered 0 k d (omega arith) low)
        (subst (λ (p : Point). point_lt p y.0 ≡ true) ((decides_point x.0 (get_or (y ∷ ys) k d).0).0 t) (of_before x.0 y.0 less))))
        (λ (f : same_point x.0 (get_or (y ∷ ys) k d).0 ≡ false). f)
        (cases_Bool (same_point x.0 (get_or (y ∷ ys) k d).0))

some_more : (x : Edge) (xs : List Edge) → pos 0 ≡ sums (λ (q : Point). pos 1) (x ∷ xs) → ⊥
some_more x xs e =
    let rest : pos 0 ≤ℤ sums (λ (q : Point). pos 1) xs = sum_least (λ (e : Edge). pos 1) (λ (e : Edge). bit_least true) xs in
    omega (arith, linear)

same_starts : (xs ys : List Edge) → StartsInOrder xs → StartsInOrder ys → ((g : Point → ℤ) → sums g xs ≡ sums g ys) → map start xs ≡ map start ys
same_starts [] [] h k same = refl
same_starts [] (y ∷ ys) h k same = absurd (some_more y ys (same (λ (q : Point). pos 1)))
same_starts (x ∷ xs) [] h k same = absurd (some_more x xs (sym (same (λ (q : Point). pos 1))))
same_starts (x ∷ xs) (y ∷ ys) h k same =
    ⊎_elim
    (λ (o : Before x.0 y.0 ⊎ Before y.0 x.0).
    ⊎_elim (λ (b : Before x.0 y.0). absurd (not_less x y xs ys k same b)) (λ (b : Before y.0 x.0). absurd (not_less y x ys xs h (λ (g : Point → ℤ). sym (same g)) b)) o)
    (λ (e : x.0 ≡ y.0).
    let rest = same_starts xs ys (rest_ordered x xs h) (rest_ordered y ys k) (λ (g : Point → ℤ). omega (arith, linear, same g, ap g e)) in
    λ i. e i ∷ rest i)
    (three_ways x.0 y.0)

-- ---- balance
by_starts : (g : Point → ℤ) (xs ys : List Edge) → map start xs ≡ map start ys → sums g xs ≡ sums g ys
by_starts g xs ys e = sym (sum_of_map g start xs) ∙ (ap (sum_of g) e ∙ sum_of_map g start ys)

-- edges are balanced where their starts and their ends in order are the same points
pub alike_balanced : (es leaving entering : List Edge) → ((g : Edge → ℤ) → sum_of g leaving ≡ sum_of g es) → ((g : Edge → ℤ) → sum_of g entering ≡ sum_of g (map back es)) →
    map start leaving ≡ map start entering → IsBalanced es
alike_balanced es leaving entering l r e =
    balanced_by_growth es (λ (g : Point → ℤ).
    omega (arith, linear, growth_parts g es, sum_of_map (λ (x : Edge). g x.0) back es, l (λ (x : Edge). g x.0), r (λ (x : Edge). g x.0), by_starts g leaving entering e))

pub balanced_alike : (es leaving entering : List Edge) → ((g : Edge → ℤ) → sum_of g leaving ≡ sum_of g es) → ((g : Edge → ℤ) → sum_of g entering ≡ sum_of g (map back es)) →
    StartsInOrder leaving → StartsInOrder entering → IsBalanced es → map start leaving ≡ map start entering
balanced_alike es leaving entering l r h k balanced =
    same_starts leaving entering h k (λ (g : Point → ℤ).
    omega (arith, linear, growth_parts g es, sum_of_map (λ (x : Edge). g x.0) back es, l (λ (x : Edge). g x.0), r (λ (x : Edge). g x.0), growth_of_balanced es balanced g))
