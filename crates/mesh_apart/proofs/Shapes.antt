-- Lemmas over rings and shapes: the answers of components have one join in the order of shapes, a resolution of all edges.
use Rattle.std.proofs.Common.{◌≡◌, ℕ, ◌+◌, inl, inr, Bool, true, false, cond, ◌&&◌, List, [], ◌∷◌, ◌++◌, map, refl, sym, ◌∙◌, ap, subst}
use Rattle.std.specs.Prelude.{ℤ, int_lt}
use Rattle.std.specs.Cmp.{IsStrictWeakOrder}
use Rattle.std.specs.List.{All, filter, enumerate_from}
use Rattle.std.specs.List.Sorted.{IsPermutation, IsSortedBy}
use Rattle.std.proofs.lemmas.Bool.{both_ways}
use Rattle.std.proofs.lemmas.List.{map-append, reverse-reverse}
use Rattle.std.proofs.lemmas.List.Elements.{All-weaker, filter-append}
use Rattle.std.proofs.lemmas.List.Sorted.{IsPermutation-append, IsPermutation-trans, All-permutation, list_any-IsPermutation}
use Rattle.mesh_plane.specs.Plane.{Point}
use Rattle.mesh_plane.specs.Winding.{boundary}
use Rattle.mesh_lattice.specs.Split.{after}
use Rattle.mesh_lattice.proofs.Each.{Each, each_more}
use Rattle.mesh_shapes.specs.Contours.{IsBegun, StartIsLeast, double_area, reversed}
use Rattle.mesh_shapes.specs.Resolution.{Choices, Ring, Placed, ring_of, is_large, points_lt, is_head, shape_of, rings_by_shape, answered, AreArranged, IsResolution}
use Rattle.mesh_apart.specs.Apart.{Piece, IsBoxed, edges_in, LieApart}
use Rattle.mesh_apart.specs.Joins.{IsJoin}
use Rattle.mesh_apart.specs.Joined.{rings_of, leading, shape_lt, AreJoined, surrounds, has_smaller, IsHeldByOwn, HoldTheirOwn}
use Rattle.mesh_apart.proofs.Boundaries.{segments_left}
use Rattle.mesh_apart.proofs.Groups.{HoldsItself, shapes_join}
use Rattle.mesh_apart.proofs.Joins.{all_from_each, each_filter, each_map, join_map, join_permutes, Rises, rises_filter, rises_map, rises_by, rises_from_sorted, sorted_from_rises, RisingJoin, rising_join, one_rising_join}
use Rattle.mesh_apart.proofs.Orders.{lists_order, order_by, lists_neither}
use Rattle.mesh_apart.proofs.Pieces.{each_from_all, apart_from_all, apart_back, LiesIn, AreApart}
use Rattle.mesh_apart.proofs.Resolutions.{joint}
use Rattle.mesh_apart.proofs.Rings.{AreParted, Fits, BeginsIn, contours_lie, contour_fits, contour_begins, never_round, begins_once}

-- ---- the order of shapes

turned_back : (cw : Bool) (r : Ring) → cond cw (reversed (answered cw r)) (answered cw r) ≡ r.0
turned_back true r = twice r.0
  where
    twice : (l : List Point) → reversed (reversed l) ≡ l
    twice [] = refl
    twice (p ∷ xs) = ap (λ (l : List Point). p ∷ l) (reverse-reverse xs)
turned_back false r = refl

abbrev pub ring_lt : Ring → Ring → Bool
ring_lt r s = points_lt r.0 s.0

pub ring_order : IsStrictWeakOrder ring_lt
ring_order = order_by points_lt lists_order (λ (r : Ring). r.0)

pub shape_order : (cw : Bool) → IsStrictWeakOrder (shape_lt cw)
shape_order cw = order_by points_lt lists_order (leading cw)

each_placed : (P : Ring → Type 0) (n : ℕ) (rs : List Ring) → Each P rs → Each (λ (h : Placed). P h.1) (enumerate_from n rs)
each_placed P n [] h = tt
each_placed P n (r ∷ rs) h = (h.0, each_placed P (n + 1) rs h.1)

rises_placed : (n : ℕ) (rs : List Ring) → Rises ring_lt rs → Rises (λ (h k : Placed). ring_lt h.1 k.1) (enumerate_from n rs)
rises_placed n [] h = tt
rises_placed n (r ∷ rs) h = (each_placed (λ (s : Ring). ring_lt s r ≡ false) (n + 1) rs h.0, rises_placed (n + 1) rs h.1)

-- the shapes of rings as they are answered
abbrev pub shapes_of : Bool → List Ring → List (List (List Point))
shapes_of cw rs = map (map (answered cw)) (rings_by_shape (enumerate_from 0 rs))

pub shapes_rise : (cw : Bool) (rs : List Ring) → Rises ring_lt rs → Rises (shape_lt cw) (shapes_of cw rs)
shapes_rise cw rs h =
    rises_map (shape_lt cw) (map (answered cw)) (rings_by_shape all)
    (rises_map (λ (a b : List Ring). shape_lt cw (map (answered cw) a) (map (answered cw) b)) (shape_of all) (filter (is_head all) all)
    (rises_by (λ (g k : Placed). ring_lt g.1 k.1) (λ (g k : Placed). shape_lt cw (map (answered cw) (shape_of all g)) (map (answered cw) (shape_of all k)))
    (λ (g k : Placed). λ i. points_lt (turned_back cw g.1 i) (turned_back cw k.1 i)) (filter (is_head all) all)
    (rises_filter (λ (g k : Placed). ring_lt g.1 k.1) (is_head all) all (rises_placed 0 rs h))))
  where
    all : List Placed
    all = enumerate_from 0 rs

pub shapes_begin : (ps : List Piece) (cw : Bool) (rs : List Ring) → Each (λ (r : Ring). BeginsIn ps r.0) rs → Each (λ (s : List (List Point)). BeginsIn ps (leading cw s)) (shapes_of cw rs)
shapes_begin ps cw rs h =
    each_map (map (answered cw)) (λ (s : List (List Point)). BeginsIn ps (leading cw s)) (rings_by_shape all)
    (each_map (shape_of all) (λ (s : List Ring). BeginsIn ps (leading cw (map (answered cw) s))) (filter (is_head all) all)
    (each_filter (is_head all) (λ (k : Placed). BeginsIn ps (leading cw (map (answered cw) (shape_of all k)))) all
    (each_more (λ (k : Placed). BeginsIn ps k.1.0) (λ (k : Placed). BeginsIn ps (leading cw (map (answered cw) (shape_of all k))))
    (λ (k : Placed) b. subst (BeginsIn ps) (sym (turned_back cw k.1)) b) all (each_placed (λ (r : Ring). BeginsIn ps r.0) 0 rs h))))
  where
    all : List Placed
    all = enumerate_from 0 rs

-- ---- the rings of a resolution

pub each_both : {A : Type 0} (P Q R : A → Type 0) → ((x : A) → P x → Q x → R x) → (xs : List A) → Each P xs → Each Q xs → Each R xs
each_both P Q R f [] p q = tt
each_both P Q R f (x ∷ xs) p q = (f x p.0 q.0, each_both P Q R f xs p.1 q.1)

-- what holds of the ring of each contour in boxes of the pieces holds of the rings in order
sorted_each : (ps : List Piece) → Each IsBoxed ps → (fill : ℤ → Bool) (options : Choices) (x : List (List (List Point)))
    → (r : IsResolution (edges_in ps) fill options x) → (P : Ring → Type 0)
    → ((c : List Point) → StartIsLeast c → Each (LiesIn ps) (boundary c) → P (ring_of options.all_vertices c)) → Each P r.arranged.sorted
sorted_each ps boxed fill options x r P f =
    each_from_all P r.arranged.sorted
    (All-permutation P (rings_of options r.contours) r.arranged.sorted r.arranged.same
    (all_from_each P (rings_of options r.contours)
    (each_filter (is_large options.least_area) P (map (ring_of options.all_vertices) r.contours)
    (each_map (ring_of options.all_vertices) P r.contours
    (each_both (IsBegun options.all_vertices) (λ (c : List Point). Each (LiesIn ps) (boundary c)) (λ (c : List Point). P (ring_of options.all_vertices c))
    (λ (c : List Point) b l. f c b.at_least l) r.contours
    (each_from_all (IsBegun options.all_vertices) r.contours r.begun)
    (contours_lie ps (after r.splits (edges_in ps)) (segments_left ps boxed r.splits r.legal) fill r.contours r.bounded))))))

sorted_fit : (ps : List Piece) → Each IsBoxed ps → AreParted ps → (fill : ℤ → Bool) (options : Choices) (x : List (List (List Point)))
    → (r : IsResolution (edges_in ps) fill options x) → Each (Fits ps) r.arranged.sorted
sorted_fit ps boxed parted fill options x r =
    sorted_each ps boxed fill options x r (Fits ps) (λ (c : List Point) b l. contour_fits ps parted options.all_vertices c b l)

sorted_begin : (ps : List Piece) → Each IsBoxed ps → (fill : ℤ → Bool) (options : Choices) (x : List (List (List Point)))
    → (r : IsResolution (edges_in ps) fill options x) → Each (λ (k : Ring). BeginsIn ps k.0) r.arranged.sorted
sorted_begin ps boxed fill options x r =
    sorted_each ps boxed fill options x r (λ (k : Ring). BeginsIn ps k.0) (λ (c : List Point) b l. contour_begins ps options.all_vertices c b l)

-- rings hold their own in any order
held_sorted : (rs ss us vs : List Ring) → IsPermutation rs us → IsPermutation ss vs → All (IsHeldByOwn rs ss) rs → Each (HoldsItself us vs) us
held_sorted rs ss us vs e f h =
    each_from_all (HoldsItself us vs) us
    (All-permutation (HoldsItself us vs) rs us e (All-weaker (IsHeldByOwn rs ss) (HoldsItself us vs) by rs h))
  where
    by : (r : Ring) → IsHeldByOwn rs ss r → HoldsItself us vs r
    by r (inl a) = inl a
    by r (inr a) =
        inr (each_from_all (λ (k : Ring). surrounds k r ≡ true → has_smaller us r k ≡ true) vs
        (All-permutation (λ (k : Ring). surrounds k r ≡ true → has_smaller us r k ≡ true) ss vs f
        (All-weaker (λ (k : Ring). surrounds k r ≡ true → has_smaller rs r k ≡ true) (λ (k : Ring). surrounds k r ≡ true → has_smaller us r k ≡ true)
        (λ (k : Ring) g b.
        sym (list_any-IsPermutation (λ (h : Ring). surrounds h r && int_lt (double_area h.0) (double_area k.0)) rs us e) ∙ g b) ss a)))

-- rings that keep to boxes apart do
held_fit : (ps qs : List Piece) → AreApart ps qs → (us vs : List Ring) → Each (Fits ps) us → Each (Fits qs) vs → Each (HoldsItself us vs) us
held_fit ps qs apart us vs fit others =
    each_more (Fits ps) (HoldsItself us vs)
    (λ (r : Ring) f.
    inr (each_more (Fits qs) (λ (k : Ring). surrounds k r ≡ true → has_smaller us r k ≡ true)
    (λ (k : Ring) g b. absurd (both_ways (surrounds k r) (never_round qs ps apart k r g f) b)) vs others)) us fit

-- ---- the join of two answers

pub rings_append : (options : Choices) (cs ds : List (List Point)) → rings_of options (cs ++ ds) ≡ rings_of options cs ++ rings_of options ds
rings_append options cs ds =
    ap (filter (is_large options.least_area)) (map-append (ring_of options.all_vertices) cs ds)
    ∙ filter-append (is_large options.least_area) (map (ring_of options.all_vertices) cs) (map (ring_of options.all_vertices) ds)

each_pair : {A B : Type 0} (P : A → Type 0) (Q : B → Type 0) (R : A → B → Type 0) → ((x : A) (y : B) → P x → Q y → R x y) → (xs : List A) (ys : List B) → Each P xs → Each Q ys
    → Each (λ x. Each (R x) ys) xs
each_pair P Q R f [] ys p q = tt
each_pair P Q R f (x ∷ xs) ys p q = (each_more Q (R x) (λ y k. f x y p.0 k) ys q, each_pair P Q R f xs ys p.1 q)

-- two answers joined, with the contours of both
pub record AreJoinedWhole (ps qs : List Piece) {fill : ℤ → Bool} {options : Choices} {x y : List (List (List Point))}
    (r : IsResolution (edges_in ps) fill options x) (s : IsResolution (edges_in qs) fill options y) : Type 0 where
  pub joined : AreJoined (edges_in ps ++ edges_in qs) fill options x y
  pub contours : joined.resolution.contours ≡ r.contours ++ s.contours

answers_held : (ps qs : List Piece) → LieApart ps qs → Each IsBoxed ps → Each IsBoxed qs → AreApart ps qs
    → (fill : ℤ → Bool) (options : Choices) (x y : List (List (List Point)))
    → (r : IsResolution (edges_in ps) fill options x) → (s : IsResolution (edges_in qs) fill options y)
    → Each (HoldsItself r.arranged.sorted s.arranged.sorted) r.arranged.sorted → Each (HoldsItself s.arranged.sorted r.arranged.sorted) s.arranged.sorted
    → AreJoinedWhole ps qs r s
answers_held ps qs h boxed_first boxed_second apart fill options x y r s held_first held_second = record {
  joined = record {
    shapes = shapes_of cw together.joined;
    joins = joins;
    ordered = sorted_from_rises (shape_lt cw) (shapes_of cw together.joined) rise;
    only = λ (z : List (List (List Point))) (j : IsJoin x y z) (o : IsSortedBy (shape_lt cw) z).
        one_rising_join (shape_lt cw) x y (shapes_of cw together.joined) z differ joins rise j (rises_from_sorted (shape_lt cw) (shape_order cw) z o);
    resolution = (joint ps qs h fill options x y (shapes_of cw together.joined) r s arranged).resolution;
  };
  contours = (joint ps qs h fill options x y (shapes_of cw together.joined) r s arranged).contours;
}
  where
    cw : Bool
    cw = options.clockwise

    firsts : List Ring
    firsts = r.arranged.sorted

    seconds : List Ring
    seconds = s.arranged.sorted

    together : RisingJoin ring_lt firsts seconds
    together =
        rising_join ring_lt ring_order firsts seconds
        (rises_from_sorted ring_lt ring_order firsts r.arranged.ordered) (rises_from_sorted ring_lt ring_order seconds s.arranged.ordered)

    rise : Rises (shape_lt cw) (shapes_of cw together.joined)
    rise = shapes_rise cw together.joined together.rises

    joins : IsJoin x y (shapes_of cw together.joined)
    joins =
        subst (λ (l : List (List (List Point))). IsJoin l y (shapes_of cw together.joined)) (sym r.arranged.shapes)
        (subst (λ (l : List (List (List Point))). IsJoin (shapes_of cw firsts) l (shapes_of cw together.joined)) (sym s.arranged.shapes)
        (join_map (map (answered cw)) (rings_by_shape (enumerate_from 0 firsts)) (rings_by_shape (enumerate_from 0 seconds)) (rings_by_shape (enumerate_from 0 together.joined))
        (shapes_join firsts seconds together.joined together.join held_first held_second)))

    differ : Each (λ (a : List (List Point)). Each (λ (b : List (List Point)). shape_lt cw b a ≡ false → shape_lt cw a b ≡ false → ⊥) y) x
    differ =
        each_pair (λ (a : List (List Point)). BeginsIn ps (leading cw a)) (λ (b : List (List Point)). BeginsIn qs (leading cw b))
        (λ (a b : List (List Point)). shape_lt cw b a ≡ false → shape_lt cw a b ≡ false → ⊥)
        (λ (a b : List (List Point)) f g i j.
        begins_once ps qs apart (leading cw b) (subst (BeginsIn ps) (lists_neither (leading cw a) (leading cw b) j i) f) g)
        x y
        (subst (Each (λ (a : List (List Point)). BeginsIn ps (leading cw a))) (sym r.arranged.shapes) (shapes_begin ps cw firsts (sorted_begin ps boxed_first fill options x r)))
        (subst (Each (λ (b : List (List Point)). BeginsIn qs (leading cw b))) (sym s.arranged.shapes) (shapes_begin qs cw seconds (sorted_begin qs boxed_second fill options y s)))

    arranged : AreArranged cw (rings_of options (r.contours ++ s.contours)) (shapes_of cw together.joined)
    arranged = record {
      sorted = together.joined;
      same =
          subst (λ (l : List Ring). IsPermutation l together.joined) (sym (rings_append options r.contours s.contours))
          (IsPermutation-trans (rings_of options r.contours ++ rings_of options s.contours) (firsts ++ seconds) together.joined
          (IsPermutation-append (rings_of options r.contours) firsts (rings_of options s.contours) seconds r.arranged.same s.arranged.same)
          (join_permutes firsts seconds together.joined together.join));
      ordered = sorted_from_rises ring_lt together.joined together.rises;
      shapes = refl;
    }

-- where rings hold their own
pub shapes_joined : (ps qs : List Piece) → LieApart ps qs → (fill : ℤ → Bool) (options : Choices) (x y : List (List (List Point)))
    → (r : IsResolution (edges_in ps) fill options x) → (s : IsResolution (edges_in qs) fill options y)
    → HoldTheirOwn (rings_of options r.contours) (rings_of options s.contours) → AreJoinedWhole ps qs r s
shapes_joined ps qs h fill options x y r s hold =
    answers_held ps qs h (each_from_all IsBoxed ps h.first_boxed) (each_from_all IsBoxed qs h.second_boxed) (apart_from_all ps qs h.apart) fill options x y r s
    (held_sorted (rings_of options r.contours) (rings_of options s.contours) r.arranged.sorted s.arranged.sorted r.arranged.same s.arranged.same hold.by_first)
    (held_sorted (rings_of options s.contours) (rings_of options r.contours) s.arranged.sorted r.arranged.sorted s.arranged.same r.arranged.same hold.by_second)

-- where the pieces are components
pub answers_join : (ps qs : List Piece) → LieApart ps qs → Each IsBoxed ps → Each IsBoxed qs → AreApart ps qs → AreParted ps → AreParted qs
    → (fill : ℤ → Bool) (options : Choices) (x y : List (List (List Point)))
    → IsResolution (edges_in ps) fill options x → IsResolution (edges_in qs) fill options y → AreJoined (edges_in ps ++ edges_in qs) fill options x y
answers_join ps qs h boxed_first boxed_second apart parted_first parted_second fill options x y r s =
    let fit_first = sorted_fit ps boxed_first parted_first fill options x r in
    let fit_second = sorted_fit qs boxed_second parted_second fill options y s in
    (answers_held ps qs h boxed_first boxed_second apart fill options x y r s
    (held_fit ps qs apart r.arranged.sorted s.arranged.sorted fit_first fit_second)
    (held_fit qs ps (apart_back ps qs apart) s.arranged.sorted r.arranged.sorted fit_second fit_first)).joined
