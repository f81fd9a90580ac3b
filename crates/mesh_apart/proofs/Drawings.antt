-- Lemmas over drawings: the answers of drawings that are apart join, one by one.
use Rattle.std.proofs.Common.{◌≡◌, ℕ, ◌<◌, suc, inl, inr, Bool, true, ◌||◌, ◌&&◌, List, [], ◌∷◌, ◌++◌, map, length, get_or, refl, sym, ◌∙◌, ap, subst, arith}
use Rattle.std.specs.Prelude.{ℤ, int_lt}
use Rattle.std.specs.List.{AllPairs, flat_map}
use Rattle.std.specs.List.Sorted.{IsSortedBy, IsPermutation}
use Rattle.std.proofs.lemmas.Bool.{or_right}
use Rattle.std.proofs.lemmas.List.Concat.{flat_map-append}
use Rattle.std.proofs.lemmas.List.Elements.{All-nil, All-append, All-weaker}
use Rattle.std.proofs.lemmas.List.Folds.{list_any-append}
use Rattle.mesh_plane.specs.Plane.{Point, Edge}
use Rattle.mesh_lattice.proofs.Each.{Each, each_append}
use Rattle.mesh_shapes.specs.Contours.{double_area}
use Rattle.mesh_shapes.specs.Resolution.{Choices, Ring, IsResolution}
use Rattle.mesh_apart.specs.Apart.{Piece, IsBoxed, AreBoxesApart, edges_in}
use Rattle.mesh_apart.specs.Joins.{IsJoin, JoinsAll}
use Rattle.mesh_apart.specs.Joined.{rings_of, shape_lt, surrounds, has_smaller, IsHeldByOwn, HoldTheirOwn, Drawing, AreDrawnApart, AreAllJoined}
use Rattle.mesh_apart.proofs.Components.{lie_apart, none_resolved, none_contours}
use Rattle.mesh_apart.proofs.Joins.{rises_from_sorted, sorted_from_rises, rising_parts}
use Rattle.mesh_apart.proofs.Pieces.{each_from_all, apart_from_all, AreApart}
use Rattle.mesh_apart.proofs.Rearranged.{rearranged}
use Rattle.mesh_apart.proofs.Shapes.{shape_order, rings_append, shapes_joined}

-- ---- pairs

-- of each element and each later one
abbrev EachPair : {A : Type 0} → (A → A → Type 0) → List A → Type 0
EachPair R [] = Unit {0}
EachPair R (x ∷ xs) = Each (R x) xs × EachPair R xs

pairs_from_all : {A : Type 0} (R : A → A → Type 0) (xs : List A) → AllPairs R xs → EachPair R xs
pairs_from_all R [] h = tt
pairs_from_all R (x ∷ xs) h =
    (each xs (λ k d low. h 0 (suc k) d (omega arith) (omega arith)), pairs_from_all R xs (λ i j d before low. h (suc i) (suc j) d (omega arith) (omega arith)))
  where
    each : (ys : List _) → ((k : ℕ) (d : _) → k < length ys → R x (get_or ys k d)) → Each (R x) ys
    each [] h = tt
    each (y ∷ ys) h = (h 0 y (omega arith), each ys (λ k d low. h (suc k) d (omega arith)))

-- ---- rings that hold their own

held_beside : (own others more : List Ring) (r : Ring) → IsHeldByOwn own others r → IsHeldByOwn own more r → IsHeldByOwn own (others ++ more) r
held_beside own others more r (inl h) k = inl h
held_beside own others more r (inr h) (inl k) = inl k
held_beside own others more r (inr h) (inr k) = inr (All-append (λ (k : Ring). surrounds k r ≡ true → has_smaller own r k ≡ true) others more h k)

held_before : (own more others : List Ring) (r : Ring) → IsHeldByOwn own others r → IsHeldByOwn (own ++ more) others r
held_before own more others r (inl h) = inl h
held_before own more others r (inr h) =
    inr (All-weaker (λ (k : Ring). surrounds k r ≡ true → has_smaller own r k ≡ true) (λ (k : Ring). surrounds k r ≡ true → has_smaller (own ++ more) r k ≡ true)
    (λ (k : Ring) f b.
    list_any-append (λ (h : Ring). surrounds h r && int_lt (double_area h.0) (double_area k.0)) own more
    ∙ ap (λ (c : Bool). c || has_smaller more r k) (f b)) others h)

held_behind : (own more others : List Ring) (r : Ring) → IsHeldByOwn own others r → IsHeldByOwn (more ++ own) others r
held_behind own more others r (inl h) = inl h
held_behind own more others r (inr h) =
    inr (All-weaker (λ (k : Ring). surrounds k r ≡ true → has_smaller own r k ≡ true) (λ (k : Ring). surrounds k r ≡ true → has_smaller (more ++ own) r k ≡ true)
    (λ (k : Ring) f b.
    list_any-append (λ (h : Ring). surrounds h r && int_lt (double_area h.0) (double_area k.0)) more own
    ∙ or_right (has_smaller more r k) (has_smaller own r k) (f b)) others h)

hold_none : (rs : List Ring) → HoldTheirOwn rs []
hold_none rs = record {
  by_first = λ (k : ℕ) (d : Ring) low. inr (All-nil (λ (h : Ring). surrounds h (get_or rs k d) ≡ true → has_smaller rs (get_or rs k d) h ≡ true));
  by_second = All-nil (IsHeldByOwn [] rs);
}

hold_both : (rs ss ts : List Ring) → HoldTheirOwn rs ss → HoldTheirOwn rs ts → HoldTheirOwn rs (ss ++ ts)
hold_both rs ss ts h k = record {
  by_first = λ (i : ℕ) (d : Ring) low. held_beside rs ss ts (get_or rs i d) (h.by_first i d low) (k.by_first i d low);
  by_second =
      All-append (IsHeldByOwn (ss ++ ts) rs) ss ts
      (All-weaker (IsHeldByOwn ss rs) (IsHeldByOwn (ss ++ ts) rs) (held_before ss ts rs) ss h.by_second)
      (All-weaker (IsHeldByOwn ts rs) (IsHeldByOwn (ss ++ ts) rs) (held_behind ts ss rs) ts k.by_second);
}

-- ---- one drawing beside others

abbrev pieces_of : {fill : ℤ → Bool} {options : Choices} → List (Drawing fill options) → List Piece
pieces_of drawings = flat_map (λ a. a.pieces) drawings

abbrev contours_of : {fill : ℤ → Bool} {options : Choices} → List (Drawing fill options) → List (List Point)
contours_of drawings = flat_map (λ a. a.resolution.contours) drawings

boxed_all : {fill : ℤ → Bool} {options : Choices} (ds : List (Drawing fill options)) → Each IsBoxed (pieces_of ds)
boxed_all [] = tt
boxed_all (a ∷ ds) = each_append IsBoxed a.pieces (pieces_of ds) (each_from_all IsBoxed a.pieces a.boxed) (boxed_all ds)

apart_none : (ps : List Piece) → AreApart ps []
apart_none [] = tt
apart_none (p ∷ ps) = (tt, apart_none ps)

apart_both : (ps qs rs : List Piece) → AreApart ps qs → AreApart ps rs → AreApart ps (qs ++ rs)
apart_both [] qs rs h k = tt
apart_both (p ∷ ps) qs rs h k = (each_append (λ (q : Piece). AreBoxesApart p.box q.box) qs rs h.0 k.0, apart_both ps qs rs h.1 k.1)

apart_all : {fill : ℤ → Bool} {options : Choices} (a : Drawing fill options) (ds : List (Drawing fill options)) → Each (AreDrawnApart a) ds → AreApart a.pieces (pieces_of ds)
apart_all a [] h = apart_none a.pieces
apart_all a (b ∷ ds) h = apart_both a.pieces b.pieces (pieces_of ds) (apart_from_all a.pieces b.pieces h.0.apart) (apart_all a ds h.1)

hold_all : {fill : ℤ → Bool} {options : Choices} (a : Drawing fill options) (ds : List (Drawing fill options)) → Each (AreDrawnApart a) ds
    → HoldTheirOwn (rings_of options a.resolution.contours) (rings_of options (contours_of ds))
hold_all {fill} {options} a [] h = hold_none (rings_of options a.resolution.contours)
hold_all {fill} {options} a (b ∷ ds) h =
    subst (HoldTheirOwn (rings_of options a.resolution.contours)) (sym (rings_append options b.resolution.contours (contours_of ds)))
    (hold_both (rings_of options a.resolution.contours) (rings_of options b.resolution.contours) (rings_of options (contours_of ds)) h.0.hold (hold_all a ds h.1))

-- ---- all of them

-- a resolution that has these contours
record HasContours (fill : ℤ → Bool) (options : Choices) (x : List (List (List Point))) (contours : List (List Point)) (es : List Edge) : Type 0 where
  resolution : IsResolution es fill options x
  contours_are : resolution.contours ≡ contours

record AreDrawn {fill : ℤ → Bool} {options : Choices} (ds : List (Drawing fill options)) : Type 0 where
  shapes : List (List (List Point))
  joins : JoinsAll (map (λ a. a.answer) ds) shapes
  ordered : IsSortedBy (shape_lt options.clockwise) shapes
  only : (z : List (List (List Point))) → JoinsAll (map (λ a. a.answer) ds) z → IsSortedBy (shape_lt options.clockwise) z → z ≡ shapes
  whole : HasContours fill options shapes (contours_of ds) (edges_in (pieces_of ds))

each_drawn : {fill : ℤ → Bool} {options : Choices} (ds : List (Drawing fill options)) → EachPair AreDrawnApart ds → AreDrawn ds
each_drawn {fill} {options} [] h = record {
  shapes = [];
  joins = refl;
  ordered = λ k d le low. absurd (omega arith);
  only = λ z j o. j;
  whole = record { resolution = none_resolved fill options; contours_are = none_contours fill options };
}
each_drawn {fill} {options} (a ∷ ds) h =
    let rest = each_drawn ds h.1 in
    let qs : List Piece = pieces_of ds in
    let hold : HoldTheirOwn (rings_of options a.resolution.contours) (rings_of options rest.whole.resolution.contours) =
    subst (λ (cs : List (List Point)). HoldTheirOwn (rings_of options a.resolution.contours) (rings_of options cs)) (sym rest.whole.contours_are) (hold_all a ds h.0) in
    let two =
    shapes_joined a.pieces qs (lie_apart a.pieces qs (each_from_all IsBoxed a.pieces a.boxed) (boxed_all ds) (apart_all a ds h.0)) fill options a.answer rest.shapes a.resolution rest.whole.resolution hold in
    record {
      shapes = two.joined.shapes;
      joins = (rest.shapes, rest.joins, two.joined.joins);
      ordered = two.joined.ordered;
      only = λ (z : List (List (List Point))) j (o : IsSortedBy (shape_lt options.clockwise) z).
          let lt = shape_lt options.clockwise in
          let order : IsSortedBy lt j.0 = sorted_from_rises lt j.0 (rising_parts lt a.answer j.0 z j.2 (rises_from_sorted lt (shape_order options.clockwise) z o)).1 in
          two.joined.only z (subst (λ (ys : List (List (List Point))). IsJoin a.answer ys z) (rest.only j.0 j.1 order) j.2) o;
      whole =
          subst (HasContours fill options two.joined.shapes (contours_of (a ∷ ds))) (sym (flat_map-append (λ (p : Piece). p.edges) a.pieces qs))
          (record {
            resolution = two.joined.resolution;
            contours_are = two.contours ∙ ap (λ (cs : List (List Point)). a.resolution.contours ++ cs) rest.whole.contours_are;
          });
    }

pub drawings_join : (fill : ℤ → Bool) (options : Choices) (ds : List (Drawing fill options)) → AllPairs AreDrawnApart ds → (edges : List Edge)
    → IsPermutation (edges_in (pieces_of ds)) edges → AreAllJoined edges fill options (map (λ (a : Drawing fill options). a.answer) ds)
drawings_join fill options ds h edges same =
    let all = each_drawn ds (pairs_from_all AreDrawnApart ds h) in
    record {
      shapes = all.shapes;
      joins = all.joins;
      ordered = all.ordered;
      only = all.only;
      resolution = rearranged (edges_in (pieces_of ds)) edges same fill options all.shapes all.whole.resolution;
    }
