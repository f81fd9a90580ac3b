-- Lemmas over pieces: components lie apart, and their answers join, one by one.
use Rattle.std.proofs.Common.{◌≡◌, ℕ, ◌<◌, suc, Bool, List, [], ◌∷◌, ◌++◌, length, get_or, refl, sym, subst, arith}
use Rattle.std.specs.Prelude.{ℤ}
use Rattle.std.specs.List.{All, AllPairs, AllZip}
use Rattle.std.specs.List.Sorted.{IsSortedBy, IsPermutation}
use Rattle.std.proofs.lemmas.Bool.{false≢true}
use Rattle.std.proofs.lemmas.List.{append-nil}
use Rattle.std.proofs.lemmas.List.Concat.{flat_map-append}
use Rattle.std.proofs.lemmas.List.Elements.{All-nil}
use Rattle.std.proofs.lemmas.List.Sorted.{IsPermutation-refl}
use Rattle.mesh_plane.specs.Plane.{Point, Edge}
use Rattle.mesh_lattice.specs.Split.{no_cut}
use Rattle.mesh_lattice.proofs.Each.{Each, each_more, each_left, each_right}
use Rattle.mesh_shapes.specs.Contours.{IsBegun}
use Rattle.mesh_shapes.specs.Resolution.{Choices, IsResolution}
use Rattle.mesh_apart.specs.Apart.{Piece, IsBoxed, AreBoxesApart, edges_in, LieApart, AreComponents}
use Rattle.mesh_apart.specs.Joins.{IsJoin, JoinsAll}
use Rattle.mesh_apart.specs.Joined.{shape_lt, AreJoined, AreAllJoined}
use Rattle.mesh_apart.proofs.Joins.{all_from_each, rises_from_sorted, sorted_from_rises, rising_parts}
use Rattle.mesh_apart.proofs.Pieces.{each_from_all, AreApart}
use Rattle.mesh_apart.proofs.Rearranged.{rearranged}
use Rattle.mesh_apart.proofs.Rings.{AreParted}
use Rattle.mesh_apart.proofs.Shapes.{shape_order, answers_join}

-- ---- components lie apart

parted_from_pairs : (ps : List Piece) → AllPairs (λ (p q : Piece). AreBoxesApart p.box q.box) ps → AreParted ps
parted_from_pairs [] h = tt
parted_from_pairs (p ∷ ps) h = (
  each ps (λ k d low. h 0 (suc k) d (omega arith) (omega arith)),
  parted_from_pairs ps (λ i j d before low. h (suc i) (suc j) d (omega arith) (omega arith)),
)
  where
    each : (qs : List Piece) → ((k : ℕ) (d : Piece) → k < length qs → AreBoxesApart p.box (get_or qs k d).box) → Each (λ (q : Piece). AreBoxesApart p.box q.box) qs
    each [] h = tt
    each (q ∷ qs) h = (h 0 q (omega arith), each qs (λ k d low. h (suc k) d (omega arith)))

-- two parts of a list of components
record AreTwo (ps qs : List Piece) : Type 0 where
  first : AreParted ps
  second : AreParted qs
  apart : AreApart ps qs

two_parts : (ps qs : List Piece) → AreParted (ps ++ qs) → AreTwo ps qs
two_parts [] qs h = record { first = tt; second = h; apart = tt }
two_parts (p ∷ ps) qs h =
    let rest = two_parts ps qs h.1 in
    record {
      first = (each_left (λ (q : Piece). AreBoxesApart p.box q.box) ps qs h.0, rest.first);
      second = rest.second;
      apart = (each_right (λ (q : Piece). AreBoxesApart p.box q.box) ps qs h.0, rest.apart);
    }

pub lie_apart : (ps qs : List Piece) → Each IsBoxed ps → Each IsBoxed qs → AreApart ps qs → LieApart ps qs
lie_apart ps qs h k apart = record {
  first_boxed = all_from_each IsBoxed ps h;
  second_boxed = all_from_each IsBoxed qs k;
  apart =
      all_from_each (λ (p : Piece). All (λ (q : Piece). AreBoxesApart p.box q.box) qs) ps
      (each_more (λ (p : Piece). Each (λ (q : Piece). AreBoxesApart p.box q.box) qs) (λ (p : Piece). All (λ (q : Piece). AreBoxesApart p.box q.box) qs)
      (λ (p : Piece) l. all_from_each (λ (q : Piece). AreBoxesApart p.box q.box) qs l) ps apart);
}

joined_apart : (ps qs : List Piece) → Each IsBoxed ps → Each IsBoxed qs → AreParted (ps ++ qs) → (fill : ℤ → Bool) (options : Choices) (x y : List (List (List Point)))
    → IsResolution (edges_in ps) fill options x → IsResolution (edges_in qs) fill options y → AreJoined (edges_in ps ++ edges_in qs) fill options x y
joined_apart ps qs h k parted fill options x y r s =
    let two = two_parts ps qs parted in
    answers_join ps qs (lie_apart ps qs h k two.apart) h k two.apart two.first two.second fill options x y r s

pub components_two : (ps qs : List Piece) → AreComponents (ps ++ qs) → (fill : ℤ → Bool) (options : Choices) (x y : List (List (List Point)))
    → IsResolution (edges_in ps) fill options x → IsResolution (edges_in qs) fill options y → AreJoined (edges_in (ps ++ qs)) fill options x y
components_two ps qs h fill options x y r s =
    let boxed : Each IsBoxed (ps ++ qs) = each_from_all IsBoxed (ps ++ qs) h.boxed in
    subst (λ (es : List Edge). AreJoined es fill options x y) (sym (flat_map-append (λ (p : Piece). p.edges) ps qs))
    (joined_apart ps qs (each_left IsBoxed ps qs boxed) (each_right IsBoxed ps qs boxed) (parted_from_pairs (ps ++ qs) h.apart) fill options x y r s)

-- ---- one by one

pub none_resolved : (fill : ℤ → Bool) (options : Choices) → IsResolution [] fill options []
none_resolved fill options = record {
  splits = [];
  legal = no_cut;
  clean = λ e f here there differ m some. absurd (false≢true here);
  contours = [];
  bounded = record { counts = λ (e : Edge). refl };
  begun = All-nil (IsBegun options.all_vertices);
  arranged = record { sorted = []; same = IsPermutation-refl []; ordered = λ k d le low. absurd (omega arith); shapes = refl };
}

pub none_contours : (fill : ℤ → Bool) (options : Choices) → (none_resolved fill options).contours ≡ []
unfolding none_resolved
none_contours fill options = refl

each_joined : (ps : List Piece) → Each IsBoxed ps → AreParted ps → (fill : ℤ → Bool) (options : Choices) (answers : List (List (List (List Point))))
    → AllZip (λ (p : Piece) (x : List (List (List Point))). IsResolution p.edges fill options x) ps answers → AreAllJoined (edges_in ps) fill options answers
each_joined [] boxed parted fill options [] h = record {
  shapes = [];
  joins = refl;
  ordered = λ k d le low. absurd (omega arith);
  only = λ z j o. j;
  resolution = none_resolved fill options;
}
each_joined [] boxed parted fill options (x ∷ xs) h = absurd h
each_joined (p ∷ ps) boxed parted fill options [] h = absurd h
each_joined (p ∷ ps) boxed parted fill options (x ∷ xs) h =
    let rest = each_joined ps boxed.1 parted.1 fill options xs h.1 in
    let two : AreJoined (edges_in (p ∷ []) ++ edges_in ps) fill options x rest.shapes =
    joined_apart (p ∷ []) ps (boxed.0, tt) boxed.1 parted fill options x rest.shapes
    (subst (λ (es : List Edge). IsResolution es fill options x) (sym (append-nil p.edges)) h.0) rest.resolution in
    record {
      shapes = two.shapes;
      joins = (rest.shapes, rest.joins, two.joins);
      ordered = two.ordered;
      only = λ (z : List (List (List Point))) (j : JoinsAll (x ∷ xs) z) (o : IsSortedBy (shape_lt options.clockwise) z).
          let lt = shape_lt options.clockwise in
          let order : IsSortedBy lt j.0 = sorted_from_rises lt j.0 (rising_parts lt x j.0 z j.2 (rises_from_sorted lt (shape_order options.clockwise) z o)).1 in
          two.only z (subst (λ (ys : List (List (List Point))). IsJoin x ys z) (rest.only j.0 j.1 order) j.2) o;
      resolution = subst (λ (es : List Edge). IsResolution (es ++ edges_in ps) fill options two.shapes) (append-nil p.edges) two.resolution;
    }

pub components_join : (ps : List Piece) → AreComponents ps → (edges : List Edge) → IsPermutation (edges_in ps) edges → (fill : ℤ → Bool) (options : Choices)
    → (answers : List (List (List (List Point)))) → AllZip (λ (p : Piece) (x : List (List (List Point))). IsResolution p.edges fill options x) ps answers
    → AreAllJoined edges fill options answers
components_join ps h edges same fill options answers each =
    let all = each_joined ps (each_from_all IsBoxed ps h.boxed) (parted_from_pairs ps h.apart) fill options answers each in
    record {
      shapes = all.shapes;
      joins = all.joins;
      ordered = all.ordered;
      only = all.only;
      resolution = rearranged (edges_in ps) edges same fill options all.shapes all.resolution;
    }
