-- Lemmas over lists: the rings of contours, and the whole way from edges to shapes.
use Rattle.std.proofs.Common.{◌≡◌, ℕ, ◌<◌, ◌&&◌, ◌||◌, Bool, true, false, cond, List, [], ◌∷◌, ◌++◌, map, length, get_or, zero, suc, refl, sym, ◌∙◌, ap, subst, arith}
use Rattle.std.specs.Prelude.{ℤ, pos, ◌+ℤ◌, Vec}
use Rattle.std.specs.List.{All, filter, flat_map}
use Rattle.std.specs.declared.alloc.Global.{Global}
use Rattle.std.proofs.lemmas.Bool.{and_parts, or_right}
use Rattle.std.proofs.lemmas.Grind.{flat_map-append}
use Rattle.std.proofs.lemmas.List.{append-nil, map-append}
use Rattle.std.proofs.lemmas.List.Elements.{All-nil, All-cons, All-push, filter-append}
use Rattle.mesh_plane.proofs.Sums.{sum_of_append}
use Rattle.mesh_plane.specs.Plane.{Point, Edge}
use Rattle.mesh_plane.specs.Winding.{IsBalanced, sum_of, boundary, same_point}
use Rattle.mesh_regions.proofs.BoundaryBalance.{boundary_is_balanced}
use Rattle.mesh_regions.proofs.BoundaryFill.{boundary_cover}
use Rattle.mesh_lattice.proofs.Keys.{keys, keys_are}
use Rattle.mesh_lattice.proofs.Ends.{ends_self}
use Rattle.mesh_shapes.proofs.Tracing.{counts_same}
use Rattle.mesh_lattice.specs.Boundary.{count, IsBoundary}
use Rattle.mesh_lattice.specs.Clean.{IsProper}
use Rattle.mesh_shapes.specs.Contours.{IsBegun, IsRingAmong, IsRingOf, StartsOnce, left_out}
use Rattle.mesh_lattice.specs.Counted.{Counted}
use Rattle.mesh_shapes.specs.Vectors.{RingVec, ring_of_vec, rings_of_vecs}
use Rattle.mesh_below.specs.Private.Resolving.{ResolvesBy}
use Rattle.mesh_below.specs.Private.Rings.{AreRingsOf, IsWhole, PushesRing, Told}
use Rattle.mesh_shapes.specs.Resolution.{Choices, Ring, ring_of, is_large, AreArranged, IsResolution}
use Rattle.mesh_lattice.specs.Split.{occurs, after, same_ends}
use Rattle.mesh_lattice.specs.Splitting.{IsSplitting}
use Rattle.mesh_regions.specs.SideLaws.{AreSplit}
use Rattle.mesh_shapes.specs.Vectors.{contour_edges}
use Rattle.mesh_plane.proofs.ClosedLists.{all_left, all_right}
use Rattle.mesh_below.proofs.Whole.{whole_vertices, same_length}

-- ---- the ring of one contour
ring_is : (all : Bool) (given : List Point) (r : RingVec) → (k : IsRingOf all given (ring_of_vec r)) → ring_of all k.contour ≡ ring_of_vec r
ring_is all given r k i = (sym k.vertices_are i, sym k.side_is i)

-- a ring with as many points as its contour has each of them
pub ring_whole : (all : Bool) (given : List Point) (r : RingVec) → (k : IsRingOf all given (ring_of_vec r)) → length r.0.items ≡ length given → IsWhole all k.contour
ring_whole all given r k e =
    whole_vertices all k.contour (ap length (sym k.vertices_are) ∙ (e ∙ sym (same_length k.contour given k.same)))

pub push_one : (all : Bool) (least : ℕ) (edges : List Edge) (given : List Point) (r : RingVec) (old new : List RingVec) (whole lone : Bool) → IsRingAmong all edges given (ring_of_vec r) lone →
    is_large least (ring_of_vec r) ≡ true → (whole ≡ true → length r.0.items ≡ length given) → new ≡ old ++ (r ∷ []) → PushesRing all least edges given old new (whole, lone)
push_one all least edges given r old new whole lone among large is_whole e = let k = among.is_ring in record {
  contour = k.contour;
  same = k.same;
  begun = k.begun;
  rings_are =
      ap rings_of_vecs e
      ∙ (map-append ring_of_vec old (r ∷ [])
      ∙ sym (λ i. rings_of_vecs old ++ cond ((ap (is_large least) (ring_is all given r k) ∙ large) i) (ring_is all given r k i ∷ []) []));
  is_whole = λ t. ring_whole all given r k (is_whole t);
  starts_once = among.starts_once;
}

-- a small ring is left out
pub push_none : (all : Bool) (least : ℕ) (edges : List Edge) (given : List Point) (r : RingVec) (old : List RingVec) (whole lone : Bool) → IsRingAmong all edges given (ring_of_vec r) lone →
    is_large least (ring_of_vec r) ≡ false → (whole ≡ true → length r.0.items ≡ length given) → PushesRing all least edges given old old (whole, lone)
push_none all least edges given r old whole lone among small is_whole = let k = among.is_ring in record {
  contour = k.contour;
  same = k.same;
  begun = k.begun;
  rings_are = sym ((λ i. rings_of_vecs old ++ cond ((ap (is_large least) (ring_is all given r k) ∙ small) i) (ring_of all k.contour ∷ []) []) ∙ append-nil (rings_of_vecs old));
  is_whole = λ t. ring_whole all given r k (is_whole t);
  starts_once = among.starts_once;
}

-- ---- the rings of contours
pub rings_none : (all : Bool) (least : ℕ) (edges : List Edge) (rings : List RingVec) (told : Told) → rings ≡ [] → AreRingsOf all least edges [] rings told
rings_none all least edges rings told none = record {
  contours = [];
  same = λ f. refl;
  begun = All-nil (IsBegun all);
  rings_are = ap rings_of_vecs none;
  are_whole = λ t. All-nil (IsWhole all);
  start_once = λ t. All-nil (λ (c : List Point). All (StartsOnce edges) (left_out all c));
}

pub rings_more : (all : Bool) (least : ℕ) (edges : List Edge) (given : List (Vec Point Global)) (c : Vec Point Global) (old new : List RingVec) (told own : Told) →
    AreRingsOf all least edges given old told → PushesRing all least edges c.items old new own → AreRingsOf all least edges (given ++ (c ∷ [])) new (told.0 && own.0, told.1 && own.1)
rings_more all least edges given c old new told own k p = record {
  contours = k.contours ++ (p.contour ∷ []);
  same = same_sums;
  begun = All-push (IsBegun all) k.contours p.contour k.begun p.begun;
  rings_are =
      p.rings_are
      ∙ (ap (λ (l : List Ring). l ++ filter (is_large least) (ring_of all p.contour ∷ [])) k.rings_are
      ∙ (sym (filter-append (is_large least) (map (ring_of all) k.contours) (ring_of all p.contour ∷ []))
      ∙ ap (filter (is_large least)) (sym (map-append (ring_of all) k.contours (p.contour ∷ [])))));
  are_whole = λ t. let parts = and_parts told.0 own.0 t in All-push (IsWhole all) k.contours p.contour (k.are_whole parts.0) (p.is_whole parts.1);
  start_once = λ t.
      let parts = and_parts told.1 own.1 t in
      All-push (λ (c : List Point). All (StartsOnce edges) (left_out all c)) k.contours p.contour (k.start_once parts.0) (p.starts_once parts.1);
}
  where
    one_left : (f : Edge → ℤ) → sum_of f (flat_map boundary (p.contour ∷ [])) ≡ sum_of f (boundary p.contour)
    one_left f = ap (sum_of f) (append-nil (boundary p.contour))

    one_right : (f : Edge → ℤ) → sum_of f (contour_edges (c ∷ [])) ≡ sum_of f (boundary c.items)
    one_right f = ap (sum_of f) (append-nil (boundary c.items))

    same_sums : (f : Edge → ℤ) → sum_of f (flat_map boundary (k.contours ++ (p.contour ∷ []))) ≡ sum_of f (contour_edges (given ++ (c ∷ [])))
    same_sums f =
        ap (sum_of f) (flat_map-append boundary k.contours (p.contour ∷ []))
        ∙ (sum_of_append f (flat_map boundary k.contours) (flat_map boundary (p.contour ∷ []))
        ∙ ((λ j. k.same f j +ℤ (one_left f ∙ (p.same f ∙ sym (one_right f))) j)
        ∙ (sym (sum_of_append f (contour_edges given) (contour_edges (c ∷ [])))
        ∙ ap (sum_of f) (sym (flat_map-append (λ (v : Vec Point Global). boundary v.items) given (c ∷ []))))))

-- ---- what holds of all edges of contours holds of those of one
pub of_one : (P : Edge → Type 0) (cs : List (Vec Point Global)) (i : ℕ) (d : Vec Point Global) → i < length cs → All P (contour_edges cs) → All P (boundary (get_or cs i d).items)
of_one P [] i d low h = absurd (omega arith)
of_one P (c ∷ cs) zero d low h = all_left P (boundary c.items) (contour_edges cs) h
of_one P (c ∷ cs) (suc i) d low h = of_one P cs i d (omega arith) (all_right P (boundary c.items) (contour_edges cs) h)

pub all_occurs : (P : Edge → Type 0) (es : List Edge) → ((e : Edge) → occurs e es ≡ true → P e) → All P es
all_occurs P [] h = All-nil P
all_occurs P (e ∷ es) h =
    All-cons P e es (h e (λ i. ends_self e i || occurs e es)) (all_occurs P es (λ (f : Edge) (o : occurs f es ≡ true). h f (or_right (same_ends f e) (occurs f es) o)))

-- ---- the whole way
-- balanced edges are split edges after a splitting
pub parts_split : (edges : List Edge) (segments : List Counted) → IsBalanced edges → (s : IsSplitting edges segments) → AreSplit (after s.splits edges)
parts_split edges segments balanced s = record { balanced = s.balanced balanced; clean = s.clean; proper = s.proper }

pub parted_balanced : (edges : List Edge) (segments : List Counted) (fill : ℤ → Bool) (parted : List Edge) → fill (pos 0) ≡ false → IsBalanced edges → (s : IsSplitting edges segments) →
    IsBoundary (after s.splits edges) fill parted → IsBalanced parted
parted_balanced edges segments fill parted empty balanced s is =
    boundary_is_balanced (after s.splits edges) (keys (after s.splits edges)) parted fill
    (record { balanced = s.balanced balanced; clean = s.clean; proper = s.proper; keys = keys_are (after s.splits edges) s.proper })
    is empty

-- lists with the same counts bound the same
pub same_boundary : (es : List Edge) (fill : ℤ → Bool) (bs cs : List Edge) → ((e : Edge) → count e cs ≡ count e bs) → IsBoundary es fill bs → IsBoundary es fill cs
same_boundary es fill bs cs h is = record { counts = λ (e : Edge). h e ∙ is.counts e }

pub boundary_proper : (es bs : List Edge) (fill : ℤ → Bool) → IsProper es → IsBoundary es fill bs → All (λ (e : Edge). same_point e.0 e.1 ≡ false) bs
boundary_proper es bs fill proper is = all_occurs (λ (e : Edge). same_point e.0 e.1 ≡ false) bs (λ (e : Edge) (o : occurs e bs ≡ true). proper e (boundary_cover es bs fill is e o))

unfoldable pub resolved : (edges : List Edge) (segments : List Counted) (fill : ℤ → Bool) (choices : Choices) (ordered : List Edge) (closed : List (Vec Point Global)) (rings : List RingVec) (told : Told) (answer : List (List (List Point))) →
    (s : IsSplitting edges segments) → IsBoundary (after s.splits edges) fill (contour_edges closed) → AreRingsOf choices.all_vertices choices.least_area ordered closed rings told →
    AreArranged choices.clockwise (rings_of_vecs rings) answer → IsResolution edges fill choices answer
resolved edges segments fill choices ordered closed rings told answer s is k a = record {
  splits = s.splits;
  legal = s.legal;
  clean = s.clean;
  contours = k.contours;
  bounded = same_boundary (after s.splits edges) fill (contour_edges closed) (flat_map boundary k.contours) (λ (e : Edge). counts_same e (flat_map boundary k.contours) (contour_edges closed) k.same) is;
  begun = k.begun;
  arranged = subst (λ (rs : List Ring). AreArranged choices.clockwise rs answer) k.rings_are a;
}

-- by just the splits of the splitting
pub resolved_by : (edges : List Edge) (segments : List Counted) (fill : ℤ → Bool) (choices : Choices) (ordered : List Edge) (closed : List (Vec Point Global)) (rings : List RingVec) (told : Told) (answer : List (List (List Point))) →
    (s : IsSplitting edges segments) → IsBoundary (after s.splits edges) fill (contour_edges closed) → AreRingsOf choices.all_vertices choices.least_area ordered closed rings told →
    AreArranged choices.clockwise (rings_of_vecs rings) answer → ResolvesBy s.splits edges fill choices answer
unfolding resolved
resolved_by edges segments fill choices ordered closed rings told answer s is k a = (resolved edges segments fill choices ordered closed rings told answer s is k a, refl)
