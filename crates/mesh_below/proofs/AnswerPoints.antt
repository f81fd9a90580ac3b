-- Lemmas over points and lists: split segments and answers of safe edges are safe.
use Rattle.std.proofs.Common.{◌≡◌, ℕ, ◌+◌, ◌<◌, length, get_or, Bool, true, false, cond, not, ◌&&◌, List, [], ◌∷◌, map, reverse, sym, subst}
use Rattle.std.specs.Prelude.{ℤ}
use Rattle.std.specs.List.{All, filter, flat_map, enumerate_from}
use Rattle.std.proofs.lemmas.List.{get_or-map, length-map}
use Rattle.std.proofs.lemmas.List.Elements.{All-nil, All-cons, All-head, All-tail, All-filter, All-weaker}
use Rattle.std.proofs.lemmas.List.Sorted.{All-permutation, IsPermutation-reverse}
use Rattle.mesh_num.specs.Paths.{contours_of}
use Rattle.mesh_plane.specs.Bounds.{IsSafe}
use Rattle.mesh_plane.specs.Plane.{Point, Edge}
use Rattle.mesh_plane.specs.Winding.{route, boundary}
use Rattle.mesh_lattice.specs.Boundary.{IsBoundary}
use Rattle.mesh_plane.specs.Turning.{turns_at, first_or}
use Rattle.mesh_shapes.specs.Contours.{turning_points, vertices, reversed}
use Rattle.mesh_lattice.specs.Reach.{AreEdgesSafe, ArePointsSafe}
use Rattle.mesh_shapes.specs.Resolution.{Choices, Ring, Placed, ring_of, is_large, is_head, stands_with, shape_of, answered, AreArranged, IsResolution}
use Rattle.mesh_lattice.specs.Split.{occurs, after}
use Rattle.mesh_regions.proofs.BoundaryFill.{boundary_cover}
use Rattle.mesh_below.proofs.Resolving.{all_occurs}
use Rattle.mesh_lattice.proofs.SafeSplits.{IsSafeEdge, occurs_safe, split_safe}
use Rattle.mesh_plane.proofs.ClosedLists.{all_flat_map, all_left, all_right, boundary_all}

-- ---- split segments

boundary_safe : (unit : ℕ) (es bs : List Edge) (fill : ℤ → Bool) → IsBoundary es fill bs → AreEdgesSafe unit es → AreEdgesSafe unit bs
boundary_safe unit es bs fill is h = all_occurs (IsSafeEdge unit) bs (λ (e : Edge) (o : occurs e bs ≡ true). occurs_safe unit es h e (boundary_cover es bs fill is e o))

-- ---- rings, shapes and answers: `C` holds of contours, whichever way they run

module _ (C : List Point → Type 0) (turned : (c : List Point) → C c → C (reversed c)) where
  abbrev OfRing : Ring → Type 0
  OfRing r = C r.0

  abbrev OfPlaced : Placed → Type 0
  OfPlaced h = C h.1.0

  ring_contours : (all : Bool) (cs : List (List Point)) → All (λ (c : List Point). C (vertices all c)) cs → All OfRing (map (ring_of all) cs)
  ring_contours all [] h = All-nil OfRing
  ring_contours all (c ∷ cs) h =
      All-cons OfRing (ring_of all c) (map (ring_of all) cs) (All-head (λ (d : List Point). C (vertices all d)) c cs h)
      (ring_contours all cs (All-tail (λ (d : List Point). C (vertices all d)) c cs h))

  placed_contours : (i : ℕ) (rs : List Ring) → All OfRing rs → All OfPlaced (enumerate_from i rs)
  placed_contours i [] h = All-nil OfPlaced
  placed_contours i (r ∷ rs) h = All-cons OfPlaced (i, r) (enumerate_from (i + 1) rs) (All-head OfRing r rs h) (placed_contours (i + 1) rs (All-tail OfRing r rs h))

  answered_contour : (cw : Bool) (r : Ring) → C r.0 → C (answered cw r)
  answered_contour true r h = turned r.0 h
  answered_contour false r h = h

  answered_all : (cw : Bool) (rs : List Ring) → All OfRing rs → All C (map (answered cw) rs)
  answered_all cw [] h = All-nil C
  answered_all cw (r ∷ rs) h =
      All-cons C (answered cw r) (map (answered cw) rs) (answered_contour cw r (All-head OfRing r rs h)) (answered_all cw rs (All-tail OfRing r rs h))

  of_placed : (hs : List Placed) → All OfPlaced hs → All OfRing (map (λ (r : Placed). r.1) hs)
  of_placed [] h = All-nil OfRing
  of_placed (r ∷ hs) h = All-cons OfRing r.1 (map (λ (r : Placed). r.1) hs) (All-head OfPlaced r hs h) (of_placed hs (All-tail OfPlaced r hs h))

  one_shape : (rs : List Placed) (h : Placed) → All OfPlaced rs → OfPlaced h → All OfRing (shape_of rs h)
  one_shape rs h all own =
      let p : Placed → Bool = λ (r : Placed). not (is_head rs r) && stands_with rs h r in
      All-cons OfRing h.1 (map (λ (r : Placed). r.1) (filter p rs)) own (of_placed (filter p rs) (All-filter p OfPlaced rs all))

  some_shapes : (cw : Bool) (rs hs : List Placed) → All OfPlaced rs → All OfPlaced hs → All (All C) (map (map (answered cw)) (map (shape_of rs) hs))
  some_shapes cw rs [] all h = All-nil (All C)
  some_shapes cw rs (k ∷ hs) all h =
      All-cons (All C) (map (answered cw) (shape_of rs k)) (map (map (answered cw)) (map (shape_of rs) hs))
      (answered_all cw (shape_of rs k) (one_shape rs k all (All-head OfPlaced k hs h)))
      (some_shapes cw rs hs all (All-tail OfPlaced k hs h))

  arranged_all : (cw : Bool) (rs : List Ring) (answer : List (List (List Point))) → AreArranged cw rs answer → All OfRing rs → All (All C) answer
  arranged_all cw rs answer a h =
      let all : All OfPlaced (enumerate_from 0 a.sorted) = placed_contours 0 a.sorted (All-permutation OfRing rs a.sorted a.same h) in
      subst (λ (l : List (List (List Point))). All (All C) l) (sym a.shapes)
      (some_shapes cw (enumerate_from 0 a.sorted) (filter (is_head (enumerate_from 0 a.sorted)) (enumerate_from 0 a.sorted)) all
      (All-filter (is_head (enumerate_from 0 a.sorted)) OfPlaced (enumerate_from 0 a.sorted) all))

  -- what holds of the answered vertices of each contour of a resolution holds of each contour of the answer
  pub answer_contours : (edges : List Edge) (fill : ℤ → Bool) (options : Choices) (answer : List (List (List Point))) → (r : IsResolution edges fill options answer) →
      All (λ (c : List Point). C (vertices options.all_vertices c)) r.contours → All (All C) answer
  answer_contours edges fill options answer r h =
      let rings : List Ring = map (ring_of options.all_vertices) r.contours in
      arranged_all options.clockwise (filter (is_large options.least_area) rings) answer r.arranged
      (All-filter (is_large options.least_area) OfRing rings (ring_contours options.all_vertices r.contours h))

-- ---- points of closed contours, where `P` holds of each edge's start

module _ (P : Point → Type 0) where
  abbrev Starts : Edge → Type 0
  Starts e = P e.0

  route_points : (a z : Point) (xs : List Point) → All Starts (route a xs z) → All P (a ∷ xs)
  route_points a z [] h = All-cons P a [] (All-head Starts (a, z) [] h) (All-nil P)
  route_points a z (x ∷ xs) h =
      All-cons P a (x ∷ xs) (All-head Starts (a, x) (route x xs z) h) (route_points x z xs (All-tail Starts (a, x) (route x xs z) h))

  contour_points : (c : List Point) → All Starts (boundary c) → All P c
  contour_points [] h = All-nil P
  contour_points (p ∷ xs) h = route_points p p xs h

  corner_points : (a z : Point) (xs : List Point) → All P xs → All P (turning_points a xs z)
  corner_points a z [] h = h
  corner_points a z (x ∷ xs) h = by (turns_at a x (first_or z xs)) (corner_points x z xs (All-tail P x xs h))
    where
      by : (b : Bool) → All P (turning_points x xs z) → All P (cond b (x ∷ turning_points x xs z) (turning_points x xs z))
      by true k = All-cons P x (turning_points x xs z) (All-head P x xs h) k
      by false k = k

  vertex_points : (all : Bool) (c : List Point) → All P c → All P (vertices all c)
  vertex_points true [] h = h
  vertex_points false [] h = h
  vertex_points true (p ∷ xs) h = h
  vertex_points false (p ∷ xs) h = All-cons P p (turning_points p xs p) (All-head P p xs h) (corner_points p p xs (All-tail P p xs h))

  vertices_points : (all : Bool) (cs : List (List Point)) → All Starts (flat_map boundary cs) → All (λ (c : List Point). All P (vertices all c)) cs
  vertices_points all [] h = All-nil (λ (c : List Point). All P (vertices all c))
  vertices_points all (c ∷ cs) h =
      All-cons (λ (d : List Point). All P (vertices all d)) c cs
      (vertex_points all c (contour_points c (all_left Starts (boundary c) (flat_map boundary cs) h)))
      (vertices_points all cs (all_right Starts (boundary c) (flat_map boundary cs) h))

  reversed_points : (ps : List Point) → All P ps → All P (reversed ps)
  reversed_points [] h = h
  reversed_points (p ∷ ps) h =
      All-cons P p (reverse ps) (All-head P p ps h) (All-permutation P ps (reverse ps) (IsPermutation-reverse ps) (All-tail P p ps h))

  -- what holds of the start of each edge of the contours holds of each point of the answer
  pub answer_points : (edges : List Edge) (fill : ℤ → Bool) (options : Choices) (answer : List (List (List Point))) → (r : IsResolution edges fill options answer) →
      All Starts (flat_map boundary r.contours) → All (All (All P)) answer
  answer_points edges fill options answer r h =
      answer_contours (All P) reversed_points edges fill options answer r (vertices_points options.all_vertices r.contours h)

starts_safe : (unit : ℕ) (es : List Edge) → AreEdgesSafe unit es → All (λ (e : Edge). IsSafe unit e.0) es
starts_safe unit [] h = All-nil (λ (e : Edge). IsSafe unit e.0)
starts_safe unit (e ∷ es) h =
    All-cons (λ (e : Edge). IsSafe unit e.0) e es (All-head (IsSafeEdge unit) e es h).0 (starts_safe unit es (All-tail (IsSafeEdge unit) e es h))

-- a resolution of safe edges has safe split segments and safe points
pub resolution_safe : (unit : ℕ) (edges : List Edge) (fill : ℤ → Bool) (options : Choices) (answer : List (List (List Point))) → (r : IsResolution edges fill options answer) →
    AreEdgesSafe unit edges → AreEdgesSafe unit (after r.splits edges) × ArePointsSafe unit answer
resolution_safe unit edges fill options answer r h =
    let split : AreEdgesSafe unit (after r.splits edges) = split_safe unit edges r.splits r.legal h in
    let bounds : AreEdgesSafe unit (flat_map boundary r.contours) = boundary_safe unit (after r.splits edges) (flat_map boundary r.contours) fill r.bounded split in
    (split, answer_points (IsSafe unit) edges fill options answer r (starts_safe unit (flat_map boundary r.contours) bounds))

pub answer_safe : (unit : ℕ) (edges given : List Edge) (fill : ℤ → Bool) (options : Choices) (answer : List (List (List Point))) → edges ≡ given → AreEdgesSafe unit given →
    IsResolution edges fill options answer → ArePointsSafe unit answer
answer_safe unit edges given fill options answer same h r =
    (resolution_safe unit edges fill options answer r (subst (λ (es : List Edge). AreEdgesSafe unit es) (sym same) h)).1

-- what holds of each image of a list holds of that of the element at a place
pub image_at : {A B : Type 0} (P : B → Type 0) (f : A → B) (xs : List A) (i : ℕ) (d : A) → i < length xs → All P (map f xs) → P (f (get_or xs i d))
image_at P f xs i d low h = subst P (get_or-map f xs i d (f d) low) (h i (f d) (subst (λ (n : ℕ). i < n) (sym (length-map xs f)) low))

-- a resolution in other words
pub same_resolution : (edges given : List Edge) (fill : ℤ → Bool) (options choices : Choices) (answer told : List (List (List Point))) → edges ≡ given → options ≡ choices → answer ≡ told →
    IsResolution edges fill options answer → IsResolution given fill choices told
same_resolution edges given fill options choices answer told e o a =
    subst (λ (x : List Edge × (Choices × List (List (List Point)))). IsResolution x.0 fill x.1.0 x.1.1) (λ i. (e i, (o i, a i)))

-- the edges of an answer's contours are safe where its points are
pub answer_edges_safe : (unit : ℕ) (answer : List (List (List Point))) → ArePointsSafe unit answer → AreEdgesSafe unit (flat_map boundary (contours_of answer))
answer_edges_safe unit answer safe =
    all_flat_map (λ (e : Edge). IsSafe unit e.0 × IsSafe unit e.1) boundary (contours_of answer)
    (All-weaker (λ (contour : List Point). All (IsSafe unit) contour) (λ (contour : List Point). AreEdgesSafe unit (boundary contour))
    (λ contour s. boundary_all (IsSafe unit) contour s) (contours_of answer)
    (all_flat_map (λ (contour : List Point). All (IsSafe unit) contour) (λ (shape : List (List Point)). shape) answer safe))
