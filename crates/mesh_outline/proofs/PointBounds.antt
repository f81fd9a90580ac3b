-- Lemmas over points and lists: bounds that reach out to points, one after another, and the edges that lie in them.
use Rattle.std.proofs.Common.{◌≡◌, ℕ, ◌+◌, ◌<◌, ◌≤◌, List, [], ◌∷◌, ◌++◌, length, get_or, take, sym, ap, ◌∙◌, arith}
use Rattle.std.specs.Int.{int_min, int_max}
use Rattle.std.specs.List.{All, flat_map}
use Rattle.std.specs.declared.vec.Vec.{Vec}
use Rattle.std.specs.declared.alloc.Global.{Global}
use Rattle.std.proofs.lemmas.Int.{ints, clamps}
use Rattle.std.proofs.lemmas.List.{append-nil, take_more, take_all, map-append}
use Rattle.std.proofs.lemmas.List.Concat.{flat_map-append}
use Rattle.std.proofs.lemmas.List.Elements.{All-nil, All-cons, All-append, All-weaker}
use Rattle.mesh_plane.specs.Plane.{Point, Edge}
use Rattle.mesh_plane.specs.Winding.{boundary}
use Rattle.mesh_plane.proofs.ClosedLists.{all_left, all_right, boundary_all}
use Rattle.mesh_num.specs.Paths.{contours_of, paths_of, shapes_of}
use Rattle.mesh_num.specs.Rectangle.{IsInRectangle}
use Rattle.mesh_apart.specs.Apart.{IsWithin, LiesInBox}
use Rattle.mesh_offset.specs.Adding.{answer_edges}
use Rattle.mesh_outline.specs.Private.Gathered.{box_of, HoldMore}

-- ---- one point more

pub reach_point : (old new : Edge) (p : Point) → new.0.0 ≡ int_min old.0.0 p.0 → new.1.0 ≡ int_max old.1.0 p.0 → new.0.1 ≡ int_min old.0.1 p.1 → new.1.1 ≡ int_max old.1.1 p.1 →
    HoldMore old new (p ∷ [])
reach_point old new p west east south north = record {
  kept = λ (q : Point) (h : IsInRectangle old q). record {
    west = omega (arith, ints, clamps, h.west, west);
    south = omega (arith, ints, clamps, h.south, south);
    east = omega (arith, ints, clamps, h.east, east);
    north = omega (arith, ints, clamps, h.north, north);
  };
  held =
      All-cons (IsInRectangle new) p []
      (record { west = omega (arith, ints, clamps, west); south = omega (arith, ints, clamps, south); east = omega (arith, ints, clamps, east); north = omega (arith, ints, clamps, north) })
      (All-nil (IsInRectangle new));
}

-- ---- lists of points

pub hold_none : (bounds : Edge) → HoldMore bounds bounds []
hold_none bounds = record { kept = λ (p : Point) (h : IsInRectangle bounds p). h; held = All-nil (IsInRectangle bounds) }

hold_more : (old mid new : Edge) (ps qs : List Point) → HoldMore old mid ps → HoldMore mid new qs → HoldMore old new (ps ++ qs)
hold_more old mid new ps qs h k = record {
  kept = λ (p : Point) (i : IsInRectangle old p). k.kept p (h.kept p i);
  held = All-append (IsInRectangle new) ps qs (All-weaker (IsInRectangle mid) (IsInRectangle new) k.kept ps h.held) k.held;
}

pub hold_point : (old mid new : Edge) (ps : List Point) (i : ℕ) (p : Point) → i < length ps → p ≡ get_or ps i p → HoldMore old mid (take i ps) → HoldMore mid new (p ∷ []) →
    HoldMore old new (take (i + 1) ps)
hold_point old mid new ps i p low is h k =
    let more : take (i + 1) ps ≡ take i ps ++ p ∷ [] = take_more ps i p low ∙ ap (λ (q : Point). take i ps ++ q ∷ []) (sym is) in
    rw more (hold_more old mid new (take i ps) (p ∷ []) h k)

pub hold_points : (old new : Edge) (ps : List Point) (i : ℕ) → length ps ≤ i → HoldMore old new (take i ps) → HoldMore old new ps
hold_points old new ps i past h = rw (take_all i ps past) at h

-- ---- contours of a shape

abbrev pub points_of : List (List Point) → List Point
points_of contours = flat_map (λ (contour : List Point). contour) contours

points_append : (cs ds : List (List Point)) → points_of (cs ++ ds) ≡ points_of cs ++ points_of ds
points_append cs ds = flat_map-append (λ (contour : List Point). contour) cs ds

pub hold_contour : (old mid new : Edge) (shape : List (Vec Point Global)) (i : ℕ) (contour : Vec Point Global) → i < length shape → contour ≡ get_or shape i contour →
    HoldMore old mid (points_of (paths_of (take i shape))) → HoldMore mid new contour.items → HoldMore old new (points_of (paths_of (take (i + 1) shape)))
hold_contour old mid new shape i contour low is h k =
    let contours : paths_of (take (i + 1) shape) ≡ paths_of (take i shape) ++ contour.items ∷ [] =
    ap paths_of (take_more shape i contour low ∙ ap (λ (c : Vec Point Global). take i shape ++ c ∷ []) (sym is)) ∙ map-append _ (take i shape) (contour ∷ []) in
    let more : points_of (paths_of (take (i + 1) shape)) ≡ points_of (paths_of (take i shape)) ++ contour.items =
    ap points_of contours ∙ points_append (paths_of (take i shape)) (contour.items ∷ []) ∙ ap (λ (ps : List Point). points_of (paths_of (take i shape)) ++ ps) (append-nil contour.items) in
    rw more (hold_more old mid new (points_of (paths_of (take i shape))) contour.items h k)

pub hold_contours : (old new : Edge) (shape : List (Vec Point Global)) (i : ℕ) → length shape ≤ i → HoldMore old new (points_of (paths_of (take i shape))) → HoldMore old new (points_of (paths_of shape))
hold_contours old new shape i past h = rw (take_all i shape past) at h

-- ---- shapes

-- all points of the shapes lie in the bounds
abbrev pub HoldShapes : Edge → List (List (List Point)) → Type 0
HoldShapes bounds shapes = All (IsInRectangle bounds) (points_of (contours_of shapes))

pub hold_no_shape : (bounds : Edge) → HoldShapes bounds []
hold_no_shape bounds = All-nil (IsInRectangle bounds)

pub hold_shape : (old new : Edge) (shapes : List (Vec (Vec Point Global) Global)) (i : ℕ) (shape : Vec (Vec Point Global) Global) → i < length shapes → shape ≡ get_or shapes i shape →
    HoldShapes old (shapes_of (take i shapes)) → HoldMore old new (points_of (paths_of shape.items)) → HoldShapes new (shapes_of (take (i + 1) shapes))
hold_shape old new shapes i shape low is h k =
    let more : contours_of (shapes_of (take (i + 1) shapes)) ≡ contours_of (shapes_of (take i shapes)) ++ paths_of shape.items =
    ap (λ (ss : List (Vec (Vec Point Global) Global)). contours_of (shapes_of ss)) (take_more shapes i shape low ∙ ap (λ (s : Vec (Vec Point Global) Global). take i shapes ++ s ∷ []) (sym is))
    ∙ ap contours_of (map-append _ (take i shapes) (shape ∷ [])) ∙ flat_map-append _ (shapes_of (take i shapes)) (paths_of shape.items ∷ [])
    ∙ ap (λ (cs : List (List Point)). contours_of (shapes_of (take i shapes)) ++ cs) (append-nil (paths_of shape.items)) in
    rw (more, points_append (contours_of (shapes_of (take i shapes))) (paths_of shape.items))
    (All-append (IsInRectangle new) (points_of (contours_of (shapes_of (take i shapes)))) (points_of (paths_of shape.items))
    (All-weaker (IsInRectangle old) (IsInRectangle new) k.kept (points_of (contours_of (shapes_of (take i shapes)))) h) k.held)

-- ---- edges

in_box : (bounds : Edge) (p : Point) → IsInRectangle bounds p → IsWithin (box_of bounds) p
in_box bounds p h = record { by_west = h.west; by_east = h.east; by_south = h.south; by_north = h.north }

contours_lie : (bounds : Edge) (contours : List (List Point)) → All (IsInRectangle bounds) (points_of contours) → All (LiesInBox (box_of bounds)) (flat_map boundary contours)
contours_lie bounds [] h = All-nil (LiesInBox (box_of bounds))
contours_lie bounds (c ∷ cs) h =
    All-append (LiesInBox (box_of bounds)) (boundary c) (flat_map boundary cs)
    (boundary_all (IsWithin (box_of bounds)) c (All-weaker (IsInRectangle bounds) (IsWithin (box_of bounds)) (in_box bounds) c (all_left (IsInRectangle bounds) c (points_of cs) h)))
    (contours_lie bounds cs (all_right (IsInRectangle bounds) c (points_of cs) h))

pub answer_lies : (bounds : Edge) (shapes : List (Vec (Vec Point Global) Global)) (i : ℕ) → length shapes ≤ i → HoldShapes bounds (shapes_of (take i shapes)) →
    All (LiesInBox (box_of bounds)) (answer_edges (shapes_of shapes))
answer_lies bounds shapes i past h = contours_lie bounds (contours_of (shapes_of shapes)) (rw (take_all i shapes past) at h)
