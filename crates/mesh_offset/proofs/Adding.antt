-- Lemmas over points and lists: edges are added to segments one after another.
use Rattle.std.proofs.Common.{suc, add-one, ◌≡◌, List, ◌++◌, length, refl, Result, Ok, Err, [], sym, ap, ◌∙◌, append_assoc, ℕ, ◌+◌, ◌<◌, ◌∷◌, take, drop, get_or, ◌≤◌, take_all}
use Rattle.std.proofs.Math.Seq.{drop-cons, take-append_seam}
use Rattle.std.proofs.lemmas.List.{drop_all, drop_at, take_at, take_more, take-append-drop, map-append, append-nil, map_more}
use Rattle.mesh_num.specs.Segments.{SignedEdge, segments_of, segment_between}
use Rattle.mesh_offset.specs.Adding.{AddsInSense, added, added_edges, Keeps}
use Rattle.mesh_offset.specs.Built.{Adds}
use Rattle.std.specs.List.Sorted.{IsPermutation}
use Rattle.mesh_plane.specs.Plane.{Edge, Point}
use Rattle.std.specs.Prelude.{OnOk}
use Rattle.mesh_lattice.specs.Split.{back}
use Rattle.mesh_lattice.specs.declared.fill.FillRule.{FillRule}
use Rattle.mesh_lattice.specs.declared.fill.FillRule.TheVariants.{Positive, Negative}
use Rattle.mesh_offset.specs.Adding.{in_sense}
use Rattle.mesh_offset.specs.Built.{AddsClosed}
use Rattle.mesh_num.proofs.SegmentLists.{segments_of-append}
use Rattle.std.specs.List.{flat_map}
use Rattle.std.specs.declared.vec.Vec.{Vec}
use Rattle.std.specs.declared.alloc.Global.{Global}
use Rattle.std.proofs.lemmas.List.Concat.{flat_map-append}
use Rattle.mesh_num.specs.Paths.{paths_of, shapes_of, contours_of}
use Rattle.mesh_plane.specs.Winding.{route, boundary}
use Rattle.mesh_num.proofs.Paths.{contours_more}
use Rattle.mesh_offset.specs.Adding.{answer_edges}
use Rattle.std.proofs.lemmas.List.Elements.{All-nil, All-append}
use Rattle.mesh_plane.specs.Bounds.{IsSafe}
use Rattle.mesh_plane.proofs.Balance.{balanced_append}

pub added_is : (old new more : List SignedEdge) → new ≡ old ++ more → added old new ≡ more
added_is old new more h = rw h (drop_at old more (length old) refl)

pub adds_edges : (old new : List SignedEdge) (es : List Edge) → Adds old new es → IsPermutation (added_edges old new) es
adds_edges old new es h = rw (added_is old new h.0 h.1) h.2

pub keeps_added : (old new added : List SignedEdge) → new ≡ old ++ added → Keeps old new
keeps_added old new added h = rw h (take_at old added (length old) refl)

pub on_ok_then : {A E : Type 0} (r : Result A E) {P Q : Type 0} → OnOk r P → (P → Q) → OnOk r Q
on_ok_then (Ok x) h f = f h
on_ok_then (Err e) h f = tt

pub in_sense-append : (fill : FillRule) (es gs : List Edge) → in_sense fill (es ++ gs) ≡ in_sense fill es ++ in_sense fill gs
in_sense-append Positive es gs = refl
in_sense-append Negative es gs = map-append back es gs

pub in_sense-none : (fill : FillRule) → in_sense fill [] ≡ []
in_sense-none Positive = refl
in_sense-none Negative = refl

-- what is added in two steps
pub added_more : (fill : FillRule) (old mid new : List SignedEdge) (es gs : List Edge) → mid ≡ old ++ segments_of (in_sense fill es) →
    new ≡ mid ++ segments_of (in_sense fill gs) → new ≡ old ++ segments_of (in_sense fill (es ++ gs))
added_more fill old mid new es gs h k =
    k
    ∙ ap (λ (ss : List SignedEdge). ss ++ segments_of (in_sense fill gs)) h
    ∙ append_assoc old (segments_of (in_sense fill es)) (segments_of (in_sense fill gs))
    ∙ ap (λ (ss : List SignedEdge). old ++ ss) (sym (segments_of-append (in_sense fill es) (in_sense fill gs)))
    ∙ ap (λ (ds : List Edge). old ++ segments_of ds) (sym (in_sense-append fill es gs))

-- one contour of a shape more
pub contour_more : (fill : FillRule) (paths : List (Vec Point Global)) (path : Vec Point Global) (i : ℕ) (old mid new : List SignedEdge) → i < length paths →
    path ≡ get_or paths i path → mid ≡ old ++ segments_of (in_sense fill (flat_map boundary (paths_of (take i paths)))) →
    new ≡ mid ++ segments_of (in_sense fill (boundary path.items)) → new ≡ old ++ segments_of (in_sense fill (flat_map boundary (paths_of (take (i + 1) paths))))
contour_more fill paths path i old mid new l is h k =
    let items : Vec Point Global → List Point = λ p. p.items in
    let more : paths_of (take (i + 1) paths) ≡ paths_of (take i paths) ++ path.items ∷ [] =
    map_more items paths i path l ∙ ap (λ p. paths_of (take i paths) ++ p.items ∷ []) (sym is) in
    let edges : flat_map boundary (paths_of (take (i + 1) paths)) ≡ flat_map boundary (paths_of (take i paths)) ++ boundary path.items =
    ap (flat_map boundary) more
    ∙ flat_map-append boundary (paths_of (take i paths)) (path.items ∷ [])
    ∙ ap (λ (es : List Edge). flat_map boundary (paths_of (take i paths)) ++ es) (append-nil (boundary path.items)) in
    added_more fill old mid new (flat_map boundary (paths_of (take i paths))) (boundary path.items) h k
    ∙ ap (λ (es : List Edge). old ++ segments_of (in_sense fill es)) (sym edges)

-- all contours of a shape
pub contours_all : (fill : FillRule) (paths : List (Vec Point Global)) (i : ℕ) (old new : List SignedEdge) → length paths ≤ i →
    new ≡ old ++ segments_of (in_sense fill (flat_map boundary (paths_of (take i paths)))) → new ≡ old ++ segments_of (in_sense fill (flat_map boundary (paths_of paths)))
contours_all fill paths i old new past h =
    h ∙ ap (λ ps. old ++ segments_of (in_sense fill (flat_map boundary (paths_of ps)))) (take_all i paths past)

-- one shape more
pub shape_more : (fill : FillRule) (shapes : List (Vec (Vec Point Global) Global)) (shape : Vec (Vec Point Global) Global) (i : ℕ) (old mid new : List SignedEdge) → i < length shapes →
    shape ≡ get_or shapes i shape → mid ≡ old ++ segments_of (in_sense fill (answer_edges (shapes_of (take i shapes)))) →
    new ≡ mid ++ segments_of (in_sense fill (flat_map boundary (paths_of shape.items))) → new ≡ old ++ segments_of (in_sense fill (answer_edges (shapes_of (take (i + 1) shapes))))
shape_more fill shapes shape i old mid new l is h k =
    let more : contours_of (shapes_of (take (i + 1) shapes)) ≡ contours_of (shapes_of (take i shapes)) ++ paths_of shape.items =
    contours_more shapes i shape l ∙ ap (λ s. contours_of (shapes_of (take i shapes)) ++ paths_of s.items) (sym is) in
    let edges : answer_edges (shapes_of (take (i + 1) shapes)) ≡ answer_edges (shapes_of (take i shapes)) ++ flat_map boundary (paths_of shape.items) =
    ap (flat_map boundary) more ∙ flat_map-append boundary (contours_of (shapes_of (take i shapes))) (paths_of shape.items) in
    added_more fill old mid new (answer_edges (shapes_of (take i shapes))) (flat_map boundary (paths_of shape.items)) h k
    ∙ ap (λ (es : List Edge). old ++ segments_of (in_sense fill es)) (sym edges)

-- all shapes
pub shapes_all : (fill : FillRule) (shapes : List (Vec (Vec Point Global) Global)) (i : ℕ) (old new : List SignedEdge) → length shapes ≤ i →
    new ≡ old ++ segments_of (in_sense fill (answer_edges (shapes_of (take i shapes)))) → new ≡ old ++ segments_of (in_sense fill (answer_edges (shapes_of shapes)))
shapes_all fill shapes i old new past h =
    h ∙ ap (λ s. old ++ segments_of (in_sense fill (answer_edges (shapes_of s)))) (take_all i shapes past)

-- nothing
pub adds_nothing : (unit : ℕ) (old : List SignedEdge) → AddsClosed unit old old []
adds_nothing unit old = record { balanced = λ p. refl; safe = All-nil (λ (e : Edge). IsSafe unit e.0 × IsSafe unit e.1); added = sym (append-nil old) }

-- in two steps
pub adds_more : (unit : ℕ) (old mid new : List SignedEdge) (es gs : List Edge) → AddsClosed unit old mid es → AddsClosed unit mid new gs → AddsClosed unit old new (es ++ gs)
adds_more unit old mid new es gs h k = record {
  balanced = balanced_append es gs h.balanced k.balanced;
  safe = All-append (λ (e : Edge). IsSafe unit e.0 × IsSafe unit e.1) es gs h.safe k.safe;
  added = added_more Positive old mid new es gs h.added k.added;
}

-- what a vector began with it begins with still
pub keeps_through : (old mid new : List SignedEdge) → Keeps old mid → Keeps mid new → Keeps old new
keeps_through old mid new h k =
    let e : mid ≡ old ++ drop (length old) mid = sym (take-append-drop (length old) mid) ∙ ap (λ l. l ++ drop (length old) mid) h in
    let f : new ≡ mid ++ drop (length mid) new = sym (take-append-drop (length mid) new) ∙ ap (λ l. l ++ drop (length mid) new) k in
    let a : new ≡ old ++ (drop (length old) mid ++ drop (length mid) new) =
    f ∙ (ap (λ l. l ++ drop (length mid) new) e ∙ append_assoc old (drop (length old) mid) (drop (length mid) new)) in
    ap (take (length old)) a ∙ take-append_seam old (drop (length old) mid ++ drop (length mid) new)

-- what is left of a list, with its next element told apart
pub rest_from : (rest : List Point) (i : ℕ) (point : Point) → i < length rest → point ≡ get_or rest i point → drop i rest ≡ point ∷ drop (i + 1) rest
rest_from rest i point l f =
    drop-cons rest i point l ∙ ap (λ (p : Point). p ∷ drop (suc i) rest) (sym f)
    ∙ ap (λ (n : ℕ). point ∷ drop n rest) (sym (add-one i))

-- ---- the contours of shapes

-- an edge that is added in the positive sense, and one in the negative sense
pub edge_added : (fill : FillRule) (p r : Point) (old new : List SignedEdge) → fill ≡ Positive → new ≡ old ++ segment_between p r → AddsInSense fill old new ((p, r) ∷ [])
edge_added fill p r old new e h =
    h ∙ ap (λ (ss : List SignedEdge). old ++ ss) (sym (append-nil (segment_between p r))) ∙ ap (λ (f : FillRule). old ++ segments_of (in_sense f ((p, r) ∷ []))) (sym e)

pub edge_added_back : (fill : FillRule) (p r : Point) (old new : List SignedEdge) → fill ≡ Negative → new ≡ old ++ segment_between r p → AddsInSense fill old new ((p, r) ∷ [])
edge_added_back fill p r old new e h =
    h ∙ ap (λ (ss : List SignedEdge). old ++ ss) (sym (append-nil (segment_between r p))) ∙ ap (λ (f : FillRule). old ++ segments_of (in_sense f ((p, r) ∷ []))) (sym e)

-- an edge goes over from what is left of a contour to what is added; what is added in the end is the whole contour
pub closed_step : (fill : FillRule) (first previous point : Point) (rest : List Point) (i : ℕ) (mid new all : List SignedEdge) → i < length rest → point ≡ get_or rest i point →
    AddsInSense fill mid new ((previous, point) ∷ []) → mid ++ segments_of (in_sense fill (route previous (drop i rest) first)) ≡ all →
    new ++ segments_of (in_sense fill (route point (drop (i + 1) rest) first)) ≡ all
closed_step fill first previous point rest i mid new all l is h before =
    let left = route point (drop (i + 1) rest) first in
    added_more fill mid new (new ++ segments_of (in_sense fill left)) ((previous, point) ∷ []) left h refl
    ∙ ap (λ (ps : List Point). mid ++ segments_of (in_sense fill (route previous ps first))) (sym (rest_from rest i point l is))
    ∙ before

pub closed_end : (fill : FillRule) (contour : List Point) (first previous : Point) (rest : List Point) (i : ℕ) (old mid new : List SignedEdge) → contour ≡ first ∷ rest → length rest ≤ i →
    mid ++ segments_of (in_sense fill (route previous (drop i rest) first)) ≡ old ++ segments_of (in_sense fill (route first rest first)) →
    AddsInSense fill mid new ((previous, first) ∷ []) → AddsInSense fill old new (boundary contour)
closed_end fill contour first previous rest i old mid new e l before h =
    h ∙ ap (λ (ps : List Point). mid ++ segments_of (in_sense fill (route previous ps first))) (sym (drop_all i rest l))
    ∙ before ∙ ap (λ (ps : List Point). old ++ segments_of (in_sense fill (boundary ps))) (sym e)

-- one contour of a source more
pub path_more : (fill : FillRule) (paths : List (List Point)) (i : ℕ) (old mid new : List SignedEdge) → i < length paths →
    mid ≡ old ++ segments_of (in_sense fill (flat_map boundary (take i paths))) → AddsInSense fill mid new (boundary (get_or paths i [])) →
    new ≡ old ++ segments_of (in_sense fill (flat_map boundary (take (i + 1) paths)))
path_more fill paths i old mid new l h k =
    let path = get_or paths i [] in
    let edges : flat_map boundary (take (i + 1) paths) ≡ flat_map boundary (take i paths) ++ boundary path =
    ap (flat_map boundary) (take_more paths i [] l)
    ∙ flat_map-append boundary (take i paths) (path ∷ [])
    ∙ ap (λ (es : List Edge). flat_map boundary (take i paths) ++ es) (append-nil (boundary path)) in
    added_more fill old mid new (flat_map boundary (take i paths)) (boundary path) h k
    ∙ ap (λ (es : List Edge). old ++ segments_of (in_sense fill es)) (sym edges)

-- all contours of a source
pub paths_all : (fill : FillRule) (paths : List (List Point)) (i : ℕ) (old new : List SignedEdge) → length paths ≤ i →
    new ≡ old ++ segments_of (in_sense fill (flat_map boundary (take i paths))) → AddsInSense fill old new (flat_map boundary paths)
paths_all fill paths i old new past h =
    h ∙ ap (λ ps. old ++ segments_of (in_sense fill (flat_map boundary ps))) (take_all i paths past)
