-- Lemmas over lists: contours of shapes are added one after another, those without a point left out.
use Rattle.std.proofs.Common.{◌≡◌, ℕ, ◌+◌, ◌<◌, ◌≤◌, List, [], ◌∷◌, ◌++◌, length, take, take_all, get_or, sym, ◌∙◌, ap, append_assoc, arith}
use Rattle.std.specs.Prelude.{Vec}
use Rattle.std.specs.List.{flat_map}
use Rattle.std.specs.declared.alloc.Global.{Global}
use Rattle.std.proofs.lemmas.Grind.{flat_map-append}
use Rattle.std.proofs.lemmas.List.{append-nil, map_more}
use Rattle.std.proofs.lemmas.List.Elements.{All-push}
use Rattle.mesh_num.specs.Paths.{contours_of, paths_of, shapes_of}
use Rattle.mesh_num.proofs.Paths.{contours_more}
use Rattle.mesh_plane.specs.Plane.{Point, Edge}
use Rattle.mesh_plane.specs.Winding.{boundary}
use Rattle.mesh_shapes.specs.Vectors.{contour_edges}
use Rattle.mesh_below.specs.Private.Rings.{PushesContours}

pub adds_none : (old : List (Vec Point Global)) → PushesContours old old []
adds_none old = record { edges = sym (append-nil (contour_edges old)); have_points = λ h. h }

-- in two steps
pub adds_then : (old mid new : List (Vec Point Global)) (first second : List (List Point)) → PushesContours old mid first → PushesContours mid new second → PushesContours old new (first ++ second)
adds_then old mid new first second h k = record {
  edges =
      k.edges
      ∙ ap (λ (es : List Edge). es ++ flat_map boundary second) h.edges
      ∙ append_assoc (contour_edges old) (flat_map boundary first) (flat_map boundary second)
      ∙ ap (λ (es : List Edge). contour_edges old ++ es) (sym (flat_map-append boundary first second));
  have_points = λ p. k.have_points (h.have_points p);
}

-- one contour with a point
pub adds_one : (old new : List (Vec Point Global)) (contour : Vec Point Global) (points : List Point) → new ≡ old ++ contour ∷ [] → contour.items ≡ points → 0 < length points →
    PushesContours old new (points ∷ [])
adds_one old new contour points e same some = record {
  edges =
      ap contour_edges e
      ∙ flat_map-append (λ (v : Vec Point Global). boundary v.items) old (contour ∷ [])
      ∙ ap (λ (ps : List Point). contour_edges old ++ (boundary ps ++ [])) same;
  have_points = λ p.
      rw e (All-push (λ (c : Vec Point Global). 0 < length c.items) old contour p (rw same some));
}

-- one without a point is left out
pub adds_empty : (old : List (Vec Point Global)) (points : List Point) → length points ≡ 0 → PushesContours old old (points ∷ [])
adds_empty old [] none = record { edges = sym (append-nil (contour_edges old)); have_points = λ h. h }
adds_empty old (p ∷ ps) none = absurd (omega (arith, none))

-- the contours of a shape, one after another
pub adds_path : (shape : List (Vec Point Global)) (contour : Vec Point Global) (i : ℕ) (old mid new : List (Vec Point Global)) (points : List Point) → i < length shape → contour ≡ get_or shape i contour →
    points ≡ contour.items → PushesContours old mid (paths_of (take i shape)) → PushesContours mid new (points ∷ []) → PushesContours old new (paths_of (take (i + 1) shape))
adds_path shape contour i old mid new points low is same h k =
    let more : paths_of (take (i + 1) shape) ≡ paths_of (take i shape) ++ points ∷ [] =
    map_more (λ (v : Vec Point Global). v.items) shape i contour low ∙ ap (λ (v : Vec Point Global). paths_of (take i shape) ++ v.items ∷ []) (sym is) ∙ ap (λ (ps : List Point). paths_of (take i shape) ++ ps ∷ []) (sym same) in
    rw more (adds_then old mid new (paths_of (take i shape)) (points ∷ []) h k)

pub adds_paths : (shape : List (Vec Point Global)) (i : ℕ) (old new : List (Vec Point Global)) → length shape ≤ i → PushesContours old new (paths_of (take i shape)) → PushesContours old new (paths_of shape)
adds_paths shape i old new past h = rw (take_all i shape past) at h

-- those of shapes, one after another
pub adds_shape : (shapes : List (Vec (Vec Point Global) Global)) (shape : Vec (Vec Point Global) Global) (i : ℕ) (old mid new : List (Vec Point Global)) (paths : List (Vec Point Global)) → i < length shapes →
    shape ≡ get_or shapes i shape → paths ≡ shape.items → PushesContours old mid (contours_of (shapes_of (take i shapes))) → PushesContours mid new (paths_of paths) →
    PushesContours old new (contours_of (shapes_of (take (i + 1) shapes)))
adds_shape shapes shape i old mid new paths low is same h k =
    let more : contours_of (shapes_of (take (i + 1) shapes)) ≡ contours_of (shapes_of (take i shapes)) ++ paths_of paths =
    contours_more shapes i shape low ∙ ap (λ (s : Vec (Vec Point Global) Global). contours_of (shapes_of (take i shapes)) ++ paths_of s.items) (sym is)
    ∙ ap (λ (ps : List (Vec Point Global)). contours_of (shapes_of (take i shapes)) ++ paths_of ps) (sym same) in
    rw more (adds_then old mid new (contours_of (shapes_of (take i shapes))) (paths_of paths) h k)

pub adds_shapes : (shapes : List (Vec (Vec Point Global) Global)) (i : ℕ) (old new : List (Vec Point Global)) → length shapes ≤ i → PushesContours old new (contours_of (shapes_of (take i shapes))) →
    PushesContours old new (contours_of (shapes_of shapes))
adds_shapes shapes i old new past h = rw (take_all i shapes past) at h
