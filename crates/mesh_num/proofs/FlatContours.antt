-- Lemmas over points and lists: one contour or one shape more in a buffer.
use Rattle.std.proofs.Common.{◌≡◌, ℕ, ◌+◌, ◌-◌, ◌<◌, ◌≤◌, List, [], ◌∷◌, ◌++◌, map, length, take, drop, get_or, refl, sym, ap, ◌∙◌, zero-add, arith}
use Rattle.std.specs.List.{flat_map, slice_range}
use Rattle.std.proofs.Math.Seq.{drop-append_seam, take-append_seam}
use Rattle.std.specs.declared.vec.Vec.{Vec}
use Rattle.std.specs.declared.ops.Range.{Range}
use Rattle.std.specs.declared.alloc.Global.{Global}
use Rattle.std.proofs.lemmas.List.{map_more, append-nil, append_assoc, take_all, length-append}
use Rattle.std.proofs.lemmas.List.Concat.{flat_map-append}
use Rattle.mesh_num.specs.declared.shape.buffer.FlatContoursBuffer.{FlatContoursBuffer}
use Rattle.mesh_num.specs.FlatContours.{range_of, ranges_from, points_at, HoldsContours}
use Rattle.mesh_num.specs.Paths.{paths_of, shapes_of, contours_of}
use Rattle.mesh_plane.specs.Plane.{Point}
use Rattle.mesh_num.proofs.Paths.{contours_more}

-- a range by its two ends
pub range_is :
    (from to start size : ℕ) → from ≡ start → to ≡ from + size →
    let r : Range ℕ = record { start = from; end = to } in r ≡ range_of start size
range_is from to start size e f =
    let r : ℕ → ℕ → Range ℕ = λ a b. record { start = a; end = b } in
    ap (r from) f ∙ ap (λ a. range_of a size) e

-- the range of one contour more
ranges_push :
    (start : ℕ) (cs : List (List Point)) (c : List Point) →
    ranges_from start (cs ++ c ∷ []) ≡ ranges_from start cs ++ range_of (start + length (flat_map (λ p. p) cs)) (length c) ∷ []
ranges_push start [] c = ap (λ n. range_of n (length c) ∷ []) (omega arith)
ranges_push start (b ∷ cs) c =
    let total : length (b ++ flat_map (λ p. p) cs) ≡ length b + length (flat_map (λ p. p) cs) = length-append b (flat_map (λ p. p) cs) in
    let place : start + length b + length (flat_map (λ p. p) cs) ≡ start + length (b ++ flat_map (λ p. p) cs) = omega arith in
    ap (λ r. range_of start (length b) ∷ r)
    (ranges_push (start + length b) cs c ∙ ap (λ n. ranges_from (start + length b) cs ++ range_of n (length c) ∷ []) place)

-- one contour more
pub holds_push :
    {I W U : Type 0} (old new : FlatContoursBuffer I W U) (cs : List (List Point)) (c : List Point) → HoldsContours old cs →
    new.points.items ≡ old.points.items ++ c →
    new.ranges.items ≡ old.ranges.items ++ range_of (length old.points.items) (length c) ∷ [] →
    HoldsContours new (cs ++ c ∷ [])
holds_push {I} {W} {U} old new cs c h points ranges =
    let same : List Point → List Point = λ p. p in
    let joined : flat_map same (cs ++ c ∷ []) ≡ flat_map same cs ++ c =
    flat_map-append same cs (c ∷ []) ∙ ap (λ p. flat_map same cs ++ p) (append-nil c) in
    record {
      points = points ∙ ap (λ p. p ++ c) h.points ∙ sym joined;
      ranges =
          ranges
          ∙ ap (λ r. r ++ range_of (length old.points.items) (length c) ∷ []) h.ranges
          ∙ ap (λ p. ranges_from 0 cs ++ range_of (length p) (length c) ∷ []) h.points
          ∙ ap (λ n. ranges_from 0 cs ++ range_of n (length c) ∷ []) (sym (zero-add (length (flat_map same cs))))
          ∙ sym (ranges_push 0 cs c);
    }

-- one contour of a shape more
pub shape_more :
    {I W U : Type 0} (new : FlatContoursBuffer I W U) (cs : List (List Point)) (paths : List (Vec Point Global)) (path : Vec Point Global) (i : ℕ) → i < length paths →
    path ≡ get_or paths i path → HoldsContours new ((cs ++ paths_of (take i paths)) ++ path.items ∷ []) → HoldsContours new (cs ++ paths_of (take (i + 1) paths))
shape_more {I} {W} {U} new cs paths path i h is holds =
    let items : Vec Point Global → List Point = λ p. p.items in
    let more : paths_of (take (i + 1) paths) ≡ paths_of (take i paths) ++ path.items ∷ [] =
    map_more items paths i path h ∙ ap (λ p. paths_of (take i paths) ++ p.items ∷ []) (sym is) in
    let all : cs ++ paths_of (take (i + 1) paths) ≡ (cs ++ paths_of (take i paths)) ++ path.items ∷ [] =
    ap (λ p. cs ++ p) more ∙ sym (append_assoc cs (paths_of (take i paths)) (path.items ∷ [])) in
    rw all holds

-- all contours of a shape
pub shape_all :
    {I W U : Type 0} (new : FlatContoursBuffer I W U) (cs : List (List Point)) (paths : List (Vec Point Global)) (i : ℕ) → length paths ≤ i →
    HoldsContours new (cs ++ paths_of (take i paths)) → HoldsContours new (cs ++ paths_of paths)
shape_all {I} {W} {U} new cs paths i past holds = rw (take_all i paths past) at holds

-- one shape more
pub shapes_more :
    {I W U : Type 0} (new : FlatContoursBuffer I W U) (shapes : List (Vec (Vec Point Global) Global)) (shape : Vec (Vec Point Global) Global) (i : ℕ) → i < length shapes →
    shape ≡ get_or shapes i shape → HoldsContours new (contours_of (shapes_of (take i shapes)) ++ paths_of shape.items) →
    HoldsContours new (contours_of (shapes_of (take (i + 1) shapes)))
shapes_more {I} {W} {U} new shapes shape i h is holds =
    let more : contours_of (shapes_of (take (i + 1) shapes)) ≡ contours_of (shapes_of (take i shapes)) ++ paths_of shape.items =
    contours_more shapes i shape h ∙ ap (λ s. contours_of (shapes_of (take i shapes)) ++ paths_of s.items) (sym is) in
    rw more holds

-- all shapes
pub shapes_all :
    {I W U : Type 0} (new : FlatContoursBuffer I W U) (shapes : List (Vec (Vec Point Global) Global)) (i : ℕ) → length shapes ≤ i →
    HoldsContours new (contours_of (shapes_of (take i shapes))) → HoldsContours new (contours_of (shapes_of shapes))
shapes_all {I} {W} {U} new shapes i past holds = rw (take_all i shapes past) at holds

-- a contour's points stand at the places of its range
found_one :
    (before c after points : List Point) → points ≡ before ++ (c ++ after) →
    points_at points (range_of (length before) (length c)) ≡ c
found_one before c after points e =
    let size : length before + length c - length before ≡ length c = omega arith in
    ap (λ p. take (length before + length c - length before) (drop (length before) p)) e
    ∙ ap (λ p. take (length before + length c - length before) p) (drop-append_seam before (c ++ after))
    ∙ ap (λ n. take n (c ++ after)) size
    ∙ take-append_seam c after

-- so do those of all contours, from some points on
pub found_from :
    (before : List Point) (cs : List (List Point)) (points : List Point) → points ≡ before ++ flat_map (λ p. p) cs →
    map (points_at points) (ranges_from (length before) cs) ≡ cs
found_from before [] points e = refl
found_from before (c ∷ cs) points e =
    let rest : List Point = flat_map (λ p. p) cs in
    let further : points ≡ (before ++ c) ++ rest = e ∙ sym (append_assoc before c rest) in
    ap (λ p. p ∷ map (points_at points) (ranges_from (length before + length c) cs)) (found_one before c rest points e)
    ∙ ap (λ n. c ∷ map (points_at points) (ranges_from n cs)) (sym (length-append before c))
    ∙ ap (λ r. c ∷ r) (found_from (before ++ c) cs points further)
