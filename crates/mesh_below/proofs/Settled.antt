-- Lemmas over points and lists: answers that have all points of the boundary are settled.
use Rattle.std.proofs.Common.{◌≡◌, Bool, true, false, List, [], sym, ◌∙◌, ap, subst}
use Rattle.std.specs.Prelude.{ℤ, pos, Vec}
use Rattle.std.specs.declared.alloc.Global.{Global}
use Rattle.std.specs.List.{All, flat_map}
use Rattle.mesh_num.specs.Paths.{contours_of}
use Rattle.mesh_plane.specs.Plane.{Point, Edge}
use Rattle.mesh_plane.specs.Winding.{sum_of, boundary, IsBalanced, same_point}
use Rattle.mesh_lattice.specs.Boundary.{count, IsBoundary}
use Rattle.mesh_lattice.specs.Clean.{IsProper}
use Rattle.mesh_lattice.specs.Counted.{Counted}
use Rattle.mesh_lattice.specs.FillRules.{filled}
use Rattle.mesh_lattice.specs.Split.{occurs, after, IsLegal}
use Rattle.mesh_lattice.specs.Splitting.{IsSplitting}
use Rattle.mesh_lattice.specs.declared.fill.FillRule.TheVariants.{Positive}
use Rattle.mesh_regions.specs.SideLaws.{AreSplit}
use Rattle.mesh_regions.proofs.BoundaryFill.{boundary_cover}
use Rattle.mesh_shapes.specs.Resolution.{Choices, Ring, AreArranged, IsResolution}
use Rattle.mesh_shapes.specs.Vectors.{RingVec, rings_of_vecs, contour_edges}
use Rattle.mesh_shapes.proofs.Tracing.{counts_same}
use Rattle.mesh_below.specs.Answers.{AreOwnBoundary, IsSettled}
use Rattle.mesh_below.specs.Private.Rings.{AreRingsOf, IsWhole, Told}
use Rattle.mesh_below.proofs.AnswerRegions.{resolved_split}
use Rattle.mesh_below.proofs.Partition.{answer_sums}
use Rattle.mesh_below.proofs.Resolving.{all_occurs, same_boundary, resolved}
use Rattle.mesh_below.proofs.Whole.{whole_all}
use Rattle.mesh_below.proofs.OwnSides.{bounds_itself}
use Rattle.mesh_below.proofs.Merging.{Same}
use Rattle.mesh_below.proofs.OwnBoundary.{own_boundary}

-- ---- answers

-- an answer all of whose contours are whole, with none left out and none reversed, is settled
pub settled : (edges : List Edge) (fill : ℤ → Bool) (options : Choices) (answer : List (List (List Point))) → IsProper edges → IsBalanced edges → fill (pos 0) ≡ false →
    (r : IsResolution edges fill options answer) → options.least_area ≡ 0 → options.clockwise ≡ false → All (IsWhole options.all_vertices) r.contours → IsSettled options answer
settled edges fill options answer proper balanced empty r least same whole = record {
  proper = λ (e : Edge) (o : occurs e own ≡ true). split.proper e (boundary_cover es own fill bounded e o);
  resolution = again;
}
  where
    es : List Edge
    es = after r.splits edges

    bounds : List Edge
    bounds = flat_map boundary r.contours

    own : List Edge
    own = flat_map boundary (contours_of answer)

    split : AreSplit es
    split = resolved_split edges fill options answer proper balanced r

    counts : (e : Edge) → count e own ≡ count e bounds
    counts e =
        counts_same e own bounds (λ (f : Edge → ℤ).
        answer_sums edges fill options answer r least same f ∙ ap (λ (cs : List (List Point)). sum_of f (flat_map boundary cs)) (whole_all options.all_vertices r.contours whole))

    bounded : IsBoundary es fill own
    bounded = same_boundary es fill bounds own counts r.bounded

    again : IsResolution own (filled Positive) options answer
    again = record {
      splits = [];
      legal = IsLegal.no_cut;
      clean = λ (e f : Edge) (o : occurs e own ≡ true) (p : occurs f own ≡ true). r.clean e f (boundary_cover es own fill bounded e o) (boundary_cover es own fill bounded f p);
      contours = r.contours;
      bounded = same_boundary own (filled Positive) own bounds (λ (e : Edge). sym (counts e)) (bounds_itself es own fill split empty bounded);
      begun = r.begun;
      arranged = r.arranged;
    }

-- what the whole way from edges to shapes answers
module _ (edges : List Edge) (segments : List Counted) (fill : ℤ → Bool) (choices : Choices) (ordered : List Edge) (closed : List (Vec Point Global)) (rings : List RingVec) (told : Told)
    (answer : List (List (List Point))) (proper : IsProper edges) (balanced : IsBalanced edges) (empty : fill (pos 0) ≡ false) (s : IsSplitting edges segments)
    (is : IsBoundary (after s.splits edges) fill (contour_edges closed)) (k : AreRingsOf choices.all_vertices choices.least_area ordered closed rings told)
    (a : AreArranged choices.clockwise (rings_of_vecs rings) answer) where
  pub resolved_settled : told.0 ≡ true → choices.least_area ≡ 0 → choices.clockwise ≡ false → IsSettled choices answer
  unfolding resolved
  resolved_settled t least same =
      settled edges fill choices answer proper balanced empty (resolved edges segments fill choices ordered closed rings told answer s is k a) least same (k.are_whole t)

  pub resolved_bounds : Same (contour_edges closed) ordered → told.1 ≡ true → choices.least_area ≡ 0 → choices.clockwise ≡ false → AreOwnBoundary (flat_map boundary (contours_of answer))
  unfolding resolved
  resolved_bounds listed t least same =
      own_boundary edges ordered fill choices answer proper balanced empty (resolved edges segments fill choices ordered closed rings told answer s is k a) least same
      (λ (f : Edge → ℤ). k.same f ∙ listed f) (k.start_once t)

-- ---- contours whose edges are their own boundary

pub own_proper : (es : List Edge) → AreOwnBoundary es → All (λ (e : Edge). same_point e.0 e.1 ≡ false) es
own_proper es own = all_occurs (λ (e : Edge). same_point e.0 e.1 ≡ false) es own.split.proper

-- they need no splitting
pub arranged_again : (choices : Choices) (ordered : List Edge) (closed : List (Vec Point Global)) (rings : List RingVec) (told : Told) (answer : List (List (List Point))) →
    AreOwnBoundary (contour_edges closed) → AreRingsOf choices.all_vertices choices.least_area ordered closed rings told → AreArranged choices.clockwise (rings_of_vecs rings) answer →
    IsResolution (contour_edges closed) (filled Positive) choices answer
arranged_again choices ordered closed rings told answer own k a = record {
  splits = [];
  legal = IsLegal.no_cut;
  clean = own.split.clean;
  contours = k.contours;
  bounded = same_boundary (contour_edges closed) (filled Positive) (contour_edges closed) (flat_map boundary k.contours) (λ (e : Edge). counts_same e (flat_map boundary k.contours) (contour_edges closed) k.same) own.bounded;
  begun = k.begun;
  arranged = subst (λ (rs : List Ring). AreArranged choices.clockwise rs answer) k.rings_are a;
}
