-- Lemmas over points and lists: the edges of an answer are their own boundary, where each point that its contours leave out is
-- passed once.
use Rattle.std.proofs.Common.{◌≡◌, Bool, true, false, List, [], ◌++◌, map, sym, ◌∙◌, ap, arith}
use Rattle.std.specs.Prelude.{ℤ, pos, ◌≤ℤ◌}
use Rattle.std.specs.List.{All, flat_map}
use Rattle.std.proofs.lemmas.Int.{ints}
use Rattle.std.proofs.lemmas.List.{append-nil}
use Rattle.mesh_num.specs.Paths.{contours_of}
use Rattle.mesh_plane.specs.Plane.{Point, Edge}
use Rattle.mesh_plane.specs.Winding.{sum_of, boundary, same_point, IsBalanced}
use Rattle.mesh_plane.proofs.Balance.{marks_counted}
use Rattle.mesh_plane.proofs.Sums.{sum_of_add}
use Rattle.mesh_lattice.specs.Clean.{IsProper}
use Rattle.mesh_lattice.specs.Counted.{bit}
use Rattle.mesh_lattice.specs.Split.{occurs, after}
use Rattle.mesh_lattice.proofs.Each.{Each}
use Rattle.mesh_lattice.proofs.SoundSplits.{ProperEnds}
use Rattle.mesh_regions.specs.SideLaws.{AreSplit}
use Rattle.mesh_regions.proofs.BoundaryFill.{boundary_cover}
use Rattle.mesh_regions.proofs.SplitBoundary.{boundary_balances}
use Rattle.mesh_shapes.specs.Contours.{left_out, vertices, StartsOnce}
use Rattle.mesh_shapes.specs.Resolution.{Choices, IsResolution}
use Rattle.mesh_below.specs.Answers.{AreOwnBoundary}
use Rattle.mesh_below.proofs.AnswerRegions.{resolved_split, resolved_proper}
use Rattle.mesh_below.proofs.Merging.{Same, own_same}
use Rattle.mesh_below.proofs.MergedContours.{contours_merged, end_count}
use Rattle.mesh_below.proofs.OwnSides.{bounds_itself}
use Rattle.mesh_below.proofs.Partition.{answer_sums}

-- balanced edges have two ends at most where one edge at most starts
few_ends : (es ordered : List Edge) → IsBalanced es → Same es ordered → (p : Point) → StartsOnce ordered p → end_count p es ≤ℤ pos 2
few_ends es ordered balanced same p once =
    let starts = marks_counted (λ (e : Edge). same_point p e.0) es in
    let ends = marks_counted (λ (e : Edge). same_point p e.1) es in
    let listed = marks_counted (λ (e : Edge). same_point p e.0) ordered in
    let alike = same (λ (e : Edge). bit (same_point p e.0)) in
    let both = sum_of_add (λ (e : Edge). bit (same_point p e.0)) (λ (e : Edge). bit (same_point p e.1)) es in
    let level = balanced p in
    omega (arith, ints, starts, ends, listed, alike, both, level, once)

pub own_boundary : (edges ordered : List Edge) (fill : ℤ → Bool) (options : Choices) (answer : List (List (List Point))) → IsProper edges → IsBalanced edges → fill (pos 0) ≡ false →
    (r : IsResolution edges fill options answer) → options.least_area ≡ 0 → options.clockwise ≡ false → Same (flat_map boundary r.contours) ordered →
    All (λ (c : List Point). All (StartsOnce ordered) (left_out options.all_vertices c)) r.contours → AreOwnBoundary (flat_map boundary (contours_of answer))
own_boundary edges ordered fill options answer proper balanced empty r least forward same once =
    own_same (flat_map boundary (map (vertices options.all_vertices) r.contours) ++ []) (flat_map boundary (contours_of answer))
    (λ (f : Edge → ℤ). ap (sum_of f) (append-nil (flat_map boundary (map (vertices options.all_vertices) r.contours))) ∙ sym (answer_sums edges fill options answer r least forward f))
    (contours_merged (StartsOnce ordered) options.all_vertices r.contours [] begun sound once).0
  where
    es : List Edge
    es = after r.splits edges

    bounds : List Edge
    bounds = flat_map boundary r.contours

    split : AreSplit es
    split = resolved_split edges fill options answer proper balanced r

    sound : Each ProperEnds bounds
    sound = resolved_proper edges fill options answer proper balanced r

    own : AreOwnBoundary bounds
    own = record {
      split = record {
        balanced = boundary_balances es bounds fill split empty r.bounded;
        clean = λ (e f : Edge) (o : occurs e bounds ≡ true) (p : occurs f bounds ≡ true).
            r.clean e f (boundary_cover es bounds fill r.bounded e o) (boundary_cover es bounds fill r.bounded f p);
        proper = λ (e : Edge) (o : occurs e bounds ≡ true). split.proper e (boundary_cover es bounds fill r.bounded e o);
      };
      bounded = bounds_itself es bounds fill split empty r.bounded;
    }

    begun : AreOwnBoundary (bounds ++ []) × ((p : Point) → StartsOnce ordered p → end_count p (bounds ++ []) ≤ℤ pos 2)
    begun = (
      own_same bounds (bounds ++ []) (λ (f : Edge → ℤ). sym (ap (sum_of f) (append-nil bounds))) own,
      λ (p : Point) (free : StartsOnce ordered p).
          few_ends (bounds ++ []) ordered (own_same bounds (bounds ++ []) (λ (f : Edge → ℤ). sym (ap (sum_of f) (append-nil bounds))) own).split.balanced
          (λ (f : Edge → ℤ). ap (sum_of f) (append-nil bounds) ∙ same f) p free,
    )
