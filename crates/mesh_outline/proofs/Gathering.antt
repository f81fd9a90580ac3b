-- Lemmas over shapes: what comes of outer boundaries is gathered, one after another.
use Rattle.std.proofs.Common.{◌≡◌, ◌≢◌, ℕ, ◌+◌, ◌<◌, ◌≤◌, Bool, true, ◌&&◌, List, [], ◌∷◌, ◌++◌, map, length, get_or, take, take_all, refl, sym, ap, ◌∙◌, subst}
use Rattle.std.specs.Prelude.{Some, None}
use Rattle.std.specs.List.{All, AllPairs, flat_map}
use Rattle.std.proofs.lemmas.Bool.{and_parts}
use Rattle.std.proofs.lemmas.List.{append-nil, map-append, take_more}
use Rattle.std.proofs.lemmas.List.Concat.{flat_map-append}
use Rattle.std.proofs.lemmas.List.Elements.{All-nil, All-append, All-push}
use Rattle.mesh_plane.specs.Bounds.{IsSafe}
use Rattle.mesh_plane.specs.Plane.{Point, Edge}
use Rattle.mesh_plane.specs.Winding.{boundary}
use Rattle.mesh_num.specs.Paths.{contours_of}
use Rattle.mesh_lattice.specs.declared.fill.FillRule.TheVariants.{Positive}
use Rattle.mesh_shapes.specs.Contours.{double_area}
use Rattle.mesh_shapes.specs.Resolution.{Choices}
use Rattle.mesh_apart.specs.Apart.{Box, AreBoxesApart, LiesInBox, Piece, edges_in}
use Rattle.mesh_below.specs.Answers.{AreOwnBoundary}
use Rattle.mesh_join.specs.Styles.{OffsetJoin, OutlineStyle}
use Rattle.mesh_offset.specs.Adding.{answer_edges}
use Rattle.mesh_outline.specs.Kinds.{contour_kind, kind_fill, way_for}
use Rattle.mesh_outline.specs.Private.Gathered.{box_of, AddsShapes, ArePieces, AreGathered, GathersMore, IsResolvedAgain, ShapesSoFar}
use Rattle.mesh_outline.specs.Private.Given.{ComesAlone}
use Rattle.mesh_outline.specs.Resolved.{fill_for, Gives, IsOutline}
use Rattle.mesh_outline.specs.declared.kind.ContourKind.{ContourKind}
use Rattle.mesh_outline.specs.declared.kind.ContourKind.TheVariants.{Outer, Hole, Ignored}
use Rattle.mesh_outline.proofs.Adding.{give_none, give_next}
use Rattle.mesh_outline.proofs.OwnPieces.{own_together}
use Rattle.mesh_outline.proofs.Resolving.{gives_answer, gives_nothing}

-- ---- pieces

answer_edges_append : (shapes more : List (List (List Point))) → answer_edges (shapes ++ more) ≡ answer_edges shapes ++ answer_edges more
answer_edges_append shapes more =
    ap (flat_map boundary) (flat_map-append (λ (s : List (List Point)). s) shapes more)
    ∙ flat_map-append boundary (contours_of shapes) (contours_of more)

no_piece : ArePieces [] [] true
no_piece = record {
  pieces = [];
  joined = refl;
  boxes = refl;
  within = All-nil (λ (p : Piece). All (LiesInBox p.box) p.edges);
  own_boundaries = λ _. All-nil (λ (p : Piece). AreOwnBoundary p.edges);
}

one_piece_more : (edges more : List Edge) (bounds : List Edge) (b : Edge) (own more_own : Bool) → ArePieces edges bounds own → All (LiesInBox (box_of b)) more → (more_own ≡ true → AreOwnBoundary more) →
    ArePieces (edges ++ more) (bounds ++ b ∷ []) (own && more_own)
one_piece_more edges more bounds b own more_own h lie bounded =
    let p : Piece = record { box = box_of b; edges = more } in
    record {
      pieces = h.pieces ++ p ∷ [];
      joined =
          ap (λ (es : List Edge). es ++ more) h.joined ∙ ap (λ (es : List Edge). edges_in h.pieces ++ es) (sym (append-nil more))
          ∙ sym (flat_map-append (λ (q : Piece). q.edges) h.pieces (p ∷ []));
      boxes =
          map-append box_of bounds (b ∷ []) ∙ ap (λ (bs : List Box). bs ++ box_of b ∷ []) h.boxes
          ∙ sym (map-append (λ (q : Piece). q.box) h.pieces (p ∷ []));
      within = All-push (λ (q : Piece). All (LiesInBox q.box) q.edges) h.pieces p h.within lie;
      own_boundaries = λ t.
          let both = and_parts own more_own t in
          All-push (λ (q : Piece). AreOwnBoundary q.edges) h.pieces p (h.own_boundaries both.0) (bounded both.1);
    }

-- pieces whose bounds are apart are their own boundary together
pub own_pieces : (edges bounds : List Edge) (own : Bool) → ArePieces edges bounds own → own ≡ true → AllPairs AreBoxesApart (map box_of bounds) → AreOwnBoundary edges
own_pieces edges bounds own h t apart =
    subst AreOwnBoundary (sym h.joined) (own_together h.pieces h.within (h.own_boundaries t) (subst (AllPairs AreBoxesApart) h.boxes apart))

-- ---- one contour more

fill_of_outer : (kind : ContourKind) → kind ≢ Hole → kind_fill kind ≡ Positive
fill_of_outer Outer differ = refl
fill_of_outer Hole differ = absurd (differ refl)
fill_of_outer Ignored differ = refl

module _ (unit : ℕ) (style : OutlineStyle) where
  pub gathered_none : AreGathered unit style [] (record { shapes = []; bounds = []; own = true })
  gathered_none = record {
    give = give_none unit style;
    safe = All-nil (λ (shape : List (List Point)). All (λ (contour : List Point). All (IsSafe unit) contour) shape);
    pieces = no_piece;
  }

  -- one that does not move
  pub gathers_nothing : (path : List Point) (kind : ContourKind) (all : ShapesSoFar) → kind ≡ contour_kind path → way_for style kind ≡ None → GathersMore unit style path all all
  gathers_nothing path kind all k none contours h = record {
    give =
        rw (append-nil (answer_edges all.shapes)) at
        (give_next unit style contours path (answer_edges all.shapes) [] h.give (gives_nothing unit style kind path k none));
    safe = h.safe;
    pieces = h.pieces;
  }

  -- one that moves
  pub gathers_answer : (kind : ContourKind) (way : OffsetJoin) (path : List Point) (answer : List (List (List Point))) (settled alone : Bool) (old new : ShapesSoFar) →
      kind ≡ contour_kind path → kind ≢ Hole → way_for style kind ≡ Some way → ComesAlone unit way Positive path answer settled alone →
      AddsShapes answer alone old new → GathersMore unit style path old new
  gathers_answer kind way path answer settled alone old new k outer moves comes adds contours h =
      let fill : Positive ≡ fill_for (double_area path) = sym (fill_of_outer kind outer) ∙ ap kind_fill k in
      let gives : Gives unit style path (answer_edges answer) = gives_answer unit style way Positive path answer fill (sym (ap (way_for style) k) ∙ moves) comes.alone in
      let edges = answer_edges_append old.shapes answer in
      record {
        give = rw adds.shapes_are (rw edges (give_next unit style contours path (answer_edges old.shapes) (answer_edges answer) h.give gives));
        safe =
            rw adds.shapes_are
            (All-append (λ (shape : List (List Point)). All (λ (contour : List Point). All (IsSafe unit) contour) shape) old.shapes answer h.safe comes.safe);
        pieces =
            rw (adds.shapes_are, adds.bounds_are, adds.own_is)
            (rw edges (one_piece_more (answer_edges old.shapes) (answer_edges answer) old.bounds adds.bound old.own alone h.pieces adds.lie comes.own_boundary));
      }

  -- ---- all contours

  module _ (paths : List (List Point)) (all : ShapesSoFar) where
    pub gathered_more : (i : ℕ) (path : List Point) (more : ShapesSoFar) → i < length paths → path ≡ get_or paths i [] → AreGathered unit style (take i paths) all →
        GathersMore unit style path all more → AreGathered unit style (take (i + 1) paths) more
    gathered_more i path more low is h k =
        let next : take (i + 1) paths ≡ take i paths ++ path ∷ [] = take_more paths i [] low ∙ ap (λ (p : List Point). take i paths ++ p ∷ []) (sym is) in
        rw next (k (take i paths) h)

    pub gathered_all : (i : ℕ) → length paths ≤ i → AreGathered unit style (take i paths) all → AreGathered unit style paths all
    gathered_all i past h = rw (take_all i paths past) at h

    -- their resolution is the outline
    pub gathered_outline : (choices : Choices) (answer : List (List (List Point))) → AreGathered unit style paths all → IsResolvedAgain unit choices all.shapes answer →
        IsOutline unit style choices paths answer
    gathered_outline choices answer h again = record {
      given = answer_edges all.shapes;
      give = h.give;
      resolution = again.resolution;
    }
