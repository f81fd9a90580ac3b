-- Lemmas over points and lists: what is drawn along a path is the boundaries of the pieces.
use Rattle.std.proofs.Common.{◌≡◌, ◌≢◌, ℕ, ◌<◌, List, [], ◌∷◌, ◌++◌, refl, sym, ◌∙◌, ap, arith}
use Rattle.std.specs.Prelude.{ℤ, pos, neg_ℤ, ◌+ℤ◌, ◌-ℤ◌, Bool, true, false, cond, map}
use Rattle.std.specs.List.{All, flat_map}
use Rattle.std.proofs.lemmas.List.Elements.{All-weaker, All-head}
use Rattle.mesh_plane.specs.Plane.{Point, Edge}
use Rattle.mesh_plane.specs.Winding.{sum_of, total, boundary, fan, pieces_total, IsOdd, IsStraight}
use Rattle.mesh_plane.proofs.Whole.{linear}
use Rattle.mesh_plane.proofs.Sums.{sum_of_add, sum_of_none, sum_of_equal, total_append, total_flat_map, pieces_total_append, pieces_total_flat_map}
use Rattle.mesh_plane.proofs.ClosedLists.{all_both}
use Rattle.mesh_num.specs.Segments.{proper_edges}
use Rattle.mesh_plane.proofs.Pieces.{fan_total}
use Rattle.mesh_plane.specs.Turning.{last_of}
use Rattle.mesh_lattice.specs.Split.{back}
use Rattle.mesh_join.specs.Joins.{between, join_points}
use Rattle.mesh_join.specs.Styles.{JoinStyle}
use Rattle.mesh_join.specs.declared.style.StrokeSide.{StrokeSide}
use Rattle.mesh_join.specs.declared.style.StrokeSide.TheVariants.{Both, Left, Right}
use Rattle.mesh_stroke.specs.Caps.{CapKind, cap_points}
use Rattle.mesh_stroke.specs.Ends.{half_turn}
use Rattle.mesh_offset.proofs.ProperEdges.{proper_edges_total}
use Rattle.mesh_stroke.specs.Paths.{neighbours}
use Rattle.mesh_stroke.specs.Styles.{StrokeStyle}
use Rattle.mesh_stroke.specs.Strokes.{EdgePair, heading, right_of, left_of, right_end, left_end, side_edges}
use Rattle.mesh_stroke.specs.Strokes.{section_piece, turns_right, joint_right, outer_edges, inner_edges, corner_edges}
use Rattle.mesh_stroke.specs.Strokes.{corner_pieces, cap_at, cap_pieces, open_ends, open_pieces, path_ends, end_pieces}
use Rattle.mesh_stroke.specs.Strokes.{drawn_edges, drawn_pieces}
use Rattle.mesh_stroke.specs.Private.Sections.{faced_edges, opposite_side, faced_side}
use Rattle.mesh_stroke.proofs.Corners.{faced_pieces, faced_is, pieces_are}
use Rattle.mesh_offset.proofs.Walks.{pairs_ends}
use Rattle.mesh_stroke.proofs.Chains.{IsChain, boundary_parts, neighbours_all}
use Rattle.mesh_stroke.proofs.Sides.{right_back, left_back, sides_straight}

module _ (f : Point → Point → ℤ) (odd : IsOdd f) (straight : IsStraight f) (unit : ℕ) (some : 0 < unit) where
  -- the way from the right side of an edge to its left one, at one of its points
  abbrev pub across : ℤ → StrokeSide → Edge → Point → ℤ
  across radius side e v = f (right_end unit radius side e v) (left_end unit radius side e v)

  across_through : (radius : ℤ) (side : StrokeSide) (e : Edge) (v : Point)
      → across radius side e v ≡ f v (left_end unit radius side e v) -ℤ f v (right_end unit radius side e v)
  across_through radius Both e v =
      omega (
        arith,
        linear,
        straight (right_of unit radius e v) v (left_of unit radius e v) (sides_straight unit radius e v),
        odd v (right_of unit radius e v),
      )
  across_through radius Left e v = omega (arith, linear, odd v v)
  across_through radius Right e v = omega (arith, linear, odd v v, odd v (right_of unit radius e v))

  -- an edge read backwards is crossed the other way
  pub across_back : (radius : ℤ) (side : StrokeSide) (e : Edge) (v : Point) → e.0 ≢ e.1
      → across radius (opposite_side side) (back e) v ≡ neg_ℤ (across radius side e v)
  across_back radius Both e v apart =
      let a : across radius Both (back e) v ≡ f (left_of unit radius e v) (right_of unit radius e v) =
      rw (right_back unit radius e v some apart, left_back unit radius e v some apart) refl in
      omega (arith, linear, a, odd (right_of unit radius e v) (left_of unit radius e v))
  across_back radius Left e v apart =
      let a : across radius Right (back e) v ≡ f (left_of unit radius e v) v =
      rw (right_back unit radius e v some apart) refl in
      omega (arith, linear, a, odd v (left_of unit radius e v))
  across_back radius Right e v apart =
      let a : across radius Left (back e) v ≡ f v (right_of unit radius e v) =
      rw (left_back unit radius e v some apart) refl in
      omega (arith, linear, a, odd v (right_of unit radius e v))

  section_total : (radius : ℤ) (side : StrokeSide) (e : Edge)
      → total f (side_edges unit radius side e)
      ≡ total f (boundary (section_piece unit radius side e)) +ℤ (across radius side e e.0 -ℤ across radius side e e.1)
  section_total radius side e =
      omega (arith, linear, odd (right_end unit radius side e e.0) (left_end unit radius side e e.0))

  sections_total : (radius : ℤ) (side : StrokeSide) (es : List Edge) →
      total f (flat_map (side_edges unit radius side) es)
      ≡ pieces_total f (map (section_piece unit radius side) es)
      +ℤ sum_of (λ e. across radius side e e.0 -ℤ across radius side e e.1) es
  sections_total radius side [] = omega (arith, linear)
  sections_total radius side (e ∷ es) =
      omega (
        arith,
        linear,
        section_total radius side e,
        sections_total radius side es,
        total_append f (side_edges unit radius side e) (flat_map (side_edges unit radius side) es),
      )

  abbrev ends_of : ℤ → StrokeSide → EdgePair → ℤ
  ends_of radius side c = across radius side c.0 c.0.1 -ℤ across radius side c.1 c.1.0

  -- the join of a corner that turns to the left
  outer_total : (radius : ℤ) (join : JoinStyle) (c : EdgePair) → c.0.1 ≡ c.1.0 →
      total f (outer_edges unit radius join c)
      ≡ pieces_total f (fan c.0.1 (outer_edges unit radius join c)) +ℤ ends_of radius Right c
  outer_total radius join c met =
      let j = joint_right unit radius c in
      let points = between j.first (join_points unit join j) j.last in
      omega (
        arith,
        linear,
        fan_total f odd c.0.1 j.first points j.last,
        odd c.0.1 j.first,
        odd c.0.1 j.last,
        odd c.1.0 j.last,
        ap (λ (v : Point). f v j.last) met,
      )

  -- and the edges through its vertex
  inner_total : (radius : ℤ) (c : EdgePair) → c.0.1 ≡ c.1.0 → total f (inner_edges unit radius c) ≡ ends_of radius Left c
  inner_total radius c met = omega (arith, linear, odd c.1.0 (left_of unit radius c.1 c.1.0))

  pub halves_across : (radius : ℤ) (e : Edge) (v : Point)
      → across radius Both e v ≡ across radius Left e v +ℤ across radius Right e v
  halves_across radius e v = omega (arith, linear, across_through radius Both e v, odd v (right_of unit radius e v))

  -- a corner that turns to the left
  left_total : (radius : ℤ) (side : StrokeSide) (join : JoinStyle) (c : EdgePair) → c.0.1 ≡ c.1.0 →
      total f (faced_edges unit radius side join c)
      ≡ pieces_total f (faced_pieces unit radius side join c) +ℤ ends_of radius side c
  left_total radius Both join c met =
      omega (
        arith,
        linear,
        total_append f (inner_edges unit radius c) (outer_edges unit radius join c),
        inner_total radius c met,
        outer_total radius join c met,
        halves_across radius c.0 c.0.1,
        halves_across radius c.1 c.1.0,
      )
  left_total radius Left join c met = omega (arith, linear, inner_total radius c met)
  left_total radius Right join c met = outer_total radius join c met

  -- any corner
  corner_total : (radius : ℤ) (side : StrokeSide) (join : JoinStyle) (c : EdgePair)
      → c.0.0 ≢ c.0.1 → c.1.0 ≢ c.1.1 → c.0.1 ≡ c.1.0 →
      total f (corner_edges unit radius side join c)
      ≡ pieces_total f (corner_pieces unit radius side join c) +ℤ ends_of radius side c
  corner_total radius side join c first second met =
      ap (total f) (faced_is unit radius side join c)
      ∙ by (turns_right c)
      ∙ ap (λ l. pieces_total f l +ℤ ends_of radius side c) (sym (pieces_are unit radius side join c))
    where
      by : (b : Bool) → total f (faced_edges unit radius (faced_side side b) join (cond b (back c.1, back c.0) c))
          ≡ pieces_total f (faced_pieces unit radius (faced_side side b) join (cond b (back c.1, back c.0) c))
          +ℤ ends_of radius side c
      by true =
          omega (
            arith,
            linear,
            left_total radius (opposite_side side) join (back c.1, back c.0) (sym met),
            across_back radius side c.1 c.1.0 second,
            across_back radius side c.0 c.0.1 first,
          )
      by false = left_total radius side join c met

  corners_total : (style : StrokeStyle) (closed : Bool) (es : List Edge) → IsChain closed es →
      total f (flat_map (corner_edges unit style.radius style.side style.join) (neighbours closed es))
      ≡ pieces_total f (flat_map (corner_pieces unit style.radius style.side style.join) (neighbours closed es)) +ℤ sum_of (ends_of style.radius style.side) (neighbours closed es)
  corners_total style closed es chain =
      let cs = neighbours closed es in
      let each : All (λ (c : EdgePair). total f (corner_edges unit style.radius style.side style.join c) ≡ pieces_total f (corner_pieces unit style.radius style.side style.join c) +ℤ ends_of style.radius style.side c) cs =
      All-weaker (λ (c : EdgePair). ((c.0.0 ≢ c.0.1) × (c.1.0 ≢ c.1.1)) × (c.0.1 ≡ c.1.0))
      (λ (c : EdgePair). total f (corner_edges unit style.radius style.side style.join c) ≡ pieces_total f (corner_pieces unit style.radius style.side style.join c) +ℤ ends_of style.radius style.side c)
      (λ c h. corner_total style.radius style.side style.join c h.0.0 h.0.1 h.1) cs
      (all_both (λ (c : EdgePair). (c.0.0 ≢ c.0.1) × (c.1.0 ≢ c.1.1)) (λ (c : EdgePair). c.0.1 ≡ c.1.0) cs (neighbours_all (λ (e : Edge). e.0 ≢ e.1) closed es chain.proper) chain.joined) in
      omega (
        arith,
        linear,
        total_flat_map f (corner_edges unit style.radius style.side style.join) cs,
        pieces_total_flat_map f (corner_pieces unit style.radius style.side style.join) cs,
        sum_of_equal (λ (c : EdgePair). total f (corner_edges unit style.radius style.side style.join c)) (λ (c : EdgePair). pieces_total f (corner_pieces unit style.radius style.side style.join c) +ℤ ends_of style.radius style.side c) cs each,
        sum_of_add (λ (c : EdgePair). pieces_total f (corner_pieces unit style.radius style.side style.join c)) (ends_of style.radius style.side) cs,
      )

  -- a cap
  cap_total : (radius : ℤ) (kind : CapKind) (e : Edge)
      → total f (cap_at unit radius kind e) ≡ pieces_total f (cap_pieces unit radius kind e) +ℤ across radius Both e e.1
  cap_total radius kind e =
      let j = half_turn unit radius e.1 (heading unit e) in
      omega (
        arith,
        linear,
        fan_total f odd e.1 j.first (cap_points kind unit j) j.last,
        across_through radius Both e e.1,
        odd e.1 j.last,
      )

  -- the ends of an open path
  open_total : (radius : ℤ) (side : StrokeSide) (start end : CapKind) (first last : Edge) → first.0 ≢ first.1
      → total f (open_ends unit radius side start end first last)
      ≡ pieces_total f (open_pieces unit radius side start end first last)
      +ℤ (across radius side last last.1 -ℤ across radius side first first.0)
  open_total radius Both start end first last apart =
      omega (
        arith,
        linear,
        total_append f (cap_at unit radius start (back first)) (cap_at unit radius end last),
        pieces_total_append f (cap_pieces unit radius start (back first)) (cap_pieces unit radius end last),
        cap_total radius start (back first),
        cap_total radius end last,
        across_back radius Both first first.0 apart,
      )
  open_total radius Left start end first last apart =
      omega (arith, linear, odd first.0 (left_of unit radius first first.0))
  open_total radius Right start end first last apart =
      omega (arith, linear, odd first.0 (right_of unit radius first first.0))

  -- all of it
  pub drawn_total : (style : StrokeStyle) (closed : Bool) (es : List Edge) → IsChain closed es →
      total f (drawn_edges unit style closed es) ≡ pieces_total f (drawn_pieces unit style closed es)
  unfolding drawn_edges drawn_pieces
  drawn_total style closed [] chain = refl
  drawn_total style closed (e ∷ es) chain = by closed chain
    where
      sides : List Edge
      sides = flat_map (side_edges unit style.radius style.side) (e ∷ es)

      at : Bool → List Edge
      at b = flat_map (corner_edges unit style.radius style.side style.join) (neighbours b (e ∷ es))

      caps : Bool → List Edge
      caps b = path_ends unit style.radius style.side style.start style.end b e (last_of e es)

      whole : (b : Bool) → total f (proper_edges (sides ++ (at b ++ caps b))) ≡ (total f sides +ℤ total f (at b)) +ℤ total f (caps b)
      whole b =
          omega (
            arith,
            linear,
            proper_edges_total f odd (sides ++ (at b ++ caps b)),
            total_append f sides (at b ++ caps b),
            total_append f (at b) (caps b),
          )

      start : Edge → ℤ
      start g = across style.radius style.side g g.0

      end : Edge → ℤ
      end g = across style.radius style.side g g.1

      cancel : sum_of (λ g. start g -ℤ end g) (e ∷ es) +ℤ sum_of (λ g. end g -ℤ start g) (e ∷ es) ≡ pos 0
      cancel =
          sym (sum_of_add (λ g. start g -ℤ end g) (λ g. end g -ℤ start g) (e ∷ es))
          ∙ sum_of_none (λ g. (start g -ℤ end g) +ℤ (end g -ℤ start g)) (λ g. omega (arith, linear)) (e ∷ es)

      pieces_of : (b : Bool) → pieces_total f (map (section_piece unit style.radius style.side) (e ∷ es) ++ (flat_map (corner_pieces unit style.radius style.side style.join) (neighbours b (e ∷ es)) ++ end_pieces unit style.radius style.side style.start style.end b e (last_of e es)))
          ≡ (pieces_total f (map (section_piece unit style.radius style.side) (e ∷ es)) +ℤ pieces_total f (flat_map (corner_pieces unit style.radius style.side style.join) (neighbours b (e ∷ es)))) +ℤ pieces_total f (end_pieces unit style.radius style.side style.start style.end b e (last_of e es))
      pieces_of b =
          omega (
            arith,
            linear,
            pieces_total_append f (map (section_piece unit style.radius style.side) (e ∷ es)) (flat_map (corner_pieces unit style.radius style.side style.join) (neighbours b (e ∷ es)) ++ end_pieces unit style.radius style.side style.start style.end b e (last_of e es)),
            pieces_total_append f (flat_map (corner_pieces unit style.radius style.side style.join) (neighbours b (e ∷ es))) (end_pieces unit style.radius style.side style.start style.end b e (last_of e es)),
          )

      by : (b : Bool) → IsChain b (e ∷ es) →
          total f (proper_edges (sides ++ (at b ++ caps b)))
          ≡ pieces_total f (map (section_piece unit style.radius style.side) (e ∷ es) ++ (flat_map (corner_pieces unit style.radius style.side style.join) (neighbours b (e ∷ es)) ++ end_pieces unit style.radius style.side style.start style.end b e (last_of e es)))
      by true h =
          omega (
            arith,
            linear,
            whole true,
            pieces_of true,
            sections_total style.radius style.side (e ∷ es),
            corners_total style true (e ∷ es) h,
            boundary_parts end start (e ∷ es),
            cancel,
          )
      by false h =
          omega (
            arith,
            linear,
            whole false,
            pieces_of false,
            sections_total style.radius style.side (e ∷ es),
            corners_total style false (e ∷ es) h,
            pairs_ends end start e es,
            cancel,
            open_total style.radius style.side style.start style.end e (last_of e es)
                (All-head (λ (g : Edge). g.0 ≢ g.1) e es h.proper),
          )
