-- Lemmas over points and lists: the pieces of a stroke lie along the sections of its path.
use Rattle.std.proofs.Common.{◌≡◌, ◌≢◌, ℕ, ◌≤◌, ◌^◌, inl, inr, List, [], ◌∷◌, ◌++◌, Bool, true, false, cond, refl, sym}
use Rattle.std.proofs.Common.{◌∙◌, subst, arith}
use Rattle.std.specs.Prelude.{ℤ, pos, ◌≤ℤ◌, ◌<ℤ◌, unsigned_abs, int_le, map}
use Rattle.std.specs.List.{All, Contains, flat_map}
use Rattle.std.proofs.lemmas.Int.{ints}
use Rattle.std.proofs.lemmas.List.Elements.{All-nil, All-cons, All-head, All-map, All-append, All-weaker}
use Rattle.std.proofs.lemmas.List.Elements.{All-contains_itself}
use Rattle.mesh_plane.specs.Plane.{Point, Edge}
use Rattle.mesh_plane.specs.Turning.{last_of}
use Rattle.mesh_plane.specs.Winding.{crossing_on, pieces_total}
use Rattle.mesh_plane.proofs.ClosedLists.{all_both, all_flat_map}
use Rattle.mesh_plane.proofs.Crossings.{crossing_on_odd}
use Rattle.mesh_plane.proofs.Triangles.{crossing_on_straight}
use Rattle.mesh_lattice.specs.Split.{back}
use Rattle.mesh_join.specs.Styles.{JoinStyle}
use Rattle.mesh_join.specs.declared.style.StrokeSide.{StrokeSide}
use Rattle.mesh_join.specs.declared.style.StrokeSide.TheVariants.{Both, Left, Right}
use Rattle.mesh_reach.specs.Joins.{rounded_reach, join_reach}
use Rattle.mesh_reach.specs.Reach.{IsByEnd, HoldsNear}
use Rattle.mesh_reach.proofs.Pieces.{IsAlong, IsEndOf, fan_along, holds_near, held_by_one}
use Rattle.mesh_offset.specs.Pieces.{WindAsPieces}
use Rattle.mesh_offset.proofs.Walks.{last_all}
use Rattle.mesh_stroke.specs.Caps.{CapKind}
use Rattle.mesh_stroke.specs.Paths.{neighbours, path_edges}
use Rattle.mesh_stroke.specs.Private.Sections.{opposite_side}
use Rattle.mesh_stroke.specs.Strokes.{EdgePair, right_end, left_end, section_piece, outer_edges}
use Rattle.mesh_stroke.specs.Strokes.{corner_pieces, cap_at, cap_pieces, end_pieces, drawn_pieces}
use Rattle.mesh_stroke.specs.Strokes.{stroke_edges, stroke_pieces}
use Rattle.mesh_stroke.specs.Styles.{StrokeStyle}
use Rattle.mesh_stroke.specs.Reach.{cap_reach, caps_reach, stroke_reach, WindWithinReach}
use Rattle.mesh_stroke.proofs.Chains.{IsChain, neighbours_all, path_chain}
use Rattle.mesh_stroke.proofs.Corners.{IsMet, corners_met, left_turn, other_way, other_way_met, apart_back}
use Rattle.mesh_stroke.proofs.Corners.{faced_by, faced_pieces, pieces_are}
use Rattle.mesh_stroke.proofs.Promised.{stroke_total}
use Rattle.mesh_stroke.proofs.ReachOfPoints.{joins_covered, caps_covered, stroke_covered, right_by, left_by, outer_by}
use Rattle.mesh_stroke.proofs.ReachOfPoints.{cap_at_by}

module _ (unit : ℕ) (least : 2 ^ 14 ≤ unit) (radius : ℤ) (wide : pos 1 <ℤ radius) (es : List Edge) (b : ℕ)
    (covers : rounded_reach (unsigned_abs radius) ≤ b) where
  section_along : (side : StrokeSide) (e : Edge) → e.0 ≢ e.1 → Contains es e →
      IsAlong b es (section_piece unit radius side e)
  section_along side e apart listed =
      let near = IsByEnd b e in
      let ra = right_end unit radius side e e.0 in
      let rb = right_end unit radius side e e.1 in
      let lb = left_end unit radius side e e.1 in
      let la = left_end unit radius side e e.0 in
      record {
        edge = e;
        listed = listed;
        near =
            All-cons near ra (rb ∷ lb ∷ la ∷ []) (inl (right_by unit least radius wide b covers side e e.0 apart))
            (All-cons near rb (lb ∷ la ∷ []) (inr (right_by unit least radius wide b covers side e e.1 apart))
            (All-cons near lb (la ∷ []) (inr (left_by unit least radius wide b covers side e e.1 apart))
            (All-cons near la [] (inl (left_by unit least radius wide b covers side e e.0 apart)) (All-nil near))));
      }

  -- ---- the pieces of a corner

  join_along : (join : JoinStyle) → join_reach join.kind radius ≤ b →
      (k : EdgePair) → IsMet k → IsEndOf es k.0.1 → pos 0 ≤ℤ left_turn k →
      All (IsAlong b es) (faced_pieces unit radius Both join k)
  join_along join reach k met end left =
      fan_along b es k.0.1 end (outer_edges unit radius join k)
      (outer_by unit least radius wide b covers join reach k met left)

  faced_along : (join : JoinStyle) → join_reach join.kind radius ≤ b →
      (side : StrokeSide) (k : EdgePair) → IsMet k → IsEndOf es k.0.1 → pos 0 ≤ℤ left_turn k →
      All (IsAlong b es) (faced_pieces unit radius side join k)
  faced_along join reach Both k met end left = join_along join reach k met end left
  faced_along join reach Left k met end left = All-nil (IsAlong b es)
  faced_along join reach Right k met end left = join_along join reach k met end left

  -- a corner of two of the edges
  abbrev At : EdgePair → Type 0
  At c = IsMet c × (Contains es c.0 × Contains es c.1)

  corner_along : (join : JoinStyle) → join_reach join.kind radius ≤ b →
      (side : StrokeSide) (c : EdgePair) → At c → All (IsAlong b es) (corner_pieces unit radius side join c)
  corner_along join reach side c h =
      subst (All (IsAlong b es)) (sym (pieces_are unit radius side join c))
      (faced_by (λ (seen : StrokeSide) (k : EdgePair). All (IsAlong b es) (faced_pieces unit radius seen join k)) side c
      (faced_along join reach side c h.0 (record { edge = c.0; listed = h.1.0; end = inr refl }))
      (faced_along join reach (opposite_side side) (other_way c) (other_way_met c h.0)
      (record { edge = c.1; listed = h.1.1; end = inl refl })))

  -- ---- the pieces of the ends

  cap_along : (kind : CapKind) → cap_reach kind radius ≤ b →
      (e : Edge) → e.0 ≢ e.1 → IsEndOf es e.1 → All (IsAlong b es) (cap_pieces unit radius kind e)
  cap_along kind reach e apart end =
      fan_along b es e.1 end (cap_at unit radius kind e)
      (cap_at_by unit least radius wide b covers kind reach e apart)

  ends_along : (side : StrokeSide) (closed : Bool) (start end : CapKind) → caps_reach side closed start end radius ≤ b →
      (first last : Edge) →
      first.0 ≢ first.1 → last.0 ≢ last.1 → Contains es first → Contains es last → All (IsAlong b es)
      (end_pieces unit radius side start end closed first last)
  ends_along side true start end reach first last pf pl cf cl = All-nil (IsAlong b es)
  ends_along Both false start end reach first last pf pl cf cl =
      All-append (IsAlong b es) (cap_pieces unit radius start (back first)) (cap_pieces unit radius end last)
      (cap_along start (omega arith) (back first) (apart_back first pf)
      (record { edge = first; listed = cf; end = inl refl }))
      (cap_along end (omega arith) last pl (record { edge = last; listed = cl; end = inr refl }))
  ends_along Left false start end reach first last pf pl cf cl = All-nil (IsAlong b es)
  ends_along Right false start end reach first last pf pl cf cl = All-nil (IsAlong b es)

-- ---- together

drawn_along : (unit : ℕ) → 2 ^ 14 ≤ unit → (style : StrokeStyle) → pos 1 <ℤ style.radius →
    (closed : Bool) (es : List Edge) → IsChain closed es →
    All (IsAlong (stroke_reach style closed) es) (drawn_pieces unit style closed es)
unfolding drawn_pieces
drawn_along unit least style wide closed [] chain = All-nil (IsAlong (stroke_reach style closed) [])
drawn_along unit least style wide closed (e ∷ es) chain =
    All-append Along (map (section_piece unit style.radius style.side) all)
    (flat_map (corner_pieces unit style.radius style.side style.join)
    (neighbours closed all) ++ end_pieces unit style.radius style.side style.start style.end closed e (last_of e es))
    (All-map Along (section_piece unit style.radius style.side) all
    (All-weaker (λ (g : Edge). (g.0 ≢ g.1) × Contains all g) (λ g. Along (section_piece unit style.radius style.side g))
    (λ g h. section_along unit least style.radius wide all b covers style.side g h.0 h.1) all
    (all_both (λ (g : Edge). g.0 ≢ g.1) (Contains all) all chain.proper listed)))
    (All-append Along (flat_map (corner_pieces unit style.radius style.side style.join) (neighbours closed all))
    (end_pieces unit style.radius style.side style.start style.end closed e (last_of e es))
    (all_flat_map Along (corner_pieces unit style.radius style.side style.join) (neighbours closed all)
    (All-weaker (λ (c : EdgePair). IsMet c × (Contains all c.0 × Contains all c.1))
    (λ c. All Along (corner_pieces unit style.radius style.side style.join c))
    (corner_along unit least style.radius wide all b covers style.join (joins_covered style closed) style.side)
    (neighbours closed all)
    (all_both IsMet (λ (c : EdgePair). Contains all c.0 × Contains all c.1) (neighbours closed all)
    (corners_met closed all chain) (neighbours_all (Contains all) closed all listed))))
    (ends_along unit least style.radius wide all b covers style.side closed style.start style.end
    (caps_covered style closed) e (last_of e es)
    (All-head (λ (g : Edge). g.0 ≢ g.1) e es chain.proper) (last_all (λ (g : Edge). g.0 ≢ g.1) e es chain.proper)
    (All-head (Contains all) e es listed) (last_all (Contains all) e es listed)))
  where
    all : List Edge
    all = e ∷ es

    b : ℕ
    b = stroke_reach style closed

    Along : List Point → Type 0
    Along = IsAlong b all

    listed : All (Contains all) all
    listed = All-contains_itself all

    covers : rounded_reach (unsigned_abs style.radius) ≤ stroke_reach style closed
    covers = stroke_covered style closed

module _ (unit : ℕ) (least : 2 ^ 14 ≤ unit) (style : StrokeStyle) (closed : Bool) (points : List Point) where
  pub strokes_reach : All (HoldsNear (stroke_reach style closed) (path_edges closed points))
      (stroke_pieces unit style closed points)
  strokes_reach = by (int_le style.radius (pos 1)) refl
    where
      Near : List Point → Type 0
      Near = HoldsNear (stroke_reach style closed) (path_edges closed points)

      by : (t : Bool) → int_le style.radius (pos 1) ≡ t →
          All Near (cond t [] (drawn_pieces unit style closed (path_edges closed points)))
      by true h = All-nil Near
      by false h =
          All-weaker (IsAlong (stroke_reach style closed) (path_edges closed points)) Near
          (holds_near (stroke_reach style closed) (path_edges closed points))
          (drawn_pieces unit style closed (path_edges closed points))
          (drawn_along unit least style (omega (arith, ints, h)) closed (path_edges closed points)
          (path_chain closed points))

  -- so is each point round which edges wind that wind as the pieces
  pub pieces_wind_within : (es : List Edge) → WindAsPieces (stroke_pieces unit style closed points) es →
      WindWithinReach style closed points es
  pieces_wind_within es sum m q some =
      held_by_one (stroke_reach style closed) m (path_edges closed points) q
      (stroke_pieces unit style closed points) strokes_reach
      (λ (none : pieces_total (crossing_on m q) (stroke_pieces unit style closed points) ≡ pos 0).
      some (sum m q ∙ none))

  pub stroke_edges_reach : WindWithinReach style closed points (stroke_edges unit style closed points)
  stroke_edges_reach =
      pieces_wind_within (stroke_edges unit style closed points)
      (λ m q. stroke_total unit least style closed points (crossing_on m q) (crossing_on_odd m q)
      (crossing_on_straight m q))
