-- Lemmas over points and lists: the edges of a stroke lie along the sections of its path.
use Rattle.std.proofs.Common.{◌≡◌, ◌≢◌, ℕ, ◌≤◌, ◌^◌, inl, inr, List, [], ◌∷◌, ◌++◌, Bool, true, false, not, cond, refl}
use Rattle.std.proofs.Common.{sym, subst, arith}
use Rattle.std.specs.Prelude.{ℤ, pos, ◌≤ℤ◌, ◌<ℤ◌, unsigned_abs, int_le}
use Rattle.std.specs.List.{All, Contains, flat_map}
use Rattle.std.proofs.lemmas.Int.{ints}
use Rattle.std.proofs.lemmas.List.Elements.{All-nil, All-cons, All-head, All-append, All-filter, All-weaker}
use Rattle.std.proofs.lemmas.List.Elements.{All-contains_itself}
use Rattle.mesh_plane.specs.Plane.{Point, Edge}
use Rattle.mesh_plane.specs.Turning.{last_of}
use Rattle.mesh_plane.specs.Winding.{same_point}
use Rattle.mesh_plane.proofs.ClosedLists.{all_both, all_flat_map}
use Rattle.mesh_lattice.specs.Split.{back}
use Rattle.mesh_arc.specs.declared.arc.ArcDirection.TheVariants.{Clockwise}
use Rattle.mesh_join.specs.Styles.{JoinStyle}
use Rattle.mesh_join.specs.declared.style.StrokeSide.{StrokeSide}
use Rattle.mesh_join.specs.declared.style.StrokeSide.TheVariants.{Both, Left, Right}
use Rattle.mesh_reach.specs.Joins.{rounded_reach, join_reach}
use Rattle.mesh_reach.proofs.JoinPoints.{IsBy, by_itself}
use Rattle.mesh_reach.proofs.Pieces.{IsEndOf, IsDrawnAlong, drawn_at_end}
use Rattle.mesh_offset.proofs.Walks.{last_all}
use Rattle.mesh_stroke.specs.Caps.{CapKind}
use Rattle.mesh_stroke.specs.Paths.{neighbours, path_edges}
use Rattle.mesh_stroke.specs.Private.Sections.{faced_edges, opposite_side}
use Rattle.mesh_stroke.specs.Strokes.{EdgePair, left_of, right_end, left_end, side_edges, outer_edges, inner_edges}
use Rattle.mesh_stroke.specs.Strokes.{corner_edges, cap_at, half_ends, path_ends, drawn_edges, stroke_edges}
use Rattle.mesh_stroke.specs.Styles.{StrokeStyle}
use Rattle.mesh_stroke.specs.Reach.{cap_reach, caps_reach, stroke_reach}
use Rattle.mesh_stroke.proofs.Chains.{IsChain, neighbours_all, path_chain}
use Rattle.mesh_stroke.proofs.Corners.{IsMet, corners_met, left_turn, other_way, other_way_met, apart_back, faced_by}
use Rattle.mesh_stroke.proofs.Corners.{faced_is}
use Rattle.mesh_stroke.proofs.ReachOfPoints.{joins_covered, caps_covered, stroke_covered, beside, right_by, left_by}
use Rattle.mesh_stroke.proofs.ReachOfPoints.{outer_by, cap_at_by}

module _ (unit : ℕ) (least : 2 ^ 14 ≤ unit) (radius : ℤ) (wide : pos 1 <ℤ radius) (es : List Edge) (b : ℕ)
    (covers : rounded_reach (unsigned_abs radius) ≤ b) where
  at_end : (v : Point) → IsEndOf es v → (gs : List Edge) → All (λ (g : Edge). IsBy b v g.0 × IsBy b v g.1) gs →
      All (IsDrawnAlong b es) gs
  at_end v end gs h =
      All-weaker (λ (g : Edge). IsBy b v g.0 × IsBy b v g.1) (IsDrawnAlong b es) (drawn_at_end b es v end) gs h

  two : (g h : Edge) → IsDrawnAlong b es g → IsDrawnAlong b es h → All (IsDrawnAlong b es) (g ∷ h ∷ [])
  two g h first second =
      All-cons (IsDrawnAlong b es) g (h ∷ []) first
      (All-cons (IsDrawnAlong b es) h [] second (All-nil (IsDrawnAlong b es)))

  -- ---- the sides of a section

  sides_along : (side : StrokeSide) (e : Edge) → e.0 ≢ e.1 → Contains es e →
      All (IsDrawnAlong b es) (side_edges unit radius side e)
  sides_along side e apart listed =
      two (right_end unit radius side e e.0, right_end unit radius side e e.1)
      (left_end unit radius side e e.1, left_end unit radius side e e.0)
      (record {
        edge = e;
        listed = listed;
        start = inl (right_by unit least radius wide b covers side e e.0 apart);
        end = inr (right_by unit least radius wide b covers side e e.1 apart);
      })
      (record {
        edge = e;
        listed = listed;
        start = inr (left_by unit least radius wide b covers side e e.1 apart);
        end = inl (left_by unit least radius wide b covers side e e.0 apart);
      })

  -- ---- the edges at a corner

  -- a corner at ends of edges
  record IsCornerOf (k : EdgePair) : Type 0 where
    met : IsMet k
    first : IsEndOf es k.0.1
    second : IsEndOf es k.1.0

  inner_along : (k : EdgePair) → IsCornerOf k → All (IsDrawnAlong b es) (inner_edges unit radius k)
  inner_along k h =
      two (left_of unit radius k.1 k.1.0, k.1.0) (k.0.1, left_of unit radius k.0 k.0.1)
      (drawn_at_end b es k.1.0 h.second (left_of unit radius k.1 k.1.0, k.1.0)
      (beside unit least radius wide b covers Clockwise k.1 k.1.0 h.met.second, by_itself b k.1.0))
      (drawn_at_end b es k.0.1 h.first (k.0.1, left_of unit radius k.0 k.0.1)
      (by_itself b k.0.1, beside unit least radius wide b covers Clockwise k.0 k.0.1 h.met.first))

  outer_along : (join : JoinStyle) → join_reach join.kind radius ≤ b →
      (k : EdgePair) → IsCornerOf k → pos 0 ≤ℤ left_turn k →
      All (IsDrawnAlong b es) (outer_edges unit radius join k)
  outer_along join reach k h left =
      at_end k.0.1 h.first (outer_edges unit radius join k)
      (outer_by unit least radius wide b covers join reach k h.met left)

  faced_along : (join : JoinStyle) → join_reach join.kind radius ≤ b →
      (side : StrokeSide) (k : EdgePair) → IsCornerOf k → pos 0 ≤ℤ left_turn k →
      All (IsDrawnAlong b es) (faced_edges unit radius side join k)
  faced_along join reach Both k h left =
      All-append (IsDrawnAlong b es) (inner_edges unit radius k) (outer_edges unit radius join k) (inner_along k h)
      (outer_along join reach k h left)
  faced_along join reach Left k h left = inner_along k h
  faced_along join reach Right k h left = outer_along join reach k h left

  corner_along : (join : JoinStyle) → join_reach join.kind radius ≤ b →
      (side : StrokeSide) (c : EdgePair) → IsMet c × (Contains es c.0 × Contains es c.1) →
      All (IsDrawnAlong b es) (corner_edges unit radius side join c)
  corner_along join reach side c h =
      let first : IsEndOf es c.0.1 = record { edge = c.0; listed = h.1.0; end = inr refl } in
      let second : IsEndOf es c.1.0 = record { edge = c.1; listed = h.1.1; end = inl refl } in
      subst (All (IsDrawnAlong b es)) (sym (faced_is unit radius side join c))
      (faced_by (λ (seen : StrokeSide) (k : EdgePair). All (IsDrawnAlong b es) (faced_edges unit radius seen join k))
      side c
      (faced_along join reach side c (record { met = h.0; first = first; second = second }))
      (faced_along join reach (opposite_side side) (other_way c)
      (record { met = other_way_met c h.0; first = second; second = first })))

  -- ---- the edges at the ends

  cap_along : (kind : CapKind) → cap_reach kind radius ≤ b →
      (e : Edge) → e.0 ≢ e.1 → IsEndOf es e.1 → All (IsDrawnAlong b es) (cap_at unit radius kind e)
  cap_along kind reach e apart end =
      at_end e.1 end (cap_at unit radius kind e) (cap_at_by unit least radius wide b covers kind reach e apart)

  half_along : (side : StrokeSide) (first last : Edge) → first.0 ≢ first.1 → last.0 ≢ last.1 → IsEndOf es first.0 →
      IsEndOf es last.1 →
      All (IsDrawnAlong b es) (half_ends unit radius side first last)
  half_along side first last pf pl ef el =
      let la = left_end unit radius side first first.0 in
      let ra = right_end unit radius side first first.0 in
      let rb = right_end unit radius side last last.1 in
      let lb = left_end unit radius side last last.1 in
      two (la, ra) (rb, lb)
      (drawn_at_end b es first.0 ef (la, ra) (
        left_by unit least radius wide b covers side first first.0 pf,
        right_by unit least radius wide b covers side first first.0 pf,
      ))
      (drawn_at_end b es last.1 el (rb, lb) (
        right_by unit least radius wide b covers side last last.1 pl,
        left_by unit least radius wide b covers side last last.1 pl,
      ))

  ends_along : (side : StrokeSide) (closed : Bool) (start end : CapKind) → caps_reach side closed start end radius ≤ b →
      (first last : Edge) →
      first.0 ≢ first.1 → last.0 ≢ last.1 → IsEndOf es first.0 → IsEndOf es last.1 → All (IsDrawnAlong b es)
      (path_ends unit radius side start end closed first last)
  ends_along side true start end reach first last pf pl ef el = All-nil (IsDrawnAlong b es)
  ends_along Both false start end reach first last pf pl ef el =
      All-append (IsDrawnAlong b es) (cap_at unit radius start (back first)) (cap_at unit radius end last)
      (cap_along start (omega arith) (back first) (apart_back first pf) ef)
      (cap_along end (omega arith) last pl el)
  ends_along Left false start end reach first last pf pl ef el = half_along Left first last pf pl ef el
  ends_along Right false start end reach first last pf pl ef el = half_along Right first last pf pl ef el

-- ---- together

drawn_along : (unit : ℕ) → 2 ^ 14 ≤ unit → (style : StrokeStyle) → pos 1 <ℤ style.radius →
    (closed : Bool) (es : List Edge) → IsChain closed es →
    All (IsDrawnAlong (stroke_reach style closed) es) (drawn_edges unit style closed es)
unfolding drawn_edges
drawn_along unit least style wide closed [] chain = All-nil (IsDrawnAlong (stroke_reach style closed) [])
drawn_along unit least style wide closed (e ∷ es) chain =
    All-filter (λ (g : Edge). not (same_point g.0 g.1)) Along
    (flat_map (side_edges unit style.radius style.side) all ++
    (flat_map (corner_edges unit style.radius style.side style.join)
    (neighbours closed all) ++ path_ends unit style.radius style.side style.start style.end closed e (last_of e es)))
    (All-append Along (flat_map (side_edges unit style.radius style.side) all)
    (flat_map (corner_edges unit style.radius style.side style.join)
    (neighbours closed all) ++ path_ends unit style.radius style.side style.start style.end closed e (last_of e es))
    (all_flat_map Along (side_edges unit style.radius style.side) all
    (All-weaker (λ (g : Edge). (g.0 ≢ g.1) × Contains all g)
    (λ g. All Along (side_edges unit style.radius style.side g))
    (λ g h. sides_along unit least style.radius wide all b covers style.side g h.0 h.1) all
    (all_both (λ (g : Edge). g.0 ≢ g.1) (Contains all) all chain.proper listed)))
    (All-append Along (flat_map (corner_edges unit style.radius style.side style.join) (neighbours closed all))
    (path_ends unit style.radius style.side style.start style.end closed e (last_of e es))
    (all_flat_map Along (corner_edges unit style.radius style.side style.join) (neighbours closed all)
    (All-weaker (λ (c : EdgePair). IsMet c × (Contains all c.0 × Contains all c.1))
    (λ c. All Along (corner_edges unit style.radius style.side style.join c))
    (corner_along unit least style.radius wide all b covers style.join (joins_covered style closed) style.side)
    (neighbours closed all)
    (all_both IsMet (λ (c : EdgePair). Contains all c.0 × Contains all c.1) (neighbours closed all)
    (corners_met closed all chain) (neighbours_all (Contains all) closed all listed))))
    (ends_along unit least style.radius wide all b covers style.side closed style.start style.end
    (caps_covered style closed) e (last_of e es)
    (All-head (λ (g : Edge). g.0 ≢ g.1) e es chain.proper) (last_all (λ (g : Edge). g.0 ≢ g.1) e es chain.proper)
    (record { edge = e; listed = All-head (Contains all) e es listed; end = inl refl })
    (record { edge = last_of e es; listed = last_all (Contains all) e es listed; end = inr refl }))))
  where
    all : List Edge
    all = e ∷ es

    b : ℕ
    b = stroke_reach style closed

    Along : Edge → Type 0
    Along = IsDrawnAlong b all

    listed : All (Contains all) all
    listed = All-contains_itself all

    covers : rounded_reach (unsigned_abs style.radius) ≤ stroke_reach style closed
    covers = stroke_covered style closed

-- each edge of a stroke lies along a section
pub stroke_along : (unit : ℕ) → 2 ^ 14 ≤ unit → (style : StrokeStyle) (closed : Bool) (points : List Point) →
    All (IsDrawnAlong (stroke_reach style closed) (path_edges closed points)) (stroke_edges unit style closed points)
stroke_along unit least style closed points = by (int_le style.radius (pos 1)) refl
  where
    Along : Edge → Type 0
    Along = IsDrawnAlong (stroke_reach style closed) (path_edges closed points)

    by : (t : Bool) → int_le style.radius (pos 1) ≡ t →
        All Along (cond t [] (drawn_edges unit style closed (path_edges closed points)))
    by true h = All-nil Along
    by false h =
        drawn_along unit least style (omega (arith, ints, h)) closed (path_edges closed points)
        (path_chain closed points)
