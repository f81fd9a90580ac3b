-- Lemmas over points and lists: the winding of an outline is the contour's and the number of pieces that hold the point.
use Rattle.std.proofs.Common.{◌≡◌, ◌≢◌, ℕ, ◌<◌, ◌≤◌, ◌^◌, List, [], ◌∷◌, refl, sym, ◌∙◌, ap, arith}
use Rattle.std.specs.Prelude.{ℤ, pos, ◌+ℤ◌, ◌*ℤ◌, ◌≤ℤ◌, neg_ℤ, Bool, true, false, cond, map, int_lt, count_by}
use Rattle.std.specs.Ordering.{int_eq}
use Rattle.std.specs.List.{All, flat_map}
use Rattle.std.proofs.lemmas.Bool.Decides.{Decides-int_eq}
use Rattle.std.proofs.lemmas.List.Elements.{All-nil, All-map, All-append, All-weaker}
use Rattle.std.proofs.lemmas.Int.{ints}
use lib.IntN.{*ℤ-zero}
use lib.Signed.{◌<ℤ◌}
use Rattle.mesh_plane.specs.Plane.{Point, Edge, plus, minus, dot, turn, right_quarter}
use Rattle.mesh_num.specs.Direction.{scaled, scaled_direction}
use Rattle.mesh_num.specs.Directed.{direction_of}
use Rattle.mesh_plane.specs.Winding.{total, boundary, fan, pieces_total, crossing_on, winding, holds, IsBit, IsOdd, IsBalanced}
use Rattle.mesh_plane.proofs.Whole.{linear, multiplied, zero_mul}
use Rattle.mesh_plane.proofs.Rounding.{rounded_multiple}
use Rattle.mesh_plane.specs.Rounding.{rounded}
use Rattle.mesh_plane.proofs.Crossings.{crossing_on_odd}
use Rattle.mesh_plane.proofs.Balance.{growth, growth_odd, balanced_by_pieces, closed_balanced}
use Rattle.mesh_num.proofs.Directed.{direction_of_is}
use Rattle.mesh_num.proofs.Scaling.{dot_scaled_nonneg, dot_scaled_nonpos}
use Rattle.mesh_plane.proofs.ClosedLists.{all_flat_map}
use Rattle.mesh_plane.proofs.Triangles.{parallelogram_winds, parallelogram_winds_back}
use Rattle.mesh_plane.proofs.Pieces.{fan_winds, fan_winds_back, pieces_counted, opposite_pieces_counted}
use Rattle.mesh_join.proofs.JoinLaws.{KeepsJoint}
use Rattle.mesh_arc.specs.declared.arc.ArcDirection.{ArcDirection}
use Rattle.mesh_arc.specs.declared.arc.ArcDirection.TheVariants.{Clockwise, Counterclockwise}
use Rattle.mesh_arc.specs.Arcs.{sense_of}
use Rattle.mesh_join.specs.Joints.{NeverTurnsBack}
use Rattle.mesh_join.specs.Styles.{OffsetJoin}
use Rattle.mesh_outline.specs.Outline.{SectionPair, own_edge, strip, outer_edges, corner_pieces}
use Rattle.mesh_outline.specs.Outline.{drawn_pieces, sideways, section_of, parts, sense_for}
use Rattle.mesh_outline.specs.Outline.{joint_at, joined, closed_outline, closed_pieces}
use Rattle.mesh_offset.specs.Drawing.{sided}
use Rattle.mesh_offset.proofs.Apart.{apart_long}
use Rattle.mesh_outline.proofs.Corners.{IsClosedProper, negative, not_negative, corners, corners_keep}
use Rattle.mesh_outline.proofs.OutlineSum.{IsClosed, Stays, drawn_total, still_total}

-- the turns of moved points are products of the vectors
strip_turn : (a b s : Point) → turn a (plus a (right_quarter s)) b ≡ dot (minus b a) s
strip_turn a b s = simp multiplied (omega (arith, linear))

-- an own edge list is the contour
own_edges : (unit : ℕ) (offset : ℤ) (contour : List Edge) → map own_edge (map (section_of unit offset) contour) ≡ contour
own_edges unit offset [] = refl
own_edges unit offset (e ∷ es) = ap (λ (l : List Edge). e ∷ l) (own_edges unit offset es)

sections_closed : (unit : ℕ) (offset : ℤ) (contour : List Edge) → IsClosedProper contour → IsClosed (map (section_of unit offset) contour)
sections_closed unit offset contour ring = corners unit offset (λ c. c.0.b ≡ c.1.a) contour ring.closed

-- a moved edge and its own bound a parallelogram that never winds against the side
strip_winds : (m : ℕ) (q : Point) (unit : ℕ) (offset : ℤ) (e : Edge) → 0 < unit → e.0 ≢ e.1 →
    IsBit (sided offset (winding m q (boundary (strip (section_of unit offset e)))))
strip_winds m q unit offset e some apart = by (int_lt offset (pos 0)) refl
  where
    s : Point
    s = scaled_direction unit offset (direction_of unit (minus e.1 e.0))

    a_top : Point
    a_top = plus e.0 (right_quarter s)

    b_top : Point
    b_top = plus e.1 (right_quarter s)

    by : (b : Bool) → int_lt offset (pos 0) ≡ b → IsBit (cond b (neg_ℤ (winding m q (boundary (e.0 ∷ a_top ∷ b_top ∷ e.1 ∷ [])))) (winding m q (boundary (e.0 ∷ a_top ∷ b_top ∷ e.1 ∷ []))))
    by true h =
        let k : offset <ℤ pos 0 = negative offset h in
        parallelogram_winds_back m q e.0 a_top b_top e.1 (omega (arith, linear)) (omega (arith, linear))
        (rw (strip_turn e.0 e.1 s) (dot_scaled_nonpos offset some (omega (arith, linear)) (direction_of_is unit (minus e.1 e.0) (apart_long e apart))))
    by false h =
        parallelogram_winds m q e.0 a_top b_top e.1 (omega (arith, linear)) (omega (arith, linear))
        (rw (strip_turn e.0 e.1 s) (dot_scaled_nonneg offset some (not_negative offset h) (direction_of_is unit (minus e.1 e.0) (apart_long e apart))))

-- a list of points that never turns back bounds triangles that never wind against the side
fan_winds_on_side : (m : ℕ) (q : Point) (offset : ℤ) (v : Point) (es : List Edge) → NeverTurnsBack (sense_for offset) v es →
    All (λ piece. IsBit (sided offset (winding m q (boundary piece)))) (fan v es)
fan_winds_on_side m q offset v es = by (int_lt offset (pos 0))
  where
    ahead : ArcDirection → Edge → Type 0
    ahead sense e = pos 0 ≤ℤ (sense_of sense *ℤ turn v e.0 e.1)

    by : (b : Bool) → All (ahead (cond b Clockwise Counterclockwise)) es →
        All (λ piece. IsBit (cond b (neg_ℤ (winding m q (boundary piece))) (winding m q (boundary piece)))) (fan v es)
    by true h = fan_winds_back m q v es (All-weaker (ahead Clockwise) (λ (e : Edge). turn v e.0 e.1 ≤ℤ pos 0) (λ e k. omega (arith, ints, k)) es h)
    by false h = fan_winds m q v es (All-weaker (ahead Counterclockwise) (λ (e : Edge). pos 0 ≤ℤ turn v e.0 e.1) (λ e k. omega (arith, ints, k)) es h)

corner_winds : (m : ℕ) (q : Point) (unit : ℕ) (style : OffsetJoin) (c : SectionPair) →
    (parts style.offset c ≡ true → KeepsJoint unit style.join (joint_at style.offset c)) →
    All (λ piece. IsBit (sided style.offset (winding m q (boundary piece)))) (corner_pieces (parts style.offset) (joined unit style) c)
corner_winds m q unit style c keeps = by (parts style.offset c) refl
  where
    by : (b : Bool) → parts style.offset c ≡ b → All (λ piece. IsBit (sided style.offset (winding m q (boundary piece)))) (cond b (fan c.0.b (outer_edges (joined unit style) c)) [])
    by true h = fan_winds_on_side m q style.offset c.0.b (outer_edges (joined unit style) c) (keeps h).never_turns_back
    by false h = All-nil (λ piece. IsBit (sided style.offset (winding m q (boundary piece))))

-- every piece winds 0 or 1 times round a point, with the sign of its side
pub pieces_wind : (m : ℕ) (q : Point) (unit : ℕ) (style : OffsetJoin) (contour : List Edge) → 2 ^ 14 ≤ unit → IsClosedProper contour →
    All (λ piece. IsBit (sided style.offset (winding m q (boundary piece)))) (drawn_pieces (parts style.offset) (joined unit style) (map (section_of unit style.offset) contour))
unfolding drawn_pieces
pieces_wind m q unit style contour least ring =
    let winds = λ (piece : List Point). IsBit (sided style.offset (winding m q (boundary piece))) in
    let sections = map (section_of unit style.offset) contour in
    let strips : All winds (map strip sections) =
    All-map winds strip sections
    (All-map (λ s. winds (strip s)) (section_of unit style.offset) contour
    (All-weaker (λ (e : Edge). e.0 ≢ e.1) (λ e. winds (strip (section_of unit style.offset e))) (λ e h. strip_winds m q unit style.offset e (omega arith) h) contour ring.proper)) in
    let fans : All winds (flat_map (corner_pieces (parts style.offset) (joined unit style)) (boundary sections)) =
    all_flat_map winds (corner_pieces (parts style.offset) (joined unit style)) (boundary sections)
    (All-weaker (λ (c : SectionPair). parts style.offset c ≡ true → KeepsJoint unit style.join (joint_at style.offset c))
    (λ c. All winds (corner_pieces (parts style.offset) (joined unit style) c)) (λ c h. corner_winds m q unit style c h) (boundary sections) (corners_keep unit style least contour ring)) in
    All-append winds (map strip sections) (flat_map (corner_pieces (parts style.offset) (joined unit style)) (boundary sections)) strips fans

-- the offset 0 moves nothing
scaled_by_none : (unit : ℕ) (k : ℤ) → 0 < unit → scaled unit (pos 0) k ≡ pos 0
scaled_by_none unit k some =
    ap (λ (x : ℤ). rounded x unit) (*ℤ-zero k ∙ sym (zero_mul (pos unit))) ∙ rounded_multiple (pos 0) unit some

unmoved : (unit : ℕ) (p v : Point) → 0 < unit → plus p (sideways unit (pos 0) v) ≡ p
unmoved unit p v some =
    let x : p.0 +ℤ scaled unit (pos 0) (direction_of unit v).1 ≡ p.0 = omega (arith, linear, scaled_by_none unit (direction_of unit v).1 some) in
    let y : p.1 +ℤ neg_ℤ (scaled unit (pos 0) (direction_of unit v).0) ≡ p.1 = omega (arith, linear, scaled_by_none unit (direction_of unit v).0 some) in
    λ i. (x i, y i)

module _ (unit : ℕ) (style : OffsetJoin) (contour : List Edge) (least : 2 ^ 14 ≤ unit) (ring : IsClosedProper contour) where
  drawn_pieces_none : (f : Point → Point → ℤ) → IsOdd f → style.offset ≡ pos 0 →
      pieces_total f (drawn_pieces (parts style.offset) (joined unit style) (map (section_of unit style.offset) contour)) ≡ pos 0
  drawn_pieces_none f odd e =
      still_total f odd (parts style.offset) (joined unit style) (map (section_of unit style.offset) contour) (sections_closed unit style.offset contour ring)
      (All-map Stays (section_of unit style.offset) contour
      (All-weaker (λ (g : Edge). g.0 ≢ g.1) (λ (g : Edge). Stays (section_of unit style.offset g))
      (λ g h. rw e (unmoved unit g.0 (minus g.1 g.0) (omega arith), unmoved unit g.1 (minus g.1 g.0) (omega arith)))
      contour ring.proper))

  -- for a function that is odd, such as the crossing at a point of a grid: the outline's edges give what the contour's and the boundaries of the pieces give
  pub outline_total : (f : Point → Point → ℤ) → IsOdd f →
      total f (closed_outline unit style contour) ≡ total f contour +ℤ pieces_total f (closed_pieces unit style contour)
  outline_total f odd = by (int_eq style.offset (pos 0)) refl
    where
      drawn : total f (closed_outline unit style contour) ≡ total f contour +ℤ pieces_total f (drawn_pieces (parts style.offset) (joined unit style) (map (section_of unit style.offset) contour))
      drawn = rw (own_edges unit style.offset contour) at (drawn_total f odd (parts style.offset) (joined unit style) (map (section_of unit style.offset) contour) (sections_closed unit style.offset contour ring))

      by : (b : Bool) → int_eq style.offset (pos 0) ≡ b →
          total f (closed_outline unit style contour) ≡ total f contour +ℤ pieces_total f (cond b [] (drawn_pieces (parts style.offset) (joined unit style) (map (section_of unit style.offset) contour)))
      by true h = omega (arith, linear, drawn, drawn_pieces_none f odd ((Decides-int_eq style.offset (pos 0)).0 h))
      by false h = drawn

  pub outline_balanced : IsBalanced (closed_outline unit style contour)
  outline_balanced =
      balanced_by_pieces (closed_outline unit style contour) contour (closed_pieces unit style contour)
      (λ g. outline_total (growth g) (growth_odd g)) (closed_balanced contour ring.closed)

  -- the outline winds as the contour does, and once more for each piece that holds the point, once less where the offset is negative
  pub outline_winding : (m : ℕ) (q : Point) →
      winding m q (closed_outline unit style contour) ≡ winding m q contour +ℤ sided style.offset (pos (count_by (holds m q) (closed_pieces unit style contour)))
  outline_winding m q =
      outline_total (crossing_on m q) (crossing_on_odd m q)
      ∙ ap (λ (x : ℤ). winding m q contour +ℤ x) (counted (int_eq style.offset (pos 0)))
    where
      pieces : List (List Point)
      pieces = drawn_pieces (parts style.offset) (joined unit style) (map (section_of unit style.offset) contour)

      on_side : (b : Bool) → All (λ piece. IsBit (cond b (neg_ℤ (winding m q (boundary piece))) (winding m q (boundary piece)))) pieces →
          pieces_total (crossing_on m q) pieces ≡ cond b (neg_ℤ (pos (count_by (holds m q) pieces))) (pos (count_by (holds m q) pieces))
      on_side true h = opposite_pieces_counted m q pieces h
      on_side false h = pieces_counted m q pieces h

      none_on_side : (b : Bool) → pos 0 ≡ cond b (neg_ℤ (pos 0)) (pos 0)
      none_on_side true = refl
      none_on_side false = refl

      counted : (b : Bool) → pieces_total (crossing_on m q) (cond b [] pieces) ≡ sided style.offset (pos (count_by (holds m q) (cond b [] pieces)))
      counted true = none_on_side (int_lt style.offset (pos 0))
      counted false = on_side (int_lt style.offset (pos 0)) (pieces_wind m q unit style contour least ring)
