-- Lemmas over points and lists: no piece of a stroke is turned round, but for those of custom caps.
use Rattle.std.proofs.Common.{◌≡◌, ◌≢◌, ℕ, ◌≤◌, ◌^◌, List, [], ◌∷◌, ◌++◌, refl, sym, subst, arith}
use Rattle.std.specs.Prelude.{ℤ, pos, neg_ℤ, ◌+ℤ◌, ◌≤ℤ◌, ◌*ℤ◌, Bool, true, false, ◌&&◌, IsTrue, map}
use Rattle.std.specs.List.{All, flat_map}
use Rattle.std.proofs.lemmas.Bool.{and_parts}
use Rattle.std.proofs.lemmas.Int.{ints}
use Rattle.std.proofs.lemmas.List.Elements.{All-nil, All-map, All-append, All-weaker, All-head}
use Rattle.mesh_plane.specs.Plane.{Point, Edge, plus, minus, dot, turn, right_quarter}
use Rattle.mesh_plane.specs.Winding.{boundary, winding, fan, IsBit}
use Rattle.mesh_plane.proofs.Whole.{linear, multiplied}
use Rattle.mesh_plane.proofs.ClosedLists.{all_flat_map}
use Rattle.mesh_plane.proofs.Triangles.{parallelogram_winds}
use Rattle.mesh_plane.proofs.Pieces.{fan_winds}
use Rattle.mesh_plane.specs.Turning.{last_of}
use Rattle.mesh_num.specs.Direction.{scaled_direction}
use Rattle.mesh_num.proofs.Parts.{direction_fresh}
use Rattle.mesh_num.proofs.Scaling.{dot_scaled_nonneg}
use Rattle.mesh_lattice.specs.Split.{back}
use Rattle.mesh_arc.specs.Arcs.{sense_of}
use Rattle.mesh_arc.specs.declared.arc.ArcDirection.TheVariants.{Counterclockwise}
use Rattle.mesh_join.specs.Joints.{NeverTurnsBack}
use Rattle.mesh_join.specs.Styles.{JoinStyle}
use Rattle.mesh_join.specs.declared.style.StrokeSide.{StrokeSide}
use Rattle.mesh_join.specs.declared.style.StrokeSide.TheVariants.{Both, Left, Right}
use Rattle.mesh_stroke.specs.Caps.{CapKind, drawn_cap, is_stock}
use Rattle.mesh_stroke.specs.Ends.{half_turn, IsEnd}
use Rattle.mesh_stroke.proofs.CapLaws.{KeepsEnd}
use Rattle.mesh_stroke.proofs.CapKinds.{cap_keeps}
use Rattle.mesh_stroke.specs.Drawn.{HasStockCaps}
use Rattle.mesh_stroke.specs.Paths.{neighbours}
use Rattle.mesh_stroke.specs.Styles.{StrokeStyle}
use Rattle.mesh_stroke.specs.Private.Sections.{faced_side}
use Rattle.mesh_stroke.specs.Strokes.{EdgePair, heading, section_piece, turns_right, facing, outer_edges}
use Rattle.mesh_stroke.specs.Strokes.{corner_pieces, cap_at, cap_pieces, open_pieces, end_pieces, drawn_pieces}
use Rattle.mesh_offset.proofs.Walks.{last_all}
use Rattle.mesh_stroke.proofs.Chains.{IsChain}
use Rattle.mesh_stroke.proofs.Corners.{IsMet, corners_met, facing_keeps, heading_short, apart_back}
use Rattle.mesh_stroke.proofs.Corners.{faced_pieces, pieces_are}
use Rattle.mesh_stroke.proofs.Sides.{heading_is}

-- the turn of a section's piece
piece_turn_by : (a b : Point) (x y : ℤ) → turn (plus a (y, neg_ℤ x)) (plus b (y, neg_ℤ x)) (minus a (y, neg_ℤ x)) ≡ dot (minus b a) (x, y) +ℤ dot (minus b a) (x, y)
piece_turn_by a b x y = simp multiplied (omega (arith, linear))

left_turn_by : (a b : Point) (x y : ℤ) → turn a b (minus a (y, neg_ℤ x)) ≡ dot (minus b a) (x, y)
left_turn_by a b x y = simp multiplied (omega (arith, linear))

left_turn_of : (a b s : Point) → turn a b (minus a (right_quarter s)) ≡ dot (minus b a) s
left_turn_of a b s = left_turn_by a b s.0 s.1

right_turn_by : (a b : Point) (x y : ℤ) → turn (plus a (y, neg_ℤ x)) (plus b (y, neg_ℤ x)) a ≡ dot (minus b a) (x, y)
right_turn_by a b x y = simp multiplied (omega (arith, linear))

right_turn_of : (a b s : Point) → turn (plus a (right_quarter s)) (plus b (right_quarter s)) a ≡ dot (minus b a) s
right_turn_of a b s = right_turn_by a b s.0 s.1

piece_turn : (a b s : Point) → turn (plus a (right_quarter s)) (plus b (right_quarter s)) (minus a (right_quarter s)) ≡ dot (minus b a) s +ℤ dot (minus b a) s
piece_turn a b s = piece_turn_by a b s.0 s.1

-- edges that never turn back to the right round a point bound triangles that are not turned round
fan_ahead : (m : ℕ) (q v : Point) (es : List Edge) → NeverTurnsBack Counterclockwise v es → All (λ piece. IsBit (winding m q (boundary piece))) (fan v es)
fan_ahead m q v es h =
    fan_winds m q v es
    (All-weaker (λ (e : Edge). pos 0 ≤ℤ (sense_of Counterclockwise *ℤ turn v e.0 e.1)) (λ (e : Edge). pos 0 ≤ℤ turn v e.0 e.1) (λ e k. omega (arith, ints, k)) es h)

module _ (unit : ℕ) (least : 2 ^ 14 ≤ unit) (m : ℕ) (q : Point) where
  abbrev Winds : List Point → Type 0
  Winds piece = IsBit (winding m q (boundary piece))

  section_winds : (radius : ℤ) → pos 0 ≤ℤ radius → (side : StrokeSide) (e : Edge) → e.0 ≢ e.1
      → Winds (section_piece unit radius side e)
  section_winds radius sign side e apart = by side
    where
      s : Point
      s = scaled_direction unit radius (heading unit e)

      ahead : pos 0 ≤ℤ dot (minus e.1 e.0) s
      ahead = dot_scaled_nonneg radius (omega arith) sign (heading_is unit e apart)

      turned : pos 0 ≤ℤ turn (plus e.0 (right_quarter s)) (plus e.1 (right_quarter s)) (minus e.0 (right_quarter s))
      turned = rw (piece_turn e.0 e.1 s) (omega (arith, ints, ahead))

      turned_left : pos 0 ≤ℤ turn e.0 e.1 (minus e.0 (right_quarter s))
      turned_left = rw (left_turn_of e.0 e.1 s) ahead

      turned_right : pos 0 ≤ℤ turn (plus e.0 (right_quarter s)) (plus e.1 (right_quarter s)) e.0
      turned_right = rw (right_turn_of e.0 e.1 s) ahead

      by : (side : StrokeSide) → Winds (section_piece unit radius side e)
      by Both =
          parallelogram_winds m q (plus e.0 (right_quarter s)) (plus e.1 (right_quarter s))
          (minus e.1 (right_quarter s)) (minus e.0 (right_quarter s))
          (omega (arith, linear)) (omega (arith, linear)) turned
      by Left =
          parallelogram_winds m q e.0 e.1 (minus e.1 (right_quarter s)) (minus e.0 (right_quarter s))
          (omega (arith, linear)) (omega (arith, linear)) turned_left
      by Right =
          parallelogram_winds m q (plus e.0 (right_quarter s)) (plus e.1 (right_quarter s)) e.1 e.0
          (omega (arith, linear)) (omega (arith, linear)) turned_right

  corner_winds : (radius : ℤ) → pos 0 ≤ℤ radius → (side : StrokeSide) (join : JoinStyle) (c : EdgePair) → IsMet c
      → All Winds (corner_pieces unit radius side join c)
  corner_winds radius sign side join c h =
      subst (All Winds) (sym (pieces_are unit radius side join c)) (by (faced_side side (turns_right c)))
    where
      joined : All Winds (fan (facing c).0.1 (outer_edges unit radius join (facing c)))
      joined =
          fan_ahead m q (facing c).0.1 (outer_edges unit radius join (facing c))
          (facing_keeps unit least radius sign join c h).never_turns_back

      by : (seen : StrokeSide) → All Winds (faced_pieces unit radius seen join (facing c))
      by Both = joined
      by Left = All-nil Winds
      by Right = joined

  -- the end of an edge can be capped
  cap_winds : (radius : ℤ) → pos 0 ≤ℤ radius → (kind : CapKind) → IsTrue (is_stock kind) → (e : Edge) → e.0 ≢ e.1 → All Winds (cap_pieces unit radius kind e)
  cap_winds radius sign kind stock e apart =
      let j = half_turn unit radius e.1 (heading unit e) in
      let end : IsEnd unit j = record { made = refl; fresh = direction_fresh (omega arith) (heading_is unit e apart) } in
      let keeps : KeepsEnd unit kind j = (cap_keeps unit kind least).at_end j (heading_short unit least radius sign e apart) end sign in
      fan_ahead m q e.1 (cap_at unit radius kind e) (keeps.never_turns_back stock)

  open_winds : (radius : ℤ) → pos 0 ≤ℤ radius → (side : StrokeSide) (start end : CapKind)
      → IsTrue (is_stock (drawn_cap side start) && is_stock (drawn_cap side end)) → (first last : Edge)
      → first.0 ≢ first.1 → last.0 ≢ last.1 → All Winds (open_pieces unit radius side start end first last)
  open_winds radius sign Both start end h first last f l =
      All-append Winds (cap_pieces unit radius start (back first)) (cap_pieces unit radius end last)
      (cap_winds radius sign start (and_parts (is_stock start) (is_stock end) h).0 (back first) (apart_back first f))
      (cap_winds radius sign end (and_parts (is_stock start) (is_stock end) h).1 last l)
  open_winds radius sign Left start end h first last f l = All-nil Winds
  open_winds radius sign Right start end h first last f l = All-nil Winds

  -- no piece is turned round
  pub drawn_winds : (style : StrokeStyle) → pos 0 ≤ℤ style.radius → (closed : Bool) → HasStockCaps style closed →
      (es : List Edge) → IsChain closed es → All Winds (drawn_pieces unit style closed es)
  unfolding drawn_pieces
  drawn_winds style sign closed stock [] chain = All-nil Winds
  drawn_winds style sign closed stock (e ∷ es) chain =
      All-append Winds (map (section_piece unit style.radius style.side) (e ∷ es)) (flat_map (corner_pieces unit style.radius style.side style.join) (neighbours closed (e ∷ es)) ++ end_pieces unit style.radius style.side style.start style.end closed e (last_of e es))
      (All-map Winds (section_piece unit style.radius style.side) (e ∷ es)
      (All-weaker (λ (g : Edge). g.0 ≢ g.1) (λ g. Winds (section_piece unit style.radius style.side g)) (section_winds style.radius sign style.side) (e ∷ es) chain.proper))
      (All-append Winds (flat_map (corner_pieces unit style.radius style.side style.join) (neighbours closed (e ∷ es))) (end_pieces unit style.radius style.side style.start style.end closed e (last_of e es))
      (all_flat_map Winds (corner_pieces unit style.radius style.side style.join) (neighbours closed (e ∷ es))
      (All-weaker IsMet (λ c. All Winds (corner_pieces unit style.radius style.side style.join c)) (corner_winds style.radius sign style.side style.join) (neighbours closed (e ∷ es))
      (corners_met closed (e ∷ es) chain)))
      (caps closed stock))
    where
      first : e.0 ≢ e.1
      first = All-head (λ (g : Edge). g.0 ≢ g.1) e es chain.proper

      last : (last_of e es).0 ≢ (last_of e es).1
      last = last_all (λ (g : Edge). g.0 ≢ g.1) e es chain.proper

      caps : (b : Bool) → HasStockCaps style b
          → All Winds (end_pieces unit style.radius style.side style.start style.end b e (last_of e es))
      caps true h = All-nil Winds
      caps false h = open_winds style.radius sign style.side style.start style.end h e (last_of e es) first last
