-- Lemmas over points: the joins at the corners of a path are asked for as joins ask.
use Rattle.std.proofs.Common.{◌≡◌, ◌≢◌, ℕ, ◌≤◌, ◌^◌, List, [], ◌++◌, refl, sym, subst, ◌∙◌, ap, arith}
use Rattle.std.specs.Prelude.{ℤ, pos, ◌+ℤ◌, ◌*ℤ◌, ◌≤ℤ◌, ◌<ℤ◌, Bool, true, false, cond, int_lt}
use Rattle.std.specs.List.{All}
use Rattle.std.proofs.lemmas.Bool.{true≢false, false≢true}
use Rattle.std.proofs.lemmas.Int.{ints}
use Rattle.std.specs.Ordering.{int_cmp, is_lt}
use Rattle.std.specs.declared.cmp.Ordering.TheVariants.{Less, Equal, Greater}
use Rattle.std.proofs.lemmas.List.Elements.{All-weaker}
use Rattle.mesh_plane.specs.Plane.{Point, Edge, plus, minus, cross, turn, right_quarter}
use Rattle.mesh_plane.specs.Winding.{crossing_on, fan, winding}
use Rattle.mesh_plane.proofs.Identities.{cross_flip}
use Rattle.mesh_plane.proofs.ClosedLists.{all_both}
use Rattle.mesh_plane.proofs.Sums.{total_append}
use Rattle.mesh_plane.proofs.Whole.{linear, multiplied}
use Rattle.mesh_num.specs.Direction.{IsShort, scaled_direction}
use Rattle.mesh_num.proofs.Parts.{direction_fresh, direction_short}
use Rattle.mesh_num.proofs.Scaling.{scaled_turn_kept}
use Rattle.mesh_lattice.specs.Split.{back}
use Rattle.mesh_arc.specs.Arcs.{sense_of}
use Rattle.mesh_arc.specs.declared.arc.ArcDirection.TheVariants.{Counterclockwise}
use Rattle.mesh_join.specs.Joins.{IsJoint}
use Rattle.mesh_join.specs.Joints.{joint, IsTurn, contact}
use Rattle.mesh_join.specs.Styles.{JoinStyle}
use Rattle.mesh_join.specs.declared.style.StrokeSide.{StrokeSide}
use Rattle.mesh_join.specs.declared.style.StrokeSide.TheVariants.{Both, Left, Right}
use Rattle.mesh_join.proofs.JoinLaws.{KeepsJoint}
use Rattle.mesh_join.proofs.Joins.{join_keeps}
use Rattle.mesh_offset.proofs.Quarters.{quarters_turn}
use Rattle.mesh_stroke.specs.Paths.{neighbours}
use Rattle.mesh_num.specs.Segments.{SignedEdge, segments_of}
use Rattle.mesh_stroke.specs.Private.Sections.{Section, own_edge, faced_edges, faced_side, opposite_side, IsCorner, CornersAddUp}
use Rattle.mesh_stroke.specs.Strokes.{EdgePair, heading, turns_right, facing, joint_right, inner_edges, outer_edges}
use Rattle.mesh_stroke.specs.Strokes.{corner_edges, corner_pieces}
use Rattle.mesh_stroke.proofs.Chains.{IsChain, neighbours_all}
use Rattle.mesh_stroke.proofs.Sides.{heading_is}

-- two edges with different ends that meet
pub record IsMet (c : EdgePair) : Type 0 where
  pub first : c.0.0 ≢ c.0.1
  pub second : c.1.0 ≢ c.1.1
  pub met : c.0.1 ≡ c.1.0

-- each corner of a chain is one
pub corners_met : (closed : Bool) (es : List Edge) → IsChain closed es → All IsMet (neighbours closed es)
corners_met closed es chain =
    All-weaker (λ (c : EdgePair). ((c.0.0 ≢ c.0.1) × (c.1.0 ≢ c.1.1)) × (c.0.1 ≡ c.1.0)) IsMet
    (λ c h. record { first = h.0.0; second = h.0.1; met = h.1 }) (neighbours closed es)
    (all_both (λ (c : EdgePair). (c.0.0 ≢ c.0.1) × (c.1.0 ≢ c.1.1)) (λ (c : EdgePair). c.0.1 ≡ c.1.0) (neighbours closed es)
    (neighbours_all (λ (e : Edge). e.0 ≢ e.1) closed es chain.proper) chain.joined)

-- how much a path turns to the left
abbrev pub left_turn : EdgePair → ℤ
left_turn c = cross (minus c.0.1 c.0.0) (minus c.1.1 c.1.0)

-- the corner as it is seen from its other end
abbrev pub other_way : EdgePair → EdgePair
other_way c = (back c.1, back c.0)

pub apart_back : (e : Edge) → e.0 ≢ e.1 → e.1 ≢ e.0
apart_back e apart same = apart (sym same)

pub other_way_met : (c : EdgePair) → IsMet c → IsMet (other_way c)
other_way_met c h = record { first = apart_back c.1 h.second; second = apart_back c.0 h.first; met = sym h.met }

pub other_way_turns : (c : EdgePair) → left_turn (other_way c) ≡ cross (minus c.1.1 c.1.0) (minus c.0.1 c.0.0)
other_way_turns c = simp multiplied (omega (arith, linear))

flipped : (v w : Point) → int_lt (cross v w) (pos 0) ≡ true → pos 0 ≤ℤ cross w v
flipped v w h = omega (arith, ints, cross_flip v w, h)

-- what holds of each corner that turns to the left, or not at all, holds of the corner as it is faced
pub facing_is : (P : EdgePair → Type 0) (c : EdgePair) → (pos 0 ≤ℤ left_turn c → P c) → (pos 0 ≤ℤ left_turn (other_way c) → P (other_way c)) → P (facing c)
facing_is P c here there = by (int_lt (left_turn c) (pos 0)) refl
  where
    by : (b : Bool) → int_lt (left_turn c) (pos 0) ≡ b → P (cond b (other_way c) c)
    by true h = there (rw (other_way_turns c) (flipped (minus c.0.1 c.0.0) (minus c.1.1 c.1.0) h))
    by false h = here (omega (arith, ints, h))

pub faced_by : (P : StrokeSide → EdgePair → Type 0) (side : StrokeSide) (c : EdgePair)
    → (pos 0 ≤ℤ left_turn c → P side c) → (pos 0 ≤ℤ left_turn (other_way c) → P (opposite_side side) (other_way c))
    → P (faced_side side (turns_right c)) (facing c)
faced_by P side c here there = by (int_lt (left_turn c) (pos 0)) refl
  where
    by : (b : Bool) → int_lt (left_turn c) (pos 0) ≡ b → P (faced_side side b) (cond b (other_way c) c)
    by true h = there (rw (other_way_turns c) (flipped (minus c.0.1 c.0.0) (minus c.1.1 c.1.0) h))
    by false h = here (omega (arith, ints, h))

-- the pieces on this side of a corner that does not turn to the right
abbrev pub faced_pieces : ℕ → ℤ → StrokeSide → JoinStyle → EdgePair → List (List Point)
faced_pieces unit radius Both join c = fan c.0.1 (outer_edges unit radius join c)
faced_pieces unit radius Left join c = []
faced_pieces unit radius Right join c = fan c.0.1 (outer_edges unit radius join c)

module _ (unit : ℕ) (radius : ℤ) (join : JoinStyle) (k : EdgePair) where
  abbrev edges_by : StrokeSide → Bool → List Edge
  edges_by Both b = inner_edges unit radius k ++ outer_edges unit radius join k
  edges_by Left b = cond b (outer_edges unit radius join k) (inner_edges unit radius k)
  edges_by Right b = cond b (inner_edges unit radius k) (outer_edges unit radius join k)

  edges_are : (s : StrokeSide) (b : Bool) → edges_by s b ≡ faced_edges unit radius (faced_side s b) join k
  edges_are Both true = refl
  edges_are Both false = refl
  edges_are Left true = refl
  edges_are Left false = refl
  edges_are Right true = refl
  edges_are Right false = refl

  abbrev pieces_by : StrokeSide → Bool → List (List Point)
  pieces_by Both b = fan k.0.1 (outer_edges unit radius join k)
  pieces_by Left b = cond b (fan k.0.1 (outer_edges unit radius join k)) []
  pieces_by Right b = cond b [] (fan k.0.1 (outer_edges unit radius join k))

  pieces_by_are : (s : StrokeSide) (b : Bool) → pieces_by s b ≡ faced_pieces unit radius (faced_side s b) join k
  pieces_by_are Both true = refl
  pieces_by_are Both false = refl
  pieces_by_are Left true = refl
  pieces_by_are Left false = refl
  pieces_by_are Right true = refl
  pieces_by_are Right false = refl

-- what is drawn at a corner, and its pieces, are those of the corner as it is faced
pub faced_is : (unit : ℕ) (radius : ℤ) (side : StrokeSide) (join : JoinStyle) (c : EdgePair)
    → corner_edges unit radius side join c
    ≡ faced_edges unit radius (faced_side side (turns_right c)) join (facing c)
faced_is unit radius Both join c = edges_are unit radius join (facing c) Both (turns_right c)
faced_is unit radius Left join c = edges_are unit radius join (facing c) Left (turns_right c)
faced_is unit radius Right join c = edges_are unit radius join (facing c) Right (turns_right c)

pub pieces_are : (unit : ℕ) (radius : ℤ) (side : StrokeSide) (join : JoinStyle) (c : EdgePair)
    → corner_pieces unit radius side join c
    ≡ faced_pieces unit radius (faced_side side (turns_right c)) join (facing c)
pieces_are unit radius Both join c = pieces_by_are unit radius join (facing c) Both (turns_right c)
pieces_are unit radius Left join c = pieces_by_are unit radius join (facing c) Left (turns_right c)
pieces_are unit radius Right join c = pieces_by_are unit radius join (facing c) Right (turns_right c)

module _ (unit : ℕ) (least : 2 ^ 14 ≤ unit) (radius : ℤ) (sign : pos 0 ≤ℤ radius) where
  pub heading_short : (e : Edge) → e.0 ≢ e.1 → IsShort unit (heading unit e)
  heading_short e apart = direction_short (heading_is unit e apart)

  -- a corner that turns to the left, or not at all, is a turn
  pub turn_right : (c : EdgePair) → IsMet c → pos 0 ≤ℤ left_turn c → IsTurn unit (joint_right unit radius c)
  turn_right c h left = record {
    radius_sign = sign;
    fresh_incoming = direction_fresh (omega arith) (heading_is unit c.0 h.first);
    fresh_outgoing = direction_fresh (omega arith) (heading_is unit c.1 h.second);
    first = refl;
    last = ap (λ (v : Point). contact unit radius Counterclockwise v (heading unit c.1)) (sym h.met);
    no_turn_back = ahead;
  }
    where
      s : Point
      s = scaled_direction unit radius (heading unit c.0)

      t : Point
      t = scaled_direction unit radius (heading unit c.1)

      kept : pos 0 ≤ℤ cross s t
      kept = scaled_turn_kept radius (omega arith) (heading_is unit c.0 h.first) (heading_is unit c.1 h.second) left

      at : turn c.0.1 (plus c.0.1 (right_quarter s)) (plus c.1.0 (right_quarter t)) ≡ cross s t
      at = subst (λ (v : Point). turn c.0.1 (plus c.0.1 (right_quarter s)) (plus v (right_quarter t)) ≡ cross s t) h.met (quarters_turn c.0.1 s t)

      ahead : pos 0 ≤ℤ (sense_of Counterclockwise *ℤ turn c.0.1 (plus c.0.1 (right_quarter s)) (plus c.1.0 (right_quarter t)))
      ahead = omega (arith, ints, kept, at)

  -- so its join keeps what joins keep
  pub corner_keeps : (join : JoinStyle) (c : EdgePair) → IsMet c → pos 0 ≤ℤ left_turn c → KeepsJoint unit join (joint_right unit radius c)
  corner_keeps join c h left =
      (join_keeps unit join least).joint (joint_right unit radius c) (heading_short c.0 h.first) (heading_short c.1 h.second) (turn_right c h left)

  -- and so does that of any corner, as it is faced
  pub facing_keeps : (join : JoinStyle) (c : EdgePair) → IsMet c → KeepsJoint unit join (joint_right unit radius (facing c))
  facing_keeps join c h =
      facing_is (λ (k : EdgePair). KeepsJoint unit join (joint_right unit radius k)) c (corner_keeps join c h) (corner_keeps join (other_way c) (other_way_met c h))

-- ---- the code's corners

-- how a corner is faced
pub faced_there : (c : EdgePair) → left_turn c <ℤ pos 0 → facing c ≡ other_way c
faced_there c h = by (int_lt (left_turn c) (pos 0)) refl
  where
    by : (b : Bool) → int_lt (left_turn c) (pos 0) ≡ b → cond b (other_way c) c ≡ other_way c
    by true e = refl
    by false e = absurd (omega (arith, ints, h, e))

pub faced_here : (c : EdgePair) → pos 0 ≤ℤ left_turn c → facing c ≡ c
faced_here c h = by (int_lt (left_turn c) (pos 0)) refl
  where
    by : (b : Bool) → int_lt (left_turn c) (pos 0) ≡ b → cond b (other_way c) c ≡ c
    by true e = absurd (omega (arith, ints, h, e))
    by false e = refl

-- a corner that turns to the right turns to the left seen from its other end
pub turned_there : (p n : Edge) → left_turn (p, n) <ℤ pos 0 → pos 0 ≤ℤ left_turn (back n, back p)
turned_there p n h = rw (other_way_turns (p, n)) (omega (arith, ints, cross_flip (minus p.1 p.0) (minus n.1 n.0), h))

-- the joint that the code hands to a join is that of the corner
joint_is : (unit : ℕ) (radius : ℤ) (join : JoinStyle) (p n : Section) → IsCorner unit radius join (p, n) →
    joint p.b p.b_right n.a_right p.direction n.direction radius Counterclockwise
    ≡ joint_right unit radius (own_edge p, own_edge n)
joint_is unit radius join p n h = λ i.
    joint p.b (h.previous.made i).b_right (h.next.made i).a_right (h.previous.made i).direction
    (h.next.made i).direction radius Counterclockwise

-- and it is as a join asks
pub joint_met : (unit : ℕ) (least : 2 ^ 14 ≤ unit) (radius : ℤ) (join : JoinStyle) (p n : Section) → IsCorner unit radius join (p, n) →
    pos 0 ≤ℤ left_turn (own_edge p, own_edge n) → IsJoint unit join (joint p.b p.b_right n.a_right p.direction n.direction radius Counterclockwise)
joint_met unit least radius join p n h left =
    record { turn = subst (IsTurn unit) (sym (joint_is unit radius join p n h)) turn; safe = h.movable }
  where
    turn : IsTurn unit (joint_right unit radius (own_edge p, own_edge n))
    turn = turn_right unit least radius h.sign (own_edge p, own_edge n) (record { first = h.previous.differ; second = h.next.differ; met = h.met }) left

-- what is drawn at a corner that does not turn to the right
pub corner_here : (unit : ℕ) (radius : ℤ) (side : StrokeSide) (join : JoinStyle) (c : EdgePair) → pos 0 ≤ℤ left_turn c
    → corner_edges unit radius side join c ≡ faced_edges unit radius side join c
corner_here unit radius side join c left = faced_is unit radius side join c ∙ by (int_lt (left_turn c) (pos 0)) refl
  where
    by : (b : Bool) → int_lt (left_turn c) (pos 0) ≡ b
        → faced_edges unit radius (faced_side side b) join (cond b (other_way c) c) ≡ faced_edges unit radius side join c
    by true e = absurd (omega (arith, ints, left, e))
    by false e = refl

-- one that does is drawn as it is seen from its other end
pub corner_there : (unit : ℕ) (radius : ℤ) (side : StrokeSide) (join : JoinStyle) (p n before after : Edge)
    → left_turn (p, n) <ℤ pos 0 → before ≡ back n → after ≡ back p
    → corner_edges unit radius side join (p, n)
    ≡ faced_edges unit radius (opposite_side side) join (before, after)
corner_there unit radius side join p n before after turned b a =
    faced_is unit radius side join (p, n) ∙ by (int_lt (left_turn (p, n)) (pos 0)) refl
    ∙ ap (faced_edges unit radius (opposite_side side) join) (sym ends)
  where
    ends : (before, after) ≡ other_way (p, n)
    ends = λ i. (b i, a i)

    by : (d : Bool) → int_lt (left_turn (p, n)) (pos 0) ≡ d
        → faced_edges unit radius (faced_side side d) join (cond d (other_way (p, n)) (p, n))
        ≡ faced_edges unit radius (opposite_side side) join (other_way (p, n))
    by true e = refl
    by false e = absurd (omega (arith, ints, turned, e))

-- so what was drawn there was drawn at the corner
pub drawn_there : (unit : ℕ) (radius : ℤ) (side : StrokeSide) (join : JoinStyle) (p n before after : Edge)
    (old new : List SignedEdge) → left_turn (p, n) <ℤ pos 0 → before ≡ back n → after ≡ back p
    → new ≡ old ++ segments_of (faced_edges unit radius (opposite_side side) join (before, after))
    → new ≡ old ++ segments_of (corner_edges unit radius side join (p, n))
drawn_there unit radius side join p n before after old new turned b a h =
    h
    ∙ ap (λ (es : List Edge). old ++ segments_of es)
    (sym (corner_there unit radius side join p n before after turned b a))

pub drawn_here : (unit : ℕ) (radius : ℤ) (side : StrokeSide) (join : JoinStyle) (p n : Section)
    (old new : List SignedEdge) → pos 0 ≤ℤ left_turn (own_edge p, own_edge n)
    → new ≡ old ++ segments_of (faced_edges unit radius side join (own_edge p, own_edge n))
    → new ≡ old ++ segments_of (corner_edges unit radius side join (own_edge p, own_edge n))
drawn_here unit radius side join p n old new left h =
    h
    ∙ ap (λ (es : List Edge). old ++ segments_of es)
    (sym (corner_here unit radius side join (own_edge p, own_edge n) left))

-- ---- how the turn of a corner is told

-- a number is below 0 where its comparison with 0 says so
pub compared_below : (x : ℤ) → is_lt (int_cmp x (pos 0)) ≡ true → x <ℤ pos 0
compared_below x h = by (int_lt x (pos 0)) (int_lt (pos 0) x) refl h
  where
    by : (b d : Bool) → int_lt x (pos 0) ≡ b → is_lt (cond b Less (cond d Greater Equal)) ≡ true → x <ℤ pos 0
    by true d e k = omega (arith, ints, e)
    by false true e k = absurd (false≢true k)
    by false false e k = absurd (false≢true k)

pub compared_above : (x : ℤ) → is_lt (int_cmp x (pos 0)) ≡ false → pos 0 ≤ℤ x
compared_above x h = by (int_lt x (pos 0)) (int_lt (pos 0) x) refl h
  where
    by : (b d : Bool) → int_lt x (pos 0) ≡ b → is_lt (cond b Less (cond d Greater Equal)) ≡ false → pos 0 ≤ℤ x
    by true d e k = absurd (true≢false k)
    by false d e k = omega (arith, ints, e)

-- ---- halves

-- one half of a stroke has the join of a corner, and the other one the edges through the vertex
parts_add : (unit : ℕ) (radius : ℤ) (join : JoinStyle) (c : EdgePair) (m : ℕ) (q : Point)
    → winding m q (inner_edges unit radius c ++ outer_edges unit radius join c)
    ≡ winding m q (inner_edges unit radius c) +ℤ winding m q (outer_edges unit radius join c)
parts_add unit radius join c m q =
    total_append (crossing_on m q) (inner_edges unit radius c) (outer_edges unit radius join c)

pub left_and_right_add_up : CornersAddUp Left Right
left_and_right_add_up =
    record { sum = λ unit radius join c m q. omega (arith, linear, parts_add unit radius join c m q) }

pub right_and_left_add_up : CornersAddUp Right Left
right_and_left_add_up =
    record { sum = λ unit radius join c m q. omega (arith, linear, parts_add unit radius join c m q) }
