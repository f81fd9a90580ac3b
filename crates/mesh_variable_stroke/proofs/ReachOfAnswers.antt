-- Lemmas over points and lists: how far the answer of a stroke of variable width reaches.
use Rattle.std.proofs.Common.{◌≡◌, ℕ, ◌*◌, ◌<◌, ◌≤◌, ◌^◌, inl, inr, ⊎_elim, List, [], ◌∷◌, ◌++◌, Bool, true, false}
use Rattle.std.proofs.Common.{not, sym, ◌∙◌, ap, subst, arith}
use Rattle.std.specs.Prelude.{ℤ, pos, ◌-ℤ◌, ◌*ℤ◌, unsigned_abs, int_lt, if◌then◌else◌, IsTrue, max}
use Rattle.std.specs.List.{All, Contains, flat_map}
use Rattle.std.specs.Option.{option_to_list}
use Rattle.std.proofs.lemmas.Bool.{cond_both, not-false}
use Rattle.std.proofs.lemmas.Int.{ints}
use Rattle.std.proofs.lemmas.List.Elements.{All-nil, All-cons, All-head, All-append, All-filter, All-weaker}
use Rattle.std.proofs.lemmas.List.Elements.{All-contains, All-contains_itself}
use Rattle.std.proofs.lemmas.List.Sorted.{IsPermutation-sym, All-permutation}
use Rattle.mesh_plane.specs.Plane.{Point, Edge}
use Rattle.mesh_plane.specs.Turning.{last_of}
use Rattle.mesh_plane.specs.Winding.{route, holds, same_point, crossing_on, pieces_total}
use Rattle.mesh_plane.proofs.ClosedLists.{all_flat_map}
use Rattle.mesh_plane.proofs.Comparing.{decides_point}
use Rattle.mesh_lattice.specs.Counted.{bit}
use Rattle.mesh_lattice.specs.Nearness.{IsFarFrom}
use Rattle.mesh_shapes.specs.Resolution.{Choices}
use Rattle.mesh_arc.specs.declared.arc.ArcOptions.{ArcOptions}
use Rattle.mesh_join.specs.VariableStyles.{Vertex}
use Rattle.mesh_reach.specs.Reach.{IsByEnd}
use Rattle.mesh_reach.proofs.JoinPoints.{IsBy, by_more}
use Rattle.mesh_reach.proofs.Lists.{segments_reach}
use Rattle.mesh_reach.proofs.Pieces.{held_one}
use Rattle.mesh_reach.proofs.Rounded.{rounded_reach_more}
use Rattle.mesh_reach.proofs.Within.{IsNearSuch, near_or_far, nested}
use Rattle.mesh_offset.specs.Walks.{pairs}
use Rattle.mesh_offset.proofs.Walks.{pairs_all, last_all}
use Rattle.mesh_circle.specs.Sections.{Section}
use Rattle.mesh_circle.specs.Sweeps.{distance, arc_edges, circle_edges}
use Rattle.mesh_circle.specs.declared.sweep.Sweep.TheVariants.{Minor, Major}
use Rattle.mesh_variable_stroke.specs.Chains.{circles_of, Step, Chain, chains_of}
use Rattle.mesh_variable_stroke.specs.Regions.{AreVariableStrokeRegionsBeyond, all_pieces}
use Rattle.mesh_variable_stroke.specs.Resolved.{all_edges}
use Rattle.mesh_variable_stroke.specs.declared.chain_end.ChainEnd.{ChainEnd}
use Rattle.mesh_variable_stroke.specs.declared.chain_end.ChainEnd.TheVariants.{Butt, Round}
use Rattle.mesh_variable_stroke.specs.VariableStrokes.{side_edges, sweep_at, start_edges, end_edges, SectionPair}
use Rattle.mesh_variable_stroke.specs.VariableStrokes.{is_apart}
use Rattle.mesh_variable_stroke.specs.VariableStrokes.{has_left_arc, has_right_arc, left_edges, right_edges}
use Rattle.mesh_variable_stroke.specs.VariableStrokes.{joint_edges}
use Rattle.mesh_variable_stroke.specs.VariableStrokes.{sections_of, are_butt, bare_edges, edges_with, chain_edges}
use Rattle.mesh_variable_stroke.specs.VariableStrokes.{variable_stroke_edges, variable_stroke_pieces}
use Rattle.mesh_variable_stroke.specs.Reach.{IsSpanReachedWithin, all_spans, path_spans, WindsWithinReach}
use Rattle.mesh_variable_stroke.specs.Reach.{Span, span_between, IsReachedBySpan, HoldsBySpans}
use Rattle.mesh_variable_stroke.proofs.ReachOfArcs.{HasRound, arc_by, circle_by}
use Rattle.mesh_variable_stroke.proofs.ReachOfPieces.{reach, IsTouched, IsOnPath, IsPlaced, IsStepPlaced, IsChainPlaced, IsJoint}
use Rattle.mesh_variable_stroke.proofs.ReachOfPieces.{has_round, joint_of, chains_placed, circles_on_path, spanned}
use Rattle.mesh_variable_stroke.proofs.ReachOfPieces.{variable_strokes_reach}

-- an edge that was drawn with its ends near those of a span
record IsDrawnAlong (spans : List Span) (g : Edge) : Type 0 where
  span : Span
  listed : Contains spans span
  start : IsByEnd span.reach span.edge g.0
  end : IsByEnd span.reach span.edge g.1

module _ (unit : ℕ) (some : 0 < unit) (options : ArcOptions) (spans : List Span) where
  abbrev Along : Edge → Type 0
  Along = IsDrawnAlong spans

  abbrev Placed : Section → Type 0
  Placed = IsPlaced spans

  -- edges near a vertex
  at_round : (c : Point) (n : ℕ) → HasRound spans c n →
      (gs : List Edge) → All (λ (g : Edge). IsBy n c g.0 × IsBy n c g.1) gs →
      All Along gs
  at_round c n h gs near =
      All-weaker (λ (g : Edge). IsBy n c g.0 × IsBy n c g.1) Along
      (λ g k. record { span = h.span; listed = h.listed; start = by g.0 k.0; end = by g.1 k.1 }) gs near
    where
      by : (p : Point) → IsBy n c p → IsByEnd h.span.reach h.span.edge p
      by p k = subst (λ (e : Edge). IsByEnd h.span.reach e p) (sym h.at) (inl (by_more n h.span.reach c h.covers p k))

  one_at : (c : Point) (n : ℕ) → HasRound spans c n → (x y : Point) → IsBy n c x → IsBy n c y → All Along (route x [] y)
  one_at c n h x y hx hy =
      at_round c n h (route x [] y)
      (All-cons (λ (g : Edge). IsBy n c g.0 × IsBy n c g.1) (x, y) [] (hx, hy)
      (All-nil (λ (g : Edge). IsBy n c g.0 × IsBy n c g.1)))

  -- ---- along sections, at ends and at joints

  sides_along : (s : Section) → Placed s → All Along (side_edges s)
  sides_along s h =
      let span : Span = span_between (s.a, s.b) in
      let at_a = λ (p : Point). λ (t : IsTouched s.a p). by_more (reach s.a) span.reach s.a.center
      (omega arith) p t.by in
      let at_b = λ (p : Point). λ (t : IsTouched s.b p). by_more (reach s.b) span.reach s.b.center
      (omega arith) p t.by in
      All-cons Along (s.b_left, s.a_left) ((s.a_right, s.b_right) ∷ [])
      (record {
        span = span;
        listed = h.between;
        start = inr (at_b s.b_left h.touching.b_left);
        end = inl (at_a s.a_left h.touching.a_left);
      })
      (All-cons Along (s.a_right, s.b_right) []
      (record {
        span = span;
        listed = h.between;
        start = inl (at_a s.a_right h.touching.a_right);
        end = inr (at_b s.b_right h.touching.b_right);
      })
      (All-nil Along))

  start_along : (end : ChainEnd) (s : Section) → Placed s → All Along (start_edges unit options end s)
  start_along Butt s h =
      one_at s.a.center (reach s.a) (has_round unit some options spans s.a h.a) s.a_left s.a_right h.touching.a_left.by
      h.touching.a_right.by
  start_along Round s h =
      at_round s.a.center (reach s.a) (has_round unit some options spans s.a h.a)
      (arc_edges unit options s.a.center s.a_left s.a_right (sweep_at s.a s.b))
      (arc_by unit some options s.a.center (reach s.a) s.a_left s.a_right (sweep_at s.a s.b)
      h.touching.a_left.by h.touching.a_right.by
      (rounded_reach_more (distance s.a.center s.a_left) (unsigned_abs s.a.radius) h.touching.a_left.distance_most))

  end_along : (end : ChainEnd) (s : Section) → Placed s → All Along (end_edges unit options end s)
  end_along Butt s h =
      one_at s.b.center (reach s.b) (has_round unit some options spans s.b h.b) s.b_right s.b_left h.touching.b_right.by
      h.touching.b_left.by
  end_along Round s h =
      at_round s.b.center (reach s.b) (has_round unit some options spans s.b h.b)
      (arc_edges unit options s.b.center s.b_right s.b_left (sweep_at s.b s.a))
      (arc_by unit some options s.b.center (reach s.b) s.b_right s.b_left (sweep_at s.b s.a)
      h.touching.b_right.by h.touching.b_left.by
      (rounded_reach_more (distance s.b.center s.b_right) (unsigned_abs s.b.radius) h.touching.b_right.distance_most))

  met_along : (j : SectionPair) → IsJoint unit some options spans j →
      All Along (left_edges unit options j ++ right_edges unit options j)
  met_along j h =
      All-append Along (left_edges unit options j) (right_edges unit options j) (left (has_left_arc j))
      (right (has_right_arc j))
    where
      v : Point
      v = j.0.b.center

      r : ℕ
      r = max (reach j.0.b) (reach j.1.a)

      left : (t : Bool) → All Along (if t then arc_edges unit options v j.1.a_left j.0.b_left Minor else route
          j.1.a_left [] j.0.b_left)
      left true =
          at_round v r h.round (arc_edges unit options v j.1.a_left j.0.b_left Minor)
          (arc_by unit some options v r j.1.a_left j.0.b_left Minor h.next_left h.own_left h.next_distance)
      left false = one_at v r h.round j.1.a_left j.0.b_left h.next_left h.own_left

      right : (t : Bool) → All Along (if t then arc_edges unit options v j.0.b_right j.1.a_right Major else route
          j.0.b_right [] j.1.a_right)
      right true =
          at_round v r h.round (arc_edges unit options v j.0.b_right j.1.a_right Major)
          (arc_by unit some options v r j.0.b_right j.1.a_right Major h.own_right h.next_right h.own_distance)
      right false = one_at v r h.round j.0.b_right j.1.a_right h.own_right h.next_right

  joint_along : (j : SectionPair) → Placed j.0 × Placed j.1 → All Along (joint_edges unit options j)
  joint_along j h =
      cond_both (is_apart j) (end_edges unit options Butt j.0 ++ start_edges unit options Butt j.1)
      (left_edges unit options j ++ right_edges unit options j) (All Along)
      (λ _. All-append Along (end_edges unit options Butt j.0) (start_edges unit options Butt j.1)
      (end_along Butt j.0 h.0) (start_along Butt j.1 h.1))
      (λ e. met_along j
      (joint_of unit some options spans j h.0 h.1
      ((decides_point j.0.b.center j.1.a.center).0 (not-false (same_point j.0.b.center j.1.a.center) e))))

  -- ---- along chains

  bare_along : (chain : Chain) (steps : List Step) → IsOnPath spans chain.start →
      All Along (bare_edges unit options chain steps)
  bare_along chain [] h =
      cond_both (are_butt chain.start_end chain.end) []
      (circle_edges unit options chain.start.center chain.start.radius)
      (All Along) (λ _. All-nil Along)
      (λ _. at_round chain.start.center (reach chain.start) (has_round unit some options spans chain.start h)
      (circle_edges unit options chain.start.center chain.start.radius)
      (circle_by unit some options chain.start.center (reach chain.start) chain.start.radius (omega arith)))
  bare_along chain (s ∷ ss) h = All-nil Along

  along : (chain : Chain) (sections : List Section) → IsOnPath spans chain.start → All Placed sections →
      All Along (edges_with unit options chain sections)
  along chain [] start h = bare_along chain chain.steps start
  along chain (s ∷ ss) start h =
      All-append Along (flat_map side_edges (s ∷ ss)) (joints ++ (first ++ last))
      (all_flat_map Along side_edges (s ∷ ss) (All-weaker Placed (λ t. All Along (side_edges t)) sides_along
      (s ∷ ss) h))
      (All-append Along joints (first ++ last)
      (all_flat_map Along (joint_edges unit options) (pairs (s ∷ ss))
      (All-weaker (λ (j : SectionPair). Placed j.0 × Placed j.1)
      (λ j. All Along (joint_edges unit options j)) joint_along
      (pairs (s ∷ ss)) (pairs_all Placed (s ∷ ss) h)))
      (All-append Along first last (start_along chain.start_end s (All-head Placed s ss h))
      (end_along chain.end (last_of s ss) (last_all Placed s ss h))))
    where
      joints : List Edge
      joints = flat_map (joint_edges unit options) (pairs (s ∷ ss))

      first : List Edge
      first = start_edges unit options chain.start_end s

      last : List Edge
      last = end_edges unit options chain.end (last_of s ss)

  chain_along : (chain : Chain) → IsChainPlaced spans chain → All Along (chain_edges unit options chain)
  chain_along chain h =
      along chain (sections_of chain.steps) h.start
      (all_flat_map Placed (λ (s : Step). option_to_list s.section) chain.steps
      (All-weaker (IsStepPlaced spans) (λ (s : Step). All Placed (option_to_list s.section))
      (λ s k. k.sections) chain.steps h.steps))

-- each edge of a stroke lies along a vertex or a section
path_along : (unit : ℕ) → 2 ^ 14 ≤ unit → (options : ArcOptions) (vertices : List Vertex) →
    All (IsDrawnAlong (path_spans vertices)) (variable_stroke_edges unit options vertices)
unfolding variable_stroke_edges
path_along unit least options vertices =
    All-filter (λ (e : Edge). not (same_point e.0 e.1)) Along (flat_map (chain_edges unit options) chains)
    (all_flat_map Along (chain_edges unit options) chains
    (All-weaker (IsChainPlaced (path_spans vertices)) (λ (chain : Chain). All Along (chain_edges unit options chain))
    (chain_along unit some options (path_spans vertices)) chains
    (chains_placed unit some options (path_spans vertices) (circles_of vertices) (spanned (circles_of vertices))
    (circles_on_path vertices))))
  where
    some : 0 < unit
    some = omega (arith, least)

    Along : Edge → Type 0
    Along = IsDrawnAlong (path_spans vertices)

    chains : List Chain
    chains = chains_of unit (circles_of vertices)

-- ---- of all paths

module _ (unit : ℕ) (least : 2 ^ 14 ≤ unit) (options : ArcOptions) (paths : List (List Vertex)) where
  abbrev Listed : List Vertex → Type 0
  Listed path = All (Contains (all_spans paths)) (path_spans path)

  spans_listed : All Listed paths
  spans_listed = nested (Contains (all_spans paths)) path_spans paths (All-contains_itself (all_spans paths))

  all_hold : All (HoldsBySpans (all_spans paths)) (all_pieces unit options paths)
  all_hold =
      all_flat_map (HoldsBySpans (all_spans paths)) (variable_stroke_pieces unit options) paths
      (All-weaker Listed (λ (path : List Vertex). All (HoldsBySpans (all_spans paths))
      (variable_stroke_pieces unit options path))
      (λ path listed.
      All-weaker (HoldsBySpans (path_spans path)) (HoldsBySpans (all_spans paths))
      (λ piece h m q held. let r = h m q held in record {
        span = r.span;
        listed = All-contains (Contains (all_spans paths)) (path_spans path) r.span listed r.listed;
        reached = r.reached;
      }) (variable_stroke_pieces unit options path) (variable_strokes_reach unit least options path)) paths
      spans_listed)

  all_along : All (IsDrawnAlong (all_spans paths)) (all_edges unit options paths)
  all_along =
      all_flat_map (IsDrawnAlong (all_spans paths)) (variable_stroke_edges unit options) paths
      (All-weaker Listed (λ (path : List Vertex). All (IsDrawnAlong (all_spans paths))
      (variable_stroke_edges unit options path))
      (λ path listed.
      All-weaker (IsDrawnAlong (path_spans path)) (IsDrawnAlong (all_spans paths))
      (λ g h. record {
        span = h.span;
        listed = All-contains (Contains (all_spans paths)) (path_spans path) h.span listed h.listed;
        start = h.start;
        end = h.end;
      }) (variable_stroke_edges unit options path) (path_along unit least options path)) paths spans_listed)

-- ---- of an answer

span_itself : (k m : ℕ) (spans : List Span) (q : Point) → IsReachedBySpan m spans q → IsSpanReachedWithin k m spans q
span_itself k m spans q h = record {
  grid = 1;
  positive = omega arith;
  point = q;
  reached = subst (λ (n : ℕ). IsReachedBySpan n spans q) same h;
  by_x = none q.0;
  by_y = none q.1;
}
  where
    same : m ≡ 1 * m
    same = omega arith

    none : (x : ℤ) → 64 * unsigned_abs ((pos 1 *ℤ x) -ℤ x) ≤ k * (1 * m)
    none x = let e : unsigned_abs ((pos 1 *ℤ x) -ℤ x) ≡ 0 = omega (arith, ints) in omega (arith, e)

beside_span : (k m : ℕ) (spans : List Span) (q : Point) → IsNearSuch (IsDrawnAlong spans) k m q →
    IsSpanReachedWithin k m spans q
beside_span k m spans q h = record {
  grid = h.near.grid;
  positive = h.near.positive;
  point = h.near.nearest;
  reached = record {
    span = h.such.span;
    listed = h.such.listed;
    reached =
        segments_reach h.such.span.reach (h.near.grid * m) h.such.span.edge h.edge h.near.nearest h.such.start
        h.such.end h.near.on_edge;
  };
  by_x = h.near.by_x;
  by_y = h.near.by_y;
}

pub variable_stroke_answers_reach : (unit : ℕ) → 2 ^ 14 ≤ unit →
    (k : ℕ) (options : ArcOptions) (choices : Choices) (paths : List (List Vertex))
    (answer : List (List (List Point))) → AreVariableStrokeRegionsBeyond k unit options choices paths answer →
    WindsWithinReach k choices paths answer
variable_stroke_answers_reach unit least k options choices paths answer made no_area way m some q winds =
    ⊎_elim
    (beside_span k m (all_spans paths) q)
    (λ (far : IsFarFrom k m made.stroke.built q).
    span_itself k m (all_spans paths) q
    (held_one (IsReachedBySpan m (all_spans paths) q) m q (all_pieces unit options paths)
    (All-weaker (HoldsBySpans (all_spans paths))
    (λ (piece : List Point). IsTrue (holds m q piece) → IsReachedBySpan m (all_spans paths) q)
    (λ piece h. h m q) (all_pieces unit options paths) (all_hold unit least options paths))
    (λ (none : pieces_total (crossing_on m q) (all_pieces unit options paths) ≡ pos 0).
    winds (made.fills no_area way m some q far ∙ ap (λ (z : ℤ). bit (int_lt (pos 0) z)) none))))
    (near_or_far (IsDrawnAlong (all_spans paths)) k m some made.stroke.built q
    (All-permutation (IsDrawnAlong (all_spans paths)) (all_edges unit options paths) made.stroke.built
    (IsPermutation-sym made.stroke.built (all_edges unit options paths) made.stroke.same)
    (all_along unit least options paths)))
