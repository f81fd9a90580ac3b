-- Lemmas over points and lists: where there is room for all that is drawn, there is room for each step of the builder's
-- walk.
use Rattle.std.proofs.Common.{◌≡◌, ℕ, ◌+◌, ◌≤◌, List, [], ◌∷◌, ◌++◌, length, sym, subst, ap, arith, length-append}
use Rattle.std.specs.Prelude.{Bool, true, false}
use Rattle.std.proofs.lemmas.Bool.{and_parts}
use Rattle.std.proofs.lemmas.List.{length-map}
use Rattle.std.proofs.lemmas.List.Sorted.{length_permutation}
use Rattle.mesh_plane.specs.Plane.{Edge}
use Rattle.mesh_num.specs.Segments.{SignedEdge, edge_of, edges_of, segments_of}
use Rattle.mesh_stroke.specs.Caps.{drawn_cap, draws_directly, DrawsDirectly}
use Rattle.mesh_stroke.specs.Building.{HasDirectCaps}
use Rattle.mesh_stroke.specs.Private.Sections.{Section, section_of, own_edge}
use Rattle.mesh_stroke.specs.Strokes.{side_edges, corner_edges, path_ends, drawn_edges}
use Rattle.mesh_stroke.specs.Styles.{StrokeStyle}
use Rattle.mesh_stroke.proofs.Fitting.{first_edges_fit}
use Rattle.mesh_stroke.proofs.BuilderWalk.{step_edges, ends_by, to_come, walk_edges, walk_permutes}
use Rattle.mesh_stroke.proofs.Standing.{Stands}

-- ---- caps

-- the caps of an open path, where they draw directly
pub direct_caps : (style : StrokeStyle) (closed : Bool) → closed ≡ false → HasDirectCaps style closed
    → DrawsDirectly (drawn_cap style.side style.start) × DrawsDirectly (drawn_cap style.side style.end)
direct_caps style closed is_open h =
    and_parts (draws_directly (drawn_cap style.side style.start)) (draws_directly (drawn_cap style.side style.end))
    (rw is_open at h)

-- ---- the walk

module _ (unit : ℕ) (style : StrokeStyle) (closed : Bool) where
  -- the walk adds as many segments as edges are drawn
  walk_length : (e : Edge) (es : List Edge)
      → length (segments_of (walk_edges unit style closed (e ∷ es))) ≡ length (drawn_edges unit style closed (e ∷ es))
  walk_length e es =
      let walk : List SignedEdge = segments_of (walk_edges unit style closed (e ∷ es)) in
      omega (
        arith,
        length_permutation (edges_of walk) (drawn_edges unit style closed (e ∷ es))
            (walk_permutes unit style closed e es),
        length-map walk edge_of,
      )

  -- the sides of the first edge fit
  pub room_first : (all : List Edge) (e : Edge) (es : List Edge) (s : Section) (n capacity : ℕ) → all ≡ e ∷ es
      → s ≡ section_of unit style.radius e → n + length (drawn_edges unit style closed all) ≤ capacity
      → n + length (segments_of (side_edges unit style.radius style.side (own_edge s))) ≤ capacity
  room_first all e es s n capacity c made fits =
      let whole : n + length (drawn_edges unit style closed (e ∷ es)) ≤ capacity = rw c at fits in
      subst (λ (g : Edge). n + length (segments_of (side_edges unit style.radius style.side g)) ≤ capacity)
      (sym (ap own_edge made))
      (first_edges_fit (side_edges unit style.radius style.side e) (to_come unit style closed e es e) n capacity
      (omega (arith, whole, walk_length e es)))

  module _ (all : List Edge) (e : Edge) (es : List Edge) (c : all ≡ e ∷ es) (old now : List SignedEdge)
      (first p : Section) (left : List Edge) (h : Stands unit style closed all old now first p left)
      (capacity grown : ℕ) (more : capacity ≤ grown)
      (fits : length old + length (drawn_edges unit style closed all) ≤ capacity) where
    -- so does all that is still to come
    room_left : length now + length (segments_of (to_come unit style closed (own_edge p) left (own_edge first))) ≤ grown
    room_left =
        let to : List SignedEdge = segments_of (to_come unit style closed (own_edge p) left (own_edge first)) in
        let walk : List SignedEdge = segments_of (walk_edges unit style closed (e ∷ es)) in
        let whole : length old + length (drawn_edges unit style closed (e ∷ es)) ≤ capacity = rw c at fits in
        let same : length (now ++ to) ≡ length (old ++ walk) = ap length (rw c at h.todo) in
        omega (arith, whole, more, same, walk_length e es, length-append now to, length-append old walk)

    -- the next step
    pub room_step : (n : Edge) (rest : List Edge) (next : Section) → left ≡ n ∷ rest
        → next ≡ section_of unit style.radius n
        → length now + length (segments_of (corner_edges unit style.radius style.side style.join (own_edge p, own_edge next)
        ++ side_edges unit style.radius style.side (own_edge next))) ≤ grown
    room_step n rest next l made =
        subst
        (λ (g : Edge). length now + length (segments_of (corner_edges unit style.radius style.side style.join (own_edge p, g)
        ++ side_edges unit style.radius style.side g)) ≤ grown)
        (sym (ap own_edge made))
        (first_edges_fit (step_edges unit style closed (own_edge p) n)
        (to_come unit style closed n rest (own_edge first)) (length now) grown
        (subst
        (λ (es : List Edge). length now
        + length (segments_of (to_come unit style closed (own_edge p) es (own_edge first))) ≤ grown)
        l room_left))

    -- what ends the walk
    room_last : left ≡ []
        → length now + length (segments_of (ends_by unit style closed closed (own_edge p, own_edge first))) ≤ grown
    room_last l =
        subst
        (λ (es : List Edge). length now
        + length (segments_of (to_come unit style closed (own_edge p) es (own_edge first))) ≤ grown)
        l room_left

    -- the last corner of a closed path
    pub room_closed : left ≡ [] → closed ≡ true
        → length now + length (segments_of (corner_edges unit style.radius style.side style.join (own_edge p, own_edge first)))
        ≤ grown
    room_closed l is_closed =
        subst
        (λ (b : Bool). length now + length (segments_of (ends_by unit style closed b (own_edge p, own_edge first)))
        ≤ grown)
        is_closed (room_last l)

    -- and the caps of an open one
    pub room_open : left ≡ [] → closed ≡ false
        → length now + length (segments_of (path_ends unit style.radius style.side style.start style.end false
        (own_edge first) (own_edge p))) ≤ grown
    room_open l is_open =
        subst
        (λ (b : Bool). length now + length (segments_of (ends_by unit style closed b (own_edge p, own_edge first)))
        ≤ grown)
        is_open (room_last l)
