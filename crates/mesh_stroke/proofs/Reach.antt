-- Lemmas over points and lists: how far a stroke reaches from its path.
use Rattle.std.proofs.Common.{◌≢◌, ℕ, ◌≤◌, ◌^◌, List, [], ◌∷◌, ◌++◌, Bool, true, false, not, refl, sym, subst, arith}
use Rattle.std.specs.Prelude.{ℤ, pos, ◌≤ℤ◌, unsigned_abs}
use Rattle.std.specs.List.{All, Contains, flat_map}
use Rattle.std.proofs.lemmas.Int.{ints, clamps}
use Rattle.std.proofs.lemmas.List.Elements.{All-nil, All-cons, All-head, All-append, All-filter, All-weaker, All-contains_itself}
use Rattle.mesh_plane.specs.Plane.{Point, Edge}
use Rattle.mesh_plane.specs.Winding.{same_point}
use Rattle.mesh_plane.proofs.ClosedLists.{all_both, all_flat_map, route_all}
use Rattle.mesh_plane.specs.Turning.{last_of}
use Rattle.mesh_num.proofs.Parts.{direction_fresh}
use Rattle.mesh_lattice.specs.Split.{back}
use Rattle.mesh_arc.specs.declared.arc.ArcDirection.{ArcDirection}
use Rattle.mesh_arc.specs.declared.arc.ArcDirection.TheVariants.{Clockwise, Counterclockwise}
use Rattle.mesh_join.specs.Joins.{between, join_points, join_padding}
use Rattle.mesh_join.specs.Styles.{JoinStyle}
use Rattle.mesh_join.specs.declared.style.StrokeSide.{StrokeSide}
use Rattle.mesh_join.specs.declared.style.StrokeSide.TheVariants.{Both, Left, Right}
use Rattle.mesh_join.specs.Joints.{contact, IsWithinPadding}
use Rattle.mesh_join.proofs.Joins.{padding_covers}
use Rattle.mesh_join.proofs.Joints.{contact_within}
use Rattle.mesh_stroke.specs.Caps.{CapKind, drawn_cap, cap_points, cap_padding}
use Rattle.mesh_stroke.specs.Ends.{half_turn, IsEnd}
use Rattle.mesh_stroke.proofs.CapLaws.{KeepsEnd}
use Rattle.mesh_stroke.proofs.CapKinds.{cap_keeps}
use Rattle.mesh_offset.specs.Padding.{IsNear}
use Rattle.mesh_offset.proofs.Padding.{vertex_near}
use Rattle.mesh_stroke.specs.Paths.{neighbours, path_edges}
use Rattle.mesh_stroke.specs.Styles.{StrokeStyle, padding_on, stroke_padding}
use Rattle.mesh_stroke.specs.Strokes.{EdgePair, heading, left_of, right_end, left_end, side_edges, joint_right}
use Rattle.mesh_stroke.specs.Strokes.{outer_edges, inner_edges, corner_edges, cap_at, half_ends, open_ends}
use Rattle.mesh_stroke.specs.Strokes.{path_ends, drawn_edges}
use Rattle.mesh_stroke.specs.Private.Sections.{faced_edges, opposite_side}
use Rattle.mesh_offset.proofs.Walks.{last_all}
use Rattle.mesh_stroke.proofs.Chains.{IsChain, neighbours_all}
use Rattle.mesh_stroke.proofs.Corners.{IsMet, corners_met, left_turn, other_way, other_way_met, corner_keeps, heading_short, apart_back}
use Rattle.mesh_stroke.proofs.Corners.{faced_by, faced_is}
use Rattle.mesh_stroke.proofs.Sides.{heading_is}

-- a point within a padding is within a greater one
within_more : (less padding : ℤ) (v p : Point) → less ≤ℤ padding → IsWithinPadding less v p → IsWithinPadding padding v p
within_more less padding v p h w = record {
  west = omega (arith, ints, w.west);
  south = omega (arith, ints, w.south);
  east = omega (arith, ints, w.east);
  north = omega (arith, ints, w.north);
}

-- the padding of a stroke covers those of its joins and of the caps that are drawn
module _ (join : JoinStyle) (start end : CapKind) (radius : ℤ) where
  join_covered_on : (side : StrokeSide) → join_padding join.kind radius ≤ℤ padding_on side join start end radius
  join_covered_on Both = omega (arith, ints, clamps)
  join_covered_on Left = omega (arith, ints)
  join_covered_on Right = omega (arith, ints)

  start_covered_on : (side : StrokeSide)
      → cap_padding (drawn_cap side start) radius ≤ℤ padding_on side join start end radius
  start_covered_on Both = omega (arith, ints, clamps)
  start_covered_on Left = padding_covers join radius
  start_covered_on Right = padding_covers join radius

  end_covered_on : (side : StrokeSide)
      → cap_padding (drawn_cap side end) radius ≤ℤ padding_on side join start end radius
  end_covered_on Both = omega (arith, ints, clamps)
  end_covered_on Left = padding_covers join radius
  end_covered_on Right = padding_covers join radius

pub join_covered : (style : StrokeStyle) → join_padding style.join.kind style.radius ≤ℤ stroke_padding style
join_covered style = join_covered_on style.join style.start style.end style.radius style.side

pub start_covered : (style : StrokeStyle)
    → cap_padding (drawn_cap style.side style.start) style.radius ≤ℤ stroke_padding style
start_covered style = start_covered_on style.join style.start style.end style.radius style.side

pub end_covered : (style : StrokeStyle)
    → cap_padding (drawn_cap style.side style.end) style.radius ≤ℤ stroke_padding style
end_covered style = end_covered_on style.join style.start style.end style.radius style.side

pub radius_covered : (style : StrokeStyle) → pos (unsigned_abs style.radius) ≤ℤ stroke_padding style
radius_covered style = omega (arith, ints, padding_covers style.join style.radius, join_covered style)

-- the padding of a cap is at least 0
pub cap_padding_least : (kind : CapKind) (radius : ℤ) → pos 0 ≤ℤ cap_padding kind radius
cap_padding_least kind = (cap_keeps (2 ^ 14) kind (omega arith)).padding_least

-- the edges of a path have their ends among its points
abbrev Listed : List Point → Edge → Type 0
Listed points e = Contains points e.0 × Contains points e.1

pub path_listed : (closed : Bool) (points : List Point) → All (λ (e : Edge). Contains points e.0 × Contains points e.1) (path_edges closed points)
path_listed closed points =
    All-filter (λ (e : Edge). not (same_point e.0 e.1)) (Listed points) (neighbours closed points)
    (neighbours_all (Contains points) closed points (All-contains_itself points))

module _ (unit : ℕ) (least : 2 ^ 14 ≤ unit) (style : StrokeStyle) (sign : pos 0 ≤ℤ style.radius) (points : List Point) where
  abbrev Near : Point → Type 0
  Near = IsNear (stroke_padding style) points

  abbrev EndsNear : Edge → Type 0
  EndsNear e = Near e.0 × Near e.1

  near_by : (less : ℤ) (v p : Point) → less ≤ℤ stroke_padding style → Contains points v → IsWithinPadding less v p → Near p
  near_by less v p h listed w = record { vertex = v; listed = listed; within = within_more less (stroke_padding style) v p h w }

  at_vertex : (v : Point) → Contains points v → Near v
  at_vertex v listed = vertex_near (stroke_padding style) points v (omega (arith, ints, radius_covered style)) listed

  beside : (sense : ArcDirection) (e : Edge) (v : Point) → e.0 ≢ e.1 → Contains points v → Near (contact unit style.radius sense v (heading unit e))
  beside sense e v apart listed = record {
    vertex = v;
    listed = listed;
    within = contact_within unit (stroke_padding style) style.radius sense v (heading unit e) (omega arith) (heading_short unit least style.radius sign e apart) (radius_covered style);
  }

  right_near : (side : StrokeSide) (e : Edge) (v : Point) → e.0 ≢ e.1 → Contains points v
      → Near (right_end unit style.radius side e v)
  right_near Both e v apart listed = beside Counterclockwise e v apart listed
  right_near Left e v apart listed = at_vertex v listed
  right_near Right e v apart listed = beside Counterclockwise e v apart listed

  left_near : (side : StrokeSide) (e : Edge) (v : Point) → e.0 ≢ e.1 → Contains points v
      → Near (left_end unit style.radius side e v)
  left_near Both e v apart listed = beside Clockwise e v apart listed
  left_near Left e v apart listed = beside Clockwise e v apart listed
  left_near Right e v apart listed = at_vertex v listed

  two_near : (p q r t : Point) → Near p → Near q → Near r → Near t → All EndsNear ((p, q) ∷ (r, t) ∷ [])
  two_near p q r t np nq nr nt =
      All-cons EndsNear (p, q) ((r, t) ∷ []) (np, nq) (All-cons EndsNear (r, t) [] (nr, nt) (All-nil EndsNear))

  sides_near : (side : StrokeSide) (e : Edge) → e.0 ≢ e.1 → Listed points e
      → All EndsNear (side_edges unit style.radius side e)
  sides_near side e apart listed =
      two_near (right_end unit style.radius side e e.0) (right_end unit style.radius side e e.1)
      (left_end unit style.radius side e e.1) (left_end unit style.radius side e e.0)
      (right_near side e e.0 apart listed.0) (right_near side e e.1 apart listed.1)
      (left_near side e e.1 apart listed.1) (left_near side e e.0 apart listed.0)

  -- a corner whose edges have their ends among the points
  abbrev At : EdgePair → Type 0
  At c = IsMet c × (Listed points c.0 × Listed points c.1)

  inner_near : (c : EdgePair) → At c → All EndsNear (inner_edges unit style.radius c)
  inner_near c h =
      All-cons EndsNear (left_of unit style.radius c.1 c.1.0, c.1.0) ((c.0.1, left_of unit style.radius c.0 c.0.1) ∷ [])
      (beside Clockwise c.1 c.1.0 h.0.second h.1.1.0, at_vertex c.1.0 h.1.1.0)
      (All-cons EndsNear (c.0.1, left_of unit style.radius c.0 c.0.1) []
      (at_vertex c.0.1 h.1.0.1, beside Clockwise c.0 c.0.1 h.0.first h.1.0.1) (All-nil EndsNear))

  outer_near : (c : EdgePair) → At c → pos 0 ≤ℤ left_turn c → All EndsNear (outer_edges unit style.radius style.join c)
  outer_near c h left =
      let j = joint_right unit style.radius c in
      route_all Near j.first (between j.first (join_points unit style.join j) j.last) j.last
      (beside Counterclockwise c.0 c.0.1 h.0.first h.1.0.1)
      (All-weaker (IsWithinPadding (join_padding style.join.kind style.radius) c.0.1) Near
      (λ p w. near_by (join_padding style.join.kind style.radius) c.0.1 p (join_covered style) h.1.0.1 w) (between j.first (join_points unit style.join j) j.last)
      (corner_keeps unit least style.radius sign style.join c h.0 left).near)
      (beside Counterclockwise c.1 c.1.0 h.0.second h.1.1.0)

  faced_near : (side : StrokeSide) (c : EdgePair) → At c → pos 0 ≤ℤ left_turn c
      → All EndsNear (faced_edges unit style.radius side style.join c)
  faced_near Both c h left =
      All-append EndsNear (inner_edges unit style.radius c) (outer_edges unit style.radius style.join c) (inner_near c h)
      (outer_near c h left)
  faced_near Left c h left = inner_near c h
  faced_near Right c h left = outer_near c h left

  corner_near : (c : EdgePair) → At c → All EndsNear (corner_edges unit style.radius style.side style.join c)
  corner_near c h =
      subst (All EndsNear) (sym (faced_is unit style.radius style.side style.join c))
      (faced_by
      (λ (side : StrokeSide) (k : EdgePair). All EndsNear (faced_edges unit style.radius side style.join k))
      style.side c (faced_near style.side c h)
      (faced_near (opposite_side style.side) (other_way c)
      (other_way_met c h.0, ((h.1.1.1, h.1.1.0), (h.1.0.1, h.1.0.0)))))

  cap_near : (kind : CapKind) → cap_padding kind style.radius ≤ℤ stroke_padding style → (e : Edge) → e.0 ≢ e.1 → Listed points e → All EndsNear (cap_at unit style.radius kind e)
  cap_near kind covered e apart listed =
      let j = half_turn unit style.radius e.1 (heading unit e) in
      let end : IsEnd unit j = record { made = refl; fresh = direction_fresh (omega arith) (heading_is unit e apart) } in
      let keeps : KeepsEnd unit kind j = (cap_keeps unit kind least).at_end j (heading_short unit least style.radius sign e apart) end sign in
      route_all Near j.first (cap_points kind unit j) j.last
      (beside Counterclockwise e e.1 apart listed.1)
      (All-weaker (IsWithinPadding (cap_padding kind style.radius) e.1) Near
      (λ p w. near_by (cap_padding kind style.radius) e.1 p covered listed.1 w) (cap_points kind unit j) keeps.near)
      (beside Clockwise e e.1 apart listed.1)

  half_near : (side : StrokeSide) (first last : Edge) → first.0 ≢ first.1 → last.0 ≢ last.1 → Listed points first
      → Listed points last → All EndsNear (half_ends unit style.radius side first last)
  half_near side first last pf pl lf ll =
      two_near (left_end unit style.radius side first first.0) (right_end unit style.radius side first first.0)
      (right_end unit style.radius side last last.1) (left_end unit style.radius side last last.1)
      (left_near side first first.0 pf lf.0) (right_near side first first.0 pf lf.0)
      (right_near side last last.1 pl ll.1) (left_near side last last.1 pl ll.1)

  open_near : (side : StrokeSide) → cap_padding (drawn_cap side style.start) style.radius ≤ℤ stroke_padding style
      → cap_padding (drawn_cap side style.end) style.radius ≤ℤ stroke_padding style → (first last : Edge)
      → first.0 ≢ first.1 → last.0 ≢ last.1 → Listed points first → Listed points last
      → All EndsNear (open_ends unit style.radius side style.start style.end first last)
  open_near Both s t first last pf pl lf ll =
      All-append EndsNear (cap_at unit style.radius style.start (back first)) (cap_at unit style.radius style.end last)
      (cap_near style.start s (back first) (apart_back first pf) (lf.1, lf.0))
      (cap_near style.end t last pl ll)
  open_near Left s t first last pf pl lf ll = half_near Left first last pf pl lf ll
  open_near Right s t first last pf pl lf ll = half_near Right first last pf pl lf ll

  caps_near : (closed : Bool) (first last : Edge) → first.0 ≢ first.1 → last.0 ≢ last.1 → Listed points first → Listed points last →
      All EndsNear (path_ends unit style.radius style.side style.start style.end closed first last)
  caps_near true first last pf pl lf ll = All-nil EndsNear
  caps_near false first last pf pl lf ll =
      open_near style.side (start_covered style) (end_covered style) first last pf pl lf ll

  -- all that is drawn along edges with their ends among the points stays near
  pub drawn_near : (closed : Bool) (es : List Edge) → IsChain closed es → All (λ (e : Edge). Contains points e.0 × Contains points e.1) es →
      All (λ (e : Edge). IsNear (stroke_padding style) points e.0 × IsNear (stroke_padding style) points e.1) (drawn_edges unit style closed es)
  unfolding drawn_edges
  drawn_near closed [] chain listed = All-nil EndsNear
  drawn_near closed (e ∷ es) chain listed =
      All-filter (λ (g : Edge). not (same_point g.0 g.1)) EndsNear
      (flat_map (side_edges unit style.radius style.side) (e ∷ es) ++ (flat_map (corner_edges unit style.radius style.side style.join) (neighbours closed (e ∷ es)) ++ path_ends unit style.radius style.side style.start style.end closed e (last_of e es)))
      (All-append EndsNear (flat_map (side_edges unit style.radius style.side) (e ∷ es)) (flat_map (corner_edges unit style.radius style.side style.join) (neighbours closed (e ∷ es)) ++ path_ends unit style.radius style.side style.start style.end closed e (last_of e es))
      (all_flat_map EndsNear (side_edges unit style.radius style.side) (e ∷ es)
      (All-weaker (λ (g : Edge). (g.0 ≢ g.1) × Listed points g) (λ g. All EndsNear (side_edges unit style.radius style.side g)) (λ g h. sides_near style.side g h.0 h.1) (e ∷ es)
      (all_both (λ (g : Edge). g.0 ≢ g.1) (Listed points) (e ∷ es) chain.proper listed)))
      (All-append EndsNear (flat_map (corner_edges unit style.radius style.side style.join) (neighbours closed (e ∷ es))) (path_ends unit style.radius style.side style.start style.end closed e (last_of e es))
      (all_flat_map EndsNear (corner_edges unit style.radius style.side style.join) (neighbours closed (e ∷ es))
      (All-weaker At (λ c. All EndsNear (corner_edges unit style.radius style.side style.join c)) corner_near (neighbours closed (e ∷ es))
      (all_both IsMet (λ (c : EdgePair). Listed points c.0 × Listed points c.1) (neighbours closed (e ∷ es)) (corners_met closed (e ∷ es) chain) (neighbours_all (Listed points) closed (e ∷ es) listed))))
      (caps_near closed e (last_of e es)
      (All-head (λ (g : Edge). g.0 ≢ g.1) e es chain.proper) (last_all (λ (g : Edge). g.0 ≢ g.1) e es chain.proper)
      (All-head (Listed points) e es listed) (last_all (Listed points) e es listed))))
