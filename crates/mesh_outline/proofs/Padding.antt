-- Lemmas over points and lists: how far an outline reaches from its contour.
use Rattle.std.proofs.Common.{◌≡◌, ◌≢◌, ℕ, ◌<◌, ◌≤◌, ◌^◌, Bool, true, false, cond, not, List, [], ◌∷◌, ◌++◌, map, refl, subst, arith}
use Rattle.std.specs.Prelude.{ℤ, pos, ◌≤ℤ◌, unsigned_abs, Option, Some, IfSome}
use Rattle.std.specs.List.{All, Contains, flat_map}
use Rattle.std.proofs.lemmas.Int.{ints, clamps}
use Rattle.std.proofs.lemmas.List.Elements.{All-nil, All-cons, All-map, All-append, All-filter, All-weaker}
use Rattle.mesh_plane.specs.Bounds.{IsSafe}
use Rattle.mesh_plane.specs.Plane.{Point, Edge, minus}
use Rattle.mesh_num.specs.Direction.{IsDirection, scaled_direction}
use Rattle.mesh_num.specs.Directed.{direction_of}
use Rattle.mesh_num.specs.Rectangle.{IsSafeWidened}
use Rattle.mesh_plane.specs.Winding.{boundary, same_point}
use Rattle.mesh_plane.proofs.ClosedLists.{boundary_all, all_both, all_flat_map, route_all}
use Rattle.mesh_num.proofs.Directed.{direction_of_is}
use Rattle.mesh_num.proofs.Parts.{direction_short}
use Rattle.mesh_num.proofs.Scaling.{scaled_direction_bounded}
use Rattle.mesh_join.proofs.JoinLaws.{KeepsJoint}
use Rattle.mesh_join.proofs.Joins.{join_keeps, padding_covers}
use Rattle.mesh_join.specs.Joins.{between, offset_padding, outline_padding}
use Rattle.mesh_join.specs.Joints.{IsWithinPadding}
use Rattle.mesh_join.specs.Styles.{OffsetJoin, OutlineStyle, outer, inner}
use Rattle.mesh_outline.specs.Building.{IsMovable}
use Rattle.mesh_outline.specs.Kinds.{way_for}
use Rattle.mesh_outline.specs.declared.kind.ContourKind.{ContourKind}
use Rattle.mesh_outline.specs.declared.kind.ContourKind.TheVariants.{Outer, Hole, Ignored}
use Rattle.mesh_outline.specs.Outline.{Section, SectionPair, top_edge, section_of, inner_edges, outer_edges}
use Rattle.mesh_outline.specs.Outline.{corner_edges, drawn_edges, parts, joint_at, joined, closed_outline}
use Rattle.mesh_offset.specs.Padding.{ArePathsSafe, IsNear}
use Rattle.mesh_offset.proofs.Apart.{apart_long}
use Rattle.mesh_outline.proofs.Corners.{IsClosedProper, corners, corners_keep}
use Rattle.mesh_offset.proofs.Padding.{beside_near, ends_safe, paths_safe_less, safe_within_less, vertex_near}

-- ---- paddings

-- a padding is at least 0
pub padding_least : (style : OffsetJoin) → pos 0 ≤ℤ offset_padding style
padding_least style = omega (arith, ints, padding_covers style.join style.offset)

-- the padding of an outline covers that of each of its offsets
pub outer_covered : (style : OutlineStyle) → offset_padding (outer style) ≤ℤ outline_padding style
outer_covered style = omega (arith, ints, clamps)

pub inner_covered : (style : OutlineStyle) → offset_padding (inner style) ≤ℤ outline_padding style
inner_covered style = omega (arith, ints, clamps)

-- what holds of both ways to move holds of that of each kind
pub way_of : (style : OutlineStyle) (kind : ContourKind) (P : OffsetJoin → Type 0) → P (outer style) → P (inner style) → IfSome (way_for style kind) P
way_of style Outer P of_outer of_inner = of_outer
way_of style Hole P of_outer of_inner = of_inner
way_of style Ignored P of_outer of_inner = tt

pub outer_accepted : (unit : ℕ) (style : OutlineStyle) (paths : List (List Point)) → ArePathsSafe unit (outline_padding style) paths → ArePathsSafe unit (offset_padding (outer style)) paths
outer_accepted unit style paths safe = paths_safe_less unit (outline_padding style) (offset_padding (outer style)) paths (padding_least (outer style)) (outer_covered style) safe

pub inner_accepted : (unit : ℕ) (style : OutlineStyle) (paths : List (List Point)) → ArePathsSafe unit (outline_padding style) paths → ArePathsSafe unit (offset_padding (inner style)) paths
inner_accepted unit style paths safe = paths_safe_less unit (outline_padding style) (offset_padding (inner style)) paths (padding_least (inner style)) (inner_covered style) safe

-- a path that is safe within the padding of an outline can be moved in the way of each kind
pub path_movable : (unit : ℕ) (style : OutlineStyle) (kind : ContourKind) (way : OffsetJoin) (path : List Point) → way_for style kind ≡ Some way →
    All (IsSafeWidened unit (outline_padding style)) path → All (IsMovable unit way) path
path_movable unit style kind way path e safe =
    subst (λ (o : Option OffsetJoin). IfSome o (λ (w : OffsetJoin). All (IsMovable unit w) path)) e
    (way_of style kind (λ (w : OffsetJoin). All (IsMovable unit w) path) (by (outer style) (outer_covered style)) (by (inner style) (inner_covered style)))
  where
    by : (w : OffsetJoin) → offset_padding w ≤ℤ outline_padding style → All (IsMovable unit w) path
    by w covered =
        All-weaker (IsSafeWidened unit (outline_padding style)) (IsMovable unit w)
        (λ p s. safe_within_less unit (outline_padding style) (offset_padding w) p (padding_least w) covered s) path safe

-- a point that can be moved stays safe where it moves by the offset's size
pub movable_within : (unit : ℕ) (style : OffsetJoin) (p : Point) → IsMovable unit style p → IsSafeWidened unit (pos (unsigned_abs style.offset)) p
movable_within unit style p s = safe_within_less unit (offset_padding style) (pos (unsigned_abs style.offset)) p (omega (arith, ints)) (padding_covers style.join style.offset) s

-- ---- what is drawn

-- what holds of the ends and the tops of a section
abbrev HoldsOf : (Point → Type 0) → Section → Type 0
HoldsOf P s = P s.a × P s.b × P s.a_top × P s.b_top

abbrev HoldsOfEnds : (Point → Type 0) → Edge → Type 0
HoldsOfEnds P e = P e.0 × P e.1

corner_all : (P : Point → Type 0) (is_outer : SectionPair → Bool) (join : SectionPair → List Point) (c : SectionPair) → HoldsOf P c.0 → HoldsOf P c.1 →
    (is_outer c ≡ true → All P (between c.0.b_top (join c) c.1.a_top)) → All (HoldsOfEnds P) (corner_edges is_outer join c)
corner_all P is_outer join c previous next joins = by (is_outer c) refl
  where
    by : (b : Bool) → is_outer c ≡ b → All (HoldsOfEnds P) (cond b (outer_edges join c) (inner_edges c))
    by true h = route_all P c.0.b_top (between c.0.b_top (join c) c.1.a_top) c.1.a_top previous.3 (joins h) next.2
    by false h =
        All-cons (HoldsOfEnds P) (c.0.b_top, c.0.b) ((c.1.a, c.1.a_top) ∷ []) (previous.3, previous.1)
        (All-cons (HoldsOfEnds P) (c.1.a, c.1.a_top) [] (next.0, next.2) (All-nil (HoldsOfEnds P)))

-- what holds of the ends and the tops of all sections and of the points of all outer joins holds of the ends of all that is drawn
pub drawn_all : (P : Point → Type 0) (is_outer : SectionPair → Bool) (join : SectionPair → List Point) (sections : List Section) →
    All (λ (s : Section). P s.a × P s.b × P s.a_top × P s.b_top) sections →
    All (λ (c : SectionPair). is_outer c ≡ true → All P (between c.0.b_top (join c) c.1.a_top)) (boundary sections) →
    All (λ (e : Edge). P e.0 × P e.1) (drawn_edges is_outer join sections)
unfolding drawn_edges
drawn_all P is_outer join sections each joins =
    All-filter (λ (e : Edge). not (same_point e.0 e.1)) (HoldsOfEnds P) (map top_edge sections ++ flat_map (corner_edges is_outer join) (boundary sections))
    (All-append (HoldsOfEnds P) (map top_edge sections) (flat_map (corner_edges is_outer join) (boundary sections))
    (All-map (HoldsOfEnds P) top_edge sections (All-weaker (HoldsOf P) (λ (s : Section). P s.a_top × P s.b_top) (λ s h. (h.2, h.3)) sections each))
    (all_flat_map (HoldsOfEnds P) (corner_edges is_outer join) (boundary sections)
    (All-weaker (λ (c : SectionPair). (HoldsOf P c.0 × HoldsOf P c.1) × HoldsOfJoin c) (λ (c : SectionPair). All (HoldsOfEnds P) (corner_edges is_outer join c))
    (λ c h. corner_all P is_outer join c h.0.0 h.0.1 h.1) (boundary sections)
    (all_both (λ (c : SectionPair). HoldsOf P c.0 × HoldsOf P c.1) HoldsOfJoin (boundary sections) (boundary_all (HoldsOf P) sections each) joins))))
  where
    HoldsOfJoin : SectionPair → Type 0
    HoldsOfJoin c = is_outer c ≡ true → All P (between c.0.b_top (join c) c.1.a_top)

-- ---- outlines

section_near : (unit : ℕ) (offset padding : ℤ) (vertices : List Point) (e : Edge) → 0 < unit → pos (unsigned_abs offset) ≤ℤ padding → e.0 ≢ e.1 → Contains vertices e.0 → Contains vertices e.1 →
    HoldsOf (IsNear padding vertices) (section_of unit offset e)
section_near unit offset padding vertices e some h apart first last =
    let n = direction_of unit (minus e.1 e.0) in
    let d : IsDirection unit (minus e.1 e.0) n = direction_of_is unit (minus e.1 e.0) (apart_long e apart) in
    let b : (unsigned_abs (scaled_direction unit offset n).0 ≤ unsigned_abs offset) × (unsigned_abs (scaled_direction unit offset n).1 ≤ unsigned_abs offset) = scaled_direction_bounded unit offset n some (direction_short d) in
    let s = scaled_direction unit offset n in
    let x : pos (unsigned_abs s.0) ≤ℤ padding = within_radius (unsigned_abs s.0) b.0 in
    let y : pos (unsigned_abs s.1) ≤ℤ padding = within_radius (unsigned_abs s.1) b.1 in (
      vertex_near padding vertices e.0 (within_radius 0 (omega arith)) first,
      vertex_near padding vertices e.1 (within_radius 0 (omega arith)) last,
      beside_near padding vertices e.0 s x y first,
      beside_near padding vertices e.1 s x y last,
    )
  where
    within_radius : (n : ℕ) → n ≤ unsigned_abs offset → pos n ≤ℤ padding
    within_radius n l = omega (arith, ints)

module _ (unit : ℕ) (style : OffsetJoin) (vertices : List Point) (contour : List Edge) (least : 2 ^ 14 ≤ unit) (ring : IsClosedProper contour)
    (listed : All (λ (e : Edge). Contains vertices e.0 × Contains vertices e.1) contour) where
  abbrev Near : Point → Type 0
  Near = IsNear (offset_padding style) vertices

  abbrev sections : List Section
  sections = map (section_of unit style.offset) contour

  sections_near : All (HoldsOf Near) sections
  sections_near =
      All-map (HoldsOf Near) (section_of unit style.offset) contour
      (All-weaker (λ (e : Edge). (e.0 ≢ e.1) × (Contains vertices e.0 × Contains vertices e.1)) (λ (e : Edge). HoldsOf Near (section_of unit style.offset e))
      (λ e t. section_near unit style.offset (offset_padding style) vertices e (omega arith) (padding_covers style.join style.offset) t.0 t.1.0 t.1.1) contour
      (all_both (λ (e : Edge). e.0 ≢ e.1) (λ (e : Edge). Contains vertices e.0 × Contains vertices e.1) contour ring.proper listed))

  -- the point of each corner is a vertex
  corners_listed : All (λ (c : SectionPair). Contains vertices c.0.b) (boundary sections)
  corners_listed =
      corners unit style.offset (λ c. Contains vertices c.0.b) contour
      (All-weaker (λ (c : Edge × Edge). (Contains vertices c.0.0 × Contains vertices c.0.1) × (Contains vertices c.1.0 × Contains vertices c.1.1)) (λ (c : Edge × Edge). Contains vertices c.0.1)
      (λ c h. h.0.1) (boundary contour) (boundary_all (λ (e : Edge). Contains vertices e.0 × Contains vertices e.1) contour listed))

  abbrev IsJoinNear : SectionPair → Type 0
  IsJoinNear c = parts style.offset c ≡ true → All Near (between c.0.b_top (joined unit style c) c.1.a_top)

  abbrev CornerKeeps : SectionPair → Type 0
  CornerKeeps c = parts style.offset c ≡ true → KeepsJoint unit style.join (joint_at style.offset c)

  join_near : (c : SectionPair) → CornerKeeps c → Contains vertices c.0.b → IsJoinNear c
  join_near c keeps here parted =
      All-weaker (IsWithinPadding (offset_padding style) c.0.b) Near (λ p w. record { vertex = c.0.b; listed = here; within = w }) (between c.0.b_top (joined unit style c) c.1.a_top)
      (rw ((join_keeps unit style.join least).sized style.offset) at (keeps parted).near)

  joins_near : All IsJoinNear (boundary sections)
  joins_near =
      All-weaker (λ (c : SectionPair). CornerKeeps c × Contains vertices c.0.b) IsJoinNear (λ c h. join_near c h.0 h.1) (boundary sections)
      (all_both CornerKeeps (λ (c : SectionPair). Contains vertices c.0.b) (boundary sections) (corners_keep unit style least contour ring) corners_listed)

  -- ends of the edges of an outline are away from a vertex by at most the padding in each coordinate
  pub outline_near : All (λ (e : Edge). IsNear (offset_padding style) vertices e.0 × IsNear (offset_padding style) vertices e.1) (closed_outline unit style contour)
  outline_near = drawn_all Near (parts style.offset) (joined unit style) sections sections_near joins_near

-- an outline of vertices that stay safe is in the safe range
pub outline_safe : (unit : ℕ) (style : OffsetJoin) (vertices : List Point) (contour : List Edge) → 2 ^ 14 ≤ unit → IsClosedProper contour →
    All (λ (e : Edge). Contains vertices e.0 × Contains vertices e.1) contour → All (IsMovable unit style) vertices →
    All (λ (e : Edge). IsSafe unit e.0 × IsSafe unit e.1) (closed_outline unit style contour)
outline_safe unit style vertices contour least ring listed safe =
    ends_safe unit (offset_padding style) vertices (closed_outline unit style contour) safe (outline_near unit style vertices contour least ring listed)

-- the padding of an outline is at least 0
pub outline_padding_least : (style : OutlineStyle) → pos 0 ≤ℤ outline_padding style
outline_padding_least style = omega (arith, ints, padding_least (outer style), outer_covered style)
