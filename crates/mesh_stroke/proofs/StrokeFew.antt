-- Lemmas over points and lists: how many edges a stroke has, where its joins and its caps have few.
use Rattle.std.proofs.Common.{◌≡◌, ◌≢◌, ℕ, ◌+◌, ◌*◌, ◌≤◌, ◌^◌, List, [], ◌∷◌, ◌++◌, length, refl, sym, subst, arith, length-append}
use Rattle.std.specs.Prelude.{Bool, true, false, cond, IsTrue, ◌&&◌, pos, ◌≤ℤ◌, int_le}
use Rattle.std.specs.List.{All, flat_map}
use Rattle.std.specs.Cmp.Derive.{both_true}
use Rattle.std.proofs.lemmas.Bool.{and_parts}
use Rattle.std.proofs.lemmas.Int.{ints}
use Rattle.std.proofs.lemmas.List.Elements.{All-head, All-tail, All-weaker}
use Rattle.mesh_plane.specs.Plane.{Point, Edge}
use Rattle.mesh_plane.specs.Turning.{last_of}
use Rattle.mesh_plane.proofs.ClosedLists.{route_length}
use Rattle.mesh_num.specs.Segments.{SignedEdge}
use Rattle.mesh_num.proofs.Parts.{direction_fresh}
use Rattle.mesh_lattice.specs.Split.{back}
use Rattle.mesh_join.specs.Joins.{HasFew}
use Rattle.mesh_join.specs.declared.style.StrokeSide.{StrokeSide}
use Rattle.mesh_join.specs.declared.style.StrokeSide.TheVariants.{Both, Left, Right}
use Rattle.mesh_stroke.specs.Caps.{CapKind, drawn_cap, draws_directly, has_few_edges}
use Rattle.mesh_stroke.specs.Ends.{half_turn, IsEnd}
use Rattle.mesh_stroke.proofs.CapKinds.{cap_keeps}
use Rattle.mesh_offset.specs.Adding.{added}
use Rattle.mesh_offset.specs.Built.{Adds}
use Rattle.mesh_offset.proofs.Drawn.{added_length}
use Rattle.mesh_stroke.specs.Building.{HasDirectCaps, HasFewCapEdges}
use Rattle.mesh_offset.specs.Walks.{pairs}
use Rattle.mesh_stroke.specs.Paths.{neighbours, path_edges}
use Rattle.mesh_stroke.specs.Styles.{StrokeStyle}
use Rattle.mesh_stroke.specs.Strokes.{EdgePair, heading, turns_right, facing, side_edges, inner_edges, outer_edges}
use Rattle.mesh_stroke.specs.Strokes.{corner_edges, cap_at, open_ends, path_ends, drawn_edges, stroke_edges}
use Rattle.mesh_stroke.specs.Private.Sections.{faced_edges, faced_side}
use Rattle.mesh_offset.proofs.ProperEdges.{proper_length}
use Rattle.mesh_offset.proofs.Walks.{last_all}
use Rattle.mesh_stroke.proofs.Chains.{IsChain, path_chain}
use Rattle.mesh_stroke.proofs.Corners.{IsMet, corners_met, facing_keeps, heading_short, apart_back, faced_is}
use Rattle.mesh_stroke.proofs.Sides.{heading_is}

-- ---- caps with few edges draw directly

few_is_direct : (kind : CapKind) → IsTrue (has_few_edges kind) → IsTrue (draws_directly kind)
few_is_direct kind = (cap_keeps (2 ^ 14) kind (omega arith)).few_are_direct

pub few_are_direct : (style : StrokeStyle) (closed : Bool) → HasFewCapEdges style closed → HasDirectCaps style closed
few_are_direct style true few = few
few_are_direct style false few =
    let start : CapKind = drawn_cap style.side style.start in
    let end : CapKind = drawn_cap style.side style.end in
    let each = and_parts (has_few_edges start) (has_few_edges end) few in
    both_true (few_is_direct start each.0) (few_is_direct end each.1)

-- ---- lists

parts_length : {A : Type 0} (f : A → List Edge) (most : ℕ) (xs : List A) → All (λ (x : A). length (f x) ≤ most) xs
    → length (flat_map f xs) ≤ most * length xs
parts_length f most [] h = omega arith
parts_length f most (x ∷ xs) h =
    omega (
      arith,
      length-append (f x) (flat_map f xs),
      All-head (λ (y : _). length (f y) ≤ most) x xs h,
      parts_length f most xs (All-tail (λ (y : _). length (f y) ≤ most) x xs h),
    )

pairs_length : {A : Type 0} (x : A) (xs : List A) → length (pairs (x ∷ xs)) ≡ length xs
pairs_length x [] = omega arith
pairs_length x (y ∷ ys) = omega (arith, pairs_length y ys)

neighbours_length : {A : Type 0} (closed : Bool) (x : A) (xs : List A)
    → length (neighbours closed (x ∷ xs)) ≤ length xs + 1
neighbours_length true x xs = omega (arith, route_length x xs x)
neighbours_length false x xs = omega (arith, pairs_length x xs)

-- ---- a stroke

module _ (unit : ℕ) (least : 2 ^ 14 ≤ unit) (style : StrokeStyle) (few : HasFew style.join) where
  corner_length : pos 0 ≤ℤ style.radius → (c : EdgePair) → IsMet c
      → length (corner_edges unit style.radius style.side style.join c) ≤ 5
  corner_length sign c met =
      subst (λ (es : List Edge). length es ≤ 5) (sym (faced_is unit style.radius style.side style.join c))
      (by (faced_side style.side (turns_right c)))
    where
      joined : length (outer_edges unit style.radius style.join (facing c)) ≤ 3
      joined = (facing_keeps unit least style.radius sign style.join c met).few few

      by : (seen : StrokeSide) → length (faced_edges unit style.radius seen style.join (facing c)) ≤ 5
      by Both =
          omega (
            arith,
            length-append (inner_edges unit style.radius (facing c)) (outer_edges unit style.radius style.join (facing c)),
            joined,
          )
      by Left = omega arith
      by Right = omega (arith, joined)

  cap_length : pos 0 ≤ℤ style.radius → (kind : CapKind) → IsTrue (has_few_edges kind) → (e : Edge)
      → e.0 ≢ e.1
      → length (cap_at unit style.radius kind e) ≤ 3
  cap_length sign kind short e apart =
      let j = half_turn unit style.radius e.1 (heading unit e) in
      let end : IsEnd unit j = record { made = refl; fresh = direction_fresh (omega arith) (heading_is unit e apart) } in
      ((cap_keeps unit kind least).at_end j (heading_short unit least style.radius sign e apart) end sign).few short

  open_length : pos 0 ≤ℤ style.radius → (side : StrokeSide)
      → IsTrue (has_few_edges (drawn_cap side style.start) && has_few_edges (drawn_cap side style.end))
      → (first last : Edge) → first.0 ≢ first.1 → last.0 ≢ last.1
      → length (open_ends unit style.radius side style.start style.end first last) ≤ 6
  open_length sign Both short first last p q =
      omega (
        arith,
        length-append (cap_at unit style.radius style.start (back first)) (cap_at unit style.radius style.end last),
        cap_length sign style.start (and_parts (has_few_edges style.start) (has_few_edges style.end) short).0 (back first)
            (apart_back first p),
        cap_length sign style.end (and_parts (has_few_edges style.start) (has_few_edges style.end) short).1 last q,
      )
  open_length sign Left short first last p q = omega arith
  open_length sign Right short first last p q = omega arith

  caps_length : pos 0 ≤ℤ style.radius → (closed : Bool) → HasFewCapEdges style closed → (first last : Edge)
      → first.0 ≢ first.1 → last.0 ≢ last.1
      → length (path_ends unit style.radius style.side style.start style.end closed first last) ≤ 6
  caps_length sign true short first last p q = omega arith
  caps_length sign false short first last p q = open_length sign style.side short first last p q

  drawn_length : pos 0 ≤ℤ style.radius → (closed : Bool) → HasFewCapEdges style closed → (es : List Edge)
      → IsChain closed es → length (drawn_edges unit style closed es) ≤ 7 * length es + 6
  unfolding drawn_edges
  drawn_length sign closed short [] chain = omega arith
  drawn_length sign closed short (e ∷ es) chain =
      omega (
        arith,
        proper_length (sides ++ (corners ++ caps)),
        length-append sides (corners ++ caps),
        length-append corners caps,
        parts_length (side_edges unit style.radius style.side) 2 (e ∷ es) (λ k d h. omega arith),
        parts_length (corner_edges unit style.radius style.side style.join) 5 (neighbours closed (e ∷ es))
            (All-weaker IsMet (λ (c : EdgePair). length (corner_edges unit style.radius style.side style.join c) ≤ 5)
            (corner_length sign) (neighbours closed (e ∷ es)) (corners_met closed (e ∷ es) chain)),
        neighbours_length closed e es,
        caps_length sign closed short e (last_of e es) (All-head HasTwoEnds e es chain.proper)
            (last_all HasTwoEnds e es chain.proper),
      )
    where
      HasTwoEnds : Edge → Type 0
      HasTwoEnds g = g.0 ≢ g.1

      sides : List Edge
      sides = flat_map (side_edges unit style.radius style.side) (e ∷ es)

      corners : List Edge
      corners = flat_map (corner_edges unit style.radius style.side style.join) (neighbours closed (e ∷ es))

      caps : List Edge
      caps = path_ends unit style.radius style.side style.start style.end closed e (last_of e es)

  -- at most seven edges for each edge of the path, and six more for the caps
  pub stroke_length : (closed : Bool) → HasFewCapEdges style closed → (points : List Point)
      → length (stroke_edges unit style closed points) ≤ 7 * length (path_edges closed points) + 6
  stroke_length closed short points = by (int_le style.radius (pos 1)) refl
    where
      by : (b : Bool) → int_le style.radius (pos 1) ≡ b
          → length (cond b [] (drawn_edges unit style closed (path_edges closed points)))
          ≤ 7 * length (path_edges closed points) + 6
      by true h = omega arith
      by false h =
          drawn_length (omega (arith, ints, h)) closed short (path_edges closed points) (path_chain closed points)

  -- so many are added
  pub adds_few : (closed : Bool) → HasFewCapEdges style closed → (points : List Point) (old new : List SignedEdge)
      → Adds old new (stroke_edges unit style closed points)
      → length (added old new) ≤ 7 * length (path_edges closed points) + 6
  adds_few closed short points old new h =
      omega (
        arith,
        added_length old new (stroke_edges unit style closed points) h,
        stroke_length closed short points,
      )
