-- Lemmas over points and lists: the stroke of a path that runs the other way about.
use Rattle.std.proofs.Common.{◌≡◌, ◌≢◌, ◌⊎◌, inl, inr, ℕ, ◌<◌, ◌≤◌, ◌^◌, List, [], ◌∷◌, ◌++◌, refl, sym, subst, ◌∙◌, ap, arith}
use Rattle.std.specs.Prelude.{ℤ, pos, neg_ℤ, ◌+ℤ◌, ◌-ℤ◌, ◌*ℤ◌, ◌<ℤ◌, ◌≤ℤ◌, Bool, true, false, cond, reverse, int_le, ◌&&◌}
use Rattle.std.specs.List.{flat_map}
use Rattle.std.proofs.lemmas.Int.{ints, by_lt_z}
use Rattle.std.proofs.lemmas.List.Elements.{All-weaker}
use Rattle.mesh_plane.specs.Plane.{Point, Edge, minus, opposite, cross, dot, length_sq}
use Rattle.mesh_plane.specs.Winding.{sum_of, total, crossing_on, IsOdd, same_point, boundary, route}
use Rattle.mesh_plane.proofs.Balance.{marks_counted}
use Rattle.mesh_plane.proofs.ClosedLists.{route_append, boundary_rotated}
use Rattle.mesh_plane.proofs.Comparing.{decides_point}
use Rattle.mesh_plane.proofs.Crossings.{crossing_on_odd}
use Rattle.mesh_plane.proofs.Identities.{lagrange, cross_flip}
use Rattle.mesh_plane.proofs.Sizes.{dot_self}
use Rattle.mesh_plane.proofs.Sums.{sum_of_equal, sum_of_append, total_append, total_flat_map, total_permutation}
use Rattle.mesh_plane.proofs.Whole.{linear, mul_pos}
use Rattle.mesh_plane.specs.Turning.{last_of}
use Rattle.mesh_num.specs.Segments.{SignedEdge, proper_edges}
use Rattle.mesh_offset.specs.Adding.{added_edges}
use Rattle.mesh_offset.specs.Built.{Adds}
use Rattle.mesh_offset.proofs.Adding.{adds_edges}
use Rattle.mesh_num.proofs.Turns.{same_kept, opposite_kept}
use Rattle.mesh_lattice.specs.Split.{back, same_edge}
use Rattle.mesh_offset.proofs.Apart.{apart_long}
use Rattle.mesh_offset.proofs.ProperEdges.{proper_append, proper_edges_total}
use Rattle.mesh_arc.specs.declared.arc.ArcDirection.TheVariants.{Clockwise, Counterclockwise}
use Rattle.mesh_stroke.specs.Caps.{CapKind}
use Rattle.mesh_join.specs.Joins.{through, join_points, join_edges}
use Rattle.mesh_join.specs.Joints.{joint, contact}
use Rattle.mesh_join.specs.Styles.{JoinStyle}
use Rattle.mesh_join.specs.declared.style.StrokeSide.{StrokeSide}
use Rattle.mesh_join.specs.declared.style.StrokeSide.TheVariants.{Both}
use Rattle.mesh_offset.specs.Walks.{pairs}
use Rattle.mesh_stroke.specs.Paths.{neighbours, path_edges}
use Rattle.mesh_stroke.specs.Reversal.{net_count, CountAlike, with_caps_exchanged, reversed_edges, StrokesCanBeReversed}
use Rattle.mesh_stroke.specs.Styles.{StrokeStyle}
use Rattle.mesh_stroke.specs.Strokes.{EdgePair, heading, side_edges, outer_edges, inner_edges}
use Rattle.mesh_stroke.specs.Strokes.{corner_edges, cap_at, open_ends, path_ends, drawn_edges, stroke_edges}
use Rattle.mesh_stroke.proofs.Backwards.{backwards, reverse_is, route_backwards, pairs_backwards, proper_backwards, ends_backwards, sum_backwards, neighbours_sum_backwards}
use Rattle.mesh_stroke.proofs.Chains.{IsChain, path_chain}
use Rattle.mesh_stroke.proofs.Corners.{IsMet, corners_met, left_turn, other_way, other_way_met, other_way_turns, faced_here, faced_there}
use Rattle.mesh_stroke.proofs.Sides.{heading_is, heading_back, right_back, left_back}

-- ---- corners at which a path does not turn

-- parallel vectors that are not 0 look the same way or opposite ways
dot_apart : (v w : Point) → 0 < length_sq v → 0 < length_sq w → cross v w ≡ pos 0 → dot v w ≢ pos 0
dot_apart v w h g flat none = absurd (omega (arith, ints, mul_pos (dot v v) (dot w w) (omega (arith, ints, dot_self v, h)) (omega (arith, ints, dot_self w, g)), lagrange v w, squares))
  where
    squares : (dot v w *ℤ dot v w) +ℤ (cross v w *ℤ cross v w) ≡ pos 0
    squares = λ i. (none i *ℤ none i) +ℤ (flat i *ℤ flat i)

back_again : (n : Point) → opposite (opposite n) ≡ n
back_again n = let x : neg_ℤ (neg_ℤ n.0) ≡ n.0 = omega (arith, linear) in
    let y : neg_ℤ (neg_ℤ n.1) ≡ n.1 = omega (arith, linear) in
    λ i. (x i, y i)

below_of : (x : ℤ) → x ≤ℤ pos 0 → x ≢ pos 0 → x <ℤ pos 0
below_of x h apart = by_lt_z x (pos 0) (λ l. l) (λ l. absurd (apart (omega (arith, ints, h, l))))

headings : (unit : ℕ) (c : EdgePair) → IsMet c → left_turn c ≡ pos 0 → (heading unit c.1 ≡ heading unit c.0) ⊎ (heading unit c.1 ≡ opposite (heading unit c.0))
headings unit c h flat =
    let v = minus c.0.1 c.0.0 in
    let w = minus c.1.1 c.1.0 in
    let p = heading_is unit c.0 h.first in
    let q = heading_is unit c.1 h.second in
    by_lt_z (pos 0) (dot v w)
    (λ l. inl (sym (same_kept p q flat l)))
    (λ l. inr (opposite_kept p q flat (below_of (dot v w) l (dot_apart v w (apart_long c.0 h.first) (apart_long c.1 h.second) flat))))

module _ (f : Point → Point → ℤ) (odd : IsOdd f) (unit : ℕ) (some : 0 < unit) where
  -- what is drawn at a corner that is seen so: from `v` to `w`, which are one point, along these directions
  abbrev drawn_at : ℤ → JoinStyle → Point → Point → Point → Point → ℤ
  drawn_at radius join v w n m =
      total f
      (((contact unit radius Clockwise w m, w) ∷ (v, contact unit radius Clockwise v n) ∷ [])
      ++ join_edges unit join (joint v (contact unit radius Counterclockwise v n) (contact unit radius Counterclockwise w m) n m radius Counterclockwise))

  abbrev seen : ℤ → JoinStyle → EdgePair → ℤ
  seen radius join c = total f (inner_edges unit radius c ++ outer_edges unit radius join c)

  one_point : (a : Point) (points : List Point) → total f (through a points a) ≡ pos 0
  one_point a points = rw ((decides_point a a).1 refl) (omega (arith, linear, odd a a))

  -- straight on: nothing in sum
  none_at : (radius : ℤ) (join : JoinStyle) (v n : Point) → drawn_at radius join v v n n ≡ pos 0
  none_at radius join v n =
      let a = contact unit radius Counterclockwise v n in
      let left = contact unit radius Clockwise v n in
      omega (arith, linear, one_point a (join_points unit join (joint v a a n n radius Counterclockwise)), odd v left)

  straight_none : (radius : ℤ) (join : JoinStyle) (c : EdgePair) → IsMet c → heading unit c.1 ≡ heading unit c.0 → seen radius join c ≡ pos 0
  straight_none radius join c h same =
      (λ i. drawn_at radius join c.0.1 (sym h.met i) (heading unit c.0) (same i)) ∙ none_at radius join c.0.1 (heading unit c.0)

  flat_same : (radius : ℤ) (join : JoinStyle) (c : EdgePair) → IsMet c → (heading unit c.1 ≡ heading unit c.0) ⊎ (heading unit c.1 ≡ opposite (heading unit c.0)) →
      seen radius join (other_way c) ≡ seen radius join c
  flat_same radius join c h (inl same) =
      straight_none radius join (other_way c) (other_way_met c h)
      (heading_back unit c.0 h.first ∙ sym (ap opposite same) ∙ sym (heading_back unit c.1 h.second))
      ∙ sym (straight_none radius join c h same)
  flat_same radius join c h (inr turned) =
      let n : heading unit (back c.1) ≡ heading unit c.0 = heading_back unit c.1 h.second ∙ ap opposite turned ∙ back_again (heading unit c.0) in
      let m : heading unit (back c.0) ≡ heading unit c.1 = heading_back unit c.0 h.first ∙ sym turned in
      λ i. drawn_at radius join (sym h.met i) (h.met i) (n i) (m i)

  -- a corner seen from its other end
  corner_reversed : (radius : ℤ) (join : JoinStyle) (c : EdgePair) → IsMet c →
      total f (corner_edges unit radius Both join (other_way c)) ≡ total f (corner_edges unit radius Both join c)
  corner_reversed radius join c h = by_lt_z (left_turn c) (pos 0)
      (λ l. ap (seen radius join) (faced_here (other_way c) (there (omega (arith, linear, ints, l))) ∙ sym (faced_there c l)))
      (λ l. by_lt_z (pos 0) (left_turn c)
      (λ g. ap (seen radius join) (faced_there (other_way c) (below g) ∙ sym (faced_here c l)))
      (λ g. ap (seen radius join) (faced_here (other_way c) (there g)) ∙ flat_same radius join c h (headings unit c h (zero_of l g)) ∙ sym (ap (seen radius join) (faced_here c l))))
    where
      flipped : left_turn (other_way c) ≡ neg_ℤ (left_turn c)
      flipped = other_way_turns c ∙ cross_flip (minus c.0.1 c.0.0) (minus c.1.1 c.1.0)

      there : left_turn c ≤ℤ pos 0 → pos 0 ≤ℤ left_turn (other_way c)
      there g = rw flipped (omega (arith, ints, g))

      below : pos 0 <ℤ left_turn c → left_turn (other_way c) <ℤ pos 0
      below g = rw flipped (omega (arith, ints, g))

      zero_of : pos 0 ≤ℤ left_turn c → left_turn c ≤ℤ pos 0 → left_turn c ≡ pos 0
      zero_of l g = omega (arith, ints, l, g)

  -- both sides of an edge
  sides_reversed : (radius : ℤ) (e : Edge) → e.0 ≢ e.1 → total f (side_edges unit radius Both (back e)) ≡ total f (side_edges unit radius Both e)
  sides_reversed radius e apart =
      rw (right_back unit radius e e.0 some apart, right_back unit radius e e.1 some apart, left_back unit radius e e.0 some apart, left_back unit radius e e.1 some apart)
      (omega (arith, linear))

  -- ---- the sums over a path

  abbrev pub sides_of : StrokeStyle → Edge → ℤ
  sides_of style e = total f (side_edges unit style.radius style.side e)

  abbrev pub corner_of : StrokeStyle → EdgePair → ℤ
  corner_of style c = total f (corner_edges unit style.radius style.side style.join c)

  abbrev pub caps_of : StrokeStyle → Bool → Edge → Edge → ℤ
  caps_of style closed first last = total f (path_ends unit style.radius style.side style.start style.end closed first last)

  pub parts : (style : StrokeStyle) (closed : Bool) (e : Edge) (es : List Edge) →
      total f (drawn_edges unit style closed (e ∷ es))
      ≡ (sum_of (sides_of style) (e ∷ es) +ℤ sum_of (corner_of style) (neighbours closed (e ∷ es))) +ℤ caps_of style closed e (last_of e es)
  unfolding drawn_edges
  parts style closed e es =
      let sides = flat_map (side_edges unit style.radius style.side) (e ∷ es) in
      let corners = flat_map (corner_edges unit style.radius style.side style.join) (neighbours closed (e ∷ es)) in
      let caps = path_ends unit style.radius style.side style.start style.end closed e (last_of e es) in
      omega (
        arith,
        linear,
        proper_edges_total f odd (sides ++ (corners ++ caps)),
        total_append f sides (corners ++ caps),
        total_append f corners caps,
        total_flat_map f (side_edges unit style.radius style.side) (e ∷ es),
        total_flat_map f (corner_edges unit style.radius style.side style.join) (neighbours closed (e ∷ es)),
      )

  open_reversed : (radius : ℤ) (start end : CapKind) (first last : Edge)
      → total f (open_ends unit radius Both end start (back last) (back first))
      ≡ total f (open_ends unit radius Both start end first last)
  open_reversed radius start end first last =
      omega (
        arith,
        linear,
        total_append f (cap_at unit radius end last) (cap_at unit radius start (back first)),
        total_append f (cap_at unit radius start (back first)) (cap_at unit radius end last),
      )

  -- what is said of both sides, of a style that draws both
  module _ (style : StrokeStyle) (whole : style.side ≡ Both) where
    caps_reversed : (closed : Bool) (first last : Edge)
        → caps_of (with_caps_exchanged style) closed (back last) (back first) ≡ caps_of style closed first last
    caps_reversed true first last = refl
    caps_reversed false first last =
        subst
        (λ (side : StrokeSide). total f (open_ends unit style.radius side style.end style.start (back last) (back first))
        ≡ total f (open_ends unit style.radius side style.start style.end first last))
        (sym whole) (open_reversed style.radius style.start style.end first last)

    both_sides_reversed : (e : Edge) → e.0 ≢ e.1 → sides_of style (back e) ≡ sides_of style e
    both_sides_reversed e apart =
        subst
        (λ (side : StrokeSide). total f (side_edges unit style.radius side (back e))
        ≡ total f (side_edges unit style.radius side e))
        (sym whole) (sides_reversed style.radius e apart)

    both_corner_reversed : (c : EdgePair) → IsMet c → corner_of style (other_way c) ≡ corner_of style c
    both_corner_reversed c h =
        subst
        (λ (side : StrokeSide). total f (corner_edges unit style.radius side style.join (other_way c))
        ≡ total f (corner_edges unit style.radius side style.join c))
        (sym whole) (corner_reversed style.radius style.join c h)

  none_drawn : (style : StrokeStyle) (closed : Bool) → drawn_edges unit style closed [] ≡ []
  unfolding drawn_edges
  none_drawn style closed = refl

  drawn_reversed : (style : StrokeStyle) → style.side ≡ Both → (closed : Bool) (es : List Edge) → IsChain closed es →
      total f (drawn_edges unit (with_caps_exchanged style) closed (backwards back es)) ≡ total f (drawn_edges unit style closed es)
  drawn_reversed style whole closed [] chain = ap (total f) (none_drawn (with_caps_exchanged style) closed ∙ sym (none_drawn style closed))
  drawn_reversed style whole closed (e ∷ es) chain = by (ends_backwards back e es)
    where
      other : StrokeStyle
      other = with_caps_exchanged style

      sections : sum_of (sides_of style) (backwards back (e ∷ es)) ≡ sum_of (sides_of style) (e ∷ es)
      sections =
          sum_backwards (sides_of style) back (e ∷ es)
          ∙ sum_of_equal (λ g. sides_of style (back g)) (sides_of style) (e ∷ es)
          (All-weaker (λ (g : Edge). g.0 ≢ g.1) (λ (g : Edge). sides_of style (back g) ≡ sides_of style g) (λ g h. both_sides_reversed style whole g h) (e ∷ es) chain.proper)

      corners : sum_of (corner_of style) (neighbours closed (backwards back (e ∷ es))) ≡ sum_of (corner_of style) (neighbours closed (e ∷ es))
      corners =
          neighbours_sum_backwards (corner_of style) back closed (e ∷ es)
          ∙ sum_of_equal (λ c. corner_of style (other_way c)) (corner_of style) (neighbours closed (e ∷ es))
          (All-weaker IsMet (λ (c : EdgePair). corner_of style (other_way c) ≡ corner_of style c) (λ c h. both_corner_reversed style whole c h) (neighbours closed (e ∷ es)) (corners_met closed (e ∷ es) chain))

      by : (rest : List Edge) × (backwards back (e ∷ es) ≡ back (last_of e es) ∷ rest) × (last_of (back (last_of e es)) rest ≡ back e) →
          total f (drawn_edges unit other closed (backwards back (e ∷ es))) ≡ total f (drawn_edges unit style closed (e ∷ es))
      by (rest, same, ends) =
          let first : Edge = back (last_of e es) in
          let listed : total f (drawn_edges unit other closed (backwards back (e ∷ es)))
          ≡ (sum_of (sides_of style) (backwards back (e ∷ es)) +ℤ sum_of (corner_of style) (neighbours closed (backwards back (e ∷ es)))) +ℤ caps_of other closed first (last_of first rest) =
          ap (λ l. total f (drawn_edges unit other closed l)) same
          ∙ parts other closed first rest
          ∙ sym (ap (λ l. (sum_of (sides_of style) l +ℤ sum_of (corner_of style) (neighbours closed l)) +ℤ caps_of other closed first (last_of first rest)) same) in
          let caps : caps_of other closed first (last_of first rest) ≡ caps_of style closed e (last_of e es) =
          ap (caps_of other closed first) ends ∙ caps_reversed style whole closed e (last_of e es) in
          omega (arith, linear, listed, caps, sections, corners, parts style closed e es)

  -- a closed path begun elsewhere
  closed_parts : (style : StrokeStyle) (es : List Edge) →
      total f (drawn_edges unit style true es) ≡ sum_of (sides_of style) es +ℤ sum_of (corner_of style) (boundary es)
  unfolding drawn_edges
  closed_parts style [] = refl
  closed_parts style (e ∷ es) = parts style true e es ∙ omega (arith, linear)

  drawn_rotated : (style : StrokeStyle) (us vs : List Edge) → total f (drawn_edges unit style true (us ++ vs)) ≡ total f (drawn_edges unit style true (vs ++ us))
  drawn_rotated style us vs =
      omega (
        arith,
        linear,
        closed_parts style (us ++ vs),
        closed_parts style (vs ++ us),
        sum_of_append (sides_of style) us vs,
        sum_of_append (sides_of style) vs us,
        boundary_rotated (corner_of style) us vs,
      )

  -- the path that is read backwards
  path_reversed : (style : StrokeStyle) (closed : Bool) (points : List Point) →
      total f (drawn_edges unit style closed (path_edges closed (backwards (λ p. p) points))) ≡ total f (drawn_edges unit style closed (backwards back (path_edges closed points)))
  path_reversed style false points =
      ap (λ l. total f (drawn_edges unit style false l)) (ap proper_edges (pairs_backwards (λ p. p) points) ∙ proper_backwards (pairs points))
  path_reversed style true [] = refl
  path_reversed style true (x ∷ xs) =
      begun (backwards (λ p. p) xs) ∙ ap (λ l. total f (drawn_edges unit style true l)) (ap proper_edges (route_backwards (λ p. p) x xs x) ∙ proper_backwards (route x xs x))
    where
      begun : (ys : List Point) → total f (drawn_edges unit style true (path_edges true (ys ++ (x ∷ [])))) ≡ total f (drawn_edges unit style true (path_edges true (x ∷ ys)))
      begun [] = refl
      begun (y ∷ zs) =
          ap (λ l. total f (drawn_edges unit style true l)) (ap proper_edges (route_append y zs x [] y) ∙ proper_append (route y zs x) ((x, y) ∷ []))
          ∙ drawn_rotated style (proper_edges (route y zs x)) (proper_edges ((x, y) ∷ []))
          ∙ sym (ap (λ l. total f (drawn_edges unit style true l)) (proper_append ((x, y) ∷ []) (route y zs x)))

  pub stroke_reversed : (style : StrokeStyle) → style.side ≡ Both → (closed : Bool) (points : List Point) →
      total f (reversed_edges unit style closed points) ≡ total f (stroke_edges unit style closed points)
  stroke_reversed style whole closed points = by (int_le style.radius (pos 1))
    where
      other : StrokeStyle
      other = with_caps_exchanged style

      drawn : total f (drawn_edges unit other closed (path_edges closed (reverse points))) ≡ total f (drawn_edges unit style closed (path_edges closed points))
      drawn =
          ap (λ l. total f (drawn_edges unit other closed (path_edges closed l))) (reverse_is points)
          ∙ path_reversed other closed points
          ∙ drawn_reversed style whole closed (path_edges closed points) (path_chain closed points)

      by : (b : Bool) → total f (cond b [] (drawn_edges unit other closed (path_edges closed (reverse points)))) ≡ total f (cond b [] (drawn_edges unit style closed (path_edges closed points)))
      by true = refl
      by false = drawn

-- ---- net counts

-- how much an edge counts
abbrev pub counted : Edge → Point → Point → ℤ
counted e p r = cond (same_edge e (p, r)) (pos 1) (pos 0) -ℤ cond (same_edge (back e) (p, r)) (pos 1) (pos 0)

both_ways : (a b : Bool) → cond (a && b) (pos 1) (pos 0) ≡ cond (b && a) (pos 1) (pos 0)
both_ways true true = refl
both_ways true false = refl
both_ways false true = refl
both_ways false false = refl

counted_odd : (e : Edge) → IsOdd (counted e)
unfolding same_edge
counted_odd e p r = omega (arith, linear, both_ways (same_point e.0 p) (same_point e.1 r), both_ways (same_point e.1 p) (same_point e.0 r))

net_total : (e : Edge) (es : List Edge) → net_count e es ≡ total (counted e) es
net_total e es = (λ i. sym (marks_counted (same_edge e) es) i -ℤ sym (marks_counted (same_edge (back e)) es) i) ∙ sym (differences es)
  where
    differences : (es : List Edge) → total (counted e) es
        ≡ sum_of (λ g. cond (same_edge e g) (pos 1) (pos 0)) es -ℤ sum_of (λ g. cond (same_edge (back e) g) (pos 1) (pos 0)) es
    differences [] = refl
    differences (g ∷ gs) = omega (arith, linear, differences gs)

-- lists over which odd functions have one sum count alike
pub count_alike : (es gs : List Edge) → ((f : Point → Point → ℤ) → IsOdd f → total f es ≡ total f gs) → CountAlike es gs
count_alike es gs h = record {
  nets = λ e. net_total e es ∙ h (counted e) (counted_odd e) ∙ sym (net_total e gs);
  windings = λ m q. h (crossing_on m q) (crossing_on_odd m q);
}

pub strokes_can_be_reversed : StrokesCanBeReversed
strokes_can_be_reversed unit least style whole closed points =
    count_alike (reversed_edges unit style closed points) (stroke_edges unit style closed points)
    (λ f odd. stroke_reversed f odd unit (omega arith) style whole closed points)

-- and so does what a walk added in whatever order
pub adds_reversed : (unit : ℕ) → 2 ^ 14 ≤ unit → (style : StrokeStyle) → style.side ≡ Both → (closed : Bool) (points : List Point) (old new : List SignedEdge) →
    Adds old new (stroke_edges unit style closed points) → CountAlike (reversed_edges unit style closed points) (added_edges old new)
adds_reversed unit least style whole closed points old new h =
    count_alike (reversed_edges unit style closed points) (added_edges old new)
    (λ f odd.
    stroke_reversed f odd unit (omega arith) style whole closed points
    ∙ total_permutation f (added_edges old new) (stroke_edges unit style closed points) (adds_edges old new (stroke_edges unit style closed points) h))
