-- Lemmas over points and lists: strokes hold what is as near to their paths as they reach.
use Rattle.std.proofs.Common.{◌≡◌, ◌≢◌, ◌⊎◌, inl, inr, ⊎_elim, ℕ, ◌+◌, ◌*◌, ◌<◌, ◌≤◌, List, [], ◌∷◌, ◌++◌, Bool, true, false, cond, refl, sym, ◌∙◌, ap, subst, arith}
use Rattle.std.specs.Prelude.{ℤ, pos, neg_ℤ, ◌*ℤ◌, ◌≤ℤ◌, ◌<ℤ◌, unsigned_abs, map, IsTrue, int_le}
use Rattle.std.specs.List.{All, Contains, flat_map, list_any}
use Rattle.std.proofs.lemmas.Bool.{true≢false}
use Rattle.std.proofs.lemmas.Int.{ints, by_lt_z}
use Rattle.std.proofs.lemmas.List.Folds.{list_any_at}
use Rattle.std.proofs.lemmas.List.Elements.{All-nil, All-cons, All-weaker, All-head, All-tail, All-contains, Contains-append_left}
use Rattle.mesh_plane.specs.Plane.{Point, Edge, plus, minus, dot, turn, right_quarter}
use Rattle.mesh_plane.specs.Winding.{refined, holds}
use Rattle.mesh_plane.specs.Turning.{last_of}
use Rattle.mesh_plane.proofs.ClosedLists.{all_left, all_right, all_mapped}
use Rattle.mesh_plane.proofs.Whole.{linear, mul_nonneg_nonpos, mul_pos, times_zero, zero_mul}
use Rattle.mesh_lattice.specs.Counted.{bit}
use Rattle.mesh_lattice.specs.Split.{back}
use Rattle.mesh_join.specs.Styles.{JoinStyle}
use Rattle.mesh_join.specs.declared.style.StrokeSide.{StrokeSide}
use Rattle.mesh_join.specs.declared.style.StrokeSide.TheVariants.{Both}
use Rattle.mesh_reach.specs.Reach.{IsReached}
use Rattle.mesh_reach.proofs.Within.{nested}
use Rattle.mesh_num.specs.Segments.{proper_edges}
use Rattle.mesh_stroke.specs.Caps.{CapKind}
use Rattle.mesh_stroke.specs.Caps.CapKind.{Butt, Square, Round, Custom}
use Rattle.mesh_stroke.specs.Paths.{neighbours, path_edges}
use Rattle.mesh_stroke.specs.Regions.{all_pieces}
use Rattle.mesh_stroke.specs.Strokes.{stroke_pieces, EdgePair, facing, outer_edges, section_piece, corner_pieces, cap_at, end_pieces, drawn_pieces}
use Rattle.mesh_stroke.specs.Styles.{StrokeStyle}
use Rattle.mesh_stroke.proofs.Chains.{IsChain, path_chain}
use Rattle.mesh_inner.specs.Inner.{step, IsSectionWide, HasInnerReach, HaveEndsRoom, HasCapRoom, IsBeforeButt, IsBetweenButts, IsHeldByOne, StrokesHoldWhatIsNear, StrokeAnswersHoldWhatIsNear}
use Rattle.mesh_inner.specs.Room.{FansHaveRoom}
use Rattle.mesh_inner.proofs.Corners.{AreBeside, ahead, ahead_back}
use Rattle.mesh_inner.proofs.Fans.{HoldsOnce, side_left, side_right, turn_by_side}
use Rattle.mesh_inner.proofs.Generic.{IsFreed, freed}
use Rattle.mesh_inner.proofs.Held.{IsFree, both_pieces, near_section, wide_section}
use Rattle.mesh_inner.proofs.Inside.{held_once}
use Rattle.mesh_inner.proofs.Places.{in_first, in_flat_map, in_rest}
use Rattle.mesh_inner.proofs.Proper.{last_in, joins_room, end_cap_room, start_cap_room}

-- ---- the ways from a path that a point must not lie on

-- from a corner to the starts of edges
abbrev spokes : Point → List Edge → List Edge
spokes v es = map (λ (e : Edge). (v, e.0)) es

-- from the ends of a section to its right, and from its end to its left
abbrev crossways : ℕ → ℤ → Edge → List Edge
crossways unit radius e =
    (e.0, plus e.0 (right_quarter (step unit radius e))) ∷ (e.1, plus e.1 (right_quarter (step unit radius e)))
    ∷ (e.1, minus e.1 (right_quarter (step unit radius e)))
    ∷ []

abbrev ways : ℕ → ℤ → JoinStyle → CapKind → CapKind → Bool → Edge → List Edge → List Edge
ways unit radius join start end closed e es =
    flat_map (crossways unit radius) (e ∷ es)
    ++ (flat_map (λ (c : EdgePair). spokes (facing c).0.1 (outer_edges unit radius join (facing c))) (neighbours closed (e ∷ es))
    ++ (spokes e.0 (cap_at unit radius start (back e)) ++ spokes (last_of e es).1 (cap_at unit radius end (last_of e es))))

-- a point does not lie on the line of an edge
abbrev IsOff : ℕ → Point → Edge → Type 0
IsOff m q f = f.0 ≢ f.1 → turn (refined m f.0) (refined m f.1) q ≢ pos 0

moved_apart : (p s v : Point) → pos 0 <ℤ dot s v → p ≢ plus p (right_quarter s)
moved_apart p s v along same =
    let x : s.1 ≡ pos 0 = omega (arith, ints, ap (λ (z : Point). z.0) same) in
    let y : s.0 ≡ pos 0 = omega (arith, ints, ap (λ (z : Point). z.1) same) in
    omega (arith, linear, along, ap (λ (z : ℤ). z *ℤ v.0) y ∙ zero_mul v.0, ap (λ (z : ℤ). z *ℤ v.1) x ∙ zero_mul v.1)

off_ahead : (unit : ℕ) (radius : ℤ) (m : ℕ) (q : Point) (e : Edge) (p v : Point) → pos 0 <ℤ dot (step unit radius e) v
    → IsOff m q (p, plus p (right_quarter (step unit radius e))) → ahead unit radius m q e p ≢ pos 0
off_ahead unit radius m q e p v along off none =
    let s = step unit radius e in
    off (moved_apart p s v along)
    (turn_by_side m p q (plus p (right_quarter s)) ∙ times_zero (pos m) _ (side_right m p q s ∙ none))

module _ (unit : ℕ) (some : 0 < unit) (radius : ℤ) (sign : pos 0 ≤ℤ radius) (small : 4 * unsigned_abs radius ≤ unit) (join : JoinStyle) (start end : CapKind)
    (closed : Bool) (first : Edge) (rest : List Edge) (chain : IsChain closed (first ∷ rest)) (t : ℕ) (positive : 0 < t) (m : ℕ) (q : Point)
    (sections : All (IsSectionWide unit radius t) (first ∷ rest)) where
  free_of : All (IsOff m q) (ways unit radius join start end closed first rest) → IsFree unit radius join start end closed m q first rest
  free_of off = record {
    sides = sides_at (first ∷ rest) chain.proper sections (nested (IsOff m q) (crossways unit radius) (first ∷ rest) (all_left (IsOff m q) across others off));
    joins =
        All-weaker (λ (c : EdgePair). All (IsOff m q) (spokes (facing c).0.1 (outer_edges unit radius join (facing c))))
        (λ (c : EdgePair). AreBeside m q (facing c).0.1 (outer_edges unit radius join (facing c)))
        (λ c h. all_mapped (IsOff m q) (λ (e : Edge). ((facing c).0.1, e.0)) (outer_edges unit radius join (facing c)) h) (neighbours closed (first ∷ rest))
        (nested (IsOff m q) (λ (c : EdgePair). spokes (facing c).0.1 (outer_edges unit radius join (facing c))) (neighbours closed (first ∷ rest))
        (all_left (IsOff m q) at_joins at_caps (all_right (IsOff m q) across others off)));
    at_start =
        all_mapped (IsOff m q) (λ (e : Edge). (first.0, e.0)) (cap_at unit radius start (back first))
        (all_left (IsOff m q) at_first at_last (all_right (IsOff m q) at_joins at_caps (all_right (IsOff m q) across others off)));
    at_end =
        all_mapped (IsOff m q) (λ (e : Edge). ((last_of first rest).1, e.0)) (cap_at unit radius end (last_of first rest))
        (all_right (IsOff m q) at_first at_last (all_right (IsOff m q) at_joins at_caps (all_right (IsOff m q) across others off)));
  }
    where
      across : List Edge
      across = flat_map (crossways unit radius) (first ∷ rest)

      at_joins : List Edge
      at_joins = flat_map (λ (c : EdgePair). spokes (facing c).0.1 (outer_edges unit radius join (facing c))) (neighbours closed (first ∷ rest))

      at_first : List Edge
      at_first = spokes first.0 (cap_at unit radius start (back first))

      at_last : List Edge
      at_last = spokes (last_of first rest).1 (cap_at unit radius end (last_of first rest))

      at_caps : List Edge
      at_caps = at_first ++ at_last

      others : List Edge
      others = at_joins ++ at_caps

      Sides : Edge → Type 0
      Sides f = (ahead unit radius m q f f.0 ≢ pos 0) × (ahead unit radius m q f f.1 ≢ pos 0)

      sides_at : (es : List Edge) → All (λ (e : Edge). e.0 ≢ e.1) es → All (IsSectionWide unit radius t) es
          → All (λ (e : Edge). All (IsOff m q) (crossways unit radius e)) es → All Sides es
      sides_at [] p w h = All-nil Sides
      sides_at (e ∷ es) p w h =
          let wide = wide_section unit some radius sign small t positive e (All-head (λ (f : Edge). f.0 ≢ f.1) e es p) (All-head (IsSectionWide unit radius t) e es w) in
          let own = All-head (λ (f : Edge). All (IsOff m q) (crossways unit radius f)) e es h in
          let a : Edge = (e.0, plus e.0 (right_quarter (step unit radius e))) in
          let b : Edge = (e.1, plus e.1 (right_quarter (step unit radius e))) in
          let c : Edge = (e.1, minus e.1 (right_quarter (step unit radius e))) in
          All-cons Sides e es (
            off_ahead unit radius m q e e.0 (minus e.1 e.0) wide.ahead (All-head (IsOff m q) a (b ∷ c ∷ []) own),
            off_ahead unit radius m q e e.1 (minus e.1 e.0) wide.ahead (All-head (IsOff m q) b (c ∷ []) (All-tail (IsOff m q) a (b ∷ c ∷ []) own)),
          )
          (sides_at es (All-tail (λ (f : Edge). f.0 ≢ f.1) e es p) (All-tail (IsSectionWide unit radius t) e es w) (All-tail (λ (f : Edge). All (IsOff m q) (crossways unit radius f)) e es h))

-- ---- ends

ahead_turn : (m : ℕ) (q v s : Point) → turn (refined m v) (refined m (plus v (right_quarter s))) q ≡ pos m *ℤ dot s (minus q (refined m v))
ahead_turn m q v s = turn_by_side m v q (plus v (right_quarter s)) ∙ ap (λ (z : ℤ). pos m *ℤ z) (side_right m v q s)

behind_turn : (m : ℕ) (q v s : Point) → turn (refined m v) (refined m (minus v (right_quarter s))) q ≡ pos m *ℤ neg_ℤ (dot s (minus q (refined m v)))
behind_turn m q v s = turn_by_side m v q (minus v (right_quarter s)) ∙ ap (λ (z : ℤ). pos m *ℤ z) (side_left m v q s)

factor_above : (m : ℕ) (x : ℤ) → pos 0 <ℤ (pos m *ℤ x) → pos 0 <ℤ x
factor_above m x h =
    by_lt_z (pos 0) x (λ (l : pos 0 <ℤ x). l)
    (λ (l : x ≤ℤ pos 0). let k = mul_nonneg_nonpos (pos m) x (omega (arith, ints)) l in absurd (omega (arith, linear, h, k)))

-- a point that lies ahead of `v` as `s` leads is to the left of the way to the right of `v`
left_of_ahead : (m : ℕ) (q v s : Point) → 0 < m → pos 0 <ℤ dot s (minus q (refined m v)) → pos 0 <ℤ turn (refined m v) (refined m (plus v (right_quarter s))) q
left_of_ahead m q v s fine h =
    let k = mul_pos (pos m) (dot s (minus q (refined m v))) (omega (arith, ints, fine)) h in omega (arith, linear, ahead_turn m q v s, k)

ahead_of_left : (m : ℕ) (q v s : Point) → pos 0 <ℤ turn (refined m v) (refined m (plus v (right_quarter s))) q → pos 0 <ℤ dot s (minus q (refined m v))
ahead_of_left m q v s h = factor_above m _ (omega (arith, linear, ahead_turn m q v s, h))

left_of_behind : (m : ℕ) (q v s : Point) → 0 < m → dot s (minus q (refined m v)) <ℤ pos 0 → pos 0 <ℤ turn (refined m v) (refined m (minus v (right_quarter s))) q
left_of_behind m q v s fine h =
    let k = mul_pos (pos m) (neg_ℤ (dot s (minus q (refined m v)))) (omega (arith, ints, fine)) (omega (arith, linear, h)) in
    omega (arith, linear, behind_turn m q v s, k)

behind_of_left : (m : ℕ) (q v s : Point) → pos 0 <ℤ turn (refined m v) (refined m (minus v (right_quarter s))) q → dot s (minus q (refined m v)) <ℤ pos 0
behind_of_left m q v s h =
    let k = factor_above m (neg_ℤ (dot s (minus q (refined m v)))) (omega (arith, linear, behind_turn m q v s, h)) in omega (arith, linear, k)

-- a cap leaves room, or a point lies before the end if it is a butt
room_or_before : (unit : ℕ) (radius : ℤ) (t m : ℕ) (q : Point) (kind : CapKind) (e : Edge) → HasCapRoom unit radius t kind e → IsBeforeButt unit radius m q kind e
    → FansHaveRoom t e.1 (proper_edges (cap_at unit radius kind e)) ⊎ (ahead unit radius m q e e.1 <ℤ pos 0)
room_or_before unit radius t m q Butt e h k = inr k
room_or_before unit radius t m q Square e h k = inl h
room_or_before unit radius t m q (Round options) e h k = inl h
room_or_before unit radius t m q (Custom points) e h k = inl h

-- ---- together

drawn_hold : (unit : ℕ) (style : StrokeStyle) (closed : Bool) (t : ℕ) (es : List Edge) → IsChain closed es → 0 < unit → pos 1 <ℤ style.radius → 4 * unsigned_abs style.radius ≤ unit → style.side ≡ Both
    → HasInnerReach unit style closed t es → (b m : ℕ) (e : Edge) (q : Point) → b + 2 < t → 0 < m → Contains es e → IsReached b m e q → IsBetweenButts unit style closed m q es → IsHeldByOne m q (drawn_pieces unit style closed es)
unfolding drawn_pieces HaveEndsRoom IsBetweenButts
drawn_hold unit style closed t [] chain some wide small both reach b m e q room fine listed near between = absurd (omega (arith, listed.1))
drawn_hold unit style closed t (first ∷ rest) chain some wide small both reach b m e q room fine listed near between =
    subst (λ (side : StrokeSide). IsHeldByOne m q
    (map (section_piece unit style.radius side) (first ∷ rest)
    ++ (flat_map (corner_pieces unit style.radius side style.join) (neighbours closed (first ∷ rest))
    ++ end_pieces unit style.radius side style.start style.end closed first (last_of first rest)))) (sym both)
    (kept (freed b t m near.grid e q near.nearest pieces (ways unit style.radius style.join style.start style.end closed first rest) room fine near.some near.on_edge near.reached))
  where
    pieces : List (List Point)
    pieces = both_pieces unit style.radius style.join style.start style.end closed first rest

    positive : 0 < t
    positive = omega (arith, room)

    sign : pos 0 ≤ℤ style.radius
    sign = omega (arith, ints, wide)

    last : Edge
    last = last_of first rest

    at_last : Contains (first ∷ rest) last
    at_last = last_in first rest

    apart_first : first.0 ≢ first.1
    apart_first = All-head (λ (f : Edge). f.0 ≢ f.1) first rest chain.proper

    apart_last : last.0 ≢ last.1
    apart_last = All-contains (λ (f : Edge). f.0 ≢ f.1) (first ∷ rest) last chain.proper at_last

    other_ways : List Edge
    other_ways =
        flat_map (λ (c : EdgePair). spokes (facing c).0.1 (outer_edges unit style.radius style.join (facing c))) (neighbours closed (first ∷ rest))
        ++ (spokes first.0 (cap_at unit style.radius style.start (back first)) ++ spokes last.1 (cap_at unit style.radius style.end last))

    all_ways : List Edge
    all_ways = flat_map (crossways unit style.radius) (first ∷ rest) ++ other_ways

    Freed : Type 0
    Freed = IsFreed t m e q pieces (ways unit style.radius style.join style.start style.end closed first rest)

    -- the sides of the path's ends, and so on the finer grid
    left_of_first : (f : Freed) → pos 0 <ℤ ahead unit style.radius m q first first.0 → pos 0 <ℤ ahead unit style.radius f.grid f.point first first.0
    left_of_first f h =
        ahead_of_left f.grid f.point first.0 (step unit style.radius first)
        (All-contains (λ (g : Edge). pos 0 <ℤ turn (refined m g.0) (refined m g.1) q → pos 0 <ℤ turn (refined f.grid g.0) (refined f.grid g.1) f.point)
        all_ways way f.left listed' (left_of_ahead m q first.0 (step unit style.radius first) fine h))
      where
        way : Edge
        way = (first.0, plus first.0 (right_quarter (step unit style.radius first)))

        listed' : Contains all_ways way
        listed' =
            Contains-append_left (flat_map (crossways unit style.radius) (first ∷ rest)) other_ways way
            (in_flat_map (crossways unit style.radius) (first ∷ rest) first way (in_first first rest)
            (in_first way ((first.1, plus first.1 (right_quarter (step unit style.radius first))) ∷ (first.1, minus first.1 (right_quarter (step unit style.radius first))) ∷ [])))

    left_of_last : (f : Freed) → ahead unit style.radius m q last last.1 <ℤ pos 0 → ahead unit style.radius f.grid f.point last last.1 <ℤ pos 0
    left_of_last f h =
        behind_of_left f.grid f.point last.1 (step unit style.radius last)
        (All-contains (λ (g : Edge). pos 0 <ℤ turn (refined m g.0) (refined m g.1) q → pos 0 <ℤ turn (refined f.grid g.0) (refined f.grid g.1) f.point)
        all_ways way f.left listed' (left_of_behind m q last.1 (step unit style.radius last) fine h))
      where
        way : Edge
        way = (last.1, minus last.1 (right_quarter (step unit style.radius last)))

        listed' : Contains all_ways way
        listed' =
            Contains-append_left (flat_map (crossways unit style.radius) (first ∷ rest)) other_ways way
            (in_flat_map (crossways unit style.radius) (first ∷ rest) last way at_last
            (in_rest (last.0, plus last.0 (right_quarter (step unit style.radius last))) ((last.1, plus last.1 (right_quarter (step unit style.radius last))) ∷ way ∷ []) way
            (in_rest (last.1, plus last.1 (right_quarter (step unit style.radius last))) (way ∷ []) way (in_first way []))))

    start_room : (f : Freed) (c : Bool) → HaveEndsRoom unit style c t (first ∷ rest) → IsBetweenButts unit style c m q (first ∷ rest) → c ≡ false
        → FansHaveRoom t first.0 (cap_at unit style.radius style.start (back first)) ⊎ (pos 0 <ℤ ahead unit style.radius f.grid f.point first first.0)
    start_room f false h k e =
        ⊎_elim (λ own. inl (start_cap_room unit some style.radius t style.start first apart_first (All-head (IsSectionWide unit style.radius t) first rest reach.sections) own))
        (λ (before : ahead unit style.radius m q (back first) first.0 <ℤ pos 0).
        let a = ahead_back unit style.radius m q first first.0 some apart_first in
        inr (left_of_first f (omega (arith, linear, a, before))))
        (room_or_before unit style.radius t m q style.start (back first) h.0 k.0)
    start_room f true h k e = absurd (true≢false e)

    end_room : (f : Freed) (c : Bool) → HaveEndsRoom unit style c t (first ∷ rest) → IsBetweenButts unit style c m q (first ∷ rest) → c ≡ false
        → FansHaveRoom t last.1 (cap_at unit style.radius style.end last) ⊎ (ahead unit style.radius f.grid f.point last last.1 <ℤ pos 0)
    end_room f false h k e =
        ⊎_elim
        (λ own. inl (end_cap_room unit some style.radius t style.end last apart_last (All-contains (IsSectionWide unit style.radius t) (first ∷ rest) last reach.sections at_last) own))
        (λ before. inr (left_of_last f before)) (room_or_before unit style.radius t m q style.end last h.1 k.1)
    end_room f true h k e = absurd (true≢false e)

    kept : IsFreed t m e q pieces (ways unit style.radius style.join style.start style.end closed first rest) → IsHeldByOne m q pieces
    kept f =
        let h : HoldsOnce f.grid f.point pieces =
        near_section unit some style.radius sign small style.join style.start style.end closed first rest chain t positive f.grid f.some f.point reach.sections
        (joins_room unit some style.radius t style.join closed (first ∷ rest) chain reach.sections reach.joins)
        (start_room f closed reach.ends between) (end_room f closed reach.ends between)
        (free_of unit some style.radius sign small style.join style.start style.end closed first rest chain t positive f.grid f.point reach.sections f.turns) e f.nearest listed f.on_edge f.near in
        record {
          piece = h.piece;
          listed = h.listed;
          held =
              subst IsTrue (All-contains (λ (piece : List Point). holds f.grid f.point piece ≡ holds m q piece) pieces h.piece f.held h.listed)
              (held_once f.grid f.point h.piece h.once);
        }

pub strokes_hold : StrokesHoldWhatIsNear
strokes_hold unit style closed t points some wide small both reach b m e q room fine listed near between =
    by (int_le style.radius (pos 1)) refl
  where
    by : (c : Bool) → int_le style.radius (pos 1) ≡ c → IsHeldByOne m q (cond c [] (drawn_pieces unit style closed (path_edges closed points)))
    by true h = absurd (omega (arith, ints, h, wide))
    by false h = drawn_hold unit style closed t (path_edges closed points) (path_chain closed points) some wide small both reach b m e q room fine listed near between

-- so do answers
pub stroke_answers_hold : StrokeAnswersHoldWhatIsNear
stroke_answers_hold k unit style closed choices paths answer made some wide small both stock no_area way t path among_paths reach b m e q room fine listed near between far =
    let h : IsHeldByOne m q (stroke_pieces unit style closed path) =
    strokes_hold unit style closed t path some wide small both reach b m e q room fine listed near between in
    let at : Contains (all_pieces unit style closed paths) h.piece =
    in_flat_map (stroke_pieces unit style closed) paths path h.piece among_paths h.listed in
    let any : list_any (holds m q) (all_pieces unit style closed paths) ≡ true =
    list_any_at (holds m q) (all_pieces unit style closed paths) at.0 h.piece at.1 (subst (λ (piece : List Point). holds m q piece ≡ true) (sym at.2) h.held) in
    made.held stock no_area way m fine q far ∙ ap bit any
