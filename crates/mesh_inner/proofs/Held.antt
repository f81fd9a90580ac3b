-- Lemmas over points and lists: what is as near to a section as the stroke reaches is held by a piece.
use Rattle.std.proofs.Common.{◌≡◌, ◌≢◌, ◌⊎◌, inl, inr, ⊎_elim, ℕ, ◌+◌, ◌*◌, ◌<◌, ◌≤◌, mul-le-mul, List, ◌∷◌, ◌++◌, Bool, true, false, refl, sym, ap, subst, arith}
use Rattle.std.specs.Prelude.{ℤ, pos, ◌≤ℤ◌, ◌<ℤ◌, unsigned_abs, map}
use Rattle.std.specs.List.{All, Contains, flat_map}
use Rattle.std.proofs.lemmas.Int.{by_lt_z}
use Rattle.std.proofs.lemmas.List.Elements.{All-contains, All-contains_itself, Contains-append_left, Contains-append_right}
use Rattle.mesh_plane.specs.Plane.{Point, Edge, minus, dot, length_sq}
use Rattle.mesh_plane.specs.Winding.{refined, pairs_from}
use Rattle.mesh_plane.specs.Turning.{last_of}
use Rattle.mesh_plane.proofs.Identities.{dot_swap}
use Rattle.mesh_plane.proofs.Whole.{linear}
use Rattle.mesh_num.proofs.Scaling.{dot_scaled_nonneg}
use Rattle.mesh_lattice.specs.Clean.{IsOn, refined_edge}
use Rattle.mesh_lattice.specs.Split.{back}
use Rattle.mesh_join.specs.Styles.{JoinStyle}
use Rattle.mesh_join.specs.declared.style.StrokeSide.TheVariants.{Both}
use Rattle.mesh_offset.proofs.Apart.{apart_long}
use Rattle.mesh_stroke.specs.Caps.{CapKind}
use Rattle.mesh_stroke.specs.Paths.{neighbours}
use Rattle.mesh_stroke.specs.Strokes.{EdgePair, facing, outer_edges, section_piece, corner_pieces, join_pieces, cap_at, cap_pieces, end_pieces}
use Rattle.mesh_stroke.proofs.Chains.{IsChain, neighbours_all}
use Rattle.mesh_stroke.proofs.Corners.{IsMet, corners_met}
use Rattle.mesh_stroke.proofs.Sides.{heading_is}
use Rattle.mesh_inner.specs.Inner.{step, IsSectionWide}
use Rattle.mesh_inner.specs.Room.{FansHaveRoom}
use Rattle.mesh_inner.proofs.Corners.{AreBeside, ahead, ahead_back, join_holds, cap_holds}
use Rattle.mesh_inner.proofs.Fans.{HoldsOnce}
use Rattle.mesh_inner.proofs.Leans.{lean, half_lean}
use Rattle.mesh_inner.proofs.Places.{in_map, in_flat_map, in_first, IsNearestEnd, nearest_end, next_round, previous_round, next_along, previous_along}
use Rattle.mesh_inner.proofs.Sections.{IsWide, IsNearPoint, HoldsSection, section_or_end, beyond_end, before_start}
use Rattle.mesh_inner.proofs.Walks.{pairs_are}

-- ---- neighbours

-- an edge is followed by another, or ends an open path
next : {A : Type 0} (closed : Bool) (x : A) (xs : List A) (e : A) → Contains (x ∷ xs) e
    → ((f : A) × Contains (neighbours closed (x ∷ xs)) (e, f)) ⊎ ((closed ≡ false) × (e ≡ last_of x xs))
next true x xs e listed = inl (next_round x xs e listed)
next {A} false x xs e listed =
    ⊎_elim (λ (h : (f : A) × Contains (pairs_from x xs) (e, f)). inl (h.0, subst (λ (l : List (A × A)). Contains l (e, h.0)) (sym (pairs_are x xs)) h.1))
    (λ (h : e ≡ last_of x xs). inr (refl, h)) (next_along x xs e listed)

previous : {A : Type 0} (closed : Bool) (x : A) (xs : List A) (e : A) → Contains (x ∷ xs) e
    → ((d : A) × Contains (neighbours closed (x ∷ xs)) (d, e)) ⊎ ((closed ≡ false) × (e ≡ x))
previous true x xs e listed = inl (previous_round x xs e listed)
previous {A} false x xs e listed =
    ⊎_elim (λ (h : (d : A) × Contains (pairs_from x xs) (d, e)). inl (h.0, subst (λ (l : List (A × A)). Contains l (h.0, e)) (sym (pairs_are x xs)) h.1))
    (λ (h : e ≡ x). inr (refl, h)) (previous_along x xs e listed)

-- ---- sections

module _ (unit : ℕ) (some : 0 < unit) (radius : ℤ) (sign : pos 0 ≤ℤ radius) (small : 4 * unsigned_abs radius ≤ unit) (t : ℕ) (positive : 0 < t) where
  pub wide_section : (e : Edge) → e.0 ≢ e.1 → IsSectionWide unit radius t e → IsWide t (step unit radius e) (minus e.1 e.0)
  wide_section e apart wide = record {
    wide = wide;
    ahead = along;
    lean = lean radius some small (heading_is unit e apart);
    half = half_lean radius some small (heading_is unit e apart);
  }
    where
      v : Point
      v = minus e.1 e.0

      s : Point
      s = step unit radius e

      forward : pos 0 ≤ℤ dot s v
      forward =
          let h = dot_scaled_nonneg radius some sign (heading_is unit e apart) in
          subst (λ (z : ℤ). pos 0 ≤ℤ z) (dot_swap s v) h

      long : 0 < t * length_sq v
      long = let h : 1 * 1 ≤ t * length_sq v = mul-le-mul positive (apart_long e apart) in omega (arith, h)

      along : pos 0 <ℤ dot s v
      along =
          by_lt_z (pos 0) (dot s v) (λ (h : pos 0 <ℤ dot s v). h)
          (λ (h : dot s v ≤ℤ pos 0).
          let none : dot s v ≡ pos 0 = omega (arith, linear, forward, h) in
          absurd (flat none))
        where
          flat : dot s v ≡ pos 0 → ⊥
          flat none =
              let w : t * length_sq v ≤ 2 * (unsigned_abs (dot s v) * unsigned_abs (dot s v)) = wide in
              let z : unsigned_abs (dot s v) * unsigned_abs (dot s v) ≡ 0 = ap (λ (x : ℤ). unsigned_abs x * unsigned_abs x) none in
              omega (arith, w, z, long)

-- ---- the path

-- from nowhere on the path does a point lie straight beside a section, nor behind the start of an edge of a join or cap
pub record IsFree (unit : ℕ) (radius : ℤ) (join : JoinStyle) (start end : CapKind) (closed : Bool) (m : ℕ) (q : Point) (e : Edge) (es : List Edge) : Type 0 where
  pub sides : All (λ (f : Edge). (ahead unit radius m q f f.0 ≢ pos 0) × (ahead unit radius m q f f.1 ≢ pos 0)) (e ∷ es)
  pub joins : All (λ (c : EdgePair). AreBeside m q (facing c).0.1 (outer_edges unit radius join (facing c))) (neighbours closed (e ∷ es))
  pub at_start : AreBeside m q e.0 (cap_at unit radius start (back e))
  pub at_end : AreBeside m q (last_of e es).1 (cap_at unit radius end (last_of e es))

-- the pieces of a stroke on both sides
abbrev pub both_pieces : ℕ → ℤ → JoinStyle → CapKind → CapKind → Bool → Edge → List Edge → List (List Point)
both_pieces unit radius join start end closed e es =
    map (section_piece unit radius Both) (e ∷ es)
    ++ (flat_map (corner_pieces unit radius Both join) (neighbours closed (e ∷ es))
    ++ end_pieces unit radius Both start end closed e (last_of e es))

among : (m : ℕ) (q : Point) (some all : List (List Point)) → HoldsOnce m q some → ((p : List Point) → Contains some p → Contains all p) → HoldsOnce m q all
among m q some all h within = record { piece = h.piece; listed = within h.piece h.listed; once = h.once }

module _ (unit : ℕ) (some : 0 < unit) (radius : ℤ) (sign : pos 0 ≤ℤ radius) (small : 4 * unsigned_abs radius ≤ unit) (join : JoinStyle) (start end : CapKind)
    (closed : Bool) (first : Edge) (rest : List Edge) (chain : IsChain closed (first ∷ rest)) (t : ℕ) (positive : 0 < t) (m : ℕ) (fine : 0 < m) (q : Point)
    (sections : All (IsSectionWide unit radius t) (first ∷ rest))
    (joins : All (λ (c : EdgePair). FansHaveRoom t (facing c).0.1 (outer_edges unit radius join (facing c))) (neighbours closed (first ∷ rest)))
    (start_room : closed ≡ false → FansHaveRoom t first.0 (cap_at unit radius start (back first)) ⊎ (pos 0 <ℤ ahead unit radius m q first first.0))
    (end_room : closed ≡ false → FansHaveRoom t (last_of first rest).1 (cap_at unit radius end (last_of first rest)) ⊎ (ahead unit radius m q (last_of first rest) (last_of first rest).1 <ℤ pos 0))
    (free : IsFree unit radius join start end closed m q first rest) where
  abbrev All' : List Edge
  All' = first ∷ rest

  abbrev Pieces : List (List Point)
  Pieces = both_pieces unit radius join start end closed first rest

  abbrev far : Point → ℕ
  far p = length_sq (minus q (refined m p))

  abbrev Held : Type 0
  Held = HoldsOnce m q Pieces

  apart : (e : Edge) → Contains All' e → e.0 ≢ e.1
  apart e listed = All-contains (λ (f : Edge). f.0 ≢ f.1) All' e chain.proper listed

  wide : (e : Edge) → Contains All' e → IsWide t (step unit radius e) (minus e.1 e.0)
  wide e listed = wide_section unit some radius sign small t positive e (apart e listed) (All-contains (IsSectionWide unit radius t) All' e sections listed)

  by_section : (e : Edge) → Contains All' e → HoldsSection m q e.0 e.1 (step unit radius e) → Held
  by_section e listed h = record {
    piece = section_piece unit radius Both e;
    listed =
        Contains-append_left (map (section_piece unit radius Both) All') (flat_map (corner_pieces unit radius Both join) (neighbours closed All') ++ end_pieces unit radius Both start end closed first (last_of first rest))
        (section_piece unit radius Both e) (in_map (section_piece unit radius Both) All' e listed);
    once = h;
  }

  by_corner : (c : EdgePair) → Contains (neighbours closed All') c → HoldsOnce m q (join_pieces unit radius join c) → Held
  by_corner c listed h =
      among m q (join_pieces unit radius join c) Pieces h
      (λ p at.
      Contains-append_right (map (section_piece unit radius Both) All') (flat_map (corner_pieces unit radius Both join) (neighbours closed All') ++ end_pieces unit radius Both start end closed first (last_of first rest)) p
      (Contains-append_left (flat_map (corner_pieces unit radius Both join) (neighbours closed All')) (end_pieces unit radius Both start end closed first (last_of first rest)) p
      (in_flat_map (corner_pieces unit radius Both join) (neighbours closed All') c p listed at)))

  by_end : (p : List Point) → Contains (end_pieces unit radius Both start end closed first (last_of first rest)) p → Contains Pieces p
  by_end p at =
      Contains-append_right (map (section_piece unit radius Both) All') (flat_map (corner_pieces unit radius Both join) (neighbours closed All') ++ end_pieces unit radius Both start end closed first (last_of first rest)) p
      (Contains-append_right (flat_map (corner_pieces unit radius Both join) (neighbours closed All')) (end_pieces unit radius Both start end closed first (last_of first rest)) p at)

  abbrev Sides : Edge → Type 0
  Sides f = (ahead unit radius m q f f.0 ≢ pos 0) × (ahead unit radius m q f f.1 ≢ pos 0)

  abbrev Nearest : Point → Type 0
  Nearest p = All (λ (d : Edge). (far p ≤ far d.0) × (far p ≤ far d.1)) All'

  nearest_of : (p : Point) (e : Edge) → Nearest p → Contains All' e → (far p ≤ far e.0) × (far p ≤ far e.1)
  nearest_of p e least listed = All-contains (λ (d : Edge). (far p ≤ far d.0) × (far p ≤ far d.1)) All' e least listed

  beyond : (e : Edge) → Contains All' e → IsNearPoint t m q e.1 → Nearest e.1 → Held ⊎ (pos 0 <ℤ ahead unit radius m q e e.1)
  beyond e listed near least =
      ⊎_elim (λ h. inl (by_section e listed h)) (λ h. inr h)
      (beyond_end t m e.0 e.1 (step unit radius e) q fine (wide e listed) near (nearest_of e.1 e least listed).0 (All-contains Sides All' e free.sides listed).1)

  before : (e : Edge) → Contains All' e → IsNearPoint t m q e.0 → Nearest e.0 → Held ⊎ (ahead unit radius m q e e.0 <ℤ pos 0)
  before e listed near least =
      ⊎_elim (λ h. inl (by_section e listed h)) (λ h. inr h)
      (before_start t m e.0 e.1 (step unit radius e) q fine (wide e listed) near (nearest_of e.0 e least listed).1 (All-contains Sides All' e free.sides listed).0)

  -- at a corner that is nearest
  corner : (c : EdgePair) → Contains (neighbours closed All') c → IsNearPoint t m q c.0.1 → Nearest c.0.1 → Held
  corner c listed near least =
      ⊎_elim (λ (h : Held). h)
      (λ (after : pos 0 <ℤ ahead unit radius m q c.0 c.0.1).
      ⊎_elim (λ (h : Held). h)
      (λ (h : ahead unit radius m q c.1 c.1.0 <ℤ pos 0).
      by_corner c listed
      (join_holds unit some radius t m q join c met near after (subst (λ (p : Point). ahead unit radius m q c.1 p <ℤ pos 0) (sym met.met) h)
      (All-contains (λ (k : EdgePair). FansHaveRoom t (facing k).0.1 (outer_edges unit radius join (facing k))) (neighbours closed All') c joins listed)
      (All-contains (λ (k : EdgePair). AreBeside m q (facing k).0.1 (outer_edges unit radius join (facing k))) (neighbours closed All') c free.joins listed)))
      (before c.1 both.1 (subst (IsNearPoint t m q) met.met near) (subst Nearest met.met least)))
      (beyond c.0 both.0 near least)
    where
      met : IsMet c
      met = All-contains IsMet (neighbours closed All') c (corners_met closed All' chain) listed

      both : Contains All' c.0 × Contains All' c.1
      both =
          All-contains (λ (k : EdgePair). Contains All' k.0 × Contains All' k.1) (neighbours closed All') c
          (neighbours_all (Contains All') closed All' (All-contains_itself All')) listed

  -- at the end of the last edge of an open path
  last_end : closed ≡ false → IsNearPoint t m q (last_of first rest).1 → pos 0 <ℤ ahead unit radius m q (last_of first rest) (last_of first rest).1 → Held
  last_end is_open near after =
      ⊎_elim
      (λ room.
      among m q (cap_pieces unit radius end (last_of first rest)) Pieces
      (cap_holds unit some radius t m q end (last_of first rest) room near free.at_end after)
      (λ p at.
      by_end p
      (subst (λ (b : Bool). Contains (end_pieces unit radius Both start end b first (last_of first rest)) p) (sym is_open)
      (Contains-append_right (cap_pieces unit radius start (back first)) (cap_pieces unit radius end (last_of first rest)) p at))))
      (λ (h : ahead unit radius m q (last_of first rest) (last_of first rest).1 <ℤ pos 0). absurd (omega (arith, linear, h, after))) (end_room is_open)

  first_start : closed ≡ false → IsNearPoint t m q first.0 → ahead unit radius m q first first.0 <ℤ pos 0 → Held
  first_start is_open near after =
      ⊎_elim
      (λ room.
      among m q (cap_pieces unit radius start (back first)) Pieces
      (cap_holds unit some radius t m q start (back first) room near free.at_start
      (let e = ahead_back unit radius m q first first.0 some (apart first (in_first first rest)) in omega (arith, linear, e, after)))
      (λ p at.
      by_end p
      (subst (λ (b : Bool). Contains (end_pieces unit radius Both start end b first (last_of first rest)) p) (sym is_open)
      (Contains-append_left (cap_pieces unit radius start (back first)) (cap_pieces unit radius end (last_of first rest)) p at))))
      (λ (h : pos 0 <ℤ ahead unit radius m q first first.0). absurd (omega (arith, linear, h, after))) (start_room is_open)

  at_end : (e : Edge) → Contains All' e → IsNearPoint t m q e.1 → Nearest e.1 → Held
  at_end e listed near least =
      ⊎_elim (λ (h : (f : Edge) × Contains (neighbours closed All') (e, f)). corner (e, h.0) h.1 near least)
      (λ (h : (closed ≡ false) × (e ≡ last_of first rest)).
      ⊎_elim (λ (k : Held). k)
      (λ (k : pos 0 <ℤ ahead unit radius m q e e.1).
      last_end h.0 (subst (λ (l : Edge). IsNearPoint t m q l.1) h.1 near) (subst (λ (l : Edge). pos 0 <ℤ ahead unit radius m q l l.1) h.1 k))
      (beyond e listed near least))
      (next closed first rest e listed)

  at_start : (e : Edge) → Contains All' e → IsNearPoint t m q e.0 → Nearest e.0 → Held
  at_start e listed near least =
      ⊎_elim
      (λ (h : (d : Edge) × Contains (neighbours closed All') (d, e)).
      let met : h.0.1 ≡ e.0 = (All-contains IsMet (neighbours closed All') (h.0, e) (corners_met closed All' chain) h.1).met in
      corner (h.0, e) h.1 (subst (IsNearPoint t m q) (sym met) near) (subst Nearest (sym met) least))
      (λ (h : (closed ≡ false) × (e ≡ first)).
      ⊎_elim (λ (k : Held). k)
      (λ (k : ahead unit radius m q e e.0 <ℤ pos 0).
      first_start h.0 (subst (λ (l : Edge). IsNearPoint t m q l.0) h.1 near) (subst (λ (l : Edge). ahead unit radius m q l l.0 <ℤ pos 0) h.1 k))
      (before e listed near least))
      (previous closed first rest e listed)

  -- a point near to some vertex is near to the nearest
  near_vertex : (p : Point) → IsNearPoint t m q p → ((least : IsNearestEnd far All') → far least.at ≤ far p) → Held
  near_vertex p near closer =
      let l : IsNearestEnd far All' = nearest_end far first rest in
      let k : far l.at ≤ far p = closer l in
      let at : IsNearPoint t m q l.at = omega (arith, k, near) in
      ⊎_elim (λ (h : l.at ≡ l.edge.0). at_start l.edge l.listed (subst (IsNearPoint t m q) h at) (subst Nearest h l.least))
      (λ (h : l.at ≡ l.edge.1). at_end l.edge l.listed (subst (IsNearPoint t m q) h at) (subst Nearest h l.least)) l.is_end

  pub near_section : (e : Edge) (c : Point) → Contains All' e → IsOn (refined_edge m e) c → 2 * length_sq (minus q c) + 2 * (m * m) < t * (m * m) → Held
  near_section e c listed on near =
      ⊎_elim (λ h. by_section e listed h)
      (λ h.
      ⊎_elim (λ (k : IsNearPoint t m q e.0). near_vertex e.0 k (λ least. (nearest_of least.at e least.least listed).0))
      (λ (k : IsNearPoint t m q e.1). near_vertex e.1 k (λ least. (nearest_of least.at e least.least listed).1)) h)
      (section_or_end t m e.0 e.1 (step unit radius e) q c fine (wide e listed) on near)
