-- Lemmas over points and lists: what is drawn over a closed list of sections is their own edges and the boundaries of the pieces.
use Rattle.std.proofs.Common.{◌≡◌, List, [], ◌∷◌, ◌++◌, refl, sym, ◌∙◌, ap, arith}
use Rattle.std.specs.Prelude.{ℤ, pos, ◌+ℤ◌, ◌-ℤ◌, Bool, true, false, cond, map}
use Rattle.std.specs.List.{All, flat_map}
use Rattle.std.proofs.lemmas.List.Elements.{All-weaker}
use Rattle.mesh_plane.specs.Plane.{Point}
use Rattle.mesh_plane.specs.Winding.{sum_of, total, boundary, fan, pieces_total, same_point, IsOdd}
use Rattle.mesh_plane.proofs.Whole.{linear}
use Rattle.mesh_plane.proofs.Sums.{sum_of_add, sum_of_none, sum_of_equal, total_append, total_flat_map, pieces_total_append, pieces_total_flat_map, pieces_total_map, sum_of_zero}
use Rattle.mesh_plane.proofs.ClosedLists.{boundary_ends, boundary_all, all_both}
use Rattle.mesh_plane.proofs.Pieces.{fan_total}
use Rattle.mesh_plane.proofs.Comparing.{decides_point}
use Rattle.mesh_join.specs.Joins.{between, through}
use Rattle.mesh_offset.proofs.ProperEdges.{proper_edges_total}
use Rattle.mesh_outline.specs.Outline.{Section, SectionPair, own_edge, top_edge, strip, inner_edges}
use Rattle.mesh_outline.specs.Outline.{outer_edges, corner_edges, corner_pieces, drawn_edges, drawn_pieces}

-- each corner's second section starts where its first ends
abbrev pub IsClosed : List Section → Type 0
IsClosed sections = All (λ (c : SectionPair). c.0.b ≡ c.1.a) (boundary sections)

module _ (f : Point → Point → ℤ) (odd : IsOdd f) where
  top_total : (s : Section) → f s.a_top s.b_top ≡ (f s.a s.b +ℤ total f (boundary (strip s))) +ℤ (f s.b s.b_top -ℤ f s.a s.a_top)
  top_total s = omega (arith, linear, odd s.b s.b_top, odd s.a s.b)

  tops_total : (sections : List Section) →
      total f (map top_edge sections) ≡ (total f (map own_edge sections) +ℤ pieces_total f (map strip sections)) +ℤ sum_of (λ s. f s.b s.b_top -ℤ f s.a s.a_top) sections
  tops_total [] = omega (arith, linear)
  tops_total (s ∷ sections) = omega (arith, linear, top_total s, tops_total sections)

  corner_total : (is_outer : SectionPair → Bool) (join : SectionPair → List Point) (c : SectionPair) → c.0.b ≡ c.1.a →
      total f (corner_edges is_outer join c) ≡ pieces_total f (corner_pieces is_outer join c) +ℤ (f c.0.b_top c.0.b +ℤ f c.1.a c.1.a_top)
  corner_total is_outer join c e = by (is_outer c)
    where
      list : List Point
      list = between c.0.b_top (join c) c.1.a_top

      by : (b : Bool) → total f (cond b (outer_edges join c) (inner_edges c)) ≡ pieces_total f (cond b (fan c.0.b (outer_edges join c)) []) +ℤ (f c.0.b_top c.0.b +ℤ f c.1.a c.1.a_top)
      by true =
          omega (arith, linear, fan_total f odd c.0.b c.0.b_top list c.1.a_top, odd c.0.b c.0.b_top, odd c.0.b c.1.a_top, ap (λ v. f v c.1.a_top) e)
      by false = omega (arith, linear)

  corners_total : (is_outer : SectionPair → Bool) (join : SectionPair → List Point) (sections : List Section) → IsClosed sections →
      total f (flat_map (corner_edges is_outer join) (boundary sections)) ≡ pieces_total f (flat_map (corner_pieces is_outer join) (boundary sections)) +ℤ sum_of (λ s. f s.a s.a_top +ℤ f s.b_top s.b) sections
  corners_total is_outer join sections closed =
      let edges = total_flat_map f (corner_edges is_outer join) (boundary sections) in
      let pieces = pieces_total_flat_map f (corner_pieces is_outer join) (boundary sections) in
      let ends = boundary_ends (λ (s : Section). f s.b_top s.b) (λ (s : Section). f s.a s.a_top) sections in
      let each : All (λ (c : SectionPair). total f (corner_edges is_outer join c) ≡ pieces_total f (corner_pieces is_outer join c) +ℤ (f c.0.b_top c.0.b +ℤ f c.1.a c.1.a_top)) (boundary sections) =
      All-weaker (λ (c : SectionPair). c.0.b ≡ c.1.a) (λ (c : SectionPair). total f (corner_edges is_outer join c) ≡ pieces_total f (corner_pieces is_outer join c) +ℤ (f c.0.b_top c.0.b +ℤ f c.1.a c.1.a_top))
      (λ c e. corner_total is_outer join c e) (boundary sections) closed in
      let sums = sum_of_equal (λ (c : SectionPair). total f (corner_edges is_outer join c)) (λ (c : SectionPair). pieces_total f (corner_pieces is_outer join c) +ℤ (f c.0.b_top c.0.b +ℤ f c.1.a c.1.a_top)) (boundary sections) each in
      let split = sum_of_add (λ (c : SectionPair). pieces_total f (corner_pieces is_outer join c)) (λ (c : SectionPair). f c.0.b_top c.0.b +ℤ f c.1.a c.1.a_top) (boundary sections) in
      omega (arith, linear, edges, pieces, ends, sums, split)

  pub drawn_total : (is_outer : SectionPair → Bool) (join : SectionPair → List Point) (sections : List Section) → IsClosed sections →
      total f (drawn_edges is_outer join sections) ≡ total f (map own_edge sections) +ℤ pieces_total f (drawn_pieces is_outer join sections)
  unfolding drawn_edges drawn_pieces
  drawn_total is_outer join sections closed =
      let tops = map top_edge sections in
      let corners = flat_map (corner_edges is_outer join) (boundary sections) in
      let both = sum_of_add (λ (s : Section). f s.b s.b_top -ℤ f s.a s.a_top) (λ (s : Section). f s.a s.a_top +ℤ f s.b_top s.b) sections in
      let none = sum_of_none (λ (s : Section). (f s.b s.b_top -ℤ f s.a s.a_top) +ℤ (f s.a s.a_top +ℤ f s.b_top s.b)) (λ s. omega (arith, linear, odd s.b s.b_top)) sections in
      omega (
        arith,
        linear,
        proper_edges_total f odd (tops ++ corners),
        total_append f tops corners,
        tops_total sections,
        corners_total is_outer join sections closed,
        both,
        none,
        pieces_total_append f (map strip sections) (flat_map (corner_pieces is_outer join) (boundary sections)),
      )

-- a section that has not moved
abbrev pub Stays : Section → Type 0
Stays s = (s.a_top ≡ s.a) × (s.b_top ≡ s.b)

-- where no section has moved, the pieces add nothing
module _ (f : Point → Point → ℤ) (odd : IsOdd f) where
  none_round : (p : Point) → f p p ≡ pos 0
  none_round p = omega (arith, linear, odd p p)

  still_strip : (s : Section) → Stays s → total f (boundary (strip s)) ≡ pos 0
  still_strip s (ea, eb) =
      omega (
        arith,
        linear,
        odd s.a s.b,
        none_round s.a,
        none_round s.b,
        ap (λ p. f s.a p) ea,
        ap (λ p. f p s.b_top) ea,
        ap (λ p. f s.a p) eb,
        ap (λ p. f p s.b) eb,
      )

  still_fan : (v p r : Point) (xs : List Point) → p ≡ v → r ≡ v → pieces_total f (fan v (through p xs r)) ≡ pos 0
  still_fan v p r xs ep er =
      let same : same_point p r ≡ true = rw (ep, er) ((decides_point v v).1 refl) in
      rw same (omega (arith, linear, none_round v, ap (λ x. f v x) ep, ap (λ x. f x r) ep, ap (λ x. f v x) er, ap (λ x. f x v) er))

  still_corner : (is_outer : SectionPair → Bool) (join : SectionPair → List Point) (c : SectionPair) → Stays c.0 → Stays c.1 → c.0.b ≡ c.1.a →
      pieces_total f (corner_pieces is_outer join c) ≡ pos 0
  still_corner is_outer join c p n e = by (is_outer c)
    where
      by : (b : Bool) → pieces_total f (cond b (fan c.0.b (outer_edges join c)) []) ≡ pos 0
      by true = still_fan c.0.b c.0.b_top c.1.a_top (join c) p.1 (n.0 ∙ sym e)
      by false = refl

  pub still_total : (is_outer : SectionPair → Bool) (join : SectionPair → List Point) (sections : List Section) → IsClosed sections → All Stays sections →
      pieces_total f (drawn_pieces is_outer join sections) ≡ pos 0
  unfolding drawn_pieces
  still_total is_outer join sections closed still =
      let strips = pieces_total_map f strip sections in
      let fans = pieces_total_flat_map f (corner_pieces is_outer join) (boundary sections) in
      let each : All (λ s. total f (boundary (strip s)) ≡ pos 0) sections =
      All-weaker Stays (λ s. total f (boundary (strip s)) ≡ pos 0) still_strip sections still in
      let at : All (λ (c : SectionPair). pieces_total f (corner_pieces is_outer join c) ≡ pos 0) (boundary sections) =
      All-weaker (λ (c : SectionPair). (Stays c.0 × Stays c.1) × (c.0.b ≡ c.1.a)) (λ (c : SectionPair). pieces_total f (corner_pieces is_outer join c) ≡ pos 0)
      (λ c h. still_corner is_outer join c h.0.0 h.0.1 h.1) (boundary sections)
      (all_both (λ (c : SectionPair). Stays c.0 × Stays c.1) (λ (c : SectionPair). c.0.b ≡ c.1.a) (boundary sections) (boundary_all Stays sections still) closed) in
      omega (
        arith,
        linear,
        strips,
        fans,
        pieces_total_append f (map strip sections) (flat_map (corner_pieces is_outer join) (boundary sections)),
        sum_of_zero (λ s. total f (boundary (strip s))) sections each,
        sum_of_zero (λ (c : SectionPair). pieces_total f (corner_pieces is_outer join c)) (boundary sections) at,
      )
