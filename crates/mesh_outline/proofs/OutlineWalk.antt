-- Lemmas over points and lists: an outline drawn section by section, and how many edges it has.
use Rattle.std.proofs.Common.{◌≡◌, ◌*◌, ◌≤◌, List, [], ◌∷◌, ◌++◌, length, refl, ◌∙◌, ap, arith, length-append}
use Rattle.std.specs.Prelude.{Bool, true, false, cond, map}
use Rattle.std.specs.List.{All, flat_map}
use Rattle.std.specs.List.Sorted.{IsPermutation}
use Rattle.std.proofs.lemmas.List.Elements.{All-head, All-tail}
use Rattle.mesh_plane.specs.Plane.{Point, Edge}
use Rattle.mesh_plane.specs.Winding.{boundary}
use Rattle.mesh_plane.proofs.ClosedLists.{woven, woven_round, boundary_length}
use Rattle.mesh_num.specs.Segments.{proper_edges}
use Rattle.mesh_offset.proofs.ProperEdges.{proper_append, proper_flat_map, proper_length}
use Rattle.mesh_outline.specs.Outline.{Section, SectionPair, top_edge, inner_edges}
use Rattle.mesh_outline.specs.Outline.{outer_edges, corner_edges, drawn_edges}

-- what one section and what one corner draw
abbrev pub drawn_top : Section → List Edge
drawn_top s = proper_edges (top_edge s ∷ [])

abbrev pub drawn_corner : (SectionPair → Bool) → (SectionPair → List Point) → SectionPair → List Edge
drawn_corner is_outer join c = proper_edges (corner_edges is_outer join c)

tops_without : (sections : List Section) → proper_edges (map top_edge sections) ≡ flat_map drawn_top sections
tops_without [] = refl
tops_without (s ∷ sections) =
    proper_append (top_edge s ∷ []) (map top_edge sections) ∙ ap (λ l. drawn_top s ++ l) (tops_without sections)

pub drawn_by_parts : (is_outer : SectionPair → Bool) (join : SectionPair → List Point) (sections : List Section) →
    drawn_edges is_outer join sections ≡ flat_map drawn_top sections ++ flat_map (drawn_corner is_outer join) (boundary sections)
unfolding drawn_edges
drawn_by_parts is_outer join sections =
    proper_append (map top_edge sections) (flat_map (corner_edges is_outer join) (boundary sections))
    ∙ (ap (λ l. l ++ proper_edges (flat_map (corner_edges is_outer join) (boundary sections))) (tops_without sections)
    ∙ ap (λ l. flat_map drawn_top sections ++ l) (proper_flat_map (corner_edges is_outer join) (boundary sections)))

-- a walk that draws the first section, then each next one with the corner before it, in either order, and at last the corner back
pub drawn_by_walk : (is_outer : SectionPair → Bool) (join : SectionPair → List Point) (step : Section → Section → List Edge) →
    ((p n : Section) → IsPermutation (step p n) (drawn_top n ++ drawn_corner is_outer join (p, n))) → (first : Section) (rest : List Section) →
    IsPermutation (drawn_top first ++ woven step (drawn_corner is_outer join) first rest first) (drawn_edges is_outer join (first ∷ rest))
drawn_by_walk is_outer join step mixed first rest =
    rw (drawn_by_parts is_outer join (first ∷ rest)) (woven_round drawn_top (drawn_corner is_outer join) step mixed first rest)

-- how many edges
corner_length : (is_outer : SectionPair → Bool) (join : SectionPair → List Point) (c : SectionPair) → (is_outer c ≡ true → length (outer_edges join c) ≤ 3) → length (corner_edges is_outer join c) ≤ 3
corner_length is_outer join c few = by (is_outer c) refl
  where
    by : (b : Bool) → is_outer c ≡ b → length (cond b (outer_edges join c) (inner_edges c)) ≤ 3
    by true h = few h
    by false h = omega arith

-- joins of at most three edges give at most four edges a section
pub drawn_length : (is_outer : SectionPair → Bool) (join : SectionPair → List Point) (sections : List Section) →
    All (λ (c : SectionPair). is_outer c ≡ true → length (outer_edges join c) ≤ 3) (boundary sections) → length (drawn_edges is_outer join sections) ≤ 4 * length sections
drawn_length is_outer join sections few =
    rw (drawn_by_parts is_outer join sections)
    (omega (arith, length-append (flat_map drawn_top sections) (flat_map (drawn_corner is_outer join) (boundary sections)), tops sections, all_corners (boundary sections) few, boundary_length sections))
  where
    IsFew : SectionPair → Type 0
    IsFew c = is_outer c ≡ true → length (outer_edges join c) ≤ 3

    tops : (ss : List Section) → length (flat_map drawn_top ss) ≤ length ss
    tops [] = omega arith
    tops (s ∷ ss) = omega (arith, tops ss, length-append (drawn_top s) (flat_map drawn_top ss), proper_length (top_edge s ∷ []))

    all_corners : (cs : List SectionPair) → All IsFew cs → length (flat_map (drawn_corner is_outer join) cs) ≤ 3 * length cs
    all_corners [] h = omega arith
    all_corners (c ∷ cs) h =
        omega (
          arith,
          all_corners cs (All-tail IsFew c cs h),
          length-append (drawn_corner is_outer join c) (flat_map (drawn_corner is_outer join) cs),
          proper_length (corner_edges is_outer join c),
          corner_length is_outer join c (All-head IsFew c cs h),
        )
