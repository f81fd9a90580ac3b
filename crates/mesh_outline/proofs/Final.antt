-- Lemmas over points and lists: what contours give to the last resolving closes up.
use Rattle.std.proofs.Common.{◌≡◌, ℕ, ◌≤◌, ◌^◌, List, [], ◌∷◌, ◌++◌, map, refl}
use Rattle.std.specs.List.{AllZip, flat_map}
use Rattle.std.specs.List.Sorted.{IsPermutation}
use Rattle.std.proofs.lemmas.List.Sorted.{IsPermutation-sym}
use Rattle.mesh_plane.specs.Plane.{Point, Edge}
use Rattle.mesh_plane.specs.Winding.{IsBalanced, boundary}
use Rattle.mesh_plane.proofs.Balance.{balanced_append, balanced_permutation}
use Rattle.mesh_num.specs.Paths.{contours_of}
use Rattle.mesh_num.specs.Segments.{proper_edges}
use Rattle.mesh_lattice.specs.Clean.{IsProper}
use Rattle.mesh_lattice.specs.FillRules.{filled}
use Rattle.mesh_lattice.specs.declared.fill.FillRule.{FillRule}
use Rattle.mesh_lattice.specs.declared.fill.FillRule.TheVariants.{Positive}
use Rattle.mesh_below.specs.Options.{plain}
use Rattle.mesh_outline.specs.Outline.{outline_edges, drawn_edges, section_of, top_edge, corner_edges, parts, joined}
use Rattle.mesh_outline.proofs.Promised.{has_promised_edges}
use Rattle.mesh_shapes.specs.Contours.{double_area}
use Rattle.mesh_shapes.specs.Resolution.{Choices}
use Rattle.mesh_below.specs.Laws.{AreRegions}
use Rattle.mesh_below.proofs.AnswerRegions.{regions_made, filled_none}
use Rattle.mesh_offset.proofs.ProperEdges.{proper_kept, proper_permutation}
use Rattle.mesh_join.specs.Cleaned.{cleaned_sections}
use Rattle.mesh_join.specs.Styles.{OffsetJoin, OutlineStyle}
use Rattle.mesh_offset.specs.Adding.{answer_edges}
use Rattle.mesh_offset.proofs.Resolving.{contours_balanced, in_sense_balanced, proper_balanced}
use Rattle.mesh_outline.specs.Resolved.{fill_for, IsAnswerAlone, Gives, Give, IsOutline}

gives_balanced : (unit : ℕ) (style : OutlineStyle) (contour : List Point) (edges : List Edge) → Gives unit style contour edges → IsBalanced edges
gives_balanced unit style contour _ (Gives.moved {way = way} {answer = answer} moves a) =
    in_sense_balanced (fill_for (double_area contour)) (answer_edges answer) (contours_balanced (contours_of answer))
gives_balanced unit style contour _ (Gives.ignored none) = λ p. refl

edges_balanced : (unit : ℕ) (style : OutlineStyle) (contours : List (List Point)) (edges : List (List Edge)) → AllZip (Gives unit style) contours edges →
    IsBalanced (flat_map (λ (es : List Edge). es) edges)
edges_balanced unit style [] [] each = λ p. refl
edges_balanced unit style [] (es ∷ edges) each = absurd each
edges_balanced unit style (contour ∷ contours) [] each = absurd each
edges_balanced unit style (contour ∷ contours) (es ∷ edges) each =
    balanced_append es (flat_map (λ (es : List Edge). es) edges) (gives_balanced unit style contour es each.0) (edges_balanced unit style contours edges each.1)

give_balanced : (unit : ℕ) (style : OutlineStyle) (contours : List (List Point)) (given : List Edge) → Give unit style contours given → IsBalanced given
give_balanced unit style contours given give = rw give.joined (edges_balanced unit style contours give.edges give.each)

-- what contours give can be resolved
pub final_edges : (unit : ℕ) (style : OutlineStyle) (contours : List (List Point)) (given : List Edge) → Give unit style contours given →
    IsProper (proper_edges given) × IsBalanced (proper_edges given)
final_edges unit style contours given give = (proper_kept given, proper_balanced given (give_balanced unit style contours given give))

-- and its resolution is made of regions
pub outline_regions : (unit : ℕ) (style : OutlineStyle) (choices : Choices) (contours : List (List Point)) (answer : List (List (List Point))) →
    (outline : IsOutline unit style choices contours answer) →
    (made : AreRegions (proper_edges outline.given) (filled Positive) choices answer) × (made.resolution ≡ outline.resolution)
outline_regions unit style choices contours answer outline =
    let final = final_edges unit style contours outline.given outline.give in
    regions_made (proper_edges outline.given) (filled Positive) choices answer final.0 final.1 (filled_none Positive) outline.resolution

-- ---- one contour alone

outline_proper : (unit : ℕ) (style : OffsetJoin) (contour : List Point) → IsProper (outline_edges unit style contour)
unfolding drawn_edges
outline_proper unit style contour =
    let sections = map (section_of unit style.offset) (cleaned_sections contour) in
    proper_kept (map top_edge sections ++ flat_map (corner_edges (parts style.offset) (joined unit style)) (boundary sections))

-- the edges that one contour is resolved of close up
pub alone_closed : (unit : ℕ) (style : OffsetJoin) (rule : FillRule) (contour : List Point) (answer : List (List (List Point))) → 2 ^ 14 ≤ unit →
    (alone : IsAnswerAlone unit style (filled rule) contour answer) → IsProper alone.built × IsBalanced alone.built
alone_closed unit style rule contour answer least alone =
    let same : IsPermutation (outline_edges unit style contour) alone.built = IsPermutation-sym alone.built (outline_edges unit style contour) alone.same in (
      proper_permutation (outline_edges unit style contour) alone.built same (outline_proper unit style contour),
      balanced_permutation (outline_edges unit style contour) alone.built same (has_promised_edges unit style contour least).balanced,
    )

-- what comes of one contour is made of regions too
pub alone_regions : (unit : ℕ) (style : OffsetJoin) (rule : FillRule) (contour : List Point) (answer : List (List (List Point))) → 2 ^ 14 ≤ unit →
    (alone : IsAnswerAlone unit style (filled rule) contour answer) →
    (made : AreRegions alone.built (filled rule) plain answer) × (made.resolution ≡ alone.resolution)
alone_regions unit style rule contour answer least alone =
    let closed = alone_closed unit style rule contour answer least alone in
    regions_made alone.built (filled rule) plain answer closed.0 closed.1 (filled_none rule) alone.resolution
