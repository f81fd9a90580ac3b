-- What is made of operands is exact away from the edges that are drawn of them. Distances are in 64ths of a grid unit.
-- Coordinates are of a type with `unit`.
use Rattle.std.specs.Prelude.{ℕ, ◌≡◌, ◌<◌, ◌⊎◌, ◌++◌, Bool, true, List, [], length, get_or, max, nat_le, count_by}
use Rattle.std.specs.List.{All, flat_map}
use Rattle.mesh_plane.specs.Plane.{Point, Edge}
use Rattle.mesh_plane.specs.Winding.{winding}
use Rattle.mesh_lattice.specs.FillRules.{filled_by}
use Rattle.mesh_lattice.specs.Nearness.{IsFarFrom, StaysNear}
use Rattle.mesh_lattice.specs.Split.{occurs}
use Rattle.mesh_shapes.specs.Resolution.{Choices}
use Rattle.mesh_offset.specs.Adding.{answer_edges}
use Rattle.mesh_offset.specs.Regions.{WindsOnceWhere, wind_above}
use Rattle.mesh_outline.specs.Nearness.{all_drawn}
use Rattle.mesh_outline.specs.Regions.{more_fill}
use Rattle.mesh_stroke.specs.Regions.{all_pieces}
use Rattle.mesh_stroke.specs.Resolved.{all_edges}
use Rattle.mesh_variable_stroke.specs.Regions.{all_pieces as all_variable_pieces}
use Rattle.mesh_variable_stroke.specs.Resolved.{all_edges as all_variable_edges}
use Rattle.mesh_boolean.specs.Booleans.{closed_edges}
use Rattle.mesh_boolean.specs.Overlaps.{IsListed, Overlap}
use Rattle.mesh_boolean.specs.Rules.{combine, way_of, winding_rule_for}
use Rattle.mesh_boolean.specs.declared.rule.BooleanFill.{BooleanFill}
use Rattle.mesh_boolean.specs.declared.rule.BooleanFillRule.{BooleanFillRule}
use Rattle.mesh_boolean.specs.declared.rule.BooleanRule.{BooleanRule}
use Rattle.mesh_boolean.specs.declared.rule.BooleanRule.TheVariants.{Intersect}
use Rattle.mesh_boolean.specs.declared.rule.Way.{Way}
use Rattle.mesh_boolean.specs.declared.rule.Way.TheVariants as way
use Rattle.mesh_drawing.specs.Drawn.{as_outline, as_stroke, as_variable_stroke}
use Rattle.mesh_operands.specs.Combining.{Answered, as_overlap_list, as_shapes}
use Rattle.mesh_operands.specs.Nearness.{alike}
use Rattle.mesh_operands.specs.Operands.{Combined, Given, as_boolean, as_coverage, as_drawing, as_overlaps, as_paths}

-- ---- operands

-- the edges that are drawn of an operand; those of contours are their own
abbrev pub drawn_edges : ℕ → Given → List Edge
drawn_edges unit (as_paths paths) = closed_edges paths
drawn_edges unit (as_drawing (as_outline style paths)) = all_drawn unit style paths
drawn_edges unit (as_drawing (as_stroke style closed paths)) = all_edges unit style closed paths
drawn_edges unit (as_drawing (as_variable_stroke options paths)) = all_variable_edges unit options paths

-- an operand holds the point: the fill rule fills the winding of its contours there; of an outline, more contours fill
-- the point than clear it; of a stroke, the windings of all pieces add up to more than 0
abbrev pub operand_holds : ℕ → BooleanFillRule → ℕ → Point → Given → Bool
operand_holds unit fill m q (as_paths paths) = filled_by (winding_rule_for fill) (winding m q (closed_edges paths))
operand_holds unit fill m q (as_drawing (as_outline style paths)) = more_fill unit style paths m q
operand_holds unit fill m q (as_drawing (as_stroke style closed paths)) =
    wind_above (all_pieces unit style closed paths) m q
operand_holds unit fill m q (as_drawing (as_variable_stroke options paths)) =
    wind_above (all_variable_pieces unit options paths) m q

-- ---- shapes

-- shapes are exact at each point farther than `k` from each of these edges, on every grid: with no least area and outer
-- contours counterclockwise they wind there once where the test is true, and nowhere else; and each point of their contours
-- lies within `k` of such an edge
pub record AreExactBeyond (k : ℕ) (edges : List Edge) (test : ℕ → Point → Bool) (choices : Choices)
    (answer : List (List (List Point))) : Type 0 where
  pub fills : WindsOnceWhere test (λ m q. IsFarFrom k m edges q) choices answer
  pub close : (e : Edge) → occurs e (answer_edges answer) ≡ true → StaysNear k edges e

-- the edges that are drawn of the operands that a boolean looks at
abbrev pub edges_for : Way → ℕ → Given → Given → List Edge
edges_for way.Subject unit subject clip = drawn_edges unit subject
edges_for way.Clip unit subject clip = drawn_edges unit clip
edges_for (way.Together sense sum) unit subject clip = drawn_edges unit subject ++ drawn_edges unit clip

-- a boolean keeps the point, by whether the subject and the clip hold it
abbrev pub is_kept : ℕ → BooleanRule → BooleanFill → Given → Given → ℕ → Point → Bool
is_kept unit rule fill subject clip m q =
    combine rule (operand_holds unit fill.subject m q subject) (operand_holds unit fill.clip m q clip)

-- at least so many zones hold the point, and one at least
abbrev pub is_covered : ℕ → ℕ → BooleanFillRule → List Given → ℕ → Point → Bool
is_covered unit least fill zones m q = nat_le (max least 1) (count_by (operand_holds unit fill m q) zones)

-- the shapes that are made of operands are exact away from all edges that are drawn of these: of a boolean where it keeps
-- the point, of a coverage where so many zones hold it
abbrev pub AreExactShapes : ℕ → ℕ → Choices → Combined → List (List (List Point)) → Type 0
AreExactShapes k unit choices (as_boolean rule fill subject clip) =
    AreExactBeyond k (edges_for (way_of rule) unit subject clip) (is_kept unit rule fill subject clip) choices
AreExactShapes k unit choices (as_coverage least fill zones) =
    AreExactBeyond k (flat_map (drawn_edges unit) zones) (is_covered unit least fill zones) choices
AreExactShapes k unit choices (as_overlaps fill zones) = λ answer. ⊥

-- ---- pairs of zones

-- what two zones have in common is exact so: it winds once where both hold the point
abbrev pub IsExactPair : ℕ → ℕ → BooleanFillRule → Choices → List Given → ℕ → ℕ → List (List (List Point)) → Type 0
IsExactPair k unit fill choices zones i j =
    AreExactShapes k unit choices
    (as_boolean Intersect (alike fill) (get_or zones i (as_paths [])) (get_or zones j (as_paths [])))

-- the shapes of each pair that is listed are exact so; and where a pair is not listed, that it has none is exact
pub record AreExactPairs (k unit : ℕ) (fill : BooleanFillRule) (choices : Choices) (zones : List Given)
    (found : List Overlap) : Type 0 where
  pub listed : All (λ o. IsExactPair k unit fill choices zones o.0 o.1.0 o.1.1) found
  pub others : (i j : ℕ) → i < j → j < length zones
      → IsListed found i j ⊎ IsExactPair k unit fill choices zones i j []

-- so are the pairs that are found among these operands
abbrev pub AreExactOverlaps : ℕ → ℕ → Choices → Combined → List Overlap → Type 0
AreExactOverlaps k unit choices (as_boolean rule fill subject clip) found = ⊥
AreExactOverlaps k unit choices (as_coverage least fill zones) found = ⊥
AreExactOverlaps k unit choices (as_overlaps fill zones) found = AreExactPairs k unit fill choices zones found

-- what is made of operands is exact away from all edges that are drawn of them
abbrev pub IsExactBeyond : ℕ → ℕ → Choices → Combined → Answered → Type 0
IsExactBeyond k unit choices combined (as_shapes answer) = AreExactShapes k unit choices combined answer
IsExactBeyond k unit choices combined (as_overlap_list found) = AreExactOverlaps k unit choices combined found
