-- What a request says that combines operands, as data of JSON. Coordinates are of a type with `unit`, which holds the whole
-- numbers from `-2 * unit` on that are below `2 * unit`.
use Rattle.std.specs.Prelude.{ℕ, ◌||◌, Bool, if◌then◌else◌, nat_lt, List, [], ◌∷◌, codes}
use Rattle.std.specs.Prelude.{Option, Some, None, is_some, option_map, option_and_then}
use Rattle.serde_json.specs.Data.{Data, Items, no_items, item}
use Rattle.serde_json.specs.Find.{get, as_str, as_array, as_object}
use Rattle.mesh_shapes.specs.Resolution.{Choices}
use Rattle.mesh_boolean.specs.declared.rule.BooleanFill.{BooleanFill}
use Rattle.mesh_boolean.specs.declared.rule.BooleanFillRule.{BooleanFillRule}
use Rattle.mesh_boolean.specs.declared.rule.BooleanFillRule.TheVariants as fill
use Rattle.mesh_boolean.specs.declared.rule.BooleanRule.{BooleanRule}
use Rattle.mesh_boolean.specs.declared.rule.BooleanRule.TheVariants as rule
use Rattle.mesh_drawing.specs.Parts.{both}
use Rattle.mesh_operands.specs.Operands.{Given, as_paths, as_drawing, Combined, as_boolean, as_coverage, as_overlaps}
use Rattle.mesh_request.specs.Reading.{is_word, says, small_number_of, path_list_of, drawn_in, choices_given, unit_of}
use Rattle.mesh_boolean_request.specs.Requests.{RequestedCombination}

-- the rule of booleans that a value names
abbrev pub rule_of : Data → Option BooleanRule
rule_of d =
    if is_word (codes "subject") (as_str d) then Some rule.Subject
    else if is_word (codes "clip") (as_str d) then Some rule.Clip
    else if is_word (codes "intersect") (as_str d) then Some rule.Intersect
    else if is_word (codes "union") (as_str d) then Some rule.Union
    else if is_word (codes "difference") (as_str d) then Some rule.Difference
    else if is_word (codes "inverse_difference") (as_str d) then Some rule.InverseDifference
    else if is_word (codes "xor") (as_str d) then Some rule.Xor
    else None

-- the fill rule that a value names
abbrev pub fill_rule_of : Data → Option BooleanFillRule
fill_rule_of d =
    if is_word (codes "even_odd") (as_str d) then Some fill.EvenOdd
    else if is_word (codes "non_zero") (as_str d) then Some fill.NonZero
    else if is_word (codes "positive") (as_str d) then Some fill.Positive
    else if is_word (codes "negative") (as_str d) then Some fill.Negative
    else None

-- the fill rule of all zones, other windings than 0 where there is none
abbrev pub fill_rule_given : Option Data → Option BooleanFillRule
fill_rule_given None = Some fill.NonZero
fill_rule_given (Some d) = fill_rule_of d

-- a fill rule for the subject and one for the clip
abbrev pub fill_with : BooleanFillRule × BooleanFillRule → BooleanFill
fill_with said = record { subject = said.0; clip = said.1 }

-- the same for both
abbrev pub fill_alike : BooleanFillRule → BooleanFill
fill_alike rule = record { subject = rule; clip = rule }

-- the fill rules that an object gives: {"subject":..,"clip":..}
abbrev pub fill_in : Data → Option BooleanFill
fill_in d =
    option_map fill_with
    (both (option_and_then fill_rule_of (get (codes "subject") d))
    (option_and_then fill_rule_of (get (codes "clip") d)))

-- the fill rules of the subject and the clip: one for both, or an object with both; other windings than 0 where there are
-- none
abbrev pub fill_given : Option Data → Option BooleanFill
fill_given None = Some (fill_alike fill.NonZero)
fill_given (Some d) = if is_some (as_object d) then fill_in d else option_map fill_alike (fill_rule_of d)

-- the number of zones that a value is, from 1 to 2^32 - 1
abbrev pub least_of : Data → Option ℕ
least_of d = option_and_then (λ n. if nat_lt 0 n then Some n else None) (small_number_of d)

-- the operand that a value is: a list of paths, or what an object says is drawn, of which `int`, `out` and `options` are
-- not looked at
abbrev pub operand_in : ℕ → Data → Option Given
operand_in unit d =
    if is_some (as_array d) then option_map as_paths (option_and_then (path_list_of unit) (as_array d))
    else option_map as_drawing (drawn_in unit d)

-- the operands that values are
abbrev pub zones_of : ℕ → Items → Option (List Given)
zones_of unit no_items = Some []
zones_of unit (item d ds) =
    option_and_then (λ z. option_map (λ zs. z ∷ zs) (zones_of unit ds)) (operand_in unit d)

-- the zones of a request
abbrev pub zones_in : ℕ → Data → Option (List Given)
zones_in unit d = option_and_then (zones_of unit) (option_and_then as_array (get (codes "zones") d))

-- a rule, fill rules, a subject and a clip, as a boolean
abbrev pub boolean_with : BooleanRule × (BooleanFill × (Given × Given)) → Combined
boolean_with said = as_boolean said.0 said.1.0 said.1.1.0 said.1.1.1

-- the boolean that is asked for, with coordinates of a type with `unit`
abbrev pub boolean_in : ℕ → Data → Option Combined
boolean_in unit d =
    option_map boolean_with
    (both (option_and_then rule_of (get (codes "rule") d))
    (both (fill_given (get (codes "fill") d))
    (both (option_and_then (operand_in unit) (get (codes "subject") d))
    (option_and_then (operand_in unit) (get (codes "clip") d)))))

-- a number of zones, a fill rule and zones, as a coverage
abbrev pub coverage_with : ℕ × (BooleanFillRule × List Given) → Combined
coverage_with said = as_coverage said.0 said.1.0 said.1.1

-- the coverage that is asked for, with coordinates of a type with `unit`
abbrev pub coverage_in : ℕ → Data → Option Combined
coverage_in unit d =
    option_map coverage_with
    (both (option_and_then least_of (get (codes "least") d))
    (both (fill_rule_given (get (codes "fill") d)) (zones_in unit d)))

-- a fill rule and zones, as overlaps
abbrev pub overlaps_with : BooleanFillRule × List Given → Combined
overlaps_with said = as_overlaps said.0 said.1

-- the overlaps that are asked for, with coordinates of a type with `unit`
abbrev pub overlaps_in : ℕ → Data → Option Combined
overlaps_in unit d = option_map overlaps_with (both (fill_rule_given (get (codes "fill") d)) (zones_in unit d))

-- what is combined, with coordinates of a type with `unit`
abbrev pub combination_in : ℕ → Data → Option Combined
combination_in unit d =
    if says (codes "op") (codes "boolean") d then boolean_in unit d
    else if says (codes "op") (codes "coverage") d then coverage_in unit d
    else if says (codes "op") (codes "overlaps") d then overlaps_in unit d
    else None

-- whether a request names a combination
abbrev pub names_combination : Data → Bool
names_combination d =
    says (codes "op") (codes "boolean") d || says (codes "op") (codes "coverage") d
    || says (codes "op") (codes "overlaps") d

-- the choices by which shapes are listed; nothing but shapes is listed of a combination
abbrev pub choices_asked : ℕ → Data → Option Choices
choices_asked unit d =
    if says (codes "out") (codes "shapes") d then choices_given unit (get (codes "options") d) else None

-- what is combined and the choices, as a request
abbrev pub combination_request_with : ℕ → Combined × Choices → RequestedCombination
combination_request_with unit said = record { unit = unit; combined = said.0; choices = said.1 }

-- the request with coordinates of a type with `unit`
abbrev pub combination_request_as : ℕ → Data → Option RequestedCombination
combination_request_as unit d =
    option_map (combination_request_with unit) (both (combination_in unit d) (choices_asked unit d))

-- the request that is served
abbrev pub combination_request_of : Data → Option RequestedCombination
combination_request_of d = option_and_then (λ unit. combination_request_as unit d) (unit_of d)
