-- Calls for booleans of contours in lists, and what they leave in the caller's room.
use Rattle.std.specs.Prelude.{ℕ, ℤ, List, Result}
use Rattle.mesh_arrays.specs.Booleans.{Boolean, IsBooleanAnswer, IsBooleanOf, IsNearBooleanAnswer, boolean_of}
use Rattle.mesh_arrays.specs.EndToEnd.{PathLists}
use Rattle.mesh_arrays.specs.Failures.{IsRead, read_as}
use Rattle.mesh_arrays.specs.Numbers.{whole_point}
use Rattle.mesh_arrays.specs.ShapeRooms.{LeavesNear, LeavesShapes, NearRoom, ShapeRoom}
use Rattle.mesh_arrays.specs.Telling.{Returns, TellsAnswer}
use Rattle.mesh_arrays.specs.declared.boolean.ContourBoolean.{ContourBoolean}
use Rattle.mesh_arrays.specs.declared.boolean.FlatBoolean.{FlatBoolean}
use Rattle.mesh_arrays.specs.declared.failure.Failure.{Failure}
use Rattle.mesh_arrays.specs.declared.options.FlatOptions.{FlatOptions}
use Rattle.mesh_arrays.specs.declared.outcome.Outcome.{Outcome}

-- what a boolean stands for whose coordinates are whole numbers to contracts
abbrev pub whole_boolean : ContourBoolean ℤ ℤ ℕ → Boolean
whole_boolean boolean = boolean_of boolean

-- a boolean that is asked for of contours in lists of whole numbers
abbrev pub AsksBoolean : PathLists (List ℤ) → PathLists (List ℤ) → FlatBoolean → Boolean → Type 0
AsksBoolean subject clip asked = IsBooleanOf whole_point subject clip asked

-- a call for the boolean that `asks` names ends as `Ends` says of what was read
abbrev pub Combines : (Boolean → Type 0) → (Result Boolean Failure → Outcome → Type 0) → ℕ → Type 0
Combines asks Ends code =
    (read : Result (ContourBoolean ℤ ℤ ℕ) Failure) × IsRead whole_boolean asks read
    × Returns (Ends (read_as whole_boolean read)) code

-- a call for the shapes that the boolean keeps that `asks` names, with these options, in coordinates of a type with `unit`
abbrev pub TellsBoolean : ℕ → (Boolean → Type 0) → FlatOptions → ShapeRoom (List ℤ) → ShapeRoom (List ℤ) → ℕ → Type 0
TellsBoolean unit asks options old new code =
    Combines asks
    (λ read ended. TellsAnswer (IsBooleanAnswer unit whole_point options read) LeavesShapes old new ended) code

-- the same of a call for shapes and their nearness, by at most so many splits
abbrev pub TellsNearBoolean : ℕ → (Boolean → Type 0) → FlatOptions → ℕ → NearRoom (List ℤ) → NearRoom (List ℤ) → ℕ
    → Type 0
TellsNearBoolean unit asks options most old new code =
    Combines asks
    (λ read ended. TellsAnswer (IsNearBooleanAnswer unit whole_point options most read) LeavesNear old new ended) code
