-- Which operand may not take part first, and why. Coordinates are of a type with `unit`.
use Rattle.std.specs.Prelude.{ℕ, ◌≡◌, List, get_or, Some, pos, ◌-ℤ◌}
use Rattle.mesh_plane.specs.Bounds.{IsSafe}
use Rattle.mesh_plane.specs.Plane.{Point}
use Rattle.mesh_drawing.specs.Refusals.{IsFirstNot, IsFirstPlace, IsFirstRefusal}
use Rattle.mesh_operands.specs.Combining.{MayTakePart}
use Rattle.mesh_operands.specs.Operands.{Combined, Given, as_boolean, as_coverage, as_drawing, as_overlaps, as_paths}
use Rattle.mesh_operands.specs.declared.refusal.ContourRefusal.{ContourRefusal}
use Rattle.mesh_operands.specs.declared.refusal.OperandPlace.{OperandPlace}
use Rattle.mesh_operands.specs.declared.refusal.OperandReason.{OperandReason}
use Rattle.mesh_operands.specs.declared.refusal.OperandRefusal.{OperandRefusal}

-- the first point outside the safe range, path by path, with the end of that range
pub record IsContourRefusal (unit : ℕ) (paths : List (List Point)) (refusal : ContourRefusal) : Type 0 where
  pub point : IsFirstPlace (IsSafe unit) paths (Some refusal.place)
  pub limit : refusal.limit ≡ pos unit -ℤ pos 1

-- why an operand may not take part: its contours' first point outside the safe range, or where a drawing leaves it first
abbrev pub IsReason : ℕ → Given → OperandReason → Type 0
IsReason unit (as_paths paths) (OperandReason.Contour refusal) = IsContourRefusal unit paths refusal
IsReason unit (as_paths paths) (OperandReason.Drawing refusal) = ⊥
IsReason unit (as_drawing drawn) (OperandReason.Contour refusal) = ⊥
IsReason unit (as_drawing drawn) (OperandReason.Drawing refusal) = IsFirstRefusal unit drawn refusal

-- why the subject of a boolean may not take part; where it may, why the clip may not
abbrev pub IsBooleanRefusal : ℕ → Given → Given → OperandPlace → OperandReason → Type 0
IsBooleanRefusal unit subject clip OperandPlace.Subject why = IsReason unit subject why
IsBooleanRefusal unit subject clip OperandPlace.Clip why = MayTakePart unit subject × IsReason unit clip why
IsBooleanRefusal unit subject clip (OperandPlace.Zone index) why = ⊥

-- the first zone that may not take part, and why
pub record IsZoneRefusal (unit : ℕ) (zones : List Given) (refusal : OperandRefusal) : Type 0 where
  pub index : ℕ
  pub which : refusal.which ≡ OperandPlace.Zone index
  pub first : IsFirstNot (MayTakePart unit) zones index
  pub reason : (d : Given) → IsReason unit (get_or zones index d) refusal.why

-- the first operand that may not take part, and why
abbrev pub IsFirstOperandRefusal : ℕ → Combined → OperandRefusal → Type 0
IsFirstOperandRefusal unit (as_boolean rule fill subject clip) refusal =
    IsBooleanRefusal unit subject clip refusal.which refusal.why
IsFirstOperandRefusal unit (as_coverage least fill zones) refusal = IsZoneRefusal unit zones refusal
IsFirstOperandRefusal unit (as_overlaps fill zones) refusal = IsZoneRefusal unit zones refusal
