-- Why bytes hold no request.
use Rattle.std.specs.Prelude.{ℕ, ◌≡◌, List, length, Option, Some, None}
use Rattle.std.specs.declared.alloc.Global.{Global}
use Rattle.std.specs.declared.string.String.{String}
use Rattle.mesh_service.specs.Reasons.{HoldsRequest}
use Rattle.mesh_arrays.specs.Rooms.{IsHandedOver}
use Rattle.mesh_arrays.specs.declared.outcome.Outcome.{Outcome}
use Rattle.mesh_arrays.specs.declared.outcome.Outcome.TheVariants.{Answered, Malformed, OutOfMemory}

-- there is a reason where the bytes hold no request, and there alone
abbrev pub IsReasonText : List ℕ → Option (String Global) → Type 0
IsReasonText request None = HoldsRequest request
IsReasonText request (Some text) = HoldsRequest request → ⊥

-- a call for the reason, in a room that held `old` and now holds `new`, told how many bytes are needed and ended so: a
-- reason was handed over, and the bytes hold no request; there is none, and they hold one; or memory was refused
pub data TellsWhy (request old new : List ℕ) (needed : ℕ) : Outcome → Type 0 where
  reasoned : {text : List ℕ} {ended : Outcome} → (HoldsRequest request → ⊥) → needed ≡ length text
      → IsHandedOver text old new Malformed ended → TellsWhy request old new needed ended
  none : HoldsRequest request → needed ≡ 0 → new ≡ old → TellsWhy request old new needed Answered
  no_memory : needed ≡ 0 → new ≡ old → TellsWhy request old new needed OutOfMemory
