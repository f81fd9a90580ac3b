-- What stands in a caller's room after a call.
use Rattle.std.specs.Prelude.{◌≡◌, ◌≤◌, ◌<◌, List, ◌++◌, length, drop}
use Rattle.mesh_arrays.specs.declared.outcome.Outcome.{Outcome}
use Rattle.mesh_arrays.specs.declared.outcome.Outcome.TheVariants.{RoomTooSmall}

-- what a room holds after items were put to its beginning: these, and then what stood behind them
abbrev pub overwritten : {A : Type 0} → List A → List A → List A
overwritten items room = items ++ drop (length items) room

-- what a call leaves in a room that held `old`, which was to end as `told`: where the items fit, these, and the call
-- ended so; else what it held, and the room was too small
pub data IsHandedOver {A : Type 0} (items old new : List A) (told : Outcome) : Outcome → Type 0 where
  whole : length items ≤ length old → new ≡ overwritten items old → IsHandedOver items old new told told
  too_small : length old < length items → new ≡ old → IsHandedOver items old new told RoomTooSmall
