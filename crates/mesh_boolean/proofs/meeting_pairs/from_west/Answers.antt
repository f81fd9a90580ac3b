-- The key is the west side.
use Rattle.std.proofs.Common.{rules}
use Rattle.std.proofs.lemmas.Fn.{always_returns_same}
use Rattle.mesh_boolean.specs.Private.Meeting.{PlacedBox}
use Rattle.mesh_boolean.proofs.Meeting.{ordered_from_sorted}
use Rattle.mesh_boolean.proofs.meeting_pairs.from_west.Goals as goal

pub returns-clause-ordered : goal.returns-clause-ordered
returns-clause-ordered g c =
    ordered_from_sorted _ (c.sort_unstable_by_key.ensures.sorted (λ (b : PlacedBox). b.1.0.0) (always_returns_same _ _ _ (λ a r f' k. search rules)))
