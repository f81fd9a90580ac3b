-- Lemmas over points: what the theory of strokes needs of butt caps.
use Rattle.std.proofs.Common.{ℕ, ◌<◌, [], arith}
use Rattle.std.specs.Prelude.{ℤ, pos, ◌*ℤ◌, ◌≤ℤ◌}
use Rattle.std.proofs.lemmas.Int.{ints}
use Rattle.std.proofs.lemmas.List.Elements.{All-nil, All-cons}
use Rattle.mesh_plane.specs.Plane.{Point, Edge, turn}
use Rattle.mesh_num.specs.Direction.{IsFresh}
use Rattle.mesh_join.specs.Joints.{Joint, IsWithinPadding}
use Rattle.mesh_stroke.specs.ButtCaps.{butt_padding}
use Rattle.mesh_stroke.specs.Caps.{CapKind}
use Rattle.mesh_stroke.specs.Ends.{half_turn}
use Rattle.mesh_stroke.proofs.CapLaws.{KeepsEnd, KeepsEnds, keeps_by_half_turns}
use Rattle.mesh_stroke.proofs.Ends.{half_turn_is}

butt_keeps_half_turn : (unit : ℕ) (radius : ℤ) (v n : Point) → 0 < unit → IsFresh unit n → pos 0 ≤ℤ radius
    → KeepsEnd unit CapKind.Butt (half_turn unit radius v n)
butt_keeps_half_turn unit radius v n some fresh sign = record {
  never_turns_back = λ _. All-cons Ahead (j.first, j.last) []
      (half_turn_is unit radius v n some fresh sign).no_turn_back (All-nil Ahead);
  near = All-nil (IsWithinPadding (butt_padding radius) v);
  few = λ _. omega arith;
}
  where
    j : Joint
    j = half_turn unit radius v n

    Ahead : Edge → Type 0
    Ahead e = pos 0 ≤ℤ (pos 1 *ℤ turn v e.0 e.1)

-- what holds of butt caps
pub butt_keeps : (unit : ℕ) → 0 < unit → KeepsEnds unit CapKind.Butt
butt_keeps unit some =
    keeps_by_half_turns unit CapKind.Butt (λ r. omega (arith, ints)) (λ few. few)
    (λ radius v n _ fresh sign. butt_keeps_half_turn unit radius v n some fresh sign)
