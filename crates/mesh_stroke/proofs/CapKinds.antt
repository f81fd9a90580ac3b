-- Lemmas over points: what the theory of strokes needs holds of each kind of cap.
use Rattle.std.proofs.Common.{ℕ, ◌≤◌, ◌^◌, arith}
use Rattle.mesh_stroke.specs.Caps.{CapKind}
use Rattle.mesh_stroke.proofs.ButtCaps.{butt_keeps}
use Rattle.mesh_stroke.proofs.CapLaws.{KeepsEnds}
use Rattle.mesh_stroke.proofs.CustomCaps.{custom_keeps}
use Rattle.mesh_stroke.proofs.RoundCaps.{round_caps_keep}
use Rattle.mesh_stroke.proofs.SquareCaps.{square_keeps}

pub cap_keeps : (unit : ℕ) (kind : CapKind) → 2 ^ 14 ≤ unit → KeepsEnds unit kind
cap_keeps unit CapKind.Butt least = butt_keeps unit (omega arith)
cap_keeps unit CapKind.Square least = square_keeps unit (omega arith)
cap_keeps unit (CapKind.Round options) least = round_caps_keep unit options least
cap_keeps unit (CapKind.Custom points) least = custom_keeps unit points (omega arith)
