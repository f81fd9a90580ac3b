-- Lemmas over points: what the theory of strokes needs of round caps. They are round joins.
use Rattle.std.proofs.Common.{◌≡◌, ℕ, ◌<◌, ◌≤◌, ◌^◌, subst, sym, arith}
use Rattle.std.specs.Prelude.{ℤ, pos, ◌≤ℤ◌}
use Rattle.std.proofs.lemmas.Bool.{true≢false}
use Rattle.std.proofs.lemmas.Int.{ints}
use Rattle.mesh_plane.specs.Plane.{Point}
use Rattle.mesh_num.specs.Direction.{IsShort, IsFresh}
use Rattle.mesh_arc.specs.declared.arc.ArcOptions.{ArcOptions}
use Rattle.mesh_join.specs.Joins.{IsJoint}
use Rattle.mesh_join.specs.Joints.{Joint}
use Rattle.mesh_join.specs.Styles.{JoinStyle}
use Rattle.mesh_join.specs.declared.style.IntLineJoin.TheVariants.{Round}
use Rattle.mesh_join.proofs.JoinLaws.{KeepsJoint}
use Rattle.mesh_join.proofs.RoundJoins.{round_keeps}
use Rattle.mesh_stroke.specs.Caps.{CapKind, IsCapped}
use Rattle.mesh_stroke.specs.Ends.{half_turn}
use Rattle.mesh_stroke.proofs.CapLaws.{KeepsEnd, KeepsEnds, keeps_by_half_turns}
use Rattle.mesh_stroke.proofs.Ends.{end_is_turn, half_turn_is, opposite_short}

round_keeps_half_turn : (unit : ℕ) (options : ArcOptions) (radius : ℤ) (v n : Point) → 2 ^ 14 ≤ unit → IsShort unit n
    → IsFresh unit n → pos 0 ≤ℤ radius
    → KeepsEnd unit (CapKind.Round options) (half_turn unit radius v n)
round_keeps_half_turn unit options radius v n least short fresh sign = record {
  never_turns_back = λ _. k.never_turns_back;
  near = k.near;
  few = λ few. absurd (true≢false (sym few));
}
  where
    k : KeepsJoint unit (record { kind = Round options; min_turn = 0 }) (half_turn unit radius v n)
    k = (round_keeps unit options 0 least).joint (half_turn unit radius v n) short (opposite_short unit n short)
        (half_turn_is unit radius v n (omega arith) fresh sign)

-- what holds of round caps
pub round_caps_keep : (unit : ℕ) (options : ArcOptions) → 2 ^ 14 ≤ unit → KeepsEnds unit (CapKind.Round options)
round_caps_keep unit options least =
    keeps_by_half_turns unit (CapKind.Round options) (λ r. omega (arith, ints)) (λ few. few)
    (λ radius v n short fresh sign. round_keeps_half_turn unit options radius v n least short fresh sign)

-- the end asks for a round join what a round cap asks there; how finely its arc is drawn is not asked
pub round_end_is_joint : (unit : ℕ) (asked drawn : ArcOptions) (style : JoinStyle) (j : Joint) → 0 < unit
    → style ≡ record { kind = Round drawn; min_turn = 0 }
    → IsCapped unit (CapKind.Round asked) j → IsJoint unit style j
round_end_is_joint unit asked drawn style j some e h =
    subst (λ (s : JoinStyle). IsJoint unit s j) (sym e)
    (record { turn = end_is_turn unit j some h.end h.radius_sign; safe = h.safe })
