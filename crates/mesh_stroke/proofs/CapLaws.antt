-- What the theory of strokes needs of caps. Each kind of cap has it; no more is known of a kind above here.
use Rattle.std.proofs.Common.{subst, sym}
use Rattle.std.specs.Prelude.{ℕ, ◌≤◌, IsTrue, length, ℤ, pos, ◌≤ℤ◌}
use Rattle.std.specs.List.{All}
use Rattle.mesh_plane.specs.Plane.{Point}
use Rattle.mesh_num.specs.Direction.{IsShort, IsFresh}
use Rattle.mesh_arc.specs.declared.arc.ArcDirection.TheVariants.{Counterclockwise}
use Rattle.mesh_join.specs.Joints.{Joint, NeverTurnsBack, IsWithinPadding}
use Rattle.mesh_stroke.specs.Caps.{CapKind, cap_points, cap_edges, cap_padding, is_stock, draws_directly, has_few_edges}
use Rattle.mesh_stroke.specs.Ends.{IsEnd, half_turn}

-- what holds of the cap at an end
pub record KeepsEnd (unit : ℕ) (kind : CapKind) (j : Joint) : Type 0 where
  -- it never turns back round the end, where its kind is not custom
  pub never_turns_back : IsTrue (is_stock kind) → NeverTurnsBack Counterclockwise j.center (cap_edges kind unit j)
  -- its points are within the padding
  pub near : All (IsWithinPadding (cap_padding kind j.radius) j.center) (cap_points kind unit j)
  -- it has at most three edges, where its kind has few
  pub few : IsTrue (has_few_edges kind) → length (cap_edges kind unit j) ≤ 3

-- what holds of the caps of a kind: at each end, that they reach at least 0 far, and that few edges are drawn directly
pub record KeepsEnds (unit : ℕ) (kind : CapKind) : Type 0 where
  pub padding_least : (radius : ℤ) → pos 0 ≤ℤ cap_padding kind radius
  pub few_are_direct : IsTrue (has_few_edges kind) → IsTrue (draws_directly kind)
  pub at_end : (j : Joint) → IsShort unit j.incoming → IsEnd unit j → pos 0 ≤ℤ j.radius → KeepsEnd unit kind j

-- it is enough to look at half turns
pub keeps_by_half_turns : (unit : ℕ) (kind : CapKind) → ((radius : ℤ) → pos 0 ≤ℤ cap_padding kind radius)
    → (IsTrue (has_few_edges kind) → IsTrue (draws_directly kind))
    → ((radius : ℤ) (v n : Point) → IsShort unit n → IsFresh unit n → pos 0 ≤ℤ radius
    → KeepsEnd unit kind (half_turn unit radius v n))
    → KeepsEnds unit kind
keeps_by_half_turns unit kind least direct keeps = record {
  padding_least = least;
  few_are_direct = direct;
  at_end = λ j short h sign. subst (KeepsEnd unit kind) (sym h.made)
      (keeps j.radius j.center j.incoming short h.fresh sign);
}
