-- Lemmas over points: what the theory of outlines needs holds of each kind of join.
use Rattle.std.proofs.Common.{ℕ, ◌≤◌, ◌^◌, arith, subst, sym}
use Rattle.std.specs.Prelude.{ℤ, pos, ◌≤ℤ◌, unsigned_abs}
use Rattle.mesh_plane.specs.Plane.{Point}
use Rattle.mesh_plane.proofs.ClosedLists.{route_all}
use Rattle.mesh_num.specs.Direction.{IsShort}
use Rattle.mesh_join.proofs.Bevels.{bevel_keeps}
use Rattle.mesh_join.proofs.Joints.{contact_within}
use Rattle.mesh_join.proofs.JoinLaws.{KeepsJoints}
use Rattle.mesh_join.proofs.Miters.{miter_keeps}
use Rattle.mesh_join.proofs.RoundJoins.{round_keeps}
use Rattle.mesh_join.specs.Joins.{join_padding, join_edges, join_points, between}
use Rattle.mesh_join.specs.Joints.{Joint, IsTurn, IsWithinPadding, NeverTurnsBack, StaysWithin}
use Rattle.mesh_join.specs.Styles.{JoinStyle}
use Rattle.mesh_join.specs.declared.style.IntLineJoin.{IntLineJoin}
use Rattle.mesh_join.specs.declared.style.IntLineJoin.TheVariants.{Bevel, Miter, Round}

pub join_keeps : (unit : ℕ) (style : JoinStyle) → 2 ^ 14 ≤ unit → KeepsJoints unit style
join_keeps unit style least = by style.kind style.min_turn
  where
    by : (kind : IntLineJoin) (min_turn : ℕ) → KeepsJoints unit (record { kind = kind; min_turn = min_turn })
    by Bevel min_turn = bevel_keeps unit min_turn
    by (Miter angle) min_turn = miter_keeps unit angle min_turn
    by (Round options) min_turn = round_keeps unit options min_turn least

-- the padding of each kind covers the radius
pub padding_covers : (style : JoinStyle) (radius : ℤ) → pos (unsigned_abs radius) ≤ℤ join_padding style.kind radius
padding_covers style = (join_keeps (2 ^ 14) style (omega arith)).covers

-- ---- what a join keeps at each turn

-- a join never turns back round its corner
pub join_runs_ahead : (unit : ℕ) (style : JoinStyle) (j : Joint) → 2 ^ 14 ≤ unit → IsShort unit j.incoming → IsShort unit j.outgoing → IsTurn unit j →
    NeverTurnsBack j.sense j.center (join_edges unit style j)
join_runs_ahead unit style j least incoming outgoing turn = ((join_keeps unit style least).joint j incoming outgoing turn).never_turns_back

-- and stays within its padding
pub join_stays_within : (unit : ℕ) (style : JoinStyle) (j : Joint) → 2 ^ 14 ≤ unit → IsShort unit j.incoming → IsShort unit j.outgoing → IsTurn unit j →
    StaysWithin (join_padding style.kind j.radius) j.center (join_edges unit style j)
join_stays_within unit style j least incoming outgoing turn =
    route_all Near j.first (between j.first (join_points unit style j) j.last) j.last
    (subst Near (sym turn.first) (contact_within unit padding j.radius j.sense j.center j.incoming (omega arith) incoming covers))
    ((join_keeps unit style least).joint j incoming outgoing turn).near
    (subst Near (sym turn.last) (contact_within unit padding j.radius j.sense j.center j.outgoing (omega arith) outgoing covers))
  where
    padding : ℤ
    padding = join_padding style.kind j.radius

    Near : Point → Type 0
    Near = IsWithinPadding padding j.center

    covers : pos (unsigned_abs j.radius) ≤ℤ padding
    covers = padding_covers style j.radius
