-- Lemmas over points: joins and caps hold what lies between the sections that they join, near to their corner.
use Rattle.std.proofs.Common.{◌≡◌, ◌≢◌, ℕ, ◌*◌, ◌<◌, List, sym, ◌∙◌, ap, subst, arith}
use Rattle.std.specs.Prelude.{ℤ, pos, neg_ℤ, ◌<ℤ◌}
use Rattle.std.specs.List.{All}
use Rattle.mesh_plane.specs.Plane.{Point, Edge, plus, minus, opposite, dot, length_sq, turn, right_quarter}
use Rattle.mesh_plane.specs.Winding.{refined, fan}
use Rattle.mesh_plane.proofs.Whole.{linear, multiplied}
use Rattle.mesh_num.proofs.Scaling.{scaled_direction_opposite}
use Rattle.mesh_num.specs.Direction.{scaled_direction}
use Rattle.mesh_lattice.specs.Split.{back}
use Rattle.mesh_join.specs.Joins.{between, join_points}
use Rattle.mesh_join.specs.Styles.{JoinStyle}
use Rattle.mesh_stroke.specs.Caps.{CapKind, cap_points}
use Rattle.mesh_stroke.specs.Ends.{half_turn}
use Rattle.mesh_stroke.specs.Strokes.{EdgePair, heading, facing, outer_edges, joint_right, cap_at, cap_pieces, right_of, left_of}
use Rattle.mesh_stroke.proofs.Corners.{IsMet, facing_is, other_way}
use Rattle.mesh_stroke.proofs.Sides.{heading_back}
use Rattle.mesh_inner.specs.Inner.{step}
use Rattle.mesh_inner.specs.Room.{FansHaveRoom}
use Rattle.mesh_inner.proofs.Fans.{side_of, HoldsOnce, side_right, side_left, some_beside}

-- from a corner no point lies straight behind the start of one of some edges
abbrev pub AreBeside : ℕ → Point → Point → List Edge → Type 0
AreBeside m q v es = All (λ (e : Edge). v ≢ e.0 → turn (refined m v) (refined m e.0) q ≢ pos 0) es

-- twice the square of a point's distance from a corner is below `t`
abbrev pub IsNearPoint : ℕ → ℕ → Point → Point → Type 0
IsNearPoint t m q p = 2 * length_sq (minus q (refined m p)) < t * (m * m)

-- how far a point lies ahead of a corner, as an edge runs
abbrev pub ahead : ℕ → ℤ → ℕ → Point → Edge → Point → ℤ
ahead unit radius m q e p = dot (step unit radius e) (minus q (refined m p))

dot_opposite : (s u : Point) → dot (opposite s) u ≡ neg_ℤ (dot s u)
dot_opposite s u = simp multiplied (omega (arith, linear))

pub step_back : (unit : ℕ) (radius : ℤ) (e : Edge) → 0 < unit → e.0 ≢ e.1 → step unit radius (back e) ≡ opposite (step unit radius e)
step_back unit radius e some apart =
    ap (scaled_direction unit radius) (heading_back unit e apart) ∙ scaled_direction_opposite unit radius (heading unit e) some

pub ahead_back : (unit : ℕ) (radius : ℤ) (m : ℕ) (q : Point) (e : Edge) (p : Point) → 0 < unit → e.0 ≢ e.1
    → ahead unit radius m q (back e) p ≡ neg_ℤ (ahead unit radius m q e p)
ahead_back unit radius m q e p some apart =
    ap (λ (s : Point). dot s (minus q (refined m p))) (step_back unit radius e some apart) ∙ dot_opposite (step unit radius e) (minus q (refined m p))

module _ (unit : ℕ) (some : 0 < unit) (radius : ℤ) (t m : ℕ) (q : Point) where
  -- what a join holds, of a corner as it is faced
  abbrev HeldAt : JoinStyle → EdgePair → Type 0
  HeldAt join k =
      FansHaveRoom t k.0.1 (outer_edges unit radius join k) → IsNearPoint t m q k.0.1 → AreBeside m q k.0.1 (outer_edges unit radius join k)
      → pos 0 <ℤ ahead unit radius m q k.0 k.0.1 → ahead unit radius m q k.1 k.0.1 <ℤ pos 0 → HoldsOnce m q (fan k.0.1 (outer_edges unit radius join k))

  faced_held : (join : JoinStyle) (k : EdgePair) → k.0.1 ≡ k.1.0 → HeldAt join k
  faced_held join k met room near beside after before =
      some_beside t m k.0.1 q (right_of unit radius k.0 k.0.1)
      (between (right_of unit radius k.0 k.0.1) (join_points unit join (joint_right unit radius k)) (right_of unit radius k.1 k.1.0))
      (right_of unit radius k.1 k.1.0) room near beside
      (subst (λ (z : ℤ). pos 0 <ℤ z) (sym (side_right m k.0.1 q (step unit radius k.0))) after)
      (subst (λ (z : ℤ). z <ℤ pos 0)
      (sym (subst (λ (p : Point). side_of m k.0.1 q (plus p (right_quarter (step unit radius k.1))) ≡ ahead unit radius m q k.1 k.0.1) met
      (side_right m k.0.1 q (step unit radius k.1)))) before)

  abbrev HeldByJoin : JoinStyle → EdgePair → EdgePair → Type 0
  HeldByJoin join c k =
      IsNearPoint t m q c.0.1 → pos 0 <ℤ ahead unit radius m q c.0 c.0.1 → ahead unit radius m q c.1 c.0.1 <ℤ pos 0
      → FansHaveRoom t k.0.1 (outer_edges unit radius join k) → AreBeside m q k.0.1 (outer_edges unit radius join k)
      → HoldsOnce m q (fan k.0.1 (outer_edges unit radius join k))

  -- what lies beyond the first edge at a corner and before the second
  pub join_holds : (join : JoinStyle) (c : EdgePair) → IsMet c → HeldByJoin join c (facing c)
  join_holds join c h =
      facing_is (HeldByJoin join c) c (λ _ near after before room beside. faced_held join c h.met room near beside after before)
      (λ _ near after before room beside.
      faced_held join (other_way c) (sym h.met) room (subst (IsNearPoint t m q) h.met near) beside
      (let e = ahead_back unit radius m q c.1 c.1.0 some h.second in
      let k : ahead unit radius m q c.1 c.1.0 <ℤ pos 0 = subst (λ (p : Point). ahead unit radius m q c.1 p <ℤ pos 0) h.met before in
      omega (arith, linear, e, k))
      (let e = ahead_back unit radius m q c.0 c.1.0 some h.first in
      let k : pos 0 <ℤ ahead unit radius m q c.0 c.1.0 = subst (λ (p : Point). pos 0 <ℤ ahead unit radius m q c.0 p) h.met after in
      omega (arith, linear, e, k)))

  -- what lies beyond the end of an edge with a cap
  pub cap_holds : (kind : CapKind) (e : Edge) → FansHaveRoom t e.1 (cap_at unit radius kind e) → IsNearPoint t m q e.1 → AreBeside m q e.1 (cap_at unit radius kind e)
      → pos 0 <ℤ ahead unit radius m q e e.1 → HoldsOnce m q (cap_pieces unit radius kind e)
  cap_holds kind e room near beside after =
      some_beside t m e.1 q (right_of unit radius e e.1) (cap_points kind unit (half_turn unit radius e.1 (heading unit e))) (left_of unit radius e e.1) room near beside
      (subst (λ (z : ℤ). pos 0 <ℤ z) (sym (side_right m e.1 q (step unit radius e))) after)
      (let l = side_left m e.1 q (step unit radius e) in omega (arith, linear, l, after))
