-- Lemmas over points and lists: how far what is drawn along the sections of a path lies from their ends.
use Rattle.std.proofs.Common.{◌≢◌, ℕ, ◌≤◌, ◌^◌, Bool, sym, subst, arith}
use Rattle.std.specs.Prelude.{ℤ, pos, ◌≤ℤ◌, ◌<ℤ◌, unsigned_abs}
use Rattle.std.specs.List.{All}
use Rattle.std.proofs.lemmas.Int.{ints}
use Rattle.std.proofs.lemmas.List.Elements.{All-weaker}
use Rattle.mesh_plane.specs.Plane.{Point, Edge}
use Rattle.mesh_num.proofs.Parts.{direction_fresh}
use Rattle.mesh_arc.specs.declared.arc.ArcDirection.{ArcDirection}
use Rattle.mesh_arc.specs.declared.arc.ArcDirection.TheVariants.{Clockwise, Counterclockwise}
use Rattle.mesh_join.specs.Joints.{contact}
use Rattle.mesh_join.specs.Styles.{JoinStyle}
use Rattle.mesh_join.specs.declared.style.StrokeSide.{StrokeSide}
use Rattle.mesh_join.specs.declared.style.StrokeSide.TheVariants.{Both, Left, Right}
use Rattle.mesh_reach.specs.Joins.{rounded_reach, join_reach}
use Rattle.mesh_reach.proofs.JoinPoints.{IsBy, by_more, by_itself, contact_by, contact_leads, join_by, radius_covered}
use Rattle.mesh_stroke.specs.Caps.{CapKind}
use Rattle.mesh_stroke.specs.Strokes.{EdgePair, heading, right_end, left_end, joint_right, outer_edges}
use Rattle.mesh_stroke.specs.Strokes.{cap_at}
use Rattle.mesh_stroke.specs.Styles.{StrokeStyle}
use Rattle.mesh_stroke.specs.Reach.{cap_reach, caps_reach, stroke_reach}
use Rattle.mesh_stroke.proofs.Corners.{IsMet, left_turn, corner_keeps, heading_short}
use Rattle.mesh_stroke.proofs.Sides.{heading_is}
use Rattle.mesh_stroke.proofs.ReachOfCaps.{cap_by}

-- the reach of a stroke covers those of its radius, its joins and the caps that are drawn
pub joins_covered : (style : StrokeStyle) (closed : Bool) →
    join_reach style.join.kind style.radius ≤ stroke_reach style closed
joins_covered style closed = omega arith

pub caps_covered : (style : StrokeStyle) (closed : Bool) →
    caps_reach style.side closed style.start style.end style.radius ≤ stroke_reach style closed
caps_covered style closed = omega arith

pub stroke_covered : (style : StrokeStyle) (closed : Bool) →
    rounded_reach (unsigned_abs style.radius) ≤ stroke_reach style closed
stroke_covered style closed = omega (arith, radius_covered style.join.kind style.radius, joins_covered style closed)

module _ (unit : ℕ) (least : 2 ^ 14 ≤ unit) (radius : ℤ) (wide : pos 1 <ℤ radius) (b : ℕ)
    (covers : rounded_reach (unsigned_abs radius) ≤ b) where
  sign : pos 0 ≤ℤ radius
  sign = omega (arith, ints, wide)

  some : 1 ≤ unsigned_abs radius
  some = omega (arith, ints, wide)

  -- points beside a section
  pub beside : (sense : ArcDirection) (e : Edge) (v : Point) → e.0 ≢ e.1 →
      IsBy b v (contact unit radius sense v (heading unit e))
  beside sense e v apart =
      by_more (rounded_reach (unsigned_abs radius)) b v covers (contact unit radius sense v (heading unit e))
      (contact_by unit radius sense v (heading unit e) (omega arith) (heading_short unit least radius sign e apart))

  pub right_by : (side : StrokeSide) (e : Edge) (v : Point) → e.0 ≢ e.1 → IsBy b v (right_end unit radius side e v)
  right_by Both e v apart = beside Counterclockwise e v apart
  right_by Left e v apart = by_itself b v
  right_by Right e v apart = beside Counterclockwise e v apart

  pub left_by : (side : StrokeSide) (e : Edge) (v : Point) → e.0 ≢ e.1 → IsBy b v (left_end unit radius side e v)
  left_by Both e v apart = beside Clockwise e v apart
  left_by Left e v apart = beside Clockwise e v apart
  left_by Right e v apart = by_itself b v

  -- the join of a corner that turns to the left, or not at all
  pub outer_by : (join : JoinStyle) → join_reach join.kind radius ≤ b →
      (k : EdgePair) → IsMet k → pos 0 ≤ℤ left_turn k →
      All (λ (e : Edge). IsBy b k.0.1 e.0 × IsBy b k.0.1 e.1) (outer_edges unit radius join k)
  outer_by join reach k met left =
      let j = joint_right unit radius k in
      All-weaker (λ (e : Edge). IsBy (join_reach join.kind radius) k.0.1 e.0 × IsBy
      (join_reach join.kind radius) k.0.1 e.1)
      (λ (e : Edge). IsBy b k.0.1 e.0 × IsBy b k.0.1 e.1)
      (λ e h. (
        by_more (join_reach join.kind radius) b k.0.1 reach e.0 h.0,
        by_more
            (join_reach join.kind radius) b k.0.1 reach e.1 h.1,
      ))
      (outer_edges unit radius join k)
      (join_by unit least j
      (λ _. contact_leads unit radius Counterclockwise k.0.1 (heading unit k.0) least some
      (direction_fresh (omega arith) (heading_is unit k.0 met.first)))
      join (corner_keeps unit least radius sign join k met left)
      (contact_by unit radius Counterclockwise k.0.1 (heading unit k.0) (omega arith)
      (heading_short unit least radius sign k.0 met.first))
      (subst (λ (v : Point). IsBy (rounded_reach (unsigned_abs radius)) v j.last) (sym met.met)
      (contact_by unit radius Counterclockwise k.1.0 (heading unit k.1) (omega arith)
      (heading_short unit least radius sign k.1 met.second))))

  -- the cap of an edge
  pub cap_at_by : (kind : CapKind) → cap_reach kind radius ≤ b → (e : Edge) → e.0 ≢ e.1 →
      All (λ (g : Edge). IsBy b e.1 g.0 × IsBy b e.1 g.1) (cap_at unit radius kind e)
  cap_at_by kind reach e apart =
      cap_by unit least radius some e.1 (heading unit e) (heading_short unit least radius sign e apart)
      (direction_fresh (omega arith) (heading_is unit e apart))
      b kind covers reach
