-- Lemmas over whole numbers: strokes whose joins and caps keep to the radius reach as far as it, but for rounding.
use Rattle.std.proofs.Common.{◌≡◌, ◌≤◌, Bool, true, false, ◌&&◌, ◌||◌, refl, sym, arith}
use Rattle.std.specs.Prelude.{ℤ, IsTrue, unsigned_abs}
use Rattle.std.proofs.lemmas.Bool.{true≢false, and_parts}
use Rattle.mesh_join.specs.declared.style.IntLineJoin.{IntLineJoin}
use Rattle.mesh_join.specs.declared.style.IntLineJoin.TheVariants.{Bevel, Miter, Round}
use Rattle.mesh_join.specs.declared.style.StrokeSide.{StrokeSide}
use Rattle.mesh_join.specs.declared.style.StrokeSide.TheVariants.{Both, Left, Right}
use Rattle.mesh_reach.specs.Joins.{rounded_reach, join_reach}
use Rattle.mesh_stroke.specs.Caps.{CapKind, drawn_cap}
use Rattle.mesh_stroke.specs.Styles.{StrokeStyle}
use Rattle.mesh_stroke.specs.Reach.{cap_reach, caps_reach, stroke_reach, join_keeps_radius, cap_keeps_radius}
use Rattle.mesh_stroke.specs.Reach.{KeepsRadius}

join_kept : (kind : IntLineJoin) (radius : ℤ) → IsTrue (join_keeps_radius kind) →
    join_reach kind radius ≡ rounded_reach (unsigned_abs radius)
join_kept Bevel radius h = refl
join_kept (Miter angle) radius h = absurd (true≢false (sym h))
join_kept (Round options) radius h = refl

cap_kept : (kind : CapKind) (radius : ℤ) → IsTrue (cap_keeps_radius kind) →
    cap_reach kind radius ≡ rounded_reach (unsigned_abs radius)
cap_kept CapKind.Butt radius h = refl
cap_kept CapKind.Square radius h = absurd (true≢false (sym h))
cap_kept (CapKind.Round options) radius h = refl
cap_kept (CapKind.Custom points) radius h = absurd (true≢false (sym h))

caps_kept : (side : StrokeSide) (closed : Bool) (start end : CapKind) (radius : ℤ) →
    IsTrue (closed || (cap_keeps_radius (drawn_cap side start) && cap_keeps_radius (drawn_cap side end))) →
    caps_reach side closed start end radius ≤ rounded_reach (unsigned_abs radius)
caps_kept Both true start end radius h = omega arith
caps_kept Both false start end radius h =
    let both = and_parts (cap_keeps_radius start) (cap_keeps_radius end) h in
    omega (arith, cap_kept start radius both.0, cap_kept end radius both.1)
caps_kept Left closed start end radius h = omega arith
caps_kept Right closed start end radius h = omega arith

pub kept_radii_reach : (style : StrokeStyle) (closed : Bool) → KeepsRadius style closed →
    stroke_reach style closed ≡ rounded_reach (unsigned_abs style.radius)
kept_radii_reach style closed h =
    let both = and_parts (join_keeps_radius style.join.kind)
    (closed || (cap_keeps_radius (drawn_cap style.side style.start) && cap_keeps_radius
    (drawn_cap style.side style.end))) h in
    omega (
      arith,
      join_kept style.join.kind style.radius both.0,
      caps_kept style.side closed style.start style.end
          style.radius both.1,
    )
