-- Joins: the edges that an outer corner runs through, and how far they reach, for each kind of join.
use Rattle.std.specs.Prelude.{ℕ, Bool, true, false, IsTrue, cond, List, [], ℤ}
use Rattle.std.specs.Int.{int_max}
use Rattle.mesh_plane.specs.Plane.{Point, Edge}
use Rattle.mesh_num.specs.Rectangle.{IsSafeWidened}
use Rattle.mesh_plane.specs.Winding.{route, same_point}
use Rattle.mesh_join.specs.Bevels.{bevel_points, bevel_padding}
use Rattle.mesh_join.specs.Joints.{Joint, IsTurn}
use Rattle.mesh_join.specs.Miters.{miter_points, miter_padding}
use Rattle.mesh_join.specs.RoundJoins.{round_points, round_padding}
use Rattle.mesh_join.specs.Styles.{JoinStyle, OffsetJoin, OutlineStyle, outer, inner}
use Rattle.mesh_join.specs.declared.style.IntLineJoin.{IntLineJoin}
use Rattle.mesh_join.specs.declared.style.IntLineJoin.TheVariants.{Bevel, Miter, Round}

-- the points of a join of each kind, where `min_turn` is the turn below which a miter is a bevel
abbrev pub points_of : IntLineJoin → ℕ → ℕ → Joint → List Point
points_of Bevel min_turn unit j = bevel_points j
points_of (Miter angle) min_turn unit j = miter_points angle min_turn unit j
points_of (Round options) min_turn unit j = round_points options unit j

-- the points of a join
abbrev pub join_points : ℕ → JoinStyle → Joint → List Point
join_points unit style j = points_of style.kind style.min_turn unit j

-- how far a join of each kind reaches from its corner in each coordinate, by its radius or an offset of that size
abbrev pub join_padding : IntLineJoin → ℤ → ℤ
join_padding Bevel radius = bevel_padding radius
join_padding (Miter angle) radius = miter_padding angle radius
join_padding (Round _) radius = round_padding radius

-- whether joins of each kind have at most three edges; those that have need no memory but for these
abbrev pub has_few : IntLineJoin → Bool
has_few Bevel = true
has_few (Miter _) = true
has_few (Round _) = false

abbrev pub HasFew : JoinStyle → Type 0
HasFew style = IsTrue (has_few style.kind)

-- the points on the way from `a` to `b`: none where these are one point
abbrev pub between : Point → List Point → Point → List Point
between a points b = cond (same_point a b) [] points

-- the edges from `a` to `b` through the points between them
abbrev pub through : Point → List Point → Point → List Edge
through a points b = route a (between a points b) b

-- the edges of a join
abbrev pub join_edges : ℕ → JoinStyle → Joint → List Edge
join_edges unit style j = through j.first (join_points unit style j) j.last

-- what a join asks: a turn, and a corner that stays safe within the padding
pub record IsJoint (unit : ℕ) (style : JoinStyle) (j : Joint) : Type 0 where
  pub turn : IsTurn unit j
  pub safe : IsSafeWidened unit (join_padding style.kind j.radius) j.center

-- how far the outline of one contour reaches from it: as its joins do
abbrev pub offset_padding : OffsetJoin → ℤ
offset_padding style = join_padding style.join.kind style.offset

-- how far an outline reaches from its contours: the greater padding of both offsets
abbrev pub outline_padding : OutlineStyle → ℤ
outline_padding style = int_max (offset_padding (outer style)) (offset_padding (inner style))
