-- Caps: the edges that an end of an open path runs through, and how far they reach, for each kind of cap.
use Rattle.std.specs.Prelude.{ℕ, Bool, true, false, IsTrue, List, ℤ, pos, ◌≤ℤ◌}
use Rattle.mesh_plane.specs.Plane.{Point, Edge}
use Rattle.mesh_plane.specs.Winding.{route}
use Rattle.mesh_num.specs.Rectangle.{IsSafeWidened}
use Rattle.mesh_arc.specs.declared.arc.ArcOptions.{ArcOptions}
use Rattle.mesh_join.specs.Joints.{Joint}
use Rattle.mesh_join.specs.declared.style.StrokeSide.{StrokeSide}
use Rattle.mesh_join.specs.declared.style.StrokeSide.TheVariants.{Both, Left, Right}
use Rattle.mesh_stroke.specs.ButtCaps.{butt_points, butt_padding}
use Rattle.mesh_stroke.specs.SquareCaps.{square_points, square_padding}
use Rattle.mesh_stroke.specs.CustomCaps.{custom_points, custom_padding}
use Rattle.mesh_stroke.specs.Ends.{IsEnd}
use Rattle.mesh_stroke.specs.RoundCaps.{round_cap_points, round_cap_padding}

-- the kinds of caps, as contracts see them
pub data CapKind : Type 0 where
  Butt : CapKind
  Square : CapKind
  Round : ArcOptions → CapKind
  Custom : List Point → CapKind

-- the cap that is drawn where a stroke is drawn on this side: a half is cut off straight, whatever its caps are
abbrev pub drawn_cap : StrokeSide → CapKind → CapKind
drawn_cap Both kind = kind
drawn_cap Left kind = CapKind.Butt
drawn_cap Right kind = CapKind.Butt

-- the points of a cap of each kind, between the point to the right of the end and the one to its left
abbrev pub cap_points : CapKind → ℕ → Joint → List Point
cap_points Butt unit j = butt_points j
cap_points Square unit j = square_points unit j
cap_points (Round options) unit j = round_cap_points options unit j
cap_points (Custom points) unit j = custom_points points unit j

-- the edges of a cap
abbrev pub cap_edges : CapKind → ℕ → Joint → List Edge
cap_edges kind unit j = route j.first (cap_points kind unit j) j.last

-- how far a cap of each kind reaches from its end in each coordinate, by the radius
abbrev pub cap_padding : CapKind → ℤ → ℤ
cap_padding Butt radius = butt_padding radius
cap_padding Square radius = square_padding radius
cap_padding (Round options) radius = round_cap_padding radius
cap_padding (Custom points) radius = custom_padding points

-- whether the kind is not custom: such caps never turn back round their end
abbrev pub is_stock : CapKind → Bool
is_stock Butt = true
is_stock Square = true
is_stock (Round options) = true
is_stock (Custom points) = false

-- whether caps of each kind take no memory but for their edges: the arc of a round cap has a buffer of its own
abbrev pub draws_directly : CapKind → Bool
draws_directly Butt = true
draws_directly Square = true
draws_directly (Round options) = false
draws_directly (Custom points) = true

abbrev pub DrawsDirectly : CapKind → Type 0
DrawsDirectly kind = IsTrue (draws_directly kind)

-- whether caps of each kind have at most three edges
abbrev pub has_few_edges : CapKind → Bool
has_few_edges Butt = true
has_few_edges Square = true
has_few_edges (Round options) = false
has_few_edges (Custom points) = false

-- what a cap asks: an end, a radius of at least 0, and an end that stays safe within the padding
pub record IsCapped (unit : ℕ) (kind : CapKind) (j : Joint) : Type 0 where
  pub end : IsEnd unit j
  pub radius_sign : pos 0 ≤ℤ j.radius
  pub safe : IsSafeWidened unit (cap_padding kind j.radius) j.center
