-- Joints: what a join is asked for at an outer corner, and how points run round it.
use Rattle.std.specs.Prelude.{ℕ, ◌*◌, Bool, ◌≡◌, ◌≢◌, List, ℤ, pos, ◌*ℤ◌, ◌≤ℤ◌, int_le}
use Rattle.std.specs.List.{All}
use Rattle.mesh_plane.specs.Bounds.{IsSafe}
use Rattle.mesh_plane.specs.Plane.{Point, Edge, plus, minus, cross, turn, right_quarter}
use Rattle.mesh_num.specs.Direction.{IsFresh, IsShort, scaled_direction}
use Rattle.mesh_num.specs.Rectangle.{IsInRectangle}
use Rattle.mesh_arc.specs.Arcs.{sense_of}
use Rattle.mesh_arc.specs.declared.arc.ArcDirection.{ArcDirection}
use Rattle.mesh_arc.specs.declared.arc.ArcDirection.TheVariants.{Clockwise, Counterclockwise}

-- the corner that is joined, the points that its sections are moved to, the directions of the sections before and after
-- it, how far they are moved, and the sense of the turn
pub record Joint : Type 0 where
  pub center : Point
  pub first : Point
  pub last : Point
  pub incoming : Point
  pub outgoing : Point
  pub radius : ℤ
  pub sense : ArcDirection

-- a joint of these parts
abbrev pub joint : Point → Point → Point → Point → Point → ℤ → ArcDirection → Joint
joint center first last incoming outgoing radius sense = record {
  center = center;
  first = first;
  last = last;
  incoming = incoming;
  outgoing = outgoing;
  radius = radius;
  sense = sense;
}

-- the point beside `center` that a section with the direction `n` is moved to: to its right for a turn to the left,
-- else to its left
abbrev pub contact : ℕ → ℤ → ArcDirection → Point → Point → Point
contact unit radius Counterclockwise center n = plus center (right_quarter (scaled_direction unit radius n))
contact unit radius Clockwise center n = minus center (right_quarter (scaled_direction unit radius n))

-- a radius of at least 0, fresh directions, their contact points, and no turn back from the first to the second
pub record IsTurn (unit : ℕ) (j : Joint) : Type 0 where
  pub radius_sign : pos 0 ≤ℤ j.radius
  pub fresh_incoming : IsFresh unit j.incoming
  pub fresh_outgoing : IsFresh unit j.outgoing
  pub first : j.first ≡ contact unit j.radius j.sense j.center j.incoming
  pub last : j.last ≡ contact unit j.radius j.sense j.center j.outgoing
  pub no_turn_back : pos 0 ≤ℤ (sense_of j.sense *ℤ cross (minus j.first j.center) (minus j.last j.center))

-- neighbours in a list of points round `v` never turn back in this sense
abbrev pub NeverTurnsBack : ArcDirection → Point → List Edge → Type 0
NeverTurnsBack sense v es = All (λ (e : Edge). pos 0 ≤ℤ (sense_of sense *ℤ turn v e.0 e.1)) es

-- `p` is away from `v` by at most the padding in each coordinate
abbrev pub IsWithinPadding : ℤ → Point → Point → Type 0
IsWithinPadding padding v p = IsInRectangle (minus v (padding, padding), plus v (padding, padding)) p

-- both ends of each edge are away from `v` by at most the padding in each coordinate
abbrev pub StaysWithin : ℤ → Point → List Edge → Type 0
StaysWithin padding v es = All (λ (e : Edge). IsWithinPadding padding v e.0 × IsWithinPadding padding v e.1) es

-- whether an edge does not turn back round the corner
abbrev pub runs_ahead : Joint → Edge → Bool
runs_ahead j e = int_le (pos 0) (sense_of j.sense *ℤ turn j.center e.0 e.1)

-- two points that have a direction from one to the other
pub record IsApart (unit : ℕ) (center point : Point) : Type 0 where
  pub safe : IsSafe (2 * unit) (minus point center)
  pub differ : point ≢ center

-- two directions are no longer than directions are
pub record HaveLength (unit : ℕ) (incoming outgoing : Point) : Type 0 where
  pub incoming_short : IsShort unit incoming
  pub outgoing_short : IsShort unit outgoing
