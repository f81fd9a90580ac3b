-- What a stroke holds for certain, as twice the square of a distance `t`.
use Rattle.std.specs.Prelude.{⊤, ℕ, ◌≡◌, ◌+◌, ◌*◌, ◌<◌, ◌≤◌, Bool, true, false, IsTrue, List, [], ◌∷◌, ℤ, pos, ◌<ℤ◌, unsigned_abs}
use Rattle.std.specs.List.{All, Contains}
use Rattle.mesh_plane.specs.Plane.{Point, Edge, minus, dot}
use Rattle.mesh_plane.specs.Turning.{last_of}
use Rattle.mesh_plane.specs.Winding.{holds, refined, winding}
use Rattle.mesh_num.specs.Direction.{scaled_direction}
use Rattle.mesh_num.specs.Segments.{proper_edges}
use Rattle.mesh_lattice.specs.Nearness.{IsFarFrom}
use Rattle.mesh_lattice.specs.Split.{back}
use Rattle.mesh_shapes.specs.Resolution.{Choices}
use Rattle.mesh_join.specs.declared.style.StrokeSide.TheVariants.{Both}
use Rattle.mesh_reach.specs.Reach.{IsReached}
use Rattle.mesh_offset.specs.Adding.{answer_edges}
use Rattle.mesh_stroke.specs.Caps.{CapKind}
use Rattle.mesh_stroke.specs.Caps.CapKind.{Butt, Square, Round, Custom}
use Rattle.mesh_stroke.specs.Drawn.{HasStockCaps}
use Rattle.mesh_stroke.specs.Paths.{neighbours, path_edges}
use Rattle.mesh_stroke.specs.Regions.{AreStrokeRegionsBeyond}
use Rattle.mesh_stroke.specs.Strokes.{EdgePair, heading, facing, outer_edges, cap_at, stroke_pieces}
use Rattle.mesh_stroke.specs.Styles.{StrokeStyle}
use Rattle.mesh_inner.specs.Room.{IsWideEnough, FansHaveRoom}

-- the direction of a section, as long as the radius
abbrev pub step : ℕ → ℤ → Edge → Point
step unit radius e = scaled_direction unit radius (heading unit e)

-- both sides of a section are so far from it
abbrev pub IsSectionWide : ℕ → ℤ → ℕ → Edge → Type 0
IsSectionWide unit radius t e = IsWideEnough t (step unit radius e) (minus e.1 e.0)

-- the join at a corner leaves that room; edges whose ends are one point are not drawn
abbrev pub HasJoinRoom : ℕ → StrokeStyle → ℕ → EdgePair → Type 0
HasJoinRoom unit style t c =
    FansHaveRoom t (facing c).0.1 (proper_edges (outer_edges unit style.radius style.join (facing c)))

-- the cap at the end of an edge does; a butt cap has none
abbrev pub HasCapRoom : ℕ → ℤ → ℕ → CapKind → Edge → Type 0
HasCapRoom unit radius t Butt e = ⊤
HasCapRoom unit radius t Square e = FansHaveRoom t e.1 (proper_edges (cap_at unit radius Square e))
HasCapRoom unit radius t (Round options) e = FansHaveRoom t e.1 (proper_edges (cap_at unit radius (Round options) e))
HasCapRoom unit radius t (Custom points) e = FansHaveRoom t e.1 (proper_edges (cap_at unit radius (Custom points) e))

-- so do the caps at both ends of an open path
unfoldable pub HaveEndsRoom : ℕ → StrokeStyle → Bool → ℕ → List Edge → Type 0
HaveEndsRoom unit style true t es = ⊤
HaveEndsRoom unit style false t [] = ⊤
HaveEndsRoom unit style false t (e ∷ es) =
    HasCapRoom unit style.radius t style.start (back e) × HasCapRoom unit style.radius t style.end (last_of e es)

-- the point `q` of the grid `m` does not lie beyond the end of an edge, or on the line across it, if the cap is a butt
abbrev pub IsBeforeButt : ℕ → ℤ → ℕ → Point → CapKind → Edge → Type 0
IsBeforeButt unit radius m q Butt e = dot (step unit radius e) (minus q (refined m e.1)) <ℤ pos 0
IsBeforeButt unit radius m q Square e = ⊤
IsBeforeButt unit radius m q (Round options) e = ⊤
IsBeforeButt unit radius m q (Custom points) e = ⊤

-- neither beyond an open path's end nor before its start, where these are butts
unfoldable pub IsBetweenButts : ℕ → StrokeStyle → Bool → ℕ → Point → List Edge → Type 0
IsBetweenButts unit style true m q es = ⊤
IsBetweenButts unit style false m q [] = ⊤
IsBetweenButts unit style false m q (e ∷ es) =
    IsBeforeButt unit style.radius m q style.start (back e) × IsBeforeButt unit style.radius m q style.end (last_of e es)

-- so far every section, every join and every cap of a stroke reaches but butt caps
pub record HasInnerReach (unit : ℕ) (style : StrokeStyle) (closed : Bool) (t : ℕ) (es : List Edge) : Type 0 where
  pub sections : All (IsSectionWide unit style.radius t) es
  pub joins : All (HasJoinRoom unit style t) (neighbours closed es)
  pub ends : HaveEndsRoom unit style closed t es

-- one of some pieces holds the point `q` of the grid `m`
pub record IsHeldByOne (m : ℕ) (q : Point) (pieces : List (List Point)) : Type 0 where
  pub piece : List Point
  pub listed : Contains pieces piece
  pub held : IsTrue (holds m q piece)

-- each point of each grid so near to a section of the path is held by a piece: the 2 is what rounding of sections takes
abbrev pub HoldsWhatIsNear : ℕ → StrokeStyle → Bool → ℕ → List Point → Type 0
HoldsWhatIsNear unit style closed t points =
    (b m : ℕ) (e : Edge) (q : Point) → b + 2 < t → 0 < m → Contains (path_edges closed points) e → IsReached b m e q
    → IsBetweenButts unit style closed m q (path_edges closed points) → IsHeldByOne m q (stroke_pieces unit style closed points)

-- each point of each grid is held whose squared distance from a section of the path is at most `s`
abbrev pub HoldsWithin : ℕ → StrokeStyle → Bool → ℕ → List Point → Type 0
HoldsWithin unit style closed s points =
    (m : ℕ) (e : Edge) (q : Point) → 0 < m → Contains (path_edges closed points) e → IsReached (2 * s) m e q
    → IsBetweenButts unit style closed m q (path_edges closed points) → IsHeldByOne m q (stroke_pieces unit style closed points)

-- strokes on both sides hold what is as near as they reach
abbrev pub StrokesHoldWhatIsNear : Type 0
StrokesHoldWhatIsNear =
    (unit : ℕ) (style : StrokeStyle) (closed : Bool) (t : ℕ) (points : List Point)
    → 0 < unit → pos 1 <ℤ style.radius → 4 * unsigned_abs style.radius ≤ unit → style.side ≡ Both
    → HasInnerReach unit style closed t (path_edges closed points) → HoldsWhatIsNear unit style closed t points

-- so does an answer, farther than its nearness `k` from each drawn edge: with no least area, outer contours
-- counterclockwise and no custom cap, it winds once round each point so near to a section of a path that leaves that room
abbrev pub StrokeAnswersHoldWhatIsNear : Type 0
StrokeAnswersHoldWhatIsNear =
    (k unit : ℕ) (style : StrokeStyle) (closed : Bool) (choices : Choices) (paths : List (List Point))
    (answer : List (List (List Point))) (made : AreStrokeRegionsBeyond k unit style closed choices paths answer)
    → 0 < unit → pos 1 <ℤ style.radius → 4 * unsigned_abs style.radius ≤ unit → style.side ≡ Both
    → HasStockCaps style closed → choices.least_area ≡ 0 → choices.clockwise ≡ false
    → (t : ℕ) (path : List Point) → Contains paths path → HasInnerReach unit style closed t (path_edges closed path)
    → (b m : ℕ) (e : Edge) (q : Point) → b + 2 < t → 0 < m → Contains (path_edges closed path) e → IsReached b m e q
    → IsBetweenButts unit style closed m q (path_edges closed path) → IsFarFrom k m made.stroke.built q → winding m q (answer_edges answer) ≡ pos 1
