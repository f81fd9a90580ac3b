-- Which nets in lists are nearer to each other than a distance, and what a call for that leaves. `point_of` is what the
-- numbers for a point stand for.
use Rattle.std.specs.Prelude.{ℕ, ◌*◌, ◌≡◌, ◌≤◌, ℤ, List, [], ◌∷◌, length, map, Result, MatchResult}
use Rattle.std.specs.declared.alloc.Global.{Global}
use Rattle.std.specs.declared.vec.Vec.{Vec}
use Rattle.mesh_plane.specs.Plane.{Point}
use Rattle.mesh_nets.specs.Nets.{AreClearances}
use Rattle.mesh_nets.specs.declared.nets.NetClearance.{NetClearance}
use Rattle.mesh_arrays.specs.Failures.{IsUnread}
use Rattle.mesh_arrays.specs.Numbers.{whole_point}
use Rattle.mesh_arrays.specs.Rooms.{overwritten}
use Rattle.mesh_arrays.specs.ShapeRooms.{ShapeLists}
use Rattle.mesh_arrays.specs.Slivers.{AreShapesIn}
use Rattle.mesh_arrays.specs.Telling.{IsPut, Returns, TellsAnswer}
use Rattle.mesh_arrays.specs.declared.failure.Failure.{Failure}
use Rattle.mesh_arrays.specs.declared.nets.FlatNetClearance.{FlatNetClearance}
use Rattle.mesh_arrays.specs.declared.outcome.Outcome.{Outcome}

-- nets of these contours, each of one shape
abbrev pub nets_of : {A : Type 0} → List (List A) → List (List (List A))
nets_of nets = map (λ net. net ∷ []) nets

-- pairs as they are listed, whatever bits their numbers have
abbrev pub clearances_of : List FlatNetClearance → List NetClearance
clearances_of found = map (λ pair. record { first = pair.first; second = pair.second; squared = pair.squared }) found

-- the lists hold nets, each as the contours that stand in one group; and these pairs of them are nearer to each other
-- than the distance
pub record AnswersClearances {F : Type 0} (point_of : F → Point) (given : ShapeLists F) (distance : ℕ)
    (found : Vec FlatNetClearance Global) : Type 0 where
  pub nets : List (List (List Point))
  pub asked : AreShapesIn point_of given nets
  pub clearances : AreClearances (nets_of nets) (distance * distance) (clearances_of found.items)

-- what is answered where near nets are asked for: these, or why there are none
abbrev pub IsClearancesAnswer : {F : Type 0} → (F → Point) → ShapeLists F → ℕ
    → Result (Vec FlatNetClearance Global) Failure → Type 0
IsClearancesAnswer point_of given distance answer =
    MatchResult answer (AnswersClearances point_of given distance)
    (IsUnread ((nets : List (List (List Point))) → AreShapesIn point_of given nets → ⊥))

-- the room for pairs, and for how many there are
pub record ClearanceRoom : Type 0 where
  pub pairs : List FlatNetClearance
  pub count : ℕ

abbrev pub clearance_room : List FlatNetClearance → ℕ → ClearanceRoom
clearance_room pairs count = record { pairs = pairs; count = count }

-- items fit a room
abbrev pub DoFit : {A : Type 0} → List A → List A → Type 0
DoFit items room = length items ≤ length room

-- pairs are put into their room, where they fit, and how many they are is told
pub record LeavesClearances (found : Vec FlatNetClearance Global) (old new : ClearanceRoom) (ended : Outcome) : Type 0
  where
    pub put : IsPut DoFit overwritten found.items old.pairs new.pairs ended
    pub told : new.count ≡ length found.items

-- a call for the given nets that are nearer to each other than a distance
abbrev pub TellsClearances : ShapeLists (List ℤ) → ℕ → ClearanceRoom → ClearanceRoom → ℕ → Type 0
TellsClearances given distance old new code =
    Returns (λ ended. TellsAnswer (IsClearancesAnswer whole_point given distance) LeavesClearances old new ended) code
