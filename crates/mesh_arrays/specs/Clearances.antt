-- How near shapes in lists come to paths, and what a call for that leaves. `point_of` is what the numbers for a point
-- stand for.
use Rattle.std.specs.Prelude.{ℕ, suc, ◌≡◌, ◌<◌, ◌≤◌, ◌-◌, ◌^◌, ℤ, Bool, Some, List, Result, MatchResult}
use Rattle.std.specs.List.{All, flat_map}
use Rattle.mesh_num.specs.Paths.{contours_of}
use Rattle.mesh_plane.specs.Plane.{Point, Edge}
use Rattle.mesh_plane.specs.Winding.{boundary}
use Rattle.mesh_clearance.specs.Clearance.{AreAllApart, WindAsAtVertices, sections}
use Rattle.mesh_arrays.specs.EndToEnd.{PathLists, StandEndToEnd}
use Rattle.mesh_arrays.specs.Failures.{IsUnread}
use Rattle.mesh_arrays.specs.Numbers.{whole_point}
use Rattle.mesh_arrays.specs.ShapeRooms.{ShapeLists}
use Rattle.mesh_arrays.specs.Slivers.{AreShapesIn}
use Rattle.mesh_arrays.specs.Styles.{flag_in}
use Rattle.mesh_arrays.specs.Telling.{LeavesNumber, Returns, TellsAnswer}
use Rattle.mesh_arrays.specs.declared.failure.Failure.{Failure}

-- shapes and paths that are given in lists, and whether the paths are closed
pub record AreMeasured {F : Type 0} (point_of : F → Point) (given : ShapeLists F) (given_paths : PathLists F)
    (closed : ℕ) (shapes : List (List (List Point))) (paths : List (List Point)) (are_closed : Bool) : Type 0 where
  pub said : flag_in closed ≡ Some are_closed
  pub shaped : AreShapesIn point_of given shapes
  pub along : StandEndToEnd point_of paths given_paths

-- `t` is the greatest number up to `most` by which each edge of the first list is apart from each of the second. Where
-- one list has none, that is `most`; else, where `t` is below `most`, it is their squared distance, rounded down
pub record IsClearanceUpTo (most : ℕ) (es fs : List Edge) (t : ℕ) : Type 0 where
  pub apart : AreAllApart t es fs
  pub within : t ≤ most
  pub greatest : t < most → AreAllApart (suc t) es fs → ⊥

-- the clearance between the shapes' edges and the paths' sections, in 64 bits; and round each point that is nearer to a
-- path, the shapes wind as round each vertex of the path
pub record AnswersClearance {F : Type 0} (point_of : F → Point) (given : ShapeLists F) (given_paths : PathLists F)
    (closed clearance : ℕ) : Type 0 where
  pub shapes : List (List (List Point))
  pub paths : List (List Point)
  pub are_closed : Bool
  pub asked : AreMeasured point_of given given_paths closed shapes paths are_closed
  pub found :
      IsClearanceUpTo (2 ^ 64 - 1) (flat_map boundary (contours_of shapes)) (flat_map (sections are_closed) paths)
      clearance
  pub winding : All (WindAsAtVertices clearance are_closed (flat_map boundary (contours_of shapes))) paths

-- why there is none: the lists hold no shapes or no paths, a number does not say whether these are closed, or memory
-- was refused
abbrev pub HasNoClearance : {F : Type 0} → (F → Point) → ShapeLists F → PathLists F → ℕ → Failure → Type 0
HasNoClearance point_of given given_paths closed =
    IsUnread ((shapes : List (List (List Point))) (paths : List (List Point)) (are_closed : Bool)
    → AreMeasured point_of given given_paths closed shapes paths are_closed → ⊥)

-- what is answered where the clearance is asked for
abbrev pub IsClearanceAnswer : {F : Type 0} → (F → Point) → ShapeLists F → PathLists F → ℕ → Result ℕ Failure
    → Type 0
IsClearanceAnswer point_of given given_paths closed answer =
    MatchResult answer (AnswersClearance point_of given given_paths closed)
    (HasNoClearance point_of given given_paths closed)

-- a call for the clearance between given shapes and paths
abbrev pub TellsClearance : ShapeLists (List ℤ) → PathLists (List ℤ) → ℕ → ℕ → ℕ → ℕ → Type 0
TellsClearance given given_paths closed old new code =
    Returns (λ ended. TellsAnswer (IsClearanceAnswer whole_point given given_paths closed) LeavesNumber old new
    ended) code
