-- What the overlay answers, in one fact.
use Rattle.std.specs.Prelude.{ℕ, ◌≡◌, Bool, true, List, ℤ}
use Rattle.std.specs.List.{flat_map}
use Rattle.mesh_num.specs.Paths.{contours_of}
use Rattle.mesh_plane.specs.Plane.{Point, Edge}
use Rattle.mesh_plane.specs.Winding.{boundary}
use Rattle.mesh_lattice.specs.Reach.{ArePointsSafe}
use Rattle.mesh_shapes.specs.Resolution.{Choices, IsResolution}
use Rattle.mesh_below.specs.Answers.{AreOwnBoundary, IsSettled}
use Rattle.mesh_below.specs.Laws.{AreRegions}

-- an answer is a resolution of the edges, made of regions of what is filled, in the safe range; where `settled` is
-- true, it is settled, and where `own` is true, its edges are their own boundary
pub record IsOverlayAnswer (unit : ℕ) (edges : List Edge) (fill : ℤ → Bool) (options : Choices)
    (answer : List (List (List Point))) (settled own : Bool) : Type 0 where
  pub resolution : IsResolution edges fill options answer
  pub regions : AreRegions edges fill options answer
  pub safe : ArePointsSafe unit answer
  pub is_settled : settled ≡ true → IsSettled options answer
  pub own_boundary : own ≡ true → AreOwnBoundary (flat_map boundary (contours_of answer))
