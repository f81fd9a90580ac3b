-- What may be known of an answer.
use Rattle.std.specs.Prelude.{List}
use Rattle.std.specs.List.{flat_map}
use Rattle.mesh_num.specs.Paths.{contours_of}
use Rattle.mesh_plane.specs.Plane.{Point, Edge}
use Rattle.mesh_plane.specs.Winding.{boundary}
use Rattle.mesh_lattice.specs.Boundary.{IsBoundary}
use Rattle.mesh_lattice.specs.Clean.{IsProper}
use Rattle.mesh_lattice.specs.FillRules.{filled}
use Rattle.mesh_lattice.specs.declared.fill.FillRule.TheVariants.{Positive}
use Rattle.mesh_regions.specs.SideLaws.{AreSplit}
use Rattle.mesh_shapes.specs.Resolution.{Choices, IsResolution}

-- an answer is settled where it is a resolution of its own edges too, by the fill rule `Positive` and with the same
-- options, and none of them ends where it starts
pub record IsSettled (options : Choices) (answer : List (List (List Point))) : Type 0 where
  pub proper : IsProper (flat_map boundary (contours_of answer))
  pub resolution : IsResolution (flat_map boundary (contours_of answer)) (filled Positive) options answer

-- edges are their own boundary: any two share only common ends, and of each the left side alone is filled by the fill
-- rule `Positive`
pub record AreOwnBoundary (es : List Edge) : Type 0 where
  pub split : AreSplit es
  pub bounded : IsBoundary es (filled Positive) es
