-- Laws of sides, boundaries and answers. The function of the same name in the module `laws` carries each.
use Rattle.std.specs.Prelude.{ℕ, ◌<◌, ◌≡◌, Bool, true, false, List, [], map, ℤ, pos}
use Rattle.std.specs.List.{flat_map}
use Rattle.std.specs.List.Sorted.{IsPermutation}
use Rattle.mesh_num.specs.Paths.{contours_of}
use Rattle.mesh_plane.specs.Plane.{Point, Edge}
use Rattle.mesh_plane.specs.Winding.{boundary, winding, IsBalanced}
use Rattle.mesh_lattice.specs.Clean.{IsProper}
use Rattle.mesh_lattice.specs.FillRules.{filled}
use Rattle.mesh_lattice.specs.declared.fill.FillRule.TheVariants.{Positive}
use Rattle.mesh_shapes.specs.Contours.{vertices}
use Rattle.mesh_lattice.specs.Reach.{AreEdgesSafe, ArePointsSafe}
use Rattle.mesh_regions.specs.Regions.{OutsideBent, is_bent}
use Rattle.mesh_shapes.specs.Resolution.{Choices, IsResolution}
use Rattle.mesh_lattice.specs.Split.{after, occurs}
use Rattle.mesh_regions.specs.BoundaryLaws.{once}
use Rattle.mesh_below.specs.Meeting.{MeetInWholePoints}

-- an answer from which nothing is left out and in which nothing is reversed is answered again: what its edges, in any
-- order, are resolved into by the fill rule `Positive`, with nothing left out or reversed, winds as it does
abbrev pub IsAnsweredAgain : Choices → List (List (List Point)) → Type 0
IsAnsweredAgain options answer =
    options.least_area ≡ 0 → options.clockwise ≡ false
    → (edges : List Edge) → IsPermutation edges (flat_map boundary (contours_of answer))
    → (choices : Choices) → choices.least_area ≡ 0 → choices.clockwise ≡ false
    → (next : List (List (List Point))) → IsResolution edges (filled Positive) choices next
    → (m : ℕ) → 0 < m → (q : Point)
    → winding m q (flat_map boundary (contours_of next)) ≡ winding m q (flat_map boundary (contours_of answer))

-- the contours of a resolution, with the vertices that are answered and before small ones are left out, wind once round
-- each point where the split segments' winding is filled, and round no other; where no bent edge's box holds the point,
-- that is the winding of the given edges, as is that of the split segments; and where nothing is left out or reversed,
-- the answer's contours wind as these
pub record AreRegions (edges : List Edge) (fill : ℤ → Bool) (options : Choices) (answer : List (List (List Point)))
    : Type 0 where
  pub resolution : IsResolution edges fill options answer
  pub split : (m : ℕ) → 0 < m → (q : Point) →
      winding m q (flat_map boundary (map (vertices options.all_vertices) resolution.contours))
      ≡ once fill (winding m q (after resolution.splits edges))
  pub given : (m : ℕ) → 0 < m → (q : Point) → OutsideBent resolution.splits edges m q →
      winding m q (flat_map boundary (map (vertices options.all_vertices) resolution.contours))
      ≡ once fill (winding m q edges)
  pub unbent : (m : ℕ) → 0 < m → (q : Point) → OutsideBent resolution.splits edges m q →
      winding m q (after resolution.splits edges) ≡ winding m q edges
  pub answered : options.least_area ≡ 0 → options.clockwise ≡ false → (m : ℕ) (q : Point) →
      winding m q (flat_map boundary (contours_of answer))
      ≡ winding m q (flat_map boundary (map (vertices options.all_vertices) resolution.contours))
  -- where the given edges meet in whole points alone, none is bent
  pub never_bent : MeetInWholePoints edges → (e : Edge) → occurs e edges ≡ true → is_bent resolution.splits e ≡ false
  -- the answer's edges meet so, by any options, and none of them ends where it starts
  pub meeting : MeetInWholePoints (flat_map boundary (contours_of answer))
  pub proper : IsProper (flat_map boundary (contours_of answer))
  pub again : IsAnsweredAgain options answer

-- each resolution of balanced edges is made of such regions
abbrev pub AnswersAreRegions : Type 0
AnswersAreRegions =
    (edges : List Edge) (fill : ℤ → Bool) (options : Choices) (answer : List (List (List Point)))
    → IsProper edges → IsBalanced edges → fill (pos 0) ≡ false
    → (r : IsResolution edges fill options answer)
    → (made : AreRegions edges fill options answer) × (made.resolution ≡ r)

-- where there is no edge, no shape is answered
abbrev pub NothingHasNoShapes : Type 0
NothingHasNoShapes =
    (fill : ℤ → Bool) (options : Choices) (answer : List (List (List Point)))
    → IsResolution [] fill options answer → answer ≡ []

-- split segments and answers of edges in the safe range are in the safe range
abbrev pub AnswersAreSafe : Type 0
AnswersAreSafe =
    (unit : ℕ) (edges : List Edge) (fill : ℤ → Bool) (options : Choices) (answer : List (List (List Point)))
    → AreEdgesSafe unit edges → (r : IsResolution edges fill options answer)
    → AreEdgesSafe unit (after r.splits edges) × ArePointsSafe unit answer
