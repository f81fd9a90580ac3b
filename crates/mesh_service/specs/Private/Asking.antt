-- What is asked of a drawing, and the line that lists its answer: only private contracts read this.
use Rattle.std.specs.Prelude.{ℕ, ◌≡◌, Bool, true, false, List, Option, Some, None, ℤ}
use Rattle.std.specs.declared.cmp.Ordering.{Ordering}
use Rattle.mesh_plane.specs.Plane.{Point}
use Rattle.mesh_num.specs.Paths.{paths_of, shapes_of}
use Rattle.mesh_drawing.specs.declared.asked.Answer.{Answer}
use Rattle.mesh_drawing.specs.declared.asked.Asked.{Asked}
use Rattle.mesh_drawing.specs.declared.asked.Output.{Output}
use Rattle.mesh_drawing.specs.Drawn.{Drawn}
use Rattle.mesh_service.specs.Distances.{AreAskedDistances}
use Rattle.mesh_service.specs.Lines.{told_edges_text, told_shapes_text, where_told}
use Rattle.mesh_service.specs.Near.{AnswersWithin, PassesLimit}
use Rattle.mesh_service.specs.Requested.{Requested}
use Rattle.mesh_service.specs.Served.{Answers}
use Rattle.mesh_service.specs.declared.distances.Distances.{Distances}
use Rattle.mesh_service.specs.declared.near.Telling.{Telling}

-- what is asked where something is told beside the answer, or nothing
abbrev pub asked_with : {U : Type 0} → Option Telling → Output U → Asked U
asked_with None output = record { output = output; most_splits = 0; nearness = false }
asked_with (Some telling) output = record { output = output; most_splits = telling.most_splits; nearness = true }

-- whether the nearness is told
abbrev pub is_told : Option Telling → Bool
is_told None = false
is_told (Some telling) = telling.nearness

-- the line lists shapes of a drawing, with a nearness where there is one, and their distances where these are asked for
pub record ListsMeasured (asked : Bool) (unit : ℕ) (drawn : Drawn) (nearness : Option ℕ)
    (shapes : List (List (List Point))) (line : List ℕ) : Type 0 where
  pub told : Option Distances
  pub distances : AreAskedDistances asked unit drawn shapes told
  pub written : line ≡ told_shapes_text nearness told shapes

-- the line lists an answer, with its nearness where that is told, and the distances of shapes where these are asked for
abbrev pub ListsAnswer : {C W U : Type 0} → Bool → ℕ → Drawn → Bool → Answer C W U → List ℕ → Type 0
ListsAnswer distances unit drawn told (Answer.Edges lists) line = line ≡ told_edges_text told (paths_of lists.items)
ListsAnswer distances unit drawn told (Answer.Shapes shapes) line =
    ListsMeasured distances unit drawn None (shapes_of shapes.items) line
ListsAnswer distances unit drawn told (Answer.NearShapes near) line =
    ListsMeasured distances unit drawn (where_told told near.nearness) (shapes_of near.shapes.items) line

-- the line answers a request that is accepted
abbrev pub AnswersAs : Option Telling → (ℤ → ℤ → Ordering) → Requested → List ℕ → Type 0
AnswersAs None order request line = Answers order request line
AnswersAs (Some telling) order request line = AnswersWithin telling order request line

-- a limit is set, and was passed
abbrev pub IsGivenUpAs : Option Telling → Requested → Type 0
IsGivenUpAs None request = ⊥
IsGivenUpAs (Some telling) request = PassesLimit telling.most_splits request
