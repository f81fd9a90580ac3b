-- What is answered to requests by no more than a number of splits, with the nearness of the answer where that is asked.
use Rattle.std.specs.Prelude.{ℕ, ◌≡◌, ℤ, List, Option, Some, Bool, IsUtf8, Result, Ok, Err, string_bytes}
use Rattle.std.specs.declared.alloc.Global.{Global}
use Rattle.std.specs.Ordering.{int_cmp}
use Rattle.std.specs.declared.cmp.Ordering.{Ordering}
use Rattle.std.specs.declared.string.String.{String}
use Rattle.mesh_plane.specs.Plane.{Point, Edge}
use Rattle.mesh_shapes.specs.Resolution.{Choices}
use Rattle.mesh_offset.specs.Counting.{CountsAttempts}
use Rattle.mesh_offset.specs.declared.error.IntNearnessError.{IntNearnessError}
use Rattle.mesh_offset.specs.declared.error.IntNearnessError.TheVariants as near
use Rattle.mesh_offset.specs.declared.error.IntOutlineError.TheVariants.{CoordinateOutOfRange, OutOfMemory}
use Rattle.mesh_drawing.specs.Drawings.{AreEdgesOf, MayBeDrawn}
use Rattle.mesh_split.specs.Counting.{IsPastLimit, IsWithinLimit}
use Rattle.mesh_drawing.specs.Nearness.{AreShapesWithin, CountsUpTo, TakesMoreSplits}
use Rattle.mesh_boolean_request.specs.Requests.{RequestedCombination}
use Rattle.mesh_operands.specs.Combining.{Answered, MayBeCombined}
use Rattle.mesh_operands.specs.Nearness.{IsCombinationWithin, IsCombinedDrawing, all_lists}
use Rattle.mesh_request.specs.Requests.{Asked, Request}
use Rattle.mesh_service.specs.Distances.{AreAskedDistances}
use Rattle.mesh_service.specs.Lines.{told_combined_text, told_edges_text, told_shapes_text, where_told}
use Rattle.mesh_service.specs.Requested.{Requested, for_drawing, for_combination}
use Rattle.mesh_service.specs.Served.{IsAccepted}
use Rattle.mesh_service.specs.Serving.{request_in, IsResponse, TellsRefusal}
use Rattle.mesh_request.specs.declared.failure.Failure.TheVariants.{Refused}
use Rattle.mesh_service.specs.declared.distances.Distances.{Distances}
use Rattle.mesh_service.specs.declared.near.Telling.{Telling}
use Rattle.mesh_service.specs.declared.near_failure.NearFailure.{NearFailure}
use Rattle.mesh_service.specs.declared.near_failure.NearFailure.TheVariants.{Failed, TooManySplits}

-- the line lists the edges of each path, path by path; nothing is split for them, and their nearness is 0
pub record ListsToldEdges (told : Bool) (order : ℤ → ℤ → Ordering) (request : Request) (line : List ℕ) : Type 0 where
  pub lists : List (List Edge)
  pub each : AreEdgesOf order request.unit request.drawn lists
  pub written : line ≡ told_edges_text told lists

-- the line lists the shapes of what is drawn, with these choices, which are exact farther than their nearness from each
-- drawn edge and took no more splits than they might, and their distances where these are asked for
pub record ListsShapesWithin (telling : Telling) (choices : Choices) (request : Request) (line : List ℕ) : Type 0 where
  pub shapes : List (List (List Point))
  pub nearness : ℕ
  pub drawn : AreShapesWithin telling.most_splits nearness request.unit choices request.drawn shapes
  pub told : Option Distances
  pub distances : AreAskedDistances request.distances request.unit request.drawn shapes told
  pub written : line ≡ told_shapes_text (where_told telling.nearness nearness) told shapes

-- the line lists what is asked of what is drawn
abbrev pub ListsDrawingWithin : Telling → (ℤ → ℤ → Ordering) → Request → List ℕ → Asked → Type 0
ListsDrawingWithin telling order request line Asked.for_edges = ListsToldEdges telling.nearness order request line
ListsDrawingWithin telling order request line (Asked.for_shapes choices) =
    ListsShapesWithin telling choices request line

-- the line lists what is made of the operands, which is exact farther than its nearness from each of their edges and
-- took no more splits than it might
pub record ListsCombinationWithin (telling : Telling) (request : RequestedCombination) (line : List ℕ) : Type 0 where
  pub answer : Answered
  pub nearness : ℕ
  pub combined :
      CountsUpTo telling.most_splits
      (IsCombinationWithin nearness request.unit request.choices request.combined answer) IsWithinLimit
  pub written : line ≡ told_combined_text telling.nearness nearness answer

-- the line lists what is asked
abbrev pub ListsWithin : Telling → (ℤ → ℤ → Ordering) → List ℕ → Requested → Type 0
ListsWithin telling order line (for_drawing request) = ListsDrawingWithin telling order request line request.asked
ListsWithin telling order line (for_combination request) = ListsCombinationWithin telling request line

-- the line answers a request that is accepted
pub record AnswersWithin (telling : Telling) (order : ℤ → ℤ → Ordering) (request : Requested) (line : List ℕ)
    : Type 0 where
  pub accepted : IsAccepted request
  pub listed : ListsWithin telling order line request

-- shapes are asked for, and what is drawn may be drawn, and took more splits than a limit that is set
pub record DrawingPassesLimit (most : ℕ) (request : Request) : Type 0 where
  pub choices : Choices
  pub shapes : request.asked ≡ Asked.for_shapes choices
  pub accepted : MayBeDrawn request.unit request.drawn
  pub past : TakesMoreSplits most request.unit request.drawn

-- the operands may be combined, and what is made of them took more splits than a limit that is set
pub record CombinationPassesLimit (most : ℕ) (request : RequestedCombination) : Type 0 where
  pub accepted : MayBeCombined request.unit request.combined
  pub past :
      CountsUpTo most
      (CountsAttempts (all_lists request.combined) (IsCombinedDrawing request.unit request.combined)) IsPastLimit

-- a request took more splits than a limit that is set
abbrev pub PassesLimit : ℕ → Requested → Type 0
PassesLimit most (for_drawing request) = DrawingPassesLimit most request
PassesLimit most (for_combination request) = CombinationPassesLimit most request

-- `line` answers the request that `text`, in UTF-8, is
pub record IsAnswerWithin (telling : Telling) (text line : List ℕ) : Type 0 where
  pub utf8 : IsUtf8 text
  pub request : Requested
  pub requested : request_in text ≡ Some request
  pub answered : AnswersWithin telling int_cmp request line

-- the request that `text`, in UTF-8, is took more splits than a limit that is set
pub record IsGivenUpIn (most : ℕ) (text : List ℕ) : Type 0 where
  pub utf8 : IsUtf8 text
  pub request : Requested
  pub requested : request_in text ≡ Some request
  pub past : PassesLimit most request

-- the response to a text with a limit on splits: that without a limit, or that the limit was passed
abbrev pub IsResponseWithin : Telling → List ℕ → Result (String Global) NearFailure → Type 0
IsResponseWithin telling text (Ok line) = IsAnswerWithin telling text (string_bytes line)
IsResponseWithin telling text (Err (Failed failure)) = IsResponse text (Err failure)
IsResponseWithin telling text (Err TooManySplits) = IsGivenUpIn telling.most_splits text

-- what is told is a refusal, of the range or of memory
abbrev pub TellsNearRefusal : Result (String Global) NearFailure → Type 0
TellsNearRefusal (Ok line) = ⊥
TellsNearRefusal (Err (Failed failure)) = TellsRefusal (Err failure)
TellsNearRefusal (Err TooManySplits) = ⊥

-- the failure that an error of a call that tells its nearness is
abbrev pub of_nearness : IntNearnessError → NearFailure
of_nearness near.CoordinateOutOfRange = Failed (Refused CoordinateOutOfRange)
of_nearness near.OutOfMemory = Failed (Refused OutOfMemory)
of_nearness near.TooManySplits = TooManySplits
