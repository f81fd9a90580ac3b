-- Lemmas over requests: what is requested, and what answers it.
use Rattle.std.proofs.Common.{◌≡◌, ◌∙◌, ℕ, ◌<◌, List, [], ◌∷◌, Bool, true, false, length, Option, None, Some, Result, Ok, Err, option_and_then, refl, sym, ap, subst, arith}
use Rattle.std.specs.Prelude.{ℤ, IsUtf8, if◌then◌else◌}
use Rattle.std.proofs.lemmas.Bool.{true≢false, false≢true}
use Rattle.std.proofs.lemmas.Option.{none-some}
use Rattle.serde_json.proofs.OnLiterals.{serde_json_on_literals}
use Rattle.std.specs.declared.cmp.Ordering.{Ordering}
use Rattle.serde_json.specs.Data.{Data}
use Rattle.serde_json.specs.Read.{read}
use Rattle.serde_json.specs.Written.{has_float}
use Rattle.mesh_num.specs.Paths.{paths_of, shapes_of}
use Rattle.mesh_below.specs.Options.{choices_of}
use Rattle.mesh_drawing.specs.Answers.{IsDrawn, PassesLimit}
use Rattle.mesh_drawing.specs.Drawings.{MayBeDrawn}
use Rattle.mesh_drawing.specs.Drawn.{Drawn}
use Rattle.mesh_drawing.specs.declared.asked.Answer.{Answer}
use Rattle.mesh_drawing.specs.declared.asked.Output.{Output}
use Rattle.mesh_request.specs.Requests.{Asked, Request, asked_of}
use Rattle.mesh_service.specs.Near.{ListsDrawingWithin}
use Rattle.mesh_service.specs.Private.Asking.{AnswersAs, IsGivenUpAs, ListsAnswer, asked_with, is_told}
use Rattle.mesh_service.specs.Requested.{Requested, for_drawing, requested_of}
use Rattle.mesh_service.specs.Served.{ListsDrawing}
use Rattle.mesh_service.specs.Serving.{exact_request, request_in}
use Rattle.mesh_service.specs.declared.text.AnyRequest.{AnyRequest}
use Rattle.mesh_service.specs.Private.Told.{IsReadOfValue}
use Rattle.mesh_service.specs.Reasons.{IsReadOf, IsTextReason, LiesIn}
use Rattle.mesh_service.specs.declared.reason.Reason.{Reason}
use Rattle.mesh_service.specs.declared.text.TextError.{TextError}
use Rattle.mesh_service.specs.declared.text.TextError.TheVariants.{NoRequest, OutOfMemory}
use Rattle.mesh_service.specs.declared.near.Telling.{Telling}

-- ---- texts and values that are read

pub exact_said : (d : Data) (request : Option Requested) → has_float d ≡ false → requested_of d ≡ request → exact_request d ≡ request
exact_said d request f q = rw f q

pub inexact : (d : Data) → has_float d ≡ true → exact_request d ≡ None
inexact d f = rw f refl

either_none : (request : Option Requested) (float : Bool) → request ≡ None → (if float then None else request) ≡ None
either_none request true none = refl
either_none request false none = none

pub no_request : (d : Data) → requested_of d ≡ None → exact_request d ≡ None
no_request d none = either_none (requested_of d) (has_float d) none

request_read : (text : List ℕ) (d : Data) → read text ≡ Some d → request_in text ≡ exact_request d
request_read text d e = ap (λ (o : Option Data). option_and_then exact_request o) e

-- a text that is a value has bytes
value_has_bytes : (text : List ℕ) (d : Data) → read text ≡ Some d → 0 < length text
unfolding serde_json_on_literals
value_has_bytes [] d e = absurd (none-some d e)
value_has_bytes (b ∷ bytes) d e = omega arith

-- a text that is a request has bytes
pub request_has_bytes : (text : List ℕ) (request : Requested) → request_in text ≡ Some request → 0 < length text
request_has_bytes text request requested = by (read text) refl requested
  where
    by : (value : Option Data) → read text ≡ value → option_and_then exact_request value ≡ Some request → 0 < length text
    by None e same = absurd (none-some request same)
    by (Some d) e same = value_has_bytes text d e

-- a text is read as the value that it is
pub value_read : (text : List ℕ) (d : Data) (told : Result AnyRequest TextError) → IsUtf8 text → read text ≡ Some d → IsReadOfValue d told → IsReadOf text told
value_read text d (Ok request) utf8 e exact = (utf8, request_read text d e ∙ exact)
value_read text d (Err (NoRequest reason)) utf8 e (none, lies) = (λ _. request_read text d e ∙ none, LiesIn.in_value d e lies)
value_read text d (Err OutOfMemory) utf8 e tried = value_has_bytes text d e

-- what is no value is no request
pub text_unread : (text : List ℕ) (reason : Reason) → (IsUtf8 text → read text ≡ None) → IsTextReason text reason → IsReadOf text (Err (NoRequest reason))
text_unread text reason none told = (λ utf8. ap (λ (o : Option Data). option_and_then exact_request o) (none utf8), LiesIn.in_text none told)

-- ---- requests that are answered

-- what is asked of the drawing of a request, and listed in a line, answers it
pub answered_as : {C W U : Type 0} (telling : Option Telling) (order : ℤ → ℤ → Ordering) (unit : ℕ) (value : U → ℕ) (drawn : Drawn) (output : Output U) (distances : Bool) (answer : Answer C W U) (line : List ℕ) →
    MayBeDrawn unit drawn → IsDrawn order unit value drawn (asked_with telling output) answer → ListsAnswer distances unit drawn (is_told telling) answer line →
    AnswersAs telling order (for_drawing (record { unit = unit; drawn = drawn; asked = asked_of value output; distances = distances })) line
answered_as None order unit value drawn output distances (Answer.Edges lists) line accepted (asked, each) written =
    let request : Request = record { unit = unit; drawn = drawn; asked = asked_of value output; distances = distances } in
    record {
      accepted = accepted;
      listed = subst (λ (o : Asked). ListsDrawing order request line o) (sym (ap (asked_of value) asked)) (record { lists = paths_of lists.items; each = each; written = written });
    }
answered_as None order unit value drawn output distances (Answer.Shapes shapes) line accepted answered listed =
    let request : Request = record { unit = unit; drawn = drawn; asked = asked_of value output; distances = distances } in
    record {
      accepted = accepted;
      listed = subst (λ (o : Asked). ListsDrawing order request line o) (sym (ap (asked_of value) answered.output))
          (record { shapes = shapes_of shapes.items; drawn = answered.shapes; told = listed.told; distances = listed.distances; written = listed.written });
    }
answered_as None order unit value drawn output distances (Answer.NearShapes near) line accepted answered listed = absurd (true≢false answered.told)
answered_as (Some telling) order unit value drawn output distances (Answer.Edges lists) line accepted (asked, each) written =
    let request : Request = record { unit = unit; drawn = drawn; asked = asked_of value output; distances = distances } in
    record {
      accepted = accepted;
      listed = subst (λ (o : Asked). ListsDrawingWithin telling order request line o) (sym (ap (asked_of value) asked)) (record { lists = paths_of lists.items; each = each; written = written });
    }
answered_as (Some telling) order unit value drawn output distances (Answer.Shapes shapes) line accepted answered listed = absurd (false≢true answered.plain)
answered_as (Some telling) order unit value drawn output distances (Answer.NearShapes near) line accepted answered listed =
    let request : Request = record { unit = unit; drawn = drawn; asked = asked_of value output; distances = distances } in
    record {
      accepted = accepted;
      listed = subst (λ (o : Asked). ListsDrawingWithin telling order request line o) (sym (ap (asked_of value) answered.output))
          (record { shapes = shapes_of near.shapes.items; nearness = near.nearness; drawn = answered.shapes; told = listed.told; distances = listed.distances; written = listed.written });
    }

-- one that takes more splits than it may is given up
pub given_up_as : {U : Type 0} (telling : Option Telling) (unit : ℕ) (value : U → ℕ) (drawn : Drawn) (output : Output U) (distances : Bool) → PassesLimit unit drawn (asked_with telling output) →
    IsGivenUpAs telling (for_drawing (record { unit = unit; drawn = drawn; asked = asked_of value output; distances = distances }))
given_up_as None unit value drawn output distances passed = absurd (omega (arith, passed.limited))
given_up_as (Some telling) unit value drawn output distances passed = record {
  choices = choices_of value passed.options;
  shapes = ap (asked_of value) passed.output;
  accepted = passed.accepted;
  past = passed.past;
}
