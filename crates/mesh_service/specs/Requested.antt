-- Requests that are served: for what is drawn of paths, or for what is made of operands.
use Rattle.std.specs.Prelude.{Option, option_map, if◌then◌else◌}
use Rattle.serde_json.specs.Data.{Data}
use Rattle.mesh_boolean_request.specs.Reading.{names_combination, combination_request_of}
use Rattle.mesh_boolean_request.specs.Requests.{RequestedCombination}
use Rattle.mesh_boolean_request.specs.Typed.{untyped as untyped_combination}
use Rattle.mesh_request.specs.Reading.{request_of}
use Rattle.mesh_request.specs.Requests.{Request}
use Rattle.mesh_request.specs.Typed.{untyped}
use Rattle.mesh_service.specs.declared.text.AnyRequest.{AnyRequest}

-- a request, of either kind
pub data Requested : Type 0 where
  for_drawing : Request → Requested
  for_combination : RequestedCombination → Requested

-- what the code's request asks, whichever type its coordinates have
abbrev pub requested_by : AnyRequest → Requested
requested_by (AnyRequest.Drawing request) = for_drawing (untyped request)
requested_by (AnyRequest.Combination request) = for_combination (untyped_combination request)

-- the request that data is, of the kind that it names; what it has under other keys is not looked at
abbrev pub requested_of : Data → Option Requested
requested_of d =
    if names_combination d then option_map for_combination (combination_request_of d)
    else option_map for_drawing (request_of d)
