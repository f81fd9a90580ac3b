-- Requests that combine operands, with the type of their coordinates.
use Rattle.mesh_boolean_request.specs.Requests.{RequestedCombination}
use Rattle.mesh_boolean_request.specs.declared.request.TypedCombination.{TypedCombination}
use Rattle.mesh_boolean_request.specs.declared.request.TypedCombination.TheVariants.{I16, I32}

-- what a request asks, whichever type its coordinates have
abbrev pub untyped : TypedCombination → RequestedCombination
untyped (I16 request) = request
untyped (I32 request) = request
