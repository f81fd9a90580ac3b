-- Requests with the type of their coordinates.
use Rattle.mesh_request.specs.Requests.{Request}
use Rattle.mesh_request.specs.declared.request.TypedRequest.{TypedRequest}
use Rattle.mesh_request.specs.declared.request.TypedRequest.TheVariants.{I16, I32}

-- what a request asks, whichever type its coordinates have
abbrev pub untyped : TypedRequest → Request
untyped (I16 request) = request
untyped (I32 request) = request
