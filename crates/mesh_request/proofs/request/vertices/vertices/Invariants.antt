use Rattle.std.proofs.Common.{◌≡◌, List, ◌++◌, drop, option_map}
use Rattle.serde_json.specs.View.{items_view}
use Rattle.mesh_join.specs.VariableStyles.{Vertex}
use Rattle.mesh_request.specs.Reading.{vertices_of}
use Rattle.mesh_request.proofs.request.vertices.vertices.Given as goal

-- the vertices so far, and what is left to read
abbrev pub invariant-loop-item : goal.invariant-loop-item
invariant-loop-item g l =
    vertices_of g.I.IntNumber.unit (items_view l.items) ≡ option_map (λ (vs : List Vertex). l.vertices.items ++ vs) (vertices_of g.I.IntNumber.unit (items_view (drop l.item-index l.items)))
