use Rattle.std.proofs.Common.{◌≡◌, List, ◌++◌, drop, option_map}
use Rattle.serde_json.specs.View.{items_view}
use Rattle.mesh_num.specs.Paths.{paths_of}
use Rattle.mesh_join.specs.VariableStyles.{Vertex}
use Rattle.mesh_request.specs.Reading.{vertex_path_list_of}
use Rattle.mesh_request.proofs.request.vertices.vertex_path_list.Given as goal

-- the paths so far, and what is left to read
abbrev pub invariant-loop-item : goal.invariant-loop-item
invariant-loop-item g l =
    vertex_path_list_of g.I.IntNumber.unit (items_view l.items)
    ≡ option_map (λ (ps : List (List Vertex)). paths_of l.paths.items ++ ps) (vertex_path_list_of g.I.IntNumber.unit (items_view (drop l.item-index l.items)))
