use Rattle.std.proofs.Common.{◌≡◌, List, ◌++◌, drop, option_map}
use Rattle.serde_json.specs.View.{items_view}
use Rattle.mesh_num.specs.Paths.{paths_of}
use Rattle.mesh_plane.specs.Plane.{Point}
use Rattle.mesh_request.specs.Reading.{path_list_of}
use Rattle.mesh_request.proofs.request.paths.path_list.Given as goal

-- the paths so far, and what is left to read
abbrev pub invariant-loop-item : goal.invariant-loop-item
invariant-loop-item g l =
    path_list_of g.I.IntNumber.unit (items_view l.items) ≡ option_map (λ (ps : List (List Point)). paths_of l.paths.items ++ ps) (path_list_of g.I.IntNumber.unit (items_view (drop l.item-index l.items)))
