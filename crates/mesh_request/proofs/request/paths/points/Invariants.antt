use Rattle.std.proofs.Common.{◌≡◌, List, ◌++◌, drop, option_map}
use Rattle.serde_json.specs.View.{items_view}
use Rattle.mesh_plane.specs.Plane.{Point}
use Rattle.mesh_request.specs.Reading.{point_list_of}
use Rattle.mesh_request.proofs.request.paths.points.Given as goal

-- the points so far, and what is left to read
abbrev pub invariant-loop-item : goal.invariant-loop-item
invariant-loop-item g l =
    point_list_of g.I.IntNumber.unit (items_view l.items) ≡ option_map (λ (ps : List Point). l.points.items ++ ps) (point_list_of g.I.IntNumber.unit (items_view (drop l.item-index l.items)))
