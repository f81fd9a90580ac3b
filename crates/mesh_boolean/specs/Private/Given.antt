-- What stands after the edges of polygons were added. Private contracts alone read this.
use Rattle.std.specs.Prelude.{ℕ, ◌≡◌, List, []}
use Rattle.std.specs.List.{flat_map}
use Rattle.mesh_plane.specs.Plane.{Point}
use Rattle.mesh_num.specs.Segments.{SignedEdge, edges_of}
use Rattle.mesh_below.specs.Asked.{AreResolvable}
use Rattle.mesh_offset.specs.Adding.{answer_edges}
use Rattle.mesh_offset.specs.Built.{AddsClosed}
use Rattle.mesh_boolean.specs.Zones.{edges_by}
use Rattle.mesh_boolean.specs.declared.rule.Way.{Way}

-- segments that can be resolved, of the polygons that are looked at
pub record AreGiven (unit : ℕ) (by : Way) (first second : List (List (List Point))) (ss : List SignedEdge) : Type 0 where
  pub resolvable : AreResolvable unit ss
  pub same : edges_of ss ≡ edges_by by first second

-- the segments of all zones, closed and safe
abbrev pub AreZonesGiven : ℕ → List (List (List (List Point))) → List SignedEdge → Type 0
AreZonesGiven unit zones ss = AddsClosed unit [] ss (flat_map answer_edges zones)
