-- Where the walk stands.
use Rattle.std.proofs.Common.{◌≡◌, ◌≤◌}
use Rattle.std.specs.Prelude.{vec_capacity}
use Rattle.mesh_offset.specs.Adding.{Keeps}
use Rattle.mesh_stroke.specs.Building.{style_with}
use Rattle.mesh_stroke.specs.Paths.{path_edges}
use Rattle.mesh_stroke.proofs.Standing.{Stands}
use Rattle.mesh_stroke.proofs.builder.draw_path.Given as goal

abbrev pub invariant-loop-edge : goal.invariant-loop-edge
invariant-loop-edge g l = record {
  stands : Stands g.I.IntNumber.unit (style_with (g.I.IntNumber.value l.fn.radius) l.fn.side l.fn.join l.fn.caps) l.fn.closed (path_edges l.fn.closed l.fn.path)
      l.fn.segments.items l.segments.items l.first l.previous l.edge-iterator;
  kept : Keeps l.fn.segments.items l.segments.items;
  room : vec_capacity l.fn.segments ≤ vec_capacity l.segments;
  same : l.join ≡ l.fn.join;
}
