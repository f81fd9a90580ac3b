-- What is still to be added, and that the sections still to come meet.
use Rattle.std.proofs.Common.{◌≡◌, ◌≤◌, ◌++◌}
use Rattle.std.specs.Prelude.{vec_capacity}
use Rattle.mesh_join.specs.Cleaned.{cleaned_sections}
use Rattle.mesh_join.specs.Styles.{OffsetJoin}
use Rattle.mesh_offset.specs.Adding.{Keeps}
use Rattle.mesh_outline.proofs.BuilderWalk.{to_come, walk_segments, Continues}
use Rattle.mesh_outline.proofs.builder.draw.Given as goal

abbrev pub invariant-loop-segment : goal.invariant-loop-segment
invariant-loop-segment g l =
    let style : OffsetJoin = record { offset = g.I.IntNumber.value l.fn.offset; join = l.join } in
    record {
      todo : l.segments.items ++ to_come g.I.IntNumber.unit style l.previous l.segment-iterator l.first
          ≡ l.fn.segments.items ++ walk_segments g.I.IntNumber.unit style (cleaned_sections l.fn.path);
      kept : Keeps l.fn.segments.items l.segments.items;
      going : Continues g.I.IntNumber.unit style l.previous l.segment-iterator l.first;
      room : vec_capacity l.fn.segments ≤ vec_capacity l.segments;
      same : l.join ≡ l.fn.join;
    }
