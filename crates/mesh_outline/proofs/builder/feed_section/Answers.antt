-- After the corner the moved edge is added.
use Rattle.mesh_offset.proofs.Adding.{on_ok_then}
use Rattle.mesh_outline.proofs.Steps.{step_added, step_room}
use Rattle.mesh_outline.proofs.builder.feed_section.Goals as goal

pub returns-clause-ok : goal.returns-clause-ok
returns-clause-ok g c =
    on_ok_then c.push_non_degenerate.result c.push_non_degenerate.ensures.ok
    (step_added _ c.args.next.now c.args.segments.now.items c.feed_join.new.segments.items _ _ c.next.view_is c.in_ok-feed_join.ensures.ok)

pub returns-clause-room : goal.returns-clause-room
returns-clause-room g c few room =
    c.push_non_degenerate.ensures.room
    (step_room _ c.args.next.now c.args.segments.now.items c.feed_join.new.segments.items _ _ _ c.next.view_is c.in_ok-feed_join.ensures.ok c.feed_join.ensures.capacity room)
