-- The offset's size fits, and the corner is as a join asks.
use Rattle.std.proofs.Common.{◌≡◌, ◌≤◌, ◌^◌, ◌∙◌}
use Rattle.std.specs.Prelude.{pos, unsigned_abs}
use Rattle.mesh_offset.proofs.Padding.{radius_within}
use Rattle.mesh_outline.proofs.Corners.{joint_met}
use Rattle.mesh_outline.proofs.builder_join.JoinJoinBuilder.add_join.Goals as goal

pub from_wide-radius-requires : goal.from_wide-radius-requires
from_wide-radius-requires g c =
    radius_within g.I.IntNumber.unit (unsigned_abs (g.I.IntNumber.value c.args.offset)) c.args.previous.now.a _ c.requires.corner.previous.safe_a c.wide_size.ensures

pub add-requires : goal.add-requires
add-requires g c =
    let least : 2 ^ 14 ≤ g.I.IntNumber.unit = g.met.I.IntNumber.least_law in
    let radius : g.I.IntNumber.value c.from_wide-radius.result ≡ pos (unsigned_abs (g.I.IntNumber.value c.args.offset)) = c.from_wide-radius.ensures ∙ c.wide_size.ensures in
    let corner = rw (← c.previous.view_is, ← c.next.view_is) at c.requires.corner in
    let outer = rw (← c.previous.view_is, ← c.next.view_is) at c.requires.outer in
    rw (radius, c.sense.ensures) (joint_met g.I.IntNumber.unit (record { offset = g.I.IntNumber.value c.args.offset; join = c.args.self.now }) least _ corner outer)
