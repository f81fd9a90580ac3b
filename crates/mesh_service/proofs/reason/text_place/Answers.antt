-- One byte more is passed.
use Rattle.std.proofs.Common.{◌+◌}
use Rattle.mesh_service.proofs.Reasons.{byte_passed, line_passed, column_passed}
use Rattle.mesh_service.proofs.reason.text_place.Goals as goal

pub loop-byte-preserved : goal.loop-byte-preserved
loop-byte-preserved c =
    let (so_far, line, column) = c.loop-byte.invariant in (
      byte_passed c.args.text.now c.loop-byte.byte-index c.loop-byte.here c.after_byte-here.result c.loop-byte-test.true c.after_byte-here.ensures so_far,
      line_passed c.loop-byte.here c.after_byte-here.result _ (c.loop-byte.byte-index + 1) c.after_byte-here.ensures line,
      column_passed c.loop-byte.here c.after_byte-here.result _ (c.loop-byte.byte-index + 1) c.after_byte-here.ensures column,
    )
