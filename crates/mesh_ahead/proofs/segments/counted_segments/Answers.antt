use Rattle.mesh_ahead.proofs.Sizes.{segments_more, sizes_more}
use Rattle.mesh_ahead.proofs.segments.counted_segments.Goals as goal

pub loop-piece-preserved : goal.loop-piece-preserved
loop-piece-preserved c = record {
  value =
      segments_more c.args.pieces.now c.loop-piece.segments.items c.push.new.self.items c.counted_segment.result c.loop-piece.piece-index c.loop-piece-test.true c.in_ok-push.ensures.items
      c.counted_segment.ensures.value c.loop-piece.invariant.value;
  room = sizes_more c.loop-piece.segments.items c.push.new.self.items c.counted_segment.result c.loop-piece.piece-index c.in_ok-push.ensures.items c.counted_segment.ensures.few c.loop-piece.invariant.room;
}
