use Rattle.std.proofs.Common.{length, sym, ◌∙◌}
use Rattle.mesh_lattice.proofs.KeptBySplits.{after_none}
use Rattle.mesh_in_line.specs.Private.Lines.{cuts_to, point_at}
use Rattle.mesh_in_line.proofs.Along.{pieces_more, span_known}
use Rattle.mesh_in_line.proofs.in_line.pieces.Goals as goal

pub loop-k-init : goal.loop-k-init
loop-k-init c = λ firsts h. c.in_ok-cut.ensures.items ∙ sym (after_none (cuts_to (point_at c.args.level c.args.places.now) firsts (length c.args.places.now)))

pub push_pieces-requires : goal.push_pieces-requires
push_pieces-requires c = λ l. (span_known c.args.level c.args.places.now c.args.edges.now c.args.spans.now c.loop-k.k c.requires.placed c.loop-k-test.true l).within

pub loop-k-preserved : goal.loop-k-preserved
loop-k-preserved c =
    λ firsts h.
    pieces_more c.args.level c.args.places.now c.args.edges.now c.args.spans.now firsts c.loop-k.k c.loop-k.cut.items c.push_pieces.new.cut.items
    (record { rising = c.requires.rising; placed = c.requires.placed; first = h }) c.loop-k-test.true c.in_ok-push_pieces.ensures.along c.in_ok-push_pieces.ensures.beside (c.loop-k.invariant firsts h)
