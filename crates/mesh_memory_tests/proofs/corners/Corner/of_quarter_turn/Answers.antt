-- The parts of a corner are as a turn asks, and its contact points don't turn back.
use Rattle.std.proofs.Common.{◌^◌, arith}
use Rattle.std.specs.Prelude.{pos}
use Rattle.std.proofs.lemmas.Int.{ints}
use Rattle.mesh_memory_tests.proofs.QuarterTurns.{turns_on}
use Rattle.mesh_memory_tests.proofs.corners.Corner.of_quarter_turn.Goals as goal

pub returns : goal.returns
returns c =
    let incoming = rw c.new.ensures at c.in_ok-incoming.ensures.value in
    let outgoing = rw c.new-2.ensures at c.in_ok-outgoing.ensures.value in
    record {
      radius_sign = omega (arith, ints);
      fresh_incoming = c.in_ok-incoming.ensures.fresh;
      fresh_outgoing = c.in_ok-outgoing.ensures.fresh;
      first = c.contact.ensures;
      last = c.contact-2.ensures;
      no_turn_back = rw (c.contact.ensures, c.contact-2.ensures) (turns_on (2 ^ 30) (pos 100000) (pos 0, pos 0) _ _ (omega arith) incoming outgoing);
    }
