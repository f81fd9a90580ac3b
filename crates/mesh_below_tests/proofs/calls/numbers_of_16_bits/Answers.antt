use Rattle.mesh_below_tests.proofs.calls.numbers_of_16_bits.Goals as goal

pub overlay-requires-clause-balanced : goal.overlay-requires-clause-balanced
overlay-requires-clause-balanced g c = c.in_ok-expect_resolvable.ensures.balanced
