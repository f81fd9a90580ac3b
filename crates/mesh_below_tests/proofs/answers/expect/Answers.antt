use Rattle.mesh_below_tests.proofs.answers.expect.Goals as goal

pub overlay-requires-clause-balanced : goal.overlay-requires-clause-balanced
overlay-requires-clause-balanced c = c.in_ok-expect_resolvable.ensures.balanced

pub overlay_into-requires-clause-balanced : goal.overlay_into-requires-clause-balanced
overlay_into-requires-clause-balanced c = c.in_ok-expect_resolvable.ensures.balanced
