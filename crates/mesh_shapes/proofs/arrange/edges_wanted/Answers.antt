use Rattle.std.proofs.lemmas.Bool.{both_ways}
use Rattle.mesh_shapes.proofs.arrange.edges_wanted.Goals as goal

pub returns-then-are_positive : goal.returns-then-are_positive
returns-then-are_positive c = λ i low flat. absurd (both_ways _ flat (c.are_positive.ensures c.if-are_positive.true i low))

pub returns : goal.returns
returns c = λ i low flat. c.in_ok-edges.ensures
