use Rattle.std.proofs.Common.{arith}
use Rattle.std.proofs.lemmas.List.Elements.{All-get_or}
use Rattle.mesh_pairs.specs.Pairs.{IsClose}
use Rattle.mesh_clear.proofs.doubts.push_close.Goals as goal

pub is_pair_clear-requires-clause-pair : goal.is_pair_clear-requires-clause-pair
is_pair_clear-requires-clause-pair c = All-get_or (IsClose c.args.paths.now.edges.items) c.args.close.now c.loop-pair.pair-index (0, 0) (omega (arith, c.loop-pair-test.true)) c.requires.close
