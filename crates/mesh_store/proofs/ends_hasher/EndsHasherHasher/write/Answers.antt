use Rattle.std.proofs.Common.{take_all, rules}
use Rattle.std.proofs.hash.Loops.{byte_more}
use Rattle.mesh_store.proofs.ends_hasher.EndsHasherHasher.write.Goals as goal

pub loop-b-preserved : goal.loop-b-preserved
loop-b-preserved c = search (rules, byte_more)

pub returns : goal.returns
returns c = search (rules, take_all)
