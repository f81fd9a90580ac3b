use Rattle.std.proofs.Common.{◌≡◌, ◌+◌, ◌*◌, ◌%◌, ◌^◌, take, fold}
use Rattle.mesh_store.proofs.ends_hasher.EndsHasherHasher.write.Given as goal

abbrev pub invariant-loop-b : goal.invariant-loop-b
invariant-loop-b l = l.number ≡ fold (λ n b. ((n * 256) % 2 ^ 64 + b) % 2 ^ 64) 0 (take l.b-index l.bytes)
