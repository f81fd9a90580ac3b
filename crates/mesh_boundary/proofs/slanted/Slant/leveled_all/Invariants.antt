use Rattle.std.proofs.Common.{◌≡◌, take, map}
use Rattle.mesh_boundary.specs.Private.Slants.{leveled_by}
use Rattle.mesh_boundary.proofs.slanted.Slant.leveled_all.Given as goal

abbrev pub invariant-loop-s : goal.invariant-loop-s
invariant-loop-s l = l.listed.items ≡ map (leveled_by l.self) (take l.s-index l.segments)
