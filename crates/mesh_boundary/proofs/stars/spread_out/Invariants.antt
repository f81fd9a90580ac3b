use Rattle.std.proofs.Common.{◌≡◌, take}
use Rattle.mesh_boundary.specs.Private.Stars.{fan_of}
use Rattle.mesh_boundary.proofs.stars.spread_out.Given as goal

abbrev pub invariant-loop-x : goal.invariant-loop-x
invariant-loop-x l = l.fan.items ≡ fan_of l.segments (take l.x-index l.star)
