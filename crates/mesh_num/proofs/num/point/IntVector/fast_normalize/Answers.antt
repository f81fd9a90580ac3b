-- The laws of directions, of the answer that was found.
use Rattle.std.proofs.Common.{◌≤◌, ◌^◌, arith}
use Rattle.mesh_num.proofs.Normalized.{fresh_of, odd_of, same_way_of, keeps_turns_of}
use Rattle.mesh_num.proofs.num.point.IntVector.fast_normalize.Goals as goal

pub returns-clause-fresh : goal.returns-clause-fresh
returns-clause-fresh g c =
    let least : 2 ^ 14 ≤ g.I.IntNumber.unit = g.met.I.IntNumber.least_law in
    fresh_of g.I.IntNumber.unit c.args.self.now c.normalized.result (omega arith) c.normalized.ensures

pub returns-clause-odd : goal.returns-clause-odd
returns-clause-odd g c = odd_of g.I.IntNumber.unit c.args.self.now c.normalized.result c.normalized.ensures

pub returns-clause-same_way : goal.returns-clause-same_way
returns-clause-same_way g c = same_way_of g.I.IntNumber.unit c.args.self.now c.normalized.result c.normalized.ensures

pub returns-clause-turns : goal.returns-clause-turns
returns-clause-turns g c = keeps_turns_of g.I.IntNumber.unit c.args.self.now c.normalized.result c.normalized.ensures
