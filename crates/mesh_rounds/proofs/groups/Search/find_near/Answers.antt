use Rattle.std.proofs.Common.{◌∙◌, sym}
use Rattle.mesh_rounds.proofs.Pairs.{one_of_first, one_beside}
use Rattle.mesh_rounds.proofs.groups.Search.find_near.Goals as goal
use Rattle.mesh_rounds.proofs.groups.Search.find_near.Goals.{then-not-is_beside+in_ok-find_of, else-not-is_beside}

pub loop-x-preserved : goal.loop-x-preserved
loop-x-preserved c =
    let xs = c.args.xs.now in
    let ys = c.args.ys.now in
    let s = c.loop-x.self in
    elim c.if-not-is_beside.branch [
      | then-not-is_beside+in_ok-find_of w ↦
          rw w.self-is (one_of_first xs ys c.loop-x.x-index _ c.args.self.now s w.find_of.new.self c.loop-x-test.true c.loop-x.invariant w.in_ok-find_of.ensures)
      | else-not-is_beside w ↦
          rw w.self-is
          (one_of_first xs ys c.loop-x.x-index _ c.args.self.now s s c.loop-x-test.true c.loop-x.invariant
          (one_beside _ ys c.args.bounds s c.requires (sym c.is_beside.ensures ∙ w.if-not-is_beside.false)))
    ]
