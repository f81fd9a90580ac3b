use Rattle.std.proofs.Common.{◌<◌, ◌≤◌, ◌∙◌, arith}
use Rattle.mesh_slivers.specs.Slivers.{distance}
use Rattle.mesh_slivers.proofs.Farthest.{moved, stayed}
use Rattle.mesh_slivers.proofs.slivers.farthest.Goals as goal
use Rattle.mesh_slivers.proofs.slivers.farthest.Goals.{then-distance, else-distance}

pub loop-p-preserved : goal.loop-p-preserved
loop-p-preserved g c =
    let a = c.args.start in
    let b = c.loop-p.end in
    let x = c.p-item.result in
    elim c.if-distance.branch [
      | then-distance w ↦
          let l : distance a b < distance a x = omega (arith, w.if-distance, c.distance.ensures, c.distance-in-loop-p.ensures) in
          w.end-is ∙ moved a c.args.points.now c.loop-p.p-index x b c.loop-p-test.true c.p-item.is c.loop-p.invariant l
      | else-distance w ↦
          let l : distance a x ≤ distance a b = omega (arith, w.if-distance, c.distance.ensures, c.distance-in-loop-p.ensures) in
          w.end-is ∙ stayed a c.args.points.now c.loop-p.p-index x b c.loop-p-test.true c.p-item.is c.loop-p.invariant l
    ]
