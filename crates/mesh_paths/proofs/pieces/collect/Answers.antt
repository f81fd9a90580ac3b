use Rattle.std.proofs.Common.{◌≡◌, ℕ, length, sym, arith}
use Rattle.mesh_paths.specs.declared.paths.Paths.{Paths}
use Rattle.mesh_paths.proofs.Collecting.{all_reached}
use Rattle.mesh_paths.proofs.pieces.collect.Goals as goal

pub loop-k-init : goal.loop-k-init
loop-k-init c = c.in_ok-pieces.ensures c.args.paths.now.points c.requires.filed.distinct (sym c.len.ensures.value)

pub loop-k-preserved : goal.loop-k-preserved
loop-k-preserved c = c.in_ok-add_path.ensures

pub returns-clause-reached : goal.returns-clause-reached
returns-clause-reached c =
    let p : Paths = c.args.paths.now in
    let all : c.loop-k.k ≡ length p.edges.items = omega (arith, c.loop-k-test.false, c.loop-k.auto.k-end, c.len-room.ensures) in
    all_reached p c.loop-k.pieces c.loop-k.k c.requires all c.loop-k.invariant
