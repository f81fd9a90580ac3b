use Rattle.mesh_split.proofs.first_pass.take_up.Goals as goal

pub loop-e-preserved : goal.loop-e-preserved
loop-e-preserved c =
    let e = c.in_ok-take_one.ensures in
    record { once = e.once; kept = λ given p. e.kept given (c.loop-e.invariant.kept given p) }
