use Rattle.mesh_check.proofs.StretchBoxes.{apart_clear}
use Rattle.mesh_check.proofs.comparing.are_apart.Goals as goal

pub returns : goal.returns
returns c = λ t.
    let apart = simp (c.ends_of.ensures, c.ends_of-2.ensures) at c.are_boxes_apart.ensures in
    apart_clear c.args.paths.now c.args.first c.args.second c.requires.paths c.requires.first c.requires.second (apart t)
