use Rattle.std.proofs.Common.{rules}
use Rattle.mesh_check.proofs.StretchBoxes.{single_clear}
use Rattle.mesh_check.proofs.comparing.+compare.Goals as goal

pub returns-clause-clear : goal.returns-clause-clear
returns-clause-clear t c =
    let clear = simp (c.start_of-p.ensures, c.start_of-q.ensures) at c.are_pieces_clear.ensures in
    single_clear c.args.paths.now c.args.first c.args.second (search rules) (search rules) (clear.0 c.if-not-are_pieces_clear.false)
