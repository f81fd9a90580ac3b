use Rattle.mesh_check.proofs.ClearPaths.{clear_by_first, clear_by_second}
use Rattle.mesh_check.proofs.close.are_parted.Goals as goal

pub returns-then-lies_beside : goal.returns-then-lies_beside
returns-then-lies_beside c = λ t.
    clear_by_first c.args.paths.now c.args.first c.args.second c.args.first_units c.args.second_units c.line_of-e.result c.line_of-f.result c.requires.paths c.requires.first c.requires.second
    c.requires.first_bent c.requires.second_bent c.line_of-e.ensures.value c.line_of-f.ensures.value (c.lies_beside.ensures c.if-lies_beside.true)

pub returns : goal.returns
returns c = λ t.
    clear_by_second c.args.paths.now c.args.first c.args.second c.args.first_units c.args.second_units c.line_of-e.result c.line_of-f.result c.requires.paths c.requires.first c.requires.second
    c.requires.first_bent c.requires.second_bent c.line_of-e.ensures.value c.line_of-f.ensures.value (c.lies_beside-2.ensures t)
