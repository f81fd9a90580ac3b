use Rattle.std.proofs.Common.{sym, ◌∙◌}
use Rattle.mesh_lattice.proofs.Beside.{west_test, east_test}
use Rattle.mesh_lattice.proofs.fine.is_west_of.Goals as goal

pub returns-then-lies_west : goal.returns-then-lies_west
returns-then-lies_west c = west_test c.args.p c.args.r c.args.q c.requires (sym c.lies_west.ensures ∙ c.if-lies_west.true)

pub returns-then-lies_east : goal.returns-then-lies_east
returns-then-lies_east c = east_test c.args.p c.args.r c.args.q c.requires (sym c.lies_east.ensures ∙ c.if-lies_east.true)
