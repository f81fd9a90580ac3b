use Rattle.std.proofs.Common.{subst}
use Rattle.mesh_boundary.specs.declared.side_finder.SideFinder.{SideFinder}
use Rattle.mesh_boundary.specs.Private.SideFinders.{Serves}
use Rattle.mesh_boundary.proofs.side_finder.SideFinder.sides.Goals as goal

pub row_sides-requires-clause-rows : goal.row_sides-requires-clause-rows
row_sides-requires-clause-rows c = subst (λ (w : SideFinder). Serves w c.args.segments.now) c.in-East.is c.requires.serves

pub slanted_sides-requires-clause-rows : goal.slanted_sides-requires-clause-rows
slanted_sides-requires-clause-rows c = subst (λ (w : SideFinder). Serves w c.args.segments.now) c.in-Slanted.is c.requires.serves

pub known_sides-requires-clause-known : goal.known_sides-requires-clause-known
known_sides-requires-clause-known c = subst (λ (w : SideFinder). Serves w c.args.segments.now) c.in-Known.is c.requires.serves
