-- The ways to find the sides of segments.
use Rattle.std.specs.Prelude.{List}
use Rattle.mesh_lattice.specs.Counted.{Counted}
use Rattle.mesh_lattice.specs.Rows.{AreRows}
use Rattle.mesh_boundary.specs.declared.side_finder.SideFinder.{SideFinder}
use Rattle.mesh_boundary.specs.declared.side_finder.SideFinder.TheVariants.{Summed, East, Slanted, Known}
use Rattle.mesh_boundary.specs.Private.Flood.{OfSplitEdges, AreKnown}
use Rattle.mesh_boundary.specs.Private.Slants.{AreSlantedRows}

-- a finder has what it needs for these segments
abbrev pub Serves : SideFinder → List Counted → Type 0
Serves Summed ks = Unit {0}
Serves (East rows) ks = AreRows rows.marks.items rows.lists.items ks
Serves (Slanted rows) ks = AreSlantedRows rows.slant rows.rows ks
Serves (Known flood) ks = OfSplitEdges ks (λ es. AreKnown es ks flood.known.items)
