use Rattle.mesh_below.proofs.resolve.rings_of.Given as goal
use Rattle.mesh_below.specs.Private.Rings.{AreRingsOf}

abbrev pub invariant-loop-contour : goal.invariant-loop-contour
invariant-loop-contour l = AreRingsOf l.choices.all_vertices l.choices.least_area l.ordered l.yielded l.rings.items (l.are_whole, l.are_lone)
