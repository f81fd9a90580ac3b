use Rattle.std.proofs.Common.{◌∙◌, sym, ap}
use Rattle.std.proofs.lemmas.List.{get_or_default}
use Rattle.mesh_lattice.specs.Counted.{Counted}
use Rattle.mesh_boundary.specs.Private.CountedSides.{sides_of}
use Rattle.mesh_boundary.specs.Private.Stars.{segment}
use Rattle.mesh_boundary.proofs.BoundaryCounted.{sided}
use Rattle.mesh_boundary.proofs.StarLists.{count_split, segment_at}
use Rattle.mesh_boundary.proofs.side_finder.known_sides.Goals as goal

pub returns-in-Some : goal.returns-in-Some
returns-in-Some c = λ es is split d.
    let xs = c.args.segments.now in
    let k : Counted = segment xs c.args.i in
    let own = segment_at es xs c.args.i (count_split es xs is split) c.requires.in_range in
    c.in-Some.ensures es own (c.requires.known es is split) ∙ (sym (sided es xs split.proper is k own) ∙ ap (sides_of xs) (get_or_default xs c.args.i _ d c.requires.in_range))
