use Rattle.mesh_in_line.specs.Private.Lines.{point_at}
use Rattle.mesh_in_line.proofs.Along.{cut_of}
use Rattle.mesh_in_line.proofs.in_line.cut_at.Goals as goal

pub returns : goal.returns
returns c =
    let count = rw c.deref.ensures.value at (c.in-Some.ensures (point_at c.args.level c.args.places.now)) in
    cut_of c.args.level c.args.places.now c.args.edges.now c.in_ok-edges.edges.items c.args.spans.now c.in_ok-firsts.firsts.items c.in-Some.splits
    c.requires.rising c.requires.placed c.in_ok-firsts.ensures c.requires.ends count (c.in_ok-edges.ensures c.in_ok-firsts.firsts.items c.in_ok-firsts.ensures)
