use Rattle.std.proofs.Common.{◌*◌, rules}
use Rattle.mesh_num.specs.FlatContours.{flat_contours}
use Rattle.mesh_num.specs.Paths.{contours_of, shapes_of}
use Rattle.mesh_nets.proofs.Beyond.{far_boxes}
use Rattle.mesh_nets.proofs.Contours.{balanced_edges, less_apart}
use Rattle.mesh_nets.proofs.pairs.near_separation.Goals as goal

pub returns-then-are_far : goal.returns-then-are_far
returns-then-are_far g c =
    far_boxes c.args.distance c.args.first.now.around c.args.second.now.around c.args.first.now.edges.items c.args.second.now.edges.items
    (balanced_edges c.args.first.now.edges.items (contours_of (shapes_of c.args.net.now.items)) c.requires.first.edges)
    (balanced_edges c.args.second.now.edges.items (flat_contours c.args.second.now.contours) c.requires.second.edges)
    c.requires.first.boxed c.requires.second.boxed (c.are_far.ensures (search rules))

pub returns : goal.returns
returns g c =
    let found = rw c.in-Some.is at c.in_ok-squared.ensures in
    less_apart (c.args.distance * c.args.distance) c.in-Some.squared c.args.first.now.edges.items c.args.second.now.edges.items c.if-squared-wide.false found.apart
