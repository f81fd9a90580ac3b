-- From what is found of the edges and of the first points of contours.
use Rattle.std.proofs.Common.{◌∙◌, ap, sym}
use Rattle.std.specs.List.{flat_map}
use Rattle.mesh_plane.specs.Winding.{boundary}
use Rattle.mesh_num.specs.FlatContours.{flat_contours}
use Rattle.mesh_num.specs.Paths.{contours_of, shapes_of}
use Rattle.mesh_nets.proofs.Contours.{edges_found, round_found, within_found}
use Rattle.mesh_nets.proofs.pairs.separation.Goals as goal

pub returns-then-do_enclose : goal.returns-then-do_enclose
returns-then-do_enclose g c =
    within_found c.args.first.now.edges.items c.deref.result.now c.args.second.now.edges.items (flat_contours c.args.second.now.contours) c.deref.ensures.value c.requires.second.edges
    (c.do_enclose.ensures.inside c.if-do_enclose.true)

pub returns-then-do_enclose-2 : goal.returns-then-do_enclose-2
returns-then-do_enclose-2 g c =
    round_found c.args.first.now.edges.items c.args.second.now.edges.items c.deref-2.result.now (flat_contours c.args.first.now.contours) c.deref-2.ensures.value
    (c.requires.first.edges ∙ ap (flat_map boundary) (sym c.requires.first.same))
    (c.do_enclose-2.ensures.inside c.if-do_enclose-2.true)

pub returns : goal.returns
returns g c =
    edges_found c.args.first.now.edges.items c.args.second.now.edges.items c.deref.result.now c.deref-2.result.now (contours_of (shapes_of c.args.net.now.items)) (flat_contours c.args.second.now.contours)
    (flat_contours c.args.first.now.contours) c.in-Some.squared c.deref.ensures.value c.deref-2.ensures.value c.requires.first.same c.requires.first.edges c.requires.second.edges
    (rw c.in-Some.is at c.in_ok-squared.ensures.clearance)
    (c.do_enclose.ensures.outside c.if-do_enclose.false) (c.do_enclose-2.ensures.outside c.if-do_enclose-2.false)
