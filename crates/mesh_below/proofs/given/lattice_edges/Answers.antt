use Rattle.std.proofs.Common.{subst, sym, ap, ◌∙◌, List, [], ◌∷◌, ◌++◌}
use Rattle.std.proofs.lemmas.List.{map_more, take_all}
use Rattle.mesh_plane.specs.Plane.{Edge}
use Rattle.mesh_num.specs.Segments.{SignedEdge, edge_of, edges_of}
use Rattle.mesh_lattice.specs.Clean.{IsProper}
use Rattle.mesh_below.proofs.Subjects.{subjects_proper}
use Rattle.mesh_below.proofs.given.lattice_edges.Goals as goal

pub loop-s-preserved : goal.loop-s-preserved
loop-s-preserved g c =
    c.in_ok-push.ensures.items ∙ (λ j. c.loop-s.invariant j ++ (c.lattice_edge.ensures ∙ ap edge_of c.s-item.is) j ∷ [])
    ∙ sym (map_more edge_of c.args.segments.now c.loop-s.s-index c.s-item.result c.loop-s-test.true)

pub returns-clause-proper : goal.returns-clause-proper
returns-clause-proper g c =
    let all = c.loop-s.invariant ∙ ap (λ (ss : List SignedEdge). edges_of ss) (take_all c.loop-s.s-index c.args.segments.now c.loop-s-test.false) in
    subst (λ (es : List Edge). IsProper es) (sym all) (subjects_proper c.args.segments.now c.requires)
