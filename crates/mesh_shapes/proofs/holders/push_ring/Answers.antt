use Rattle.std.proofs.Common.{rules, ◌≡◌, ◌∙◌, ap, sym, true, arith, get_or, List, ◌++◌}
use Rattle.std.specs.Prelude.{pos, int_lt}
use Rattle.std.proofs.lemmas.List.{length-map}
use Rattle.mesh_plane.specs.Plane.{Point}
use Rattle.mesh_plane.specs.Winding.{boundary}
use Rattle.mesh_shapes.specs.Vectors.{ring_of_vec}
use Rattle.mesh_shapes.specs.Private.Holders.{PlacedEdge, with_place}
use Rattle.mesh_shapes.proofs.HolderRows.{ring_added}
use Rattle.mesh_shapes.proofs.holders.push_ring.Goals as goal

pub returns : goal.returns
returns c =
    let positive : int_lt (pos 0) (get_or c.args.areas.now c.args.h (pos 0)) ≡ true = search rules in
    c.in_ok-push_edges.ensures
    ∙ ap (λ (es : List PlacedEdge). c.args.edges.now.items ++ es)
    (ap (λ (ps : List Point). with_place c.args.h (boundary ps)) c.deref.ensures.value
    ∙ sym (ring_added c.args.rings.now c.args.areas.now c.args.h c.index-rings-h.result c.requires.areas_known (omega (arith, length-map c.args.rings.now ring_of_vec, c.requires.in_range)) c.requires.in_range positive))
