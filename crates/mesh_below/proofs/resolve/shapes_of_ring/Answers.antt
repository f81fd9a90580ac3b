use Rattle.std.proofs.Common.{◌≡◌, [], ◌∷◌, ◌++◌, sym, ◌∙◌, ap, subst}
use Rattle.std.proofs.lemmas.Bool.{and_parts}
use Rattle.mesh_plane.specs.Winding.{sum_of}
use Rattle.mesh_lattice.specs.Boundary.{IsBoundary}
use Rattle.mesh_lattice.specs.FillRules.{filled_by}
use Rattle.mesh_lattice.specs.Split.{after}
use Rattle.mesh_shapes.specs.Resolution.{Choices}
use Rattle.mesh_shapes.specs.Vectors.{contour_edges}
use Rattle.mesh_below.proofs.AnswerRegions.{filled_by_none}
use Rattle.mesh_below.proofs.ConvexRings.{ring_boundary, ring_edges, ring_proper, whole_among}
use Rattle.mesh_below.proofs.Resolving.{resolved_by}
use Rattle.mesh_below.proofs.Settled.{resolved_settled, resolved_bounds}
use Rattle.mesh_below.proofs.resolve.shapes_of_ring.Goals as goal

pub rings_of-requires-clause-proper : goal.rings_of-requires-clause-proper
rings_of-requires-clause-proper c =
    let one = c.in_ok-push.ensures.items ∙ λ i. c.in_ok-closed.ensures.items i ++ c.in_ok-starts.field-0 ∷ [] in
    ring_proper c.args.edges.now _ c.push.new.self.items c.requires.ring.loop c.in_ok-starts.ensures one c.requires.proper

pub returns-clause-resolution : goal.returns-clause-resolution
returns-clause-resolution c s =
    let es = after s.splits c.args.edges.now in
    let fill = filled_by c.args.fill in
    let choices : Choices = record { least_area = c.args.choices.least_area; all_vertices = c.args.choices.all_vertices; clockwise = c.args.choices.clockwise } in
    let one = c.in_ok-push.ensures.items ∙ λ i. c.in_ok-closed.ensures.items i ++ c.in_ok-starts.field-0 ∷ [] in
    let edges_are : contour_edges c.push.new.self.items ≡ c.args.edges.now = ring_edges c.args.edges.now _ c.push.new.self.items c.requires.ring.loop c.in_ok-starts.ensures one in
    let is : IsBoundary es fill (contour_edges c.push.new.self.items) =
    subst (IsBoundary es fill) (sym edges_are)
    (ring_boundary c.args.edges.now es c.args.segments.now fill c.requires.ring c.requires.balanced (filled_by_none c.args.fill) s.count s.proper) in
    resolved_by c.args.edges.now c.args.segments.now fill choices _ c.push.new.self.items _ _ _ s is c.in_ok-rings.ensures c.in_ok-shapes.ensures

pub returns-clause-settled : goal.returns-clause-settled
returns-clause-settled c t =
    let s = c.requires.splitting in
    let es = after s.splits c.args.edges.now in
    let fill = filled_by c.args.fill in
    let choices : Choices = record { least_area = c.args.choices.least_area; all_vertices = c.args.choices.all_vertices; clockwise = c.args.choices.clockwise } in
    let one = c.in_ok-push.ensures.items ∙ λ i. c.in_ok-closed.ensures.items i ++ c.in_ok-starts.field-0 ∷ [] in
    let edges_are : contour_edges c.push.new.self.items ≡ c.args.edges.now = ring_edges c.args.edges.now _ c.push.new.self.items c.requires.ring.loop c.in_ok-starts.ensures one in
    let is : IsBoundary es fill (contour_edges c.push.new.self.items) =
    subst (IsBoundary es fill) (sym edges_are)
    (ring_boundary c.args.edges.now es c.args.segments.now fill c.requires.ring c.requires.balanced (filled_by_none c.args.fill) s.count s.proper) in
    let both = and_parts _ c.answers_all.result t in
    let kept = c.answers_all.ensures both.1 in
    resolved_settled c.args.edges.now c.args.segments.now fill choices _ c.push.new.self.items _ _ _ c.requires.proper c.requires.balanced (filled_by_none c.args.fill) s is
    c.in_ok-rings.ensures c.in_ok-shapes.ensures both.0 kept.0 kept.1

pub returns-clause-own_boundary : goal.returns-clause-own_boundary
returns-clause-own_boundary c t =
    let s = c.requires.splitting in
    let es = after s.splits c.args.edges.now in
    let fill = filled_by c.args.fill in
    let choices : Choices = record { least_area = c.args.choices.least_area; all_vertices = c.args.choices.all_vertices; clockwise = c.args.choices.clockwise } in
    let one = c.in_ok-push.ensures.items ∙ λ i. c.in_ok-closed.ensures.items i ++ c.in_ok-starts.field-0 ∷ [] in
    let edges_are : contour_edges c.push.new.self.items ≡ c.args.edges.now = ring_edges c.args.edges.now _ c.push.new.self.items c.requires.ring.loop c.in_ok-starts.ensures one in
    let is : IsBoundary es fill (contour_edges c.push.new.self.items) =
    subst (IsBoundary es fill) (sym edges_are)
    (ring_boundary c.args.edges.now es c.args.segments.now fill c.requires.ring c.requires.balanced (filled_by_none c.args.fill) s.count s.proper) in
    let both = and_parts _ c.answers_all.result t in
    let kept = c.answers_all.ensures both.1 in
    resolved_bounds c.args.edges.now c.args.segments.now fill choices c.args.edges.now c.push.new.self.items _ _ _ c.requires.proper c.requires.balanced (filled_by_none c.args.fill) s is
    (whole_among choices.all_vertices choices.least_area c.push.new.self.items _ _ _ c.args.edges.now c.in_ok-rings.ensures) c.in_ok-shapes.ensures (λ g. ap (sum_of g) edges_are) both.0 kept.0 kept.1
