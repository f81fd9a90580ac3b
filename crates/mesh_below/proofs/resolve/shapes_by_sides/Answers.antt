use Rattle.std.proofs.Common.{sym, subst, ◌∙◌, ap}
use Rattle.std.proofs.lemmas.Bool.{and_parts}
use Rattle.mesh_plane.specs.Winding.{IsBalanced, sum_of}
use Rattle.mesh_below.proofs.AnswerRegions.{filled_by_none}
use Rattle.mesh_below.proofs.Resolving.{parts_split, parted_balanced, boundary_proper, same_boundary, resolved_by}
use Rattle.mesh_below.proofs.Settled.{resolved_settled, resolved_bounds}
use Rattle.mesh_below.proofs.resolve.shapes_by_sides.Goals as goal
use Rattle.mesh_lattice.specs.Boundary.{IsBoundary}
use Rattle.mesh_lattice.specs.FillRules.{filled_by}
use Rattle.mesh_shapes.specs.Resolution.{Choices}
use Rattle.mesh_lattice.specs.Split.{after}
use Rattle.mesh_shapes.specs.Vectors.{contour_edges}
use Rattle.mesh_shapes.proofs.Tracing.{counts_same, same_balanced}

pub contours-requires-clause-balanced : goal.contours-requires-clause-balanced
contours-requires-clause-balanced c =
    let s = c.requires.splitting in
    let es = after s.splits c.args.edges.now in
    let is : IsBoundary es (filled_by c.args.fill) c.in_ok-parted.parted.items = c.in_ok-parted.ensures es s.count (parts_split c.args.edges.now c.args.segments.now c.requires.balanced s) in
    subst IsBalanced (sym c.deref.ensures.value)
    (same_balanced c.in_ok-parted.parted.items c.edges_by_start-ordered.result.items c.edges_by_start-ordered.ensures.same
    (parted_balanced c.args.edges.now c.args.segments.now (filled_by c.args.fill) c.in_ok-parted.parted.items (filled_by_none c.args.fill) c.requires.balanced s is))

pub rings_of-requires-clause-proper : goal.rings_of-requires-clause-proper
rings_of-requires-clause-proper c =
    let s = c.requires.splitting in
    let es = after s.splits c.args.edges.now in
    let is : IsBoundary es (filled_by c.args.fill) c.in_ok-parted.parted.items = c.in_ok-parted.ensures es s.count (parts_split c.args.edges.now c.args.segments.now c.requires.balanced s) in
    boundary_proper es (contour_edges c.in_ok-closed.closed.items) (filled_by c.args.fill) s.proper
    (same_boundary es (filled_by c.args.fill) c.in_ok-parted.parted.items (contour_edges c.in_ok-closed.closed.items)
    (λ e. counts_same e (contour_edges c.in_ok-closed.closed.items) c.in_ok-parted.parted.items
    (λ g. c.in_ok-closed.ensures.edges g ∙ ap (sum_of g) c.deref.ensures.value ∙ c.edges_by_start-ordered.ensures.same g)) is)

pub returns-clause-resolution : goal.returns-clause-resolution
returns-clause-resolution c s =
    let es = after s.splits c.args.edges.now in
    let is : IsBoundary es (filled_by c.args.fill) c.in_ok-parted.parted.items = c.in_ok-parted.ensures es s.count (parts_split c.args.edges.now c.args.segments.now c.requires.balanced s) in
    let choices : Choices = record { least_area = c.args.choices.least_area; all_vertices = c.args.choices.all_vertices; clockwise = c.args.choices.clockwise } in
    resolved_by c.args.edges.now c.args.segments.now (filled_by c.args.fill) choices _ c.in_ok-closed.closed.items _ _ _ s
    (same_boundary es (filled_by c.args.fill) c.in_ok-parted.parted.items (contour_edges c.in_ok-closed.closed.items)
    (λ e. counts_same e (contour_edges c.in_ok-closed.closed.items) c.in_ok-parted.parted.items
    (λ g. c.in_ok-closed.ensures.edges g ∙ ap (sum_of g) c.deref.ensures.value ∙ c.edges_by_start-ordered.ensures.same g)) is)
    c.in_ok-rings.ensures
    c.in_ok-shapes.ensures

pub returns-clause-settled : goal.returns-clause-settled
returns-clause-settled c t =
    let s = c.requires.splitting in
    let es = after s.splits c.args.edges.now in
    let is : IsBoundary es (filled_by c.args.fill) c.in_ok-parted.parted.items = c.in_ok-parted.ensures es s.count (parts_split c.args.edges.now c.args.segments.now c.requires.balanced s) in
    let choices : Choices = record { least_area = c.args.choices.least_area; all_vertices = c.args.choices.all_vertices; clockwise = c.args.choices.clockwise } in
    let both = and_parts _ c.answers_all-is_all.result t in
    let kept = c.answers_all-is_all.ensures both.1 in
    resolved_settled c.args.edges.now c.args.segments.now (filled_by c.args.fill) choices _ c.in_ok-closed.closed.items _ _ _ c.requires.proper c.requires.balanced (filled_by_none c.args.fill) s
    (same_boundary es (filled_by c.args.fill) c.in_ok-parted.parted.items (contour_edges c.in_ok-closed.closed.items)
    (λ e. counts_same e (contour_edges c.in_ok-closed.closed.items) c.in_ok-parted.parted.items
    (λ g. c.in_ok-closed.ensures.edges g ∙ ap (sum_of g) c.deref.ensures.value ∙ c.edges_by_start-ordered.ensures.same g)) is)
    c.in_ok-rings.ensures
    c.in_ok-shapes.ensures both.0 kept.0 kept.1

pub returns-clause-own_boundary : goal.returns-clause-own_boundary
returns-clause-own_boundary c t =
    let s = c.requires.splitting in
    let es = after s.splits c.args.edges.now in
    let is : IsBoundary es (filled_by c.args.fill) c.in_ok-parted.parted.items = c.in_ok-parted.ensures es s.count (parts_split c.args.edges.now c.args.segments.now c.requires.balanced s) in
    let choices : Choices = record { least_area = c.args.choices.least_area; all_vertices = c.args.choices.all_vertices; clockwise = c.args.choices.clockwise } in
    let both = and_parts _ c.answers_all-is_all.result t in
    let kept = c.answers_all-is_all.ensures both.1 in
    resolved_bounds c.args.edges.now c.args.segments.now (filled_by c.args.fill) choices _ c.in_ok-closed.closed.items _ _ _ c.requires.proper c.requires.balanced (filled_by_none c.args.fill) s
    (same_boundary es (filled_by c.args.fill) c.in_ok-parted.parted.items (contour_edges c.in_ok-closed.closed.items)
    (λ e. counts_same e (contour_edges c.in_ok-closed.closed.items) c.in_ok-parted.parted.items
    (λ g. c.in_ok-closed.ensures.edges g ∙ ap (sum_of g) c.deref.ensures.value ∙ c.edges_by_start-ordered.ensures.same g)) is)
    c.in_ok-rings.ensures
    c.in_ok-shapes.ensures (λ g. c.in_ok-closed.ensures.edges g ∙ ap (sum_of g) (c.deref.ensures.value ∙ sym c.deref-2.ensures.value)) both.0 kept.0 kept.1
