use Rattle.std.proofs.Common.{◌≡◌, length, refl, sym, subst}
use Rattle.std.proofs.lemmas.List.{get_or_read_under}
use Rattle.mesh_plane.specs.Plane.{Edge}
use Rattle.mesh_meeting.specs.Small.{HasSmallEnds}
use Rattle.mesh_points.specs.Edges.{edge_at, no_edge}
use Rattle.mesh_check.proofs.leading.line_of.Goals as goal

pub returns-clause-small : goal.returns-clause-small
returns-clause-small c =
    let es = c.args.paths.now.edges.items in
    let is : c.index-e.result.now ≡ edge_at es c.args.path = get_or_read_under es c.args.path (length es) c.index-e.result.now no_edge c.index-e.ensures c.requires refl in
    λ h. subst (λ (e : Edge). HasSmallEnds e) (λ i. ((sym is i).start, (sym is i).end)) h
