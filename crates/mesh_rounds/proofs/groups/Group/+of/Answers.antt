use Rattle.std.proofs.Common.{◌≡◌, sym, subst, List, ◌++◌}
use Rattle.mesh_plane.specs.Plane.{Edge}
use Rattle.mesh_store.specs.Cells.{StandsIn}
use Rattle.mesh_rounds.specs.Private.Groups.{edges_in}
use Rattle.mesh_store.proofs.Listing.{listed_more}
use Rattle.mesh_store.proofs.Lists.{if_ok, stands_after, both_parts}
use Rattle.mesh_rounds.proofs.groups.Group.+of.Goals as goal

pub returns-clause-all : goal.returns-clause-all
returns-clause-all t c =
    let edges = c.args.edges.now in
    let first = c.split_at.result.0.now in
    let second = c.split_at.result.1.now in
    let low = edges_in c.in_ok-low.low in
    let high = edges_in c.in_ok-high.high in
    let whole : edges ≡ first ++ second = c.split_at.ensures.by_index.0 in
    if_ok c.halves.result (λ g. edges_in g ≡ low ++ high) (λ g. (x : Edge) → StandsIn x edges → StandsIn x (edges_in g))
    (λ g same x l.
    subst (λ (xs : List Edge). StandsIn x xs) (sym same)
    (both_parts (λ (y : Edge). StandsIn y (low ++ high)) first second (λ y k. listed_more y low high (c.in_ok-low.ensures.all y k)) (λ y k. stands_after y low high (c.in_ok-high.ensures.all y k)) x
    (subst (λ (xs : List Edge). StandsIn x xs) whole l)))
    c.halves.ensures.same
