use Rattle.std.proofs.Common.{◌≡◌, ℕ, ◌-◌, ◌<◌, List, length, refl, sym, ◌∙◌, ap, subst, arith}
use Rattle.std.proofs.lemmas.List.{get_or_read_under}
use Rattle.mesh_points.specs.declared.edges.NumberedEdge.{NumberedEdge}
use Rattle.mesh_points.specs.Edges.{edge_at, no_edge}
use Rattle.mesh_points.specs.Chains.{IsSearched}
use Rattle.mesh_points.specs.Merged.{link_in, start_in}
use Rattle.mesh_points.proofs.Chains.{search_goes_on}
use Rattle.mesh_points.proofs.edges.Merger.place.Goals as goal

pub loop-left-preserved : goal.loop-left-preserved
loop-left-preserved c =
    let es : List NumberedEdge = c.args.self.now.list.items in
    let links : List ℕ = c.args.self.now.before.items in
    let left : ℕ = c.loop-left.left in
    let low : left - 1 < length es = omega (arith, c.loop-left.invariant.within) in
    let is : c.index.result.now ≡ edge_at es (left - 1) = get_or_read_under es (left - 1) (length es) c.index.result.now no_edge c.index.ensures low refl in
    let under : left - 1 < length links = omega (arith, c.requires.merged.links) in
    let link : c.index-left-in-loop-left.result.now ≡ link_in links (left - 1) =
    get_or_read_under links (left - 1) (length links) c.index-left-in-loop-left.result.now 0 c.index-left-in-loop-left.ensures under refl in
    let other : (edge_at es (left - 1)).to ≡ c.args.to → ⊥ = λ h. c.if-index-to.false (ap (λ (e : NumberedEdge). e.to) is ∙ h) in
    subst (λ (n : ℕ). IsSearched (λ (k : ℕ). (edge_at es k).to ≡ c.args.to) (length es) (start_in es) c.args.from n) (sym link)
    (search_goes_on (λ (k : ℕ). (edge_at es k).to ≡ c.args.to) c.args.self.now.last.items (length es) (link_in links) (start_in es) c.args.from left
    c.requires.merged.chained c.loop-left-test.true other c.loop-left.invariant)
