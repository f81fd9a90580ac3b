use Rattle.std.proofs.Common.{◌≡◌, ◌∙◌, ap, sym, subst, Bool, replicate, false}
use Rattle.std.specs.Prelude.{ℤ}
use Rattle.mesh_plane.specs.Plane.{Edge}
use Rattle.mesh_plane.specs.Winding.{sum_of, IsBalanced}
use Rattle.mesh_shapes.specs.Private.Unused.{unused}
use Rattle.mesh_shapes.proofs.Tracing.{unused_all}
use Rattle.mesh_shapes.proofs.trace.contours.Goals as goal

pub contours_of-requires-clause-balanced : goal.contours_of-requires-clause-balanced
contours_of-requires-clause-balanced c =
    let marks : c.deref_mut.result.now ≡ replicate _ false = c.deref_mut.ensures.value ∙ c.in_ok-used.ensures.items_if_clones_equal (λ (y : Bool) (h : y ≡ false). h) in
    let all : unused c.args.ordered.now c.deref_mut.result.now ≡ c.args.ordered.now = (λ i. unused c.args.ordered.now (marks i)) ∙ unused_all c.args.ordered.now _ in
    subst IsBalanced (sym all) c.requires.balanced

pub returns-clause-edges : goal.returns-clause-edges
returns-clause-edges c =
    let marks : c.deref_mut.result.now ≡ replicate _ false = c.deref_mut.ensures.value ∙ c.in_ok-used.ensures.items_if_clones_equal (λ (y : Bool) (h : y ≡ false). h) in
    let all : unused c.args.ordered.now c.deref_mut.result.now ≡ c.args.ordered.now = (λ i. unused c.args.ordered.now (marks i)) ∙ unused_all c.args.ordered.now _ in
    λ (g : Edge → ℤ). sym (c.in_ok-contours.ensures.edges g) ∙ ap (sum_of g) all
