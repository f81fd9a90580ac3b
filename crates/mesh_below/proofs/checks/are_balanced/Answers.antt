use Rattle.std.proofs.Common.{◌≡◌, List, map, sym, ◌∙◌, ap}
use Rattle.std.specs.Prelude.{ℤ}
use Rattle.mesh_plane.specs.Plane.{Edge}
use Rattle.mesh_plane.specs.Winding.{IsBalanced, sum_of}
use Rattle.mesh_lattice.specs.Split.{back}
use Rattle.mesh_below.proofs.Asking.{start, alike_balanced, balanced_alike}
use Rattle.mesh_below.proofs.checks.are_balanced.Goals as goal

pub returns : goal.returns
returns c =
    let es : List Edge = c.args.edges.now in
    let leaving : List Edge = c.edges_by_start-leaving.result.items in
    let entering : List Edge = c.edges_by_start-entering.result.items in
    let l : (g : Edge → ℤ) → sum_of g leaving ≡ sum_of g es = λ (g : Edge → ℤ). c.edges_by_start-leaving.ensures.same g ∙ ap (sum_of g) c.in_ok-from_slice.ensures.items in
    let r : (g : Edge → ℤ) → sum_of g entering ≡ sum_of g (map back es) = λ (g : Edge → ℤ). c.edges_by_start-entering.ensures.same g ∙ ap (sum_of g) c.in_ok-backwards.ensures in (
      (λ t. alike_balanced es leaving entering l r (sym (ap (map start) c.deref.ensures.value) ∙ (c.start_alike.ensures.0 t ∙ ap (map start) c.deref-2.ensures.value))),
      (λ (balanced : IsBalanced es).
          c.start_alike.ensures.1
          (ap (map start) c.deref.ensures.value
          ∙ (balanced_alike es leaving entering l r c.edges_by_start-leaving.ensures.ordered c.edges_by_start-entering.ensures.ordered balanced ∙ sym (ap (map start) c.deref-2.ensures.value)))),
    )
