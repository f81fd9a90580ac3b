use Rattle.std.proofs.Common.{rules, ◌∙◌, sym, ap, Bool}
use Rattle.std.specs.Prelude.{◌||◌}
use Rattle.std.proofs.lemmas.Int.{to_z-of_z}
use mir.Syntax.{w32}
use mir.Val.{SFits}
use Rattle.mesh_store.specs.BoundingBoxes.{are_beyond}
use Rattle.mesh_store.proofs.bounding.is_beside.Goals as goal

pub returns-else-are_beyond : goal.returns-else-are_beyond
returns-else-are_beyond c =
    let bounds = c.args.bounds in
    let e = c.args.e in
    let a : SFits w32 bounds.0.0 = search rules in
    let b : SFits w32 bounds.1.0 = search rules in
    let p : SFits w32 e.0.0 = search rules in
    let r : SFits w32 e.1.0 = search rules in
    let f : SFits w32 bounds.0.1 = search rules in
    let g : SFits w32 bounds.1.1 = search rules in
    let u : SFits w32 e.0.1 = search rules in
    let v : SFits w32 e.1.1 = search rules in
    let x = simp (to_z-of_z w32 bounds.0.0 a, to_z-of_z w32 bounds.1.0 b, to_z-of_z w32 e.0.0 p, to_z-of_z w32 e.1.0 r) at c.are_beyond.ensures in
    let y = simp (to_z-of_z w32 bounds.0.1 f, to_z-of_z w32 bounds.1.1 g, to_z-of_z w32 e.0.1 u, to_z-of_z w32 e.1.1 v) at c.are_beyond-else-are_beyond.ensures in
    y ∙ ap (λ (t : Bool). t || are_beyond bounds.0.1 bounds.1.1 e.0.1 e.1.1) (sym c.if-are_beyond.false ∙ x)
