use Rattle.std.proofs.Common.{◌≡◌, ℕ, List, refl, sym, subst}
use Rattle.mesh_boundary.specs.Private.Stars.{part}
use Rattle.mesh_boundary.proofs.StarLists.{each_more}
use Rattle.mesh_boundary.proofs.stars.parts_of.Goals as goal

pub loop-size-preserved : goal.loop-size-preserved
loop-size-preserved c =
    subst (λ (l : List (ℕ × ℕ)). (i : ℕ) → (part l i).1 ≡ 0) (sym c.in_ok-push.ensures.items)
    (each_more (λ (q : ℕ × ℕ). q.1 ≡ 0) (0, 0) (c.loop-size.first, 0) c.loop-size.parts.items c.loop-size.invariant refl)
