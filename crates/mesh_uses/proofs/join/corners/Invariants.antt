use Rattle.std.proofs.Common.{◌≡◌, ◌++◌, map}
use Rattle.mesh_join.specs.Cleaned.{cleaned_sections}
use Rattle.mesh_uses.proofs.join.corners.Given as goal

-- the corners so far, and those of the sections still to come
abbrev pub invariant-loop-section : goal.invariant-loop-section
invariant-loop-section l =
    l.corners.items ++ map (λ e. e.0) l.section-iterator ≡ map (λ e. e.0) (cleaned_sections l.fn.contour)
