-- Each kind moves by its own offset.
use Rattle.std.proofs.Common.{Some, ap, ◌∙◌}
use Rattle.mesh_outline.specs.Private.Sections.{offset_join}
use Rattle.mesh_outline.proofs.builder.OutlineBuilder.for_kind.Goals as goal
use Rattle.mesh_outline.proofs.builder.OutlineBuilder.for_kind.Goals.{in-Outer, in-Hole}

pub returns : goal.returns
returns g c = elim c.match-kind.branch [
  | in-Outer w ↦ rw w.in-Outer.is (ap Some (c.new.ensures ∙ (λ i. offset_join (g.I.IntNumber.value (w.offset-is i)) (c.new-join.ensures i))))
  | in-Hole w ↦ rw w.in-Hole.is (ap Some (c.new.ensures ∙ (λ i. offset_join (g.I.IntNumber.value (w.offset-is i)) (c.new-join.ensures i))))
]
