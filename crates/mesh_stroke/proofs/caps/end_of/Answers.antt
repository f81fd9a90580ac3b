-- The end is the half turn round it.
use Rattle.std.proofs.Common.{◌∙◌, sym, subst}
use Rattle.mesh_plane.specs.Plane.{Point, opposite}
use Rattle.mesh_arc.specs.declared.arc.ArcDirection.TheVariants.{Counterclockwise}
use Rattle.mesh_join.specs.Joints.{joint}
use Rattle.mesh_join.specs.Joints.{HaveLength}
use Rattle.mesh_stroke.specs.Private.Sections.{Section, IsMade}
use Rattle.mesh_stroke.proofs.PathEnds.{end_is, end_short}
use Rattle.mesh_stroke.proofs.caps.end_of.Goals as goal

pub invariant_of-result : goal.invariant_of-result
invariant_of-result g c =
    let own =
    subst (λ (s : Section). IsMade g.I.IntNumber.unit (g.I.IntNumber.value c.args.radius) s) (sym c.section.view_is)
    c.requires in
    subst (λ (d : Point). HaveLength g.I.IntNumber.unit c.section.inside.direction d) (sym c.opposite.ensures.value)
    (end_short g.I.IntNumber.unit (g.I.IntNumber.value c.args.radius) _ own)

pub returns : goal.returns
returns g c =
    (λ i. joint (c.section.view_is i).b (c.section.view_is i).b_right (c.section.view_is i).b_left
    (c.section.view_is i).direction (c.opposite.ensures.value i)
    (g.I.IntNumber.value c.args.radius) Counterclockwise)
    ∙ (λ i. joint c.args.section.now.b c.args.section.now.b_right c.args.section.now.b_left
    c.args.section.now.direction (opposite (c.section.view_is i).direction)
    (g.I.IntNumber.value c.args.radius) Counterclockwise)
    ∙ end_is g.I.IntNumber.unit (g.I.IntNumber.value c.args.radius) c.args.section.now c.requires
