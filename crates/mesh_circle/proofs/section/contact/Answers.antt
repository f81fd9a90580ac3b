use Rattle.std.proofs.Common.{◌∙◌, ap}
use Rattle.mesh_plane.specs.Plane.{plus}
use Rattle.mesh_circle.specs.Sections.{Circle}
use Rattle.mesh_circle.proofs.Circles.{contact_made, contact_safe}
use Rattle.mesh_circle.proofs.section.contact.Goals as goal

pub returns-clause-contact : goal.returns-clause-contact
returns-clause-contact g c =
    contact_made c.args.circle c.moved.result c.args.offset.now
    (c.moved.ensures ∙ ap (λ (k : Circle). plus k.center c.args.offset.now) c.circle.view_is) c.requires.within

pub returns-clause-safe : goal.returns-clause-safe
returns-clause-safe g c =
    let e = c.moved.ensures ∙ ap (λ (k : Circle). plus k.center c.args.offset.now) c.circle.view_is in
    rw e (contact_safe g.I.IntNumber.unit c.args.circle c.args.offset.now c.requires.circle c.requires.within)
