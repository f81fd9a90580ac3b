-- The section that is read backwards is that of its edge.
use Rattle.std.proofs.Common.{◌≤◌, ◌^◌, arith, sym, subst}
use Rattle.mesh_plane.specs.Plane.{Point}
use Rattle.mesh_stroke.specs.Private.Sections.{Section, IsMade}
use Rattle.mesh_stroke.proofs.Sections.{reversed_made}
use Rattle.mesh_stroke.proofs.section.StrokeSection.reversed.Goals as goal

pub returns-clause-made : goal.returns-clause-made
returns-clause-made g c radius h =
    let least : 2 ^ 14 ≤ g.I.IntNumber.unit = g.met.I.IntNumber.least_law in
    let own = subst (λ (s : Section). IsMade g.I.IntNumber.unit radius s) (sym c.self.view_is) h in
    subst
    (λ (d : Point). IsMade g.I.IntNumber.unit radius (record {
      a = c.self.inside.b;
      b = c.self.inside.a;
      direction = d;
      a_left = c.self.inside.b_right;
      a_right = c.self.inside.b_left;
      b_left = c.self.inside.a_right;
      b_right = c.self.inside.a_left;
    }))
    (sym c.opposite.ensures.value)
    (reversed_made g.I.IntNumber.unit radius (omega arith) _ own)
