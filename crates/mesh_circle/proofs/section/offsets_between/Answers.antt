use Rattle.mesh_circle.proofs.Circles.{centers_apart, vector_made}
use Rattle.mesh_circle.proofs.section.offsets_between.Goals as goal

pub tangent_offsets-requires-clause-apart : goal.tangent_offsets-requires-clause-apart
tangent_offsets-requires-clause-apart g c =
    rw (vector_made c.args.a c.args.b _ _ c.sub.result _ _ c.a.view_is c.b.view_is c.sub.ensures)
    (centers_apart g.I.IntNumber.unit c.args.a c.args.b c.requires.a c.requires.b)
