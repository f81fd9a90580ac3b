use Rattle.mesh_num.proofs.Moving.{safe_difference}
use Rattle.mesh_circle.proofs.cover.raised_length.Goals as goal

pub sqr_length-requires : goal.sqr_length-requires
sqr_length-requires g c =
    rw c.sub.ensures (safe_difference g.I.IntNumber.unit c.args.to c.args.from c.requires.to c.requires.from)
