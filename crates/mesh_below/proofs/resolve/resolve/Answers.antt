use Rattle.std.proofs.Common.{List, subst, sym}
use Rattle.std.proofs.lemmas.Result.{IfOk-weaker}
use Rattle.mesh_lattice.specs.Counted.{Counted}
use Rattle.mesh_lattice.specs.Splitting.{IsSplitting}
use Rattle.mesh_below.proofs.resolve.resolve.Goals as goal

pub returns-clause-resolution : goal.returns-clause-resolution
returns-clause-resolution c =
    IfOk-weaker c.shapes_of_segments.result _ _
    (λ v h. (h (subst (λ (ks : List Counted). IsSplitting c.args.edges.now ks) (sym c.deref.ensures.value) c.in_ok-segments.ensures.splitting)).0)
    c.shapes_of_segments.ensures.resolution
