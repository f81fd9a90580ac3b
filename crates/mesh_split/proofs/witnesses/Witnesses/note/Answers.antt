use Rattle.std.proofs.Common.{subst, List, Some}
use Rattle.std.specs.Prelude.{◌≡◌, cond}
use Rattle.std.specs.Map.{lookup}
use Rattle.mesh_plane.specs.Plane.{Edge}
use Rattle.mesh_lattice.specs.Split.{same_ends}
use Rattle.mesh_store.specs.Witnesses.{edge_eq, forward, witness_in}
use Rattle.mesh_split.proofs.Forward.{noted}
use Rattle.mesh_split.proofs.witnesses.Witnesses.note.Goals as goal

pub returns : goal.returns
returns c q =
    let es = c.self.inside.by_ends.entries in
    subst (λ (l : List (Edge × Edge)). witness_in c.insert.new.self.entries q ≡ cond (same_ends q c.args.e) c.args.witness (witness_in l q)) c.self.view_is
    (noted c.args.e c.args.witness es c.insert.new.self.entries q (subst
    (λ (k : Edge).
    lookup (edge_eq (forward q)) c.insert.new.self.entries ≡ cond (edge_eq k (forward q)) (Some c.args.witness) (lookup (edge_eq (forward q)) es))
    c.forward.ensures (c.in_ok-insert.ensures.updates.0 (forward q))))
