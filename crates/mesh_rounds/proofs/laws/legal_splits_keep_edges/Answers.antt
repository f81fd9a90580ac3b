-- What legal splits keep.
use Rattle.mesh_rounds.proofs.Kept.{kept_by_splits}
use Rattle.mesh_rounds.proofs.laws.legal_splits_keep_edges.Goals as goal

pub returns : goal.returns
returns c given splits legal = kept_by_splits given splits legal
