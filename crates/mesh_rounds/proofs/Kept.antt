-- Lemmas over points and lists: what legal splits keep.
use Rattle.std.proofs.Common.{List}
use Rattle.mesh_plane.specs.Plane.{Edge}
use Rattle.mesh_lattice.specs.Split.{EdgeSplit, IsLegal}
use Rattle.mesh_lattice.proofs.KeptBySplits.{after_balanced}
use Rattle.mesh_lattice.proofs.SafeSplits.{split_safe}
use Rattle.mesh_lattice.proofs.SoundSplits.{legal_sound, after_proper}
use Rattle.mesh_rounds.specs.Laws.{KeepsEdges}
use Rattle.mesh_rounds.proofs.Paths.{path_of_edge, comes_from}

pub kept_by_splits : (given : List Edge) (splits : List EdgeSplit) → IsLegal given splits → KeepsEdges given splits
kept_by_splits given splits legal =
    let sound = legal_sound given splits legal in
    record {
      paths = path_of_edge splits sound;
      boxed = comes_from splits sound given;
      proper = after_proper splits sound given;
      safe = λ unit h. split_safe unit given splits legal h;
      balanced = after_balanced splits given;
    }
