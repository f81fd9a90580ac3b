use Rattle.std.proofs.Common.{ℕ, ◌<◌, get_or}
use Rattle.std.specs.Prelude.{pos, ◌<ℤ◌}
use Rattle.mesh_plane.specs.Plane.{Edge}
use Rattle.mesh_lattice.specs.Split.{AreClear}
use Rattle.mesh_store.specs.Steps.{exactly}
use Rattle.mesh_store.proofs.tree.in_part.Given as goal

abbrev pub invariant-loop-e : goal.invariant-loop-e
invariant-loop-e l = (k : ℕ) → k < l.e-index → (d : Edge) → pos 0 <ℤ exactly (get_or l.listed k d) l.live → AreClear l.s (get_or l.listed k d)
