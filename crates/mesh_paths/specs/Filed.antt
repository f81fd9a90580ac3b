-- The paths through points, and what stands in the lists of them.
use Rattle.std.specs.Prelude.{ℕ, ◌≡◌, ◌<◌, ◌≤◌, ◌+◌, List, length, slice_index_or}
use Rattle.mesh_points.specs.Points.{AreDistinct, IsNumberOf}
use Rattle.mesh_points.specs.Chains.{AreChained}
use Rattle.mesh_paths.specs.declared.through.Pass.{Pass}
use Rattle.mesh_paths.specs.declared.through.Through.{Through}
use Rattle.mesh_paths.specs.declared.paths.Paths.{Paths}
use Rattle.mesh_paths.specs.Stops.{count_of, pieces_of, stop_of, AreApart}

-- no pass, for what lies past the end of a list
abbrev pub no_pass : Pass
no_pass = record { path = 0; id = 0; before = 0 }

abbrev pub pass_in : List Pass → ℕ → Pass
pass_in passes k = slice_index_or passes k no_pass

abbrev pub before_in : List Pass → ℕ → ℕ
before_in passes k = (pass_in passes k).before

abbrev pub id_in : List Pass → ℕ → ℕ
id_in passes k = (pass_in passes k).id

-- the pass at a place
abbrev pub pass_of : Through → ℕ → Pass
pass_of t k = pass_in t.passes.items k

-- how many passes are to be looked through for a point
abbrev pub last_of : Through → ℕ → ℕ
last_of t id = slice_index_or t.last.items id 0

-- each pass stands in the list of its point
abbrev pub AreListed : Through → Type 0
AreListed t = AreChained t.last.items (length t.passes.items) (before_in t.passes.items) (id_in t.passes.items)

-- a pass came after the others
pub record IsPassAdded (old new : Through) (id path : ℕ) : Type 0 where
  pub count : length new.passes.items ≡ length old.passes.items + 1
  pub same : (k : ℕ) → k < length old.passes.items → pass_of new k ≡ pass_of old k
  pub its_path : (pass_of new (length old.passes.items)).path ≡ path
  pub its_id : (pass_of new (length old.passes.items)).id ≡ id

-- a path leads through a point, as a pass says
pub record IsPassed (t : Through) (path id : ℕ) : Type 0 where
  pub at : ℕ
  pub within : at < length t.passes.items
  pub its_path : (pass_of t at).path ≡ path
  pub its_id : (pass_of t at).id ≡ id

-- each path through a point stands in the point's list, and all stops have the numbers of their points
pub record AreFiled (p : Paths) : Type 0 where
  pub count : count_of p.stops ≡ length p.edges.items
  pub apart : AreApart p.stops
  pub points : length p.through.last.items ≡ length p.points
  pub distinct : AreDistinct p.points
  pub numbered : (k i : ℕ) → k < count_of p.stops → i ≤ pieces_of p.stops k
      → IsNumberOf p.points (stop_of p.stops k i).at (stop_of p.stops k i).id
  pub listed : AreListed p.through
  pub passed : (k i : ℕ) → k < count_of p.stops → i ≤ pieces_of p.stops k → IsPassed p.through k (stop_of p.stops k i).id
  pub real : (k : ℕ) → k < length p.through.passes.items → (pass_of p.through k).path < count_of p.stops
