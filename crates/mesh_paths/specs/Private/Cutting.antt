-- What stands while the paths that have a piece are cut one by one.
use Rattle.std.specs.Prelude.{ℕ, ◌≡◌, ◌<◌, ◌≤◌, ◌⊎◌, false, true, List, [], ◌∷◌, length}
use Rattle.mesh_plane.specs.Plane.{Point}
use Rattle.mesh_lattice.specs.Clean.{IsProper}
use Rattle.mesh_lattice.specs.Split.{is_end, occurs, split_by, EdgeSplit, IsInBox}
use Rattle.mesh_points.specs.Chains.{IsSearched}
use Rattle.mesh_points.specs.Points.{IsNumberOf}
use Rattle.mesh_paths.specs.declared.paths.Paths.{Paths}
use Rattle.mesh_paths.specs.declared.stops.Stop.{Stop}
use Rattle.mesh_paths.specs.Made.{split_at}
use Rattle.mesh_paths.specs.Paths.{given_to, AreHeld}
use Rattle.mesh_paths.specs.Stops.{count_of, path_of}
use Rattle.mesh_paths.specs.Filed.{id_in, pass_of, AreFiled}

-- each split lies in the box of what it splits, and at none of its ends
abbrev pub AreSound : List EdgeSplit → Type 0
AreSound [] = Unit {0}
AreSound (s ∷ splits) = (IsInBox s.ends s.at) × (is_end s.at s.ends ≡ false) × AreSound splits

-- paths that edges have become by splits, whether legal or not
pub record AreCut (p : Paths) : Type 0 where
  pub filed : AreFiled p
  pub proper : IsProper (given_to p)
  pub held : AreHeld p
  pub sound : AreSound p.splits

-- a stop has the number of its point
abbrev pub IsStop : Paths → Stop → Type 0
IsStop p s = IsNumberOf p.points s.at s.id

-- no path stops twice at a point
abbrev pub IsInjective : (ℕ → Point) → ℕ → Type 0
IsInjective at n = (i j : ℕ) → i ≤ n → j ≤ n → at i ≡ at j → i ≡ j

-- the split of a piece at a stop
abbrev pub cut_of : Stop → Stop → Stop → EdgeSplit
cut_of a b c = split_at (a.at, b.at) c.at

-- edges, points and splits are as they were
pub record AreSame (old new : Paths) : Type 0 where
  pub edges : new.edges ≡ old.edges
  pub points : new.points ≡ old.points
  pub splits : new.splits ≡ old.splits
  pub count : count_of new.stops ≡ count_of old.stops

-- a path was cut where it has a piece; its new pass may have come after the others
pub record IsCutPath (old new : Paths) (path : ℕ) (s : EdgeSplit) : Type 0 where
  pub same : AreSame old new
  pub cut : path_of new.stops path ≡ split_by s (path_of old.stops path)
  pub others : (k : ℕ) → k < count_of old.stops → (k ≡ path → ⊥) → path_of new.stops k ≡ path_of old.stops k
  pub more : length old.through.passes.items ≤ length new.through.passes.items
  pub passes : (k : ℕ) → k < length old.through.passes.items → pass_of new.through k ≡ pass_of old.through k
  pub fresh : (k : ℕ) → length old.through.passes.items ≤ k → k < length new.through.passes.items
      → (pass_of new.through k).path ≡ path

-- the path of a pass still has a piece
abbrev pub HasPiece : Paths → EdgeSplit → ℕ → Type 0
HasPiece p s k = occurs s.ends (path_of p.stops (pass_of p.through k).path) ≡ true

-- a path is as it was, or cut
abbrev pub IsAsOrCut : Paths → Paths → EdgeSplit → ℕ → Type 0
IsAsOrCut old new s k =
    (path_of new.stops k ≡ path_of old.stops k) ⊎ (path_of new.stops k ≡ split_by s (path_of old.stops k))

-- some paths that have a piece were cut: those of the passes through its start that were looked through
pub record IsCutting (old new : Paths) (s : EdgeSplit) (start left : ℕ) : Type 0 where
  pub filed : AreFiled new
  pub same : AreSame old new
  pub paths : (k : ℕ) → k < count_of old.stops → IsAsOrCut old new s k
  pub search : IsSearched (HasPiece new s) (length new.through.passes.items) (id_in new.through.passes.items) start left
