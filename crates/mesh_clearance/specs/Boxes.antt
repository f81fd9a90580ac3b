-- Boxes along the axes, and runs of edges that follow each other in a list, each run in a box.
use Rattle.std.specs.Prelude.{ℕ, ◌<◌, ◌≤◌, ℤ, ◌≤ℤ◌, ◌*ℤ◌, List, length, get_or}
use Rattle.mesh_plane.specs.Plane.{Point, Edge}
use Rattle.mesh_clearance.specs.Clearance.{AreApart}
use Rattle.mesh_clearance.specs.declared.runs.Run.{Run}

-- a box's least corner and its greatest
abbrev pub Box : Type 0
Box = Point × Point

-- a point lies in a box
pub record IsIn (b : Box) (p : Point) : Type 0 where
  pub west : b.0.0 ≤ℤ p.0
  pub east : p.0 ≤ℤ b.1.0
  pub south : b.0.1 ≤ℤ p.1
  pub north : p.1 ≤ℤ b.1.1

-- so do both ends of an edge
pub record IsBoxed (b : Box) (e : Edge) : Type 0 where
  pub start : IsIn b e.0
  pub end : IsIn b e.1

-- no number between two is nearer to 0 than `gap` is, or on the other side
abbrev pub IsGap : ℤ → ℤ → ℤ → Type 0
IsGap least most gap = (z : ℤ) → least ≤ℤ z → z ≤ℤ most → (gap *ℤ gap) ≤ℤ (gap *ℤ z)

-- the edges in one box are at least the root of `t` from those in another
abbrev pub AreBoxesApart : ℕ → Box → Box → Type 0
AreBoxesApart t b c = (e f : Edge) → IsBoxed b e → IsBoxed c f → AreApart t e f

-- the edges from the first place of a run up to its end lie in its box
pub record IsRun (es : List Edge) (run : Run) : Type 0 where
  pub boxed : (i : ℕ) (e : Edge) → i < length es → run.first ≤ i → i < run.end → IsBoxed run.around (get_or es i e)

-- the edges from one place up to another are at least the root of `t` from an edge
abbrev pub AreFar : ℕ → List Edge → ℕ → ℕ → Edge → Type 0
AreFar t es from end f = (i : ℕ) (e : Edge) → i < length es → from ≤ i → i < end → AreApart t (get_or es i e) f
