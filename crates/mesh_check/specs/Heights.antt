-- How far points lie beside the lines of edges, and paths that lead apart from a stop of both.
use Rattle.std.specs.Prelude.{ℕ, suc, ◌≡◌, ◌+◌, ◌<◌, ◌≤◌, ◌⊎◌, ℤ, pos, ◌*ℤ◌, ◌≤ℤ◌, ◌<ℤ◌, neg_ℤ}
use Rattle.mesh_plane.specs.Plane.{Point, Edge, turn}
use Rattle.mesh_lattice.specs.Split.{AreClear}
use Rattle.mesh_pairs.specs.Laws.{spread}

-- what lies so many units beside the line of an edge is this far beside it, as a turn
unfoldable pub units : ℕ → Edge → ℤ
units k e = pos k *ℤ pos (spread e)

-- a point lies at most so many units beside the line of an edge
pub record IsNearLine (k : ℕ) (e : Edge) (p : Point) : Type 0 where
  pub low : neg_ℤ (units k e) ≤ℤ turn e.0 e.1 p
  pub high : turn e.0 e.1 p ≤ℤ units k e

-- a point lies more than so many units beside it, on either side
abbrev pub IsFarFromLine : ℕ → Edge → Point → Type 0
IsFarFromLine k e p = (turn e.0 e.1 p <ℤ neg_ℤ (units k e)) ⊎ (units k e <ℤ turn e.0 e.1 p)

-- the way from one point to another goes back along an edge neither in x nor in y
pub record GoesAlong (e : Edge) (p q : Point) : Type 0 where
  pub east : e.0.0 ≤ℤ e.1.0 → p.0 ≤ℤ q.0
  pub west : e.1.0 ≤ℤ e.0.0 → q.0 ≤ℤ p.0
  pub up : e.0.1 ≤ℤ e.1.1 → p.1 ≤ℤ q.1
  pub down : e.1.1 ≤ℤ e.0.1 → q.1 ≤ℤ p.1

-- a path of `n` pieces along an edge, all stops at most so many units beside it
pub record IsPathAlong (k : ℕ) (e : Edge) (at : ℕ → Point) (n : ℕ) : Type 0 where
  pub proper : 0 < spread e
  pub along : (i j : ℕ) → i ≤ j → j ≤ n → GoesAlong e (at i) (at j)
  pub near : (i : ℕ) → i ≤ n → IsNearLine k e (at i)

-- the stops before and after a place of a path lie more than so many units beside the line of an edge
pub record LeadsAway (k : ℕ) (e : Edge) (at : ℕ → Point) (n i : ℕ) : Type 0 where
  pub before : (j : ℕ) → suc j ≡ i → IsFarFromLine k e (at j)
  pub after : i < n → IsFarFromLine k e (at (suc i))

-- where two paths have a common stop, and each leads away there from the other's edge by more than how far that one is
-- bent and twice how far it is bent itself, no two pieces of them meet but in ends
abbrev pub PathsThatLeadApartAreClear : Type 0
PathsThatLeadApartAreClear =
    (k l : ℕ) (e f : Edge) (a b : ℕ → Point) (n o i j : ℕ) → IsPathAlong k e a n → IsPathAlong l f b o
    → i ≤ n → j ≤ o → a i ≡ b j → LeadsAway (l + (k + k)) f a n i → LeadsAway (k + (l + l)) e b o j
    → (p q : ℕ) → p < n → q < o → AreClear (a p, a (suc p)) (b q, b (suc q))
