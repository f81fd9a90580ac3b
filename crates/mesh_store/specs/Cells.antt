-- Live segments listed by the parts of the plane that they reach.
use Rattle.std.specs.Prelude.{ℕ, ◌≡◌, ◌<◌, Bool, true, false, cond, not, ◌||◌, List, length, slice_index_or, ℤ, pos}
use Rattle.std.specs.Prelude.{◌+ℤ◌, ◌*ℤ◌, ◌<ℤ◌, int_lt}
use Rattle.mesh_plane.specs.Plane.{Point, Edge}
use Rattle.mesh_lattice.specs.Counted.{Counted}
use Rattle.mesh_lattice.specs.Split.{same_edge, AreClear, Meets}
use Rattle.mesh_store.specs.declared.tree.Cut.{Cut}
use Rattle.mesh_store.specs.declared.tree.Tree.{Tree, Leaf, Fork'}
use Rattle.mesh_store.specs.Steps.{exactly}

-- how far a point lies along a vector, times the length of the vector
abbrev pub height : ℤ × ℤ → Point → ℤ
height across c = (across.0 *ℤ c.0) +ℤ (across.1 *ℤ c.1)

-- whether a point lies below a cut
abbrev pub is_below : Cut → Point → Bool
is_below cut c = int_lt (height cut.across c) cut.at

-- whether an end of an edge lies on a side of a cut
abbrev pub reaches : Cut → Edge → Bool → Bool
reaches cut e below =
    cond below (is_below cut e.0 || is_below cut e.1) (not (is_below cut e.0) || not (is_below cut e.1))

-- a cell of the plane, known by whether it lies below each cut
abbrev pub Cell : Type 0
Cell = Cut → Bool

-- an edge reaches the sides on which a cell lies
abbrev pub IsAt : Edge → Cell → Type 0
IsAt e c = (cut : Cut) → reaches cut e (c cut) ≡ true

-- what is listed in a cell
abbrev pub listed_at : Tree → Cell → List Edge
listed_at (Leaf listed full) c = listed.items
listed_at (Fork' p low cut q high) c = cond (c cut) (listed_at low c) (listed_at high c)

-- an element stands in a list
pub record StandsIn {A : Type 0} (x : A) (xs : List A) : Type 0 where
  pub at : ℕ
  pub within : at < length xs
  pub same : (d : A) → slice_index_or xs at d ≡ x

-- those of a list that have a property stand in another one too
abbrev pub KeepsThose : (Edge → Type 0) → List Edge → List Edge → Type 0
KeepsThose P from left = (x : Edge) → P x → StandsIn x from → StandsIn x left

-- an edge is listed in each cell that it reaches
abbrev pub HasListed : (Cell → List Edge) → Edge → Type 0
HasListed listed e = (c : Cell) → IsAt e c → StandsIn e (listed c)

-- each segment is still listed in the cells where it was
abbrev pub KeepsListed : (Cell → List Edge) → (Cell → List Edge) → Type 0
KeepsListed old new = (e : Edge) (c : Cell) → IsAt e c → StandsIn e (old c) → StandsIn e (new c)

-- so is each other segment than this one
abbrev pub KeepsOthers : Edge → (Cell → List Edge) → (Cell → List Edge) → Type 0
KeepsOthers s old new = (e : Edge) (c : Cell) → same_edge e s ≡ false → StandsIn e (old c) → StandsIn e (new c)

-- each live segment is listed in each cell that it reaches
abbrev pub LiveAreListed : (Cell → List Edge) → List Counted → Type 0
LiveAreListed listed live = (e : Edge) → pos 0 <ℤ exactly e live → HasListed listed e

-- a live segment, and where the given one meets it
abbrev pub MeetsLive : Edge → List Counted → Edge × Point → Type 0
MeetsLive s live m = Meets s m.0 m.1 × (pos 0 <ℤ exactly m.0 live)

-- each live segment that a part lists is clear of the given one
abbrev pub IsCellClear : Edge → List Edge → List Counted → Type 0
IsCellClear s listed live = (e : Edge) → StandsIn e listed → pos 0 <ℤ exactly e live → AreClear s e
