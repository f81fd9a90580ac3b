-- Splits that go on from others. The functions of the same names in the module `laws` carry them.
use Rattle.std.specs.Prelude.{ℕ, ◌≡◌, List, ◌++◌}
use Rattle.std.specs.List.{All}
use Rattle.mesh_plane.specs.Plane.{Edge}
use Rattle.mesh_lattice.specs.Nearness.{IsNearness}
use Rattle.mesh_lattice.specs.Split.{after, EdgeSplit, IsLegal}
use Rattle.mesh_in_line.specs.InLine.{IsStraight}

-- the later splits are legal for the given edges too, and make of these what they make of what the first ones made
pub record GoOn (given : List Edge) (first later : List EdgeSplit) : Type 0 where
  pub legal : IsLegal given (later ++ first)
  pub same : after (later ++ first) given ≡ after later (after first given)

-- a splitting of what legal splits made is one of the given edges
abbrev pub SplittingsGoOn : Type 0
SplittingsGoOn = (given : List Edge) (first later : List EdgeSplit)
    → IsLegal given first → IsLegal (after first given) later → GoOn given first later

-- splits are as near to the given edges as to what straight splits made of these
abbrev pub StraightSplitsKeepNearness : Type 0
StraightSplitsKeepNearness = (given : List Edge) (first later : List EdgeSplit) (k : ℕ)
    → IsLegal given first → All (λ (s : EdgeSplit). IsStraight s.ends) first
    → IsLegal (after first given) later → IsNearness (after first given) later k → IsNearness given (later ++ first) k
