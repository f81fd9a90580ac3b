-- Segments that wait, split in rounds: those that were found clear of each other, and those that are fresh.
use Rattle.std.specs.Prelude.{ℕ, ◌⊎◌, ◌≡◌, Bool, true, List, [], ◌∷◌}
use Rattle.mesh_plane.specs.Plane.{Edge}
use Rattle.mesh_lattice.specs.Counted.{Counted}
use Rattle.mesh_lattice.specs.Split.{AreClear}
use Rattle.mesh_rounds.specs.declared.rounds.Held.{Held}
use Rattle.mesh_rounds.specs.declared.rounds.Rounds.{Rounds}
use Rattle.mesh_store.specs.Cells.{StandsIn}
use Rattle.mesh_rounds.specs.Private.Groups.{all_in, edges_in, noted_in, AreBounded, IsBounded}
use Rattle.mesh_split.specs.Growth.{Grows, Waits}
use Rattle.mesh_store.specs.Steps.{IsPile}

-- any two segments that wait are clear of each other, or one of them stands in a list
abbrev pub AreClearBeside : List Counted → List Edge → Type 0
AreClearBeside todo es = (x y : Edge) → Waits x todo → Waits y todo → AreClear x y ⊎ (StandsIn x es ⊎ StandsIn y es)

-- each segment that waits stands in one of two lists
abbrev pub AreListed : List Counted → List Edge → List Edge → Type 0
AreListed todo es fs = (x : Edge) → Waits x todo → StandsIn x es ⊎ StandsIn x fs

-- what stands in the first list stands in the second
abbrev pub Keeps : List Edge → List Edge → Type 0
Keeps from left = (x : Edge) → StandsIn x from → StandsIn x left

-- the segments of a list, each of which has a number
abbrev pub keyed_edges : List (ℕ × Edge) → List Edge
keyed_edges [] = []
keyed_edges (k ∷ ks) = k.1 ∷ keyed_edges ks

-- the fresh segments of a round stand in a group, and any two that wait are clear of each other, or one of them stands
-- in a pair
pub record IsHeld (r : Rounds) (h : Held) : Type 0 where
  pub bounded : IsBounded h.group
  pub keeps : Keeps r.fresh.items (edges_in h.group)
  pub clear : AreClearBeside r.splitter.todo (noted_in h.pairs.items)

-- the state between two rounds: what waits is fresh or stands in groups, and those that are not fresh are clear of each
-- other
pub record IsRound (given : List Edge) (r : Rounds) : Type 0 where
  pub pile : IsPile given r.splitter.log r.splitter.todo r.splitter.live
  pub none_lives : r.splitter.live ≡ []
  pub bounded : AreBounded r.groups.items
  pub listed : AreListed r.splitter.todo r.fresh.items (all_in r.groups.items)
  pub clear : AreClearBeside r.splitter.todo r.fresh.items

-- where pairs were held in a round and split, with these pieces where some segments are kept, the next round can begin
abbrev pub EndsRound : Held → Bool → List Edge → Rounds → Rounds → Type 0
EndsRound held keeps_some born split next =
    (old : Rounds) → (given : List Edge) → IsRound given old → IsHeld old held
    → IsPile given split.splitter.log split.splitter.todo split.splitter.live
    → split.splitter.live ≡ [] → split.groups ≡ old.groups
    → (keeps_some ≡ true → Grows old.splitter.todo split.splitter.todo born) → IsRound given next
