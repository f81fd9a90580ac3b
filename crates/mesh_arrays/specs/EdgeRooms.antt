-- Rooms for lists of edges, and what stands in them after a call.
use Rattle.std.specs.Prelude.{ℕ, ◌≡◌, ◌≤◌, ℤ, List, length}
use Rattle.std.specs.Ordering.{int_cmp}
use Rattle.mesh_drawing.specs.Drawn.{Drawn}
use Rattle.mesh_arrays.specs.Answers.{IsEdgesAnswer}
use Rattle.mesh_arrays.specs.Numbers.{whole_edge}
use Rattle.mesh_arrays.specs.Rooms.{overwritten}
use Rattle.mesh_arrays.specs.Telling.{Draws, IsPut, TellsAnswer}
use Rattle.mesh_arrays.specs.declared.edges.EdgeCounts.{EdgeCounts}
use Rattle.mesh_arrays.specs.declared.lists.FlatLists.{FlatLists}
use Rattle.mesh_arrays.specs.declared.outcome.Outcome.{Outcome}

-- edges as numbers, and where those of each path end
pub record EdgeLists (F : Type 0) : Type 0 where
  pub edges : List F
  pub path_ends : List ℕ

abbrev pub edge_lists : {F : Type 0} → List F → List ℕ → EdgeLists F
edge_lists edges paths = record { edges = edges; path_ends = paths }

-- the lists that the code's own type has
abbrev pub lists_of : {F : Type 0} → FlatLists F → EdgeLists F
lists_of flat = edge_lists flat.all.items flat.ends.items

-- how many items each has
abbrev pub edge_counts : {F : Type 0} → EdgeLists F → EdgeCounts
edge_counts lists = record { edges = length lists.edges; paths = length lists.path_ends }

-- each list fits its room
pub record DoEdgesFit {F : Type 0} (lists room : EdgeLists F) : Type 0 where
  pub edges : length lists.edges ≤ length room.edges
  pub paths : length lists.path_ends ≤ length room.path_ends

-- what a room holds after lists were put to its beginnings
abbrev pub with_edges : {F : Type 0} → EdgeLists F → EdgeLists F → EdgeLists F
with_edges lists room = edge_lists (overwritten lists.edges room.edges) (overwritten lists.path_ends room.path_ends)

-- the room for edges, and for how many items each list has
pub record EdgeRoom (F : Type 0) : Type 0 where
  pub lists : EdgeLists F
  pub counts : EdgeCounts

abbrev pub edge_room : {F : Type 0} → List F → List ℕ → EdgeCounts → EdgeRoom F
edge_room edges paths counts = record { lists = edge_lists edges paths; counts = counts }

-- edges are put into their room, where they fit, and how many items they have is told
pub record LeavesEdges {F : Type 0} (flat : FlatLists F) (old new : EdgeRoom F) (ended : Outcome) : Type 0 where
  pub put : IsPut DoEdgesFit with_edges (lists_of flat) old.lists new.lists ended
  pub told : new.counts ≡ edge_counts (lists_of flat)

-- a call for the edges of the drawing that `asks` names, in coordinates of a type with `unit`
abbrev pub TellsEdges : ℕ → (Drawn → Type 0) → EdgeRoom (List ℤ) → EdgeRoom (List ℤ) → ℕ → Type 0
TellsEdges unit asks old new code =
    Draws asks (λ read ended. TellsAnswer (IsEdgesAnswer int_cmp unit whole_edge read) LeavesEdges old new ended) code
