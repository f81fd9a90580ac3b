-- Lemmas over lists: attempts in arrays, and their splits, which are counted on.
use Rattle.std.proofs.Common.{◌≡◌, ◌≤◌, ℕ, List, length, reverse, ◌∙◌}
use Rattle.std.proofs.lemmas.List.{length-map, length-reverse}
use Rattle.mesh_plane.specs.Plane.{Point, Edge}
use Rattle.mesh_lattice.specs.Counted.{Counted}
use Rattle.mesh_split.specs.Counting.{CountsAtMost}
use Rattle.mesh_split.specs.declared.count.SplitCount.{SplitCount}
use Rattle.mesh_rounds.specs.Told.{IsCountedSplitting}
use Rattle.mesh_split.proofs.Counts.{counts_with, with_fewer}
use Rattle.mesh_paths.specs.Made.{latest_first}
use Rattle.mesh_ahead.specs.Ahead.{IsMadeAmong}

pub splits_many : (made : List (Edge × Point)) → length (latest_first made) ≡ length made
splits_many made = length-map (reverse made) _ ∙ length-reverse made

-- of more attempts
pub made_fewer : (m n : ℕ) → m ≤ n → (given : List Edge) (old new : SplitCount) (ks : List Counted) (k : ℕ) → IsMadeAmong m given old new ks k → IsMadeAmong n given old new ks k
made_fewer m n less given old new ks k h = record { told = h.told; counted = with_fewer m n less given old new h.told.splitting.splits h.counted }

pub made_after : (given : List Edge) (old now new : SplitCount) (ks : List Counted) (k : ℕ) → CountsAtMost 4 given old now → IsCountedSplitting given now new ks k → IsMadeAmong 51 given old new ks k
made_after given old now new ks k first h = record { told = h.told; counted = counts_with 4 47 given old now new h.told.splitting.splits first h.counted }
