-- Lists of pairs that grow.
use Rattle.std.specs.Prelude.{ℕ}
use Rattle.std.specs.List.{Contains}
use Rattle.mesh_pairs.specs.declared.pairs.Meeting.{Meeting}
use Rattle.mesh_pairs.specs.declared.pairs.Pairs.{Pairs}

-- what was listed still is
pub record Grows (old new : Pairs) : Type 0 where
  pub meetings : (m : Meeting) → Contains old.meetings.items m → Contains new.meetings.items m
  pub close : (c : ℕ × ℕ) → Contains old.close.items c → Contains new.close.items c
