use Rattle.std.proofs.Common.{take}
use Rattle.mesh_plane.specs.Plane.{Edge}
use Rattle.mesh_store.specs.Cells.{StandsIn}
use Rattle.mesh_rounds.specs.Private.Groups.{all_in, AreBounded}
use Rattle.mesh_split.specs.Growth.{Waits}
use Rattle.mesh_rounds.proofs.rounds.waiting_groups.Given as goal

abbrev pub invariant-loop-group : goal.invariant-loop-group
invariant-loop-group l = record {
  bounded : AreBounded l.kept.items;
  kept : (x : Edge) → StandsIn x (all_in (take l.group-index l.groups)) → Waits x l.todo → StandsIn x (all_in l.kept.items);
}
