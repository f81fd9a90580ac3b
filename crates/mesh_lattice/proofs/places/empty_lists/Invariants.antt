use Rattle.std.proofs.Common.{◌≡◌, ℕ, ◌<◌, [], length, get_or}
use Rattle.std.specs.Prelude.{Vec}
use Rattle.std.specs.declared.alloc.Global.{Global}
use Rattle.mesh_lattice.proofs.places.empty_lists.Given as goal

abbrev pub invariant-loop-made : goal.invariant-loop-made
invariant-loop-made g l = record {
  len : length l.lists.items ≡ l._made;
  empty : (i : ℕ) (d : Vec g.row.T.Denot Global) → i < l._made → (get_or l.lists.items i d).items ≡ [];
}
