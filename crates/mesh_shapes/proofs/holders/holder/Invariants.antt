use Rattle.std.proofs.Common.{◌≡◌, ◌<◌, ◌≤◌, List, drop, length}
use Rattle.std.specs.Prelude.{unsigned_abs}
use Rattle.std.specs.Option.{ForSome}
use Rattle.mesh_shapes.specs.Resolution.{Ring}
use Rattle.mesh_shapes.specs.Private.Grouping.{areas_of}
use Rattle.mesh_shapes.specs.Private.Holders.{Rise, IsRowOf, IsSearch}
use Rattle.mesh_shapes.proofs.holders.holder.Given as goal

abbrev pub invariant-loop-e : goal.invariant-loop-e
invariant-loop-e l = record {
  search : (rs : List Ring) → l.areas ≡ areas_of rs → IsRowOf rs l.q l.row → IsSearch rs l.q l.row (drop l.e-index l.row) l.search;
  rise : Rise l.search.place (length l.areas) (drop l.e-index l.row);
  in_range : l.search.place < length l.areas;
  known : ForSome l.search.best (λ b. b < length l.areas);
  size : unsigned_abs l.search.winding ≤ l.e-index;
}
