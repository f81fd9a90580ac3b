-- What stands after lists were added to others: only private contracts read this.
use Rattle.std.specs.Prelude.{◌≡◌, List, ◌++◌, length, map}
use Rattle.mesh_arrays.specs.EndToEnd.{end_to_end, ends_from}
use Rattle.mesh_arrays.specs.declared.lists.FlatLists.{FlatLists}

-- lists stand behind those that were there, where `item_of` is what the numbers for an item stand for
pub record AddsLists {F A : Type 0} (item_of : F → A) (old new : FlatLists F) (more : List (List A)) : Type 0 where
  pub all : map item_of new.all.items ≡ map item_of old.all.items ++ end_to_end more
  pub ends : new.ends.items ≡ old.ends.items ++ ends_from (length old.all.items) more
