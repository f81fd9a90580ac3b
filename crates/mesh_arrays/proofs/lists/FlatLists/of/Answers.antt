-- Lists that are added to none.
use Rattle.std.proofs.Common.{[]}
use Rattle.mesh_num.specs.Paths.{paths_of}
use Rattle.mesh_arrays.proofs.Adding.{holds_more}
use Rattle.mesh_arrays.proofs.lists.FlatLists.of.Goals as goal

pub returns : goal.returns
returns g c = holds_more g.T.Flat.item_of _ _ [] (paths_of c.args.lists.now) c.new-flat.ensures c.in_ok-push_lists.ensures
