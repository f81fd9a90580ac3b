-- A list of another length than two gives no options.
use Rattle.std.proofs.Common.{◌≡◌, length, arith}
use Rattle.serde_json.specs.Find.{as_array}
use Rattle.serde_json.specs.View.{view, items_view}
use Rattle.mesh_request.specs.Reading.{options_in}
use Rattle.mesh_request.proofs.JsonLists.{no_options}
use Rattle.mesh_request.proofs.Parts.{of_list}
use Rattle.mesh_request.proofs.request.joins.arc_options.Goals as goal

pub returns-then-len-ne2 : goal.returns-then-len-ne2
returns-then-len-ne2 c =
    let numbers = c.in_ok-numbers.numbers.now.items in
    let found = as_array (view c.args.value.now) in
    let other : length numbers ≡ 2 → ⊥ = λ e. omega (arith, e, c.len.ensures, c.if-len-ne2.true) in
    of_list options_in found (items_view numbers) _ c.in_ok-numbers.ensures (no_options numbers other)
