-- A list of two is read as its coordinates say, and no other list is a point.
use Rattle.std.proofs.Common.{◌≡◌, length, arith}
use Rattle.serde_json.specs.Find.{as_array}
use Rattle.serde_json.specs.View.{view, items_view}
use Rattle.mesh_request.specs.Reading.{pair_of}
use Rattle.mesh_request.proofs.JsonLists.{no_pair}
use Rattle.mesh_request.proofs.Parts.{of_list, pair_said}
use Rattle.mesh_request.proofs.request.paths.point.Goals as goal

pub returns-then-len-ne2 : goal.returns-then-len-ne2
returns-then-len-ne2 g c =
    let unit = g.I.IntNumber.unit in
    let numbers = c.in_ok-numbers.numbers.now.items in
    let found = as_array (view c.args.value.now) in
    let other : length numbers ≡ 2 → ⊥ = λ e. omega (arith, e, c.len.ensures, c.if-len-ne2.true) in
    of_list (pair_of unit) found (items_view numbers) _ c.in_ok-numbers.ensures (no_pair unit numbers other)

pub returns : goal.returns
returns g c =
    let unit = g.I.IntNumber.unit in
    let numbers = c.in_ok-numbers.numbers.now.items in
    let found = as_array (view c.args.value.now) in
    let two : length numbers ≡ 2 = omega (arith, c.in_ok-numbers.numbers.now.ok.0, c.len.ensures, c.if-len-ne2.false) in
    let x = g.I.IntNumber.value c.in_ok-x.x in
    let y = g.I.IntNumber.value c.in_ok-y.y in
    rw c.new.ensures
    (of_list (pair_of unit) found (items_view numbers) _ c.in_ok-numbers.ensures
    (pair_said unit numbers _ _ x y two c.index.ensures c.index-2.ensures c.in_ok-x.ensures c.in_ok-y.ensures))
