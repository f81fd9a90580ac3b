-- A list of three is read as its coordinates say, and no other list is a vertex.
use Rattle.std.proofs.Common.{◌≡◌, length, arith}
use Rattle.serde_json.specs.Find.{as_array}
use Rattle.serde_json.specs.View.{view, items_view}
use Rattle.mesh_request.specs.Reading.{triple_of}
use Rattle.mesh_request.proofs.JsonLists.{no_triple}
use Rattle.mesh_request.proofs.Parts.{of_list, triple_said}
use Rattle.mesh_request.proofs.request.vertices.vertex.Goals as goal

pub returns-then-len-ne3 : goal.returns-then-len-ne3
returns-then-len-ne3 g c =
    let unit = g.I.IntNumber.unit in
    let numbers = c.in_ok-numbers.numbers.now.items in
    let found = as_array (view c.args.value.now) in
    let other : length numbers ≡ 3 → ⊥ = λ e. omega (arith, e, c.len.ensures, c.if-len-ne3.true) in
    of_list (triple_of unit) found (items_view numbers) _ c.in_ok-numbers.ensures (no_triple unit numbers other)

pub returns : goal.returns
returns g c =
    let unit = g.I.IntNumber.unit in
    let numbers = c.in_ok-numbers.numbers.now.items in
    let found = as_array (view c.args.value.now) in
    let three : length numbers ≡ 3 = omega (arith, c.in_ok-numbers.numbers.now.ok.0, c.len.ensures, c.if-len-ne3.false) in
    let x = g.I.IntNumber.value c.in_ok-x.x in
    let y = g.I.IntNumber.value c.in_ok-y.y in
    let width = g.I.IntNumber.value c.in_ok-width.width in
    rw (c.new-2.ensures, c.new.ensures)
    (of_list (triple_of unit) found (items_view numbers) _ c.in_ok-numbers.ensures
    (triple_said unit numbers _ _ _ x y width three c.index.ensures c.index-2.ensures c.index-3.ensures c.in_ok-x.ensures c.in_ok-y.ensures c.in_ok-width.ensures))
