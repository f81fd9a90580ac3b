-- One zone more is read, or no list of zones where one is not read.
use Rattle.std.proofs.Common.{refl}
use Rattle.serde_json.specs.View.{view, items_view}
use Rattle.mesh_operands.specs.Operands.{operand_of}
use Rattle.mesh_request.proofs.JsonLists.{one_more}
use Rattle.mesh_boolean_request.specs.Reading.{operand_in, zones_of}
use Rattle.mesh_boolean_request.proofs.ZoneLists.{all_read, not_read, item_pushed, handed_on}
use Rattle.mesh_boolean_request.proofs.operand.zones.Goals as goal

pub loop-item-preserved : goal.loop-item-preserved
loop-item-preserved g c =
    let unit = g.I.IntNumber.unit in
    let pushed = item_pushed (operand_of g.I.IntNumber.value) c.loop-item.zones.items _ c.in_ok-operand_at.field-0 c.in_ok-push.ensures.items in
    one_more (operand_in unit) (zones_of unit) (λ d ds. refl) c.args.items.now c.loop-item.item-index c.item-item.result _ _ _ _
    c.loop-item-test.true c.item-item.is c.in_ok-operand_at.ensures pushed c.loop-item.invariant

pub returns-in_err-operand_at : goal.returns-in_err-operand_at
returns-in_err-operand_at g c =
    let unit = g.I.IntNumber.unit in
    let failed = c.in_err-operand_at.ensures in
    handed_on (view c.args.request.now) (zones_of unit (items_view c.args.items.now)) _ c.from_residual.result c.in_err-operand_at.field-0.0 c.from_residual.ensures.1 (
      failed.0,
      λ fault. not_read (operand_in unit) (zones_of unit) (λ d ds. refl) c.args.items.now c.loop-item.item-index c.item-item.result _ _
          c.loop-item-test.true c.item-item.is (failed.1 fault) c.loop-item.invariant,
    )

pub returns : goal.returns
returns g c =
    let unit = g.I.IntNumber.unit in
    all_read (zones_of unit) refl c.args.items.now c.loop-item.item-index _ _ c.loop-item-test.false c.loop-item.invariant
