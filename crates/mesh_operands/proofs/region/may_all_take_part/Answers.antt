-- One zone after another.
use Rattle.std.proofs.Common.{refl}
use Rattle.std.proofs.lemmas.Bool.{false≢true}
use Rattle.mesh_operands.specs.Combining.{MayTakePart}
use Rattle.mesh_operands.specs.Operands.{operand_of}
use Rattle.mesh_operands.proofs.Zones.{all_read, one_more, one_of}
use Rattle.mesh_operands.proofs.region.may_all_take_part.Goals as goal

pub loop-zone-preserved : goal.loop-zone-preserved
loop-zone-preserved g c =
    one_more (operand_of g.I.IntNumber.value) (MayTakePart g.I.IntNumber.unit) c.args.zones.now c.loop-zone.zone-index c.zone-item.result c.loop-zone-test.true c.zone-item.is
    c.loop-zone.invariant (c.may_take_part.ensures.0 c.if-not-may_take_part.false)

pub returns-then-not-may_take_part : goal.returns-then-not-may_take_part
returns-then-not-may_take_part g c = (
  λ no. absurd (false≢true no),
  λ all. absurd (false≢true (c.if-not-may_take_part.ensures.1
      (one_of (operand_of g.I.IntNumber.value) (MayTakePart g.I.IntNumber.unit) c.args.zones.now c.loop-zone.zone-index c.zone-item.result c.loop-zone-test.true c.zone-item.is all))),
)

pub returns : goal.returns
returns g c = (
  λ _. all_read (operand_of g.I.IntNumber.value) (MayTakePart g.I.IntNumber.unit) c.args.zones.now c.loop-zone.zone-index c.loop-zone-test.false c.loop-zone.invariant,
  λ _. refl,
)
