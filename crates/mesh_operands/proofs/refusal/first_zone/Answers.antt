-- Each zone so far may take part, and at the end each zone.
use Rattle.std.proofs.Common.{map, refl, sym, subst}
use Rattle.std.proofs.lemmas.List.{length-map}
use Rattle.std.proofs.lemmas.Option.{none-some}
use Rattle.mesh_below.proofs.Asking.{all_taken}
use Rattle.mesh_drawing.proofs.Firsts.{first_found, one_more}
use Rattle.mesh_operands.specs.Combining.{MayTakePart}
use Rattle.mesh_operands.specs.Operands.{Given, operand_of}
use Rattle.mesh_operands.specs.Refusals.{IsReason}
use Rattle.mesh_operands.proofs.Refused.{zone_here, zone_within}
use Rattle.mesh_operands.proofs.refusal.first_zone.Goals as goal

pub loop-index-preserved : goal.loop-index-preserved
loop-index-preserved g c =
    let zones = c.args.zones.now in
    let zone = c.index-zones-index.result in
    let given = operand_of g.I.IntNumber.value zone in
    one_more (MayTakePart g.I.IntNumber.unit) (map (operand_of g.I.IntNumber.value) zones) c.loop-index.index given given
    (zone_within (operand_of g.I.IntNumber.value) zones c.loop-index.index c.loop-index-test.true)
    (zone_here (operand_of g.I.IntNumber.value) zones c.loop-index.index zone given c.loop-index-test.true c.index-zones-index.is)
    c.loop-index.invariant (c.at_operand.ensures.none.0 c.in_default.is)

pub returns-in-Some-clause-first : goal.returns-in-Some-clause-first
returns-in-Some-clause-first g c =
    let zones = c.args.zones.now in
    let zone = c.index-zones-index.result in
    let given = operand_of g.I.IntNumber.value zone in
    let here = λ (d : Given). zone_here (operand_of g.I.IntNumber.value) zones c.loop-index.index zone d c.loop-index-test.true c.index-zones-index.is in
    record {
      index = c.loop-index.index;
      which = c.in-Some.ensures.place;
      first =
          first_found (MayTakePart g.I.IntNumber.unit) (map (operand_of g.I.IntNumber.value) zones) c.loop-index.index given given
          (zone_within (operand_of g.I.IntNumber.value) zones c.loop-index.index c.loop-index-test.true) (here given) c.loop-index.invariant
          (λ may. none-some _ (sym (c.in-Some.ensures.none.1 may)));
      reason = λ d. subst (λ (o : Given). IsReason g.I.IntNumber.unit o c.in-Some.refusal.why) (sym (here d)) c.in-Some.ensures.reason;
    }

pub returns-in-Some-clause-none : goal.returns-in-Some-clause-none
returns-in-Some-clause-none g c = (
  λ e. absurd (none-some _ (sym e)),
  λ all. c.in-Some.ensures.none.1
      (subst (MayTakePart g.I.IntNumber.unit)
      (zone_here (operand_of g.I.IntNumber.value) c.args.zones.now c.loop-index.index c.index-zones-index.result (operand_of g.I.IntNumber.value c.index-zones-index.result) c.loop-index-test.true c.index-zones-index.is)
      (all c.loop-index.index (operand_of g.I.IntNumber.value c.index-zones-index.result) (zone_within (operand_of g.I.IntNumber.value) c.args.zones.now c.loop-index.index c.loop-index-test.true))),
)

pub returns-clause-none : goal.returns-clause-none
returns-clause-none g c = (
  λ _. all_taken (MayTakePart g.I.IntNumber.unit) (map (operand_of g.I.IntNumber.value) c.args.zones.now) c.loop-index.index
      (rw (length-map c.args.zones.now (operand_of g.I.IntNumber.value)) c.loop-index-test.false) c.loop-index.invariant,
  λ _. refl,
)
