-- Both operands are resolved alone, by default options, so they may be combined.
use Rattle.std.proofs.Common.{refl}
use Rattle.std.proofs.lemmas.Result.{IfOk-weaker}
use Rattle.mesh_num.specs.Paths.{shapes_of}
use Rattle.mesh_below.specs.Options.{plain}
use Rattle.mesh_boolean.specs.Rules.{winding_rule_for}
use Rattle.mesh_operands.specs.Operands.{operand_of}
use Rattle.mesh_operands.proofs.Zones.{region_once}
use Rattle.mesh_operands.proofs.combine.shapes_of_both.Goals as goal

pub overlay_regions-requires-clause-subject_once : goal.overlay_regions-requires-clause-subject_once
overlay_regions-requires-clause-subject_once g c =
    region_once g.I.IntNumber.unit (winding_rule_for c.args.boolean.now.fill.subject) plain (operand_of g.I.IntNumber.value c.args.boolean.now.subject) (shapes_of c.in_ok-first.first.items)
    (rw c.new-plain.ensures at c.in_ok-first.ensures.regions) refl refl

pub overlay_regions-requires-clause-clip_once : goal.overlay_regions-requires-clause-clip_once
overlay_regions-requires-clause-clip_once g c =
    region_once g.I.IntNumber.unit (winding_rule_for c.args.boolean.now.fill.clip) plain (operand_of g.I.IntNumber.value c.args.boolean.now.clip) (shapes_of c.in_ok-second.second.items)
    (rw c.new-plain.ensures at c.in_ok-second.ensures.regions) refl refl

pub returns-clause-combined : goal.returns-clause-combined
returns-clause-combined g c =
    IfOk-weaker c.overlay_regions.result _ _
    (λ shapes a. record {
      first = shapes_of c.in_ok-first.first.items;
      second = shapes_of c.in_ok-second.second.items;
      subject_alone = rw c.new-plain.ensures at c.in_ok-first.ensures.regions;
      clip_alone = rw c.new-plain.ensures at c.in_ok-second.ensures.regions;
      together = a;
    })
    c.overlay_regions.ensures.regions
