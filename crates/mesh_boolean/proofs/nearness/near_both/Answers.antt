-- Both operands are resolved alone, then together.
use Rattle.std.proofs.Common.{◌+◌, arith}
use Rattle.mesh_num.specs.Paths.{shapes_of}
use Rattle.mesh_below.specs.Options.{choices_of}
use Rattle.mesh_offset.proofs.Counting.{counts_fewer, counts_more}
use Rattle.mesh_boolean.specs.Booleans.{both_edges, closed_edges, operands_of}
use Rattle.mesh_boolean.specs.Nearness.{IsBooleanDrawing}
use Rattle.mesh_boolean.proofs.Near.{combined_counted, drawing_counts, drawing_fewer}
use Rattle.mesh_boolean.proofs.nearness.near_both.Goals as goal

pub returns-in_err-first-clause-counted : goal.returns-in_err-first-clause-counted
returns-in_err-first-clause-counted g c =
    drawing_fewer (operands_of c.args.fill (g.S.IntShapeResource.paths c.args.subject.now) (g.C.IntShapeResource.paths c.args.clip.now)) (closed_edges (g.S.IntShapeResource.paths c.args.subject.now)) _ _ IsBooleanDrawing.subject_alone c.near_region.ensures.counted

pub returns-in_err-second-clause-counted : goal.returns-in_err-second-clause-counted
returns-in_err-second-clause-counted g c =
    counts_fewer (IsBooleanDrawing (operands_of c.args.fill (g.S.IntShapeResource.paths c.args.subject.now) (g.C.IntShapeResource.paths c.args.clip.now))) 2 3 (omega arith) _ _
    (counts_more (IsBooleanDrawing (operands_of c.args.fill (g.S.IntShapeResource.paths c.args.subject.now) (g.C.IntShapeResource.paths c.args.clip.now))) 1 1 c.args.count.now c.near_region.new.count c.near_region-2.new.count
    (drawing_counts (operands_of c.args.fill (g.S.IntShapeResource.paths c.args.subject.now) (g.C.IntShapeResource.paths c.args.clip.now)) (closed_edges (g.S.IntShapeResource.paths c.args.subject.now)) c.args.count.now c.near_region.new.count IsBooleanDrawing.subject_alone c.near_region.ensures.counted)
    (drawing_counts (operands_of c.args.fill (g.S.IntShapeResource.paths c.args.subject.now) (g.C.IntShapeResource.paths c.args.clip.now)) (closed_edges (g.C.IntShapeResource.paths c.args.clip.now)) c.near_region.new.count c.near_region-2.new.count IsBooleanDrawing.clip_alone c.near_region-2.ensures.counted))

pub returns-in_err-near-clause-counted : goal.returns-in_err-near-clause-counted
returns-in_err-near-clause-counted g c =
    let s = rw (c.winding_rule.ensures, c.new.ensures) at c.in_ok-first.ensures.standing in
    let t = rw (c.winding_rule-2.ensures, c.new-2.ensures) at c.in_ok-second.ensures.standing in
    counts_more (IsBooleanDrawing (operands_of c.args.fill (g.S.IntShapeResource.paths c.args.subject.now) (g.C.IntShapeResource.paths c.args.clip.now))) 2 1 c.args.count.now c.near_region-2.new.count c.near_combined.new.count
    (counts_more (IsBooleanDrawing (operands_of c.args.fill (g.S.IntShapeResource.paths c.args.subject.now) (g.C.IntShapeResource.paths c.args.clip.now))) 1 1 c.args.count.now c.near_region.new.count c.near_region-2.new.count
    (drawing_counts (operands_of c.args.fill (g.S.IntShapeResource.paths c.args.subject.now) (g.C.IntShapeResource.paths c.args.clip.now)) (closed_edges (g.S.IntShapeResource.paths c.args.subject.now)) c.args.count.now c.near_region.new.count IsBooleanDrawing.subject_alone c.near_region.ensures.counted)
    (drawing_counts (operands_of c.args.fill (g.S.IntShapeResource.paths c.args.subject.now) (g.C.IntShapeResource.paths c.args.clip.now)) (closed_edges (g.C.IntShapeResource.paths c.args.clip.now)) c.near_region.new.count c.near_region-2.new.count IsBooleanDrawing.clip_alone c.near_region-2.ensures.counted))
    (drawing_counts (operands_of c.args.fill (g.S.IntShapeResource.paths c.args.subject.now) (g.C.IntShapeResource.paths c.args.clip.now)) (both_edges c.args.sense (shapes_of c.in_ok-first.first.shapes.items) (shapes_of c.in_ok-second.second.shapes.items)) c.near_region-2.new.count c.near_combined.new.count
    (IsBooleanDrawing.together c.args.sense s.beyond.regions.resolution t.beyond.regions.resolution) c.near_combined.ensures.counted)

pub returns-clause-counted : goal.returns-clause-counted
returns-clause-counted g c =
    let s = rw (c.winding_rule.ensures, c.new.ensures) at c.in_ok-first.ensures.standing in
    let t = rw (c.winding_rule-2.ensures, c.new-2.ensures) at c.in_ok-second.ensures.standing in
    counts_more (IsBooleanDrawing (operands_of c.args.fill (g.S.IntShapeResource.paths c.args.subject.now) (g.C.IntShapeResource.paths c.args.clip.now))) 2 1 c.args.count.now c.near_region-2.new.count c.near_combined.new.count
    (counts_more (IsBooleanDrawing (operands_of c.args.fill (g.S.IntShapeResource.paths c.args.subject.now) (g.C.IntShapeResource.paths c.args.clip.now))) 1 1 c.args.count.now c.near_region.new.count c.near_region-2.new.count
    (drawing_counts (operands_of c.args.fill (g.S.IntShapeResource.paths c.args.subject.now) (g.C.IntShapeResource.paths c.args.clip.now)) (closed_edges (g.S.IntShapeResource.paths c.args.subject.now)) c.args.count.now c.near_region.new.count IsBooleanDrawing.subject_alone c.near_region.ensures.counted)
    (drawing_counts (operands_of c.args.fill (g.S.IntShapeResource.paths c.args.subject.now) (g.C.IntShapeResource.paths c.args.clip.now)) (closed_edges (g.C.IntShapeResource.paths c.args.clip.now)) c.near_region.new.count c.near_region-2.new.count IsBooleanDrawing.clip_alone c.near_region-2.ensures.counted))
    (drawing_counts (operands_of c.args.fill (g.S.IntShapeResource.paths c.args.subject.now) (g.C.IntShapeResource.paths c.args.clip.now)) (both_edges c.args.sense (shapes_of c.in_ok-first.first.shapes.items) (shapes_of c.in_ok-second.second.shapes.items)) c.near_region-2.new.count c.near_combined.new.count
    (IsBooleanDrawing.together c.args.sense s.beyond.regions.resolution t.beyond.regions.resolution) c.near_combined.ensures.counted)

pub returns-clause-standing : goal.returns-clause-standing
returns-clause-standing g c =
    let s = rw (c.winding_rule.ensures, c.new.ensures) at c.in_ok-first.ensures.standing in
    let t = rw (c.winding_rule-2.ensures, c.new-2.ensures) at c.in_ok-second.ensures.standing in
    combined_counted c.args.sense c.args.sum (operands_of c.args.fill (g.S.IntShapeResource.paths c.args.subject.now) (g.C.IntShapeResource.paths c.args.clip.now)) (choices_of g.I.WideUInt.WideUnsigned.value c.args.options)
    (shapes_of c.in_ok-first.first.shapes.items) (shapes_of c.in_ok-second.second.shapes.items) (shapes_of c.in_ok-near.near.shapes.items)
    c.in_ok-first.first.nearness c.in_ok-second.second.nearness c.max.result c.in_ok-near.near.nearness c.args.count.now c.near_region.new.count c.near_region-2.new.count c.near_combined.new.count
    c.max.ensures s t c.in_ok-near.ensures.standing
