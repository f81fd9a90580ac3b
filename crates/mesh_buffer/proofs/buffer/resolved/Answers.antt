-- The operands are the contours and their strokes.
use Rattle.std.proofs.Common.{Err, sym, ap, subst, arith}
use Rattle.mesh_num.specs.Paths.{paths_of}
use Rattle.mesh_offset.specs.Counting.{CountsAttempts}
use Rattle.mesh_offset.proofs.Counting.{counts_none}
use Rattle.mesh_stroke.specs.Styles.{stroke_style_of}
use Rattle.mesh_operands.specs.Combining.{MayBeCombined}
use Rattle.mesh_operands.specs.Nearness.{IsCombinedDrawing, all_lists}
use Rattle.mesh_operands.specs.Operands.{Combined}
use Rattle.mesh_buffer.proofs.Copies.{may_combine}
use Rattle.mesh_buffer.proofs.buffer.resolved.Goals as goal

pub returns-then-not-may_be_buffered-clause-counted : goal.returns-then-not-may_be_buffered-clause-counted
returns-then-not-may_be_buffered-clause-counted g c = counts_none _ _ c.args.count.now (omega arith)

pub returns-in_err-boolean-clause-counted : goal.returns-in_err-boolean-clause-counted
returns-in_err-boolean-clause-counted g c = counts_none _ _ c.args.count.now (omega arith)

pub returns-in_err-answer-clause-counted : goal.returns-in_err-answer-clause-counted
returns-in_err-answer-clause-counted g c =
    subst (λ (made : Combined). CountsAttempts (all_lists made) (IsCombinedDrawing g.I.IntNumber.unit made) c.args.count.now c.combine_within.new.count) c.in_ok-boolean.ensures c.combine_within.ensures.counted

pub returns-in_err-answer-clause-refused : goal.returns-in_err-answer-clause-refused
returns-in_err-answer-clause-refused g c =
    let may = c.may_be_buffered.ensures.0 c.if-not-may_be_buffered.false in
    let combined =
    subst (λ (made : Combined). MayBeCombined g.I.IntNumber.unit made) (sym c.in_ok-boolean.ensures)
    (may_combine g.I.IntNumber.unit c.args.rule c.args.fill (stroke_style_of g.I.IntNumber.value c.args.style) (paths_of c.args.contours.now.items) may) in
    (λ is others. let e = rw is at c.from_residual-in_err-answer.ensures.1 in c.in_err-answer.ensures.refused.0 (ap Err (sym e)) combined, λ none. absurd (none may))

pub returns-clause-counted : goal.returns-clause-counted
returns-clause-counted g c =
    subst (λ (made : Combined). CountsAttempts (all_lists made) (IsCombinedDrawing g.I.IntNumber.unit made) c.args.count.now c.combine_within.new.count) c.in_ok-boolean.ensures c.combine_within.ensures.counted
