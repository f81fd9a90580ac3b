-- Each line that was read has its reply.
use Rattle.std.proofs.Common.{ℕ, List}
use Rattle.mesh_line_service.specs.Lines.{TakesLines}
use Rattle.mesh_line_service.specs.Replies.{AppendsReplies}
use Rattle.mesh_line_service.proofs.service.serve_lines.Given as goal

abbrev pub invariant-loop-before : goal.invariant-loop-before
invariant-loop-before g l = (lines : List (List ℕ))
    × TakesLines (g.R.Read.remaining l.initial.reader) (g.R.Read.remaining l.reader) lines
    × AppendsReplies l.options lines (g.W.Write.contents l.initial.writer) (g.W.Write.contents l.writer)
