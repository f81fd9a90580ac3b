use Rattle.mesh_boundary.proofs.StarLists.{both_filed}
use Rattle.mesh_boundary.proofs.stars.file_both.Goals as goal

pub returns-clause-filed : goal.returns-clause-filed
returns-clause-filed c = λ t.
    both_filed c.args.parts.now.items c.file.new.parts.items c.file-2.new.parts.items c.args.members.now.items c.file.new.members.items c.file-2.new.members.items c.args.ends c.args.k
    (c.file.ensures.filed c.if-not-file.false) (c.file-2.ensures.filed t)
