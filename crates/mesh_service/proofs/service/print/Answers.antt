-- Where there is an answer, its line is what is written.
use Rattle.mesh_service.proofs.service.print.Goals as goal

pub returns-in-Ok-clause-whole : goal.returns-in-Ok-clause-whole
returns-in-Ok-clause-whole g c = rw (c.in-Ok.is, ← c.as_bytes.ensures.value) c.write_line.ensures.whole

pub returns-in-Ok-clause-beginning : goal.returns-in-Ok-clause-beginning
returns-in-Ok-clause-beginning g c = rw (c.in-Ok.is, ← c.as_bytes.ensures.value) c.write_line.ensures.beginning
