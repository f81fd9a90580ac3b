-- The default options are handed on.
use Rattle.mesh_outline.proofs.offset.IntOutlineOffset.outline_into.Goals as goal

pub returns-clause-regions : goal.returns-clause-regions
returns-clause-regions g c = rw c.new.ensures at c.outline_custom_into.ensures.regions
