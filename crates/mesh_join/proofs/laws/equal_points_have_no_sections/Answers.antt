-- Equal points give no section.
use Rattle.mesh_join.proofs.CleaningSteps.{cleaned-none}
use Rattle.mesh_join.proofs.laws.equal_points_have_no_sections.Goals as goal

pub returns : goal.returns
returns c points equal = cleaned-none points equal
