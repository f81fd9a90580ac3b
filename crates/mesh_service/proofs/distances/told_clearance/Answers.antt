-- What is found is told where it fits.
use Rattle.mesh_num.specs.Paths.{paths_of, shapes_of}
use Rattle.mesh_service.proofs.ToldDistances.{clearance_told}
use Rattle.mesh_service.proofs.distances.told_clearance.Goals as goal

pub returns : goal.returns
returns g c =
    clearance_told c.args.are_closed (shapes_of c.args.shapes.now.items) (paths_of c.args.paths.now.items) c.in_ok-clearance_of.field-0 c.in_64_bits.result
    c.in_ok-clearance_of.ensures.clearance c.in_ok-clearance_of.ensures.winding c.in_64_bits.ensures
