use Rattle.std.proofs.lemmas.Result.{on_ok_weaker}
use Rattle.mesh_num.specs.Paths.{shapes_of}
use Rattle.mesh_below.proofs.below.Overlay.overlay_into.Goals as goal

pub returns-clause-resolution : goal.returns-clause-resolution
returns-clause-resolution g c =
    on_ok_weaker c.replace_with.result
    (λ holds. (shapes_of c.in_ok-shapes.shapes.items, c.in_ok-shapes.ensures.resolution, c.in_ok-shapes.ensures.safe, holds))
    c.replace_with.ensures.ok

pub returns-clause-regions : goal.returns-clause-regions
returns-clause-regions g c =
    on_ok_weaker c.replace_with.result
    (λ holds. (shapes_of c.in_ok-shapes.shapes.items, c.in_ok-shapes.ensures.regions, holds))
    c.replace_with.ensures.ok

pub returns-clause-err : goal.returns-clause-err
returns-clause-err g c = c.replace_with.ensures.err
