-- Outlines by default options wind once or not at all, so they may be combined.
use Rattle.std.proofs.Common.{◌≡◌, refl}
use Rattle.std.proofs.lemmas.Int.{to_z-of_z}
use Rattle.std.proofs.lemmas.Result.{IfOk-weaker}
use mir.Syntax.{w32}
use mir.Val.{of_z, to_z}
use Rattle.mesh_num.specs.Paths.{shapes_of}
use Rattle.mesh_uses.proofs.booleans.overlap_of_grown.Goals as goal

pub overlay_regions-requires-clause-subject_once : goal.overlay_regions-requires-clause-subject_once
overlay_regions-requires-clause-subject_once c = c.answers_wind_once.ensures _ _ _ _ c.in_ok-one.ensures.regions.regions refl refl

pub overlay_regions-requires-clause-clip_once : goal.overlay_regions-requires-clause-clip_once
overlay_regions-requires-clause-clip_once c = c.answers_wind_once.ensures _ _ _ _ c.in_ok-other.ensures.regions.regions refl refl

pub returns : goal.returns
returns c =
    let own : to_z w32 (of_z w32 c.args.offset) ≡ c.args.offset = to_z-of_z w32 c.args.offset c.ranges.offset in
    IfOk-weaker c.overlay_regions.result _ _
    (λ v a. (shapes_of c.in_ok-one.one.items, shapes_of c.in_ok-other.other.items, rw own at c.in_ok-one.ensures.regions, rw own at c.in_ok-other.ensures.regions, a))
    (rw c.new.ensures at c.overlay_regions.ensures.regions)
