-- Gaps of arcs: how far neighbouring directions lie apart.
use Rattle.std.specs.Prelude.{ℕ, suc, ◌≢◌, ◌<◌, ◌^◌, IsTrue, List, length}
use Rattle.std.specs.List.{All}
use Rattle.mesh_plane.specs.Plane.{Point, Edge}
use Rattle.mesh_plane.specs.Turning.{last_of}
use Rattle.mesh_plane.specs.Winding.{pairs_from}
use Rattle.mesh_num.specs.Rotation.{rotated}
use Rattle.mesh_arc.specs.Arcs.{step_of, bound_of, is_within, is_good, turned_times, most_directions}
use Rattle.mesh_arc.specs.declared.arc.ArcDirection.{ArcDirection}
use Rattle.mesh_arc.specs.declared.arc.ArcOptions.{ArcOptions}

-- each gap, between neighbours among `from` and the directions after it, is within a step
abbrev pub HasNearGaps : ArcOptions → ArcDirection → Point → List Point → Type 0
HasNearGaps options sense from ds =
    All (λ (e : Edge). IsTrue (is_within sense (bound_of options) e.0 e.1)) (pairs_from from ds)

-- from the last direction one more step is good
abbrev pub CanGoOn : ℕ → ArcOptions → ArcDirection → Point → List Point → Type 0
CanGoOn unit options sense from ds =
    IsTrue (is_good sense (bound_of options) (last_of from ds) (rotated (step_of unit options sense) (last_of from ds)))

-- the end is within a step of the last direction, unless the arc broke off: it has as many directions as it may have,
-- or no good step follows
abbrev pub ReachesEnd : ℕ → ArcOptions → ArcDirection → Point → Point → List Point → Type 0
ReachesEnd unit options sense from end ds =
    length ds ≢ most_directions → CanGoOn unit options sense from ds
    → IsTrue (is_within sense (bound_of options) (last_of from ds) end)

-- no step from `from` on fails, up to the most directions
abbrev pub NoStepFails : ℕ → ArcOptions → ArcDirection → Point → Type 0
NoStepFails unit options sense from =
    (k : ℕ) → k < most_directions
    → IsTrue (is_good sense (bound_of options) (turned_times (step_of unit options sense) from k)
    (turned_times (step_of unit options sense) from (suc k)))

-- the options that are used where none are asked for
abbrev pub default_options : ArcOptions
default_options = record { max_step = 2 ^ 29; rotation_precision = 5 }
