-- What the code of an arc knows between its steps: only private contracts and invariants read this.
use Rattle.std.specs.Prelude.{ℕ, ◌≡◌, ◌<◌, ◌≤◌, ◌^◌, Bool, false, ◌||◌, not, List}
use Rattle.mesh_plane.specs.Plane.{Point}
use Rattle.mesh_sine.specs.Sine.{sin_cos, IsWithinOne}
use Rattle.mesh_arc.specs.Arcs.{step_bits, step_of, bound_of, is_good, is_passed, turned_times, turned_list, least}
use Rattle.mesh_arc.specs.Arcs.{ends_after, most_directions, stepped}
use Rattle.mesh_arc.specs.declared.arc.ArcDirection.{ArcDirection}
use Rattle.mesh_arc.specs.declared.arc.ArcOptions.{ArcOptions}

-- the steps of an arc: the sine and cosine of each, those of the greatest gap, and the sense
pub record Steps : Type 0 where
  pub step : Point
  pub bound : Point
  pub sense : ArcDirection

-- the steps of an arc with these options in this sense
abbrev pub steps_of : ℕ → ArcOptions → ArcDirection → Steps
steps_of unit options sense = record { step = step_of unit options sense; bound = bound_of options; sense = sense }

-- sines and cosines that were computed once from the options
pub record IsPrepared (unit : ℕ) (options : ArcOptions) (step bound : Point) : Type 0 where
  pub step_is : step ≡ sin_cos (step_bits unit options)
  pub bound_is : bound ≡ bound_of options
  pub bound_short : IsWithinOne bound
  pub most : options.max_step ≤ 2 ^ 29

-- whether the arc by these steps ends after `k` of them
abbrev pub ends : Steps → Point → Point → ℕ → Bool
ends s from end = ends_after s.sense s.bound s.step from end

-- whether the arc by these steps ends before the one from `v` to `w`
abbrev pub ends_before : Steps → Point → Point → Point → Bool
ends_before s end v w = not (is_good s.sense s.bound v w) || is_passed s.sense end v w

-- how many steps the arc by these steps takes
abbrev pub step_count : Steps → Point → Point → ℕ
step_count s from end = least (ends s from end) most_directions

-- the directions of the arc by these steps
abbrev pub directions_by : Steps → Point → Point → List Point
directions_by s from end = stepped s.sense s.bound s.step from end

-- the list after `k` steps from one direction towards another that were all good, none past the other; `room` is what
-- there was memory for at first, `capacity` now
pub record HasTurned (s : Steps) (between : Point × Point) (room k : ℕ) (current : Point) (ds : List Point)
    (capacity : ℕ) : Type 0 where
  pub count : k ≤ most_directions
  pub current_is : current ≡ turned_times s.step between.0 k
  pub directions : ds ≡ turned_list s.step between.0 k
  pub goes_on : (j : ℕ) → j < k → ends s between.0 between.1 j ≡ false
  pub grown : room ≤ capacity
