-- Arcs: a direction is turned by equal steps until an end is passed.
use Rattle.std.specs.Prelude.{ℕ, zero, suc, ◌+◌, ◌-◌, ◌*◌, ◌/◌, ◌^◌, min, max, Bool, ◌&&◌, ◌||◌, not, if◌then◌else◌}
use Rattle.std.specs.Prelude.{List, [], ◌∷◌, ℤ, pos, negsuc, ◌*ℤ◌, int_le, int_lt}
use Rattle.mesh_plane.specs.Plane.{Point, cross, dot}
use Rattle.mesh_sine.specs.Sine.{sin_cos}
use Rattle.mesh_num.specs.Rotation.{rotated, turned_round}
use Rattle.mesh_arc.specs.declared.arc.ArcDirection.{ArcDirection}
use Rattle.mesh_arc.specs.declared.arc.ArcDirection.TheVariants.{Clockwise, Counterclockwise}
use Rattle.mesh_arc.specs.declared.arc.ArcOptions.{ArcOptions}

-- 1 for a turn to the left, -1 for one to the right
abbrev pub sense_of : ArcDirection → ℤ
sense_of Counterclockwise = pos 1
sense_of Clockwise = negsuc 0

-- above 0 where `w` lies ahead of `v` in this sense
abbrev pub ahead : ArcDirection → Point → Point → ℤ
ahead sense v w = sense_of sense *ℤ cross v w

-- ---- steps

-- options with the step brought to between 2^22 and 2^29 bits, and the precision to between 4 and 32
abbrev pub clamped : ArcOptions → ArcOptions
clamped options = record {
  max_step = min (max options.max_step (2 ^ 22)) (2 ^ 29);
  rotation_precision = min (max options.rotation_precision 4) 32;
}

-- what a step stays below the greatest one for the sake of cut components: 2 ^ 19 bits for `i16`, 8 for `i32`
abbrev pub reserve : ℕ → ℕ
reserve unit = 2 ^ 33 / unit

-- the bits by which an arc turns at each step
abbrev pub step_bits : ℕ → ArcOptions → ℕ
step_bits unit options =
    (options.max_step - reserve unit) * 2 ^ options.rotation_precision / (2 ^ options.rotation_precision + 1)

-- the sine and the cosine of an arc's step in this sense
abbrev pub step_of : ℕ → ArcOptions → ArcDirection → Point
step_of unit options Counterclockwise = sin_cos (step_bits unit options)
step_of unit options Clockwise = turned_round (sin_cos (step_bits unit options))

-- the sine and the cosine of the greatest step
abbrev pub bound_of : ArcOptions → Point
bound_of options = sin_cos options.max_step

-- ---- gaps

-- whether `w` lies ahead of `v` by at most the angle, of less than a quarter turn, with this sine and cosine
abbrev pub is_within : ArcDirection → Point → Point → Point → Bool
is_within sense bound v w =
    int_le (pos 0) (ahead sense v w)
    && (int_lt (pos 0) (dot v w) && int_le (ahead sense v w *ℤ bound.1) (dot v w *ℤ bound.0))

-- whether a step leads ahead, by at most the bound
abbrev pub is_good : ArcDirection → Point → Point → Point → Bool
is_good sense bound v w = is_within sense bound v w && int_lt (pos 0) (ahead sense v w)

-- whether the step from `v` to `w` comes to the end or passes it
abbrev pub is_passed : ArcDirection → Point → Point → Point → Bool
is_passed sense end v w =
    int_le (pos 0) (ahead sense v end) && (int_le (pos 0) (dot v end) && int_le (ahead sense w end) (pos 0))

-- ---- the directions of an arc

-- `from` turned so many times
unfoldable pub turned_times : Point → Point → ℕ → Point
turned_times step from zero = from
turned_times step from (suc k) = rotated step (turned_times step from k)

-- the first `n` directions after `from`
unfoldable pub turned_list : Point → Point → ℕ → List Point
turned_list step from zero = []
turned_list step from (suc n) = rotated step from ∷ turned_list step (rotated step from) n

-- the least number of at most `n` that passes the test, `n` where none below it does
unfoldable pub least : (ℕ → Bool) → ℕ → ℕ
least test zero = zero
least test (suc n) = if test zero then zero else suc (least (λ k. test (suc k)) n)

-- whether the arc ends after `k` steps, since the next one is not good or passes the end
abbrev pub ends_after : ArcDirection → Point → Point → Point → Point → ℕ → Bool
ends_after sense bound step from end k =
    not (is_good sense bound (turned_times step from k) (turned_times step from (suc k)))
    || is_passed sense end (turned_times step from k) (turned_times step from (suc k))

-- the most directions of an arc
abbrev pub most_directions : ℕ
most_directions = 1536

-- the directions of the arc by these steps: none where `end` is within one step
unfoldable pub stepped : ArcDirection → Point → Point → Point → Point → List Point
stepped sense bound step from end =
    if is_within sense bound from end then []
    else turned_list step from (least (ends_after sense bound step from end) most_directions)

-- the directions of the arc from `from` to `end`, without these
unfoldable pub arc : ℕ → ArcOptions → ArcDirection → Point → Point → List Point
arc unit options sense from end = stepped sense (bound_of options) (step_of unit options sense) from end
