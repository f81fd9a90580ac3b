-- What is asked without arguments.
use Rattle.std.specs.Prelude.{None, false}
use Rattle.mesh_line_service.specs.declared.options.LineOptions.{LineOptions}

-- lines may have any length, answers take any number of splits, and no nearness is told, no reason and no progress
abbrev pub as_by_default : LineOptions
as_by_default = record { longest = None; most_splits = 0; nearness = false; why = false; progress = false }
