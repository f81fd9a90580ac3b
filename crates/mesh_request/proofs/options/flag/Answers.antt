-- A value that is there is read as a bool, or as none.
use Rattle.std.proofs.Common.{option_map, ap, sym, ◌∙◌}
use Rattle.serde_json.specs.View.{view}
use Rattle.mesh_request.specs.Reading.{flag_of}
use Rattle.mesh_request.proofs.options.flag.Goals as goal

pub returns-in-Some : goal.returns-in-Some
returns-in-Some c = c.as_bool.ensures ∙ ap (λ said. flag_of (option_map (λ v. view v.now) said)) (sym c.in-Some.is)
