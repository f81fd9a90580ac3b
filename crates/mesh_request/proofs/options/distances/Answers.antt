-- Options that are there say what they have under the key.
use Rattle.std.proofs.Common.{option_map, ap, sym, ◌∙◌}
use Rattle.serde_json.specs.View.{view}
use Rattle.mesh_request.specs.Reading.{distances_given, flag_of}
use Rattle.mesh_request.proofs.options.distances.Goals as goal

pub returns-in-Some : goal.returns-in-Some
returns-in-Some c = c.flag.ensures ∙ ap flag_of c.get.ensures ∙ ap (λ said. distances_given (option_map (λ v. view v.now) said)) (sym c.in-Some.is)
