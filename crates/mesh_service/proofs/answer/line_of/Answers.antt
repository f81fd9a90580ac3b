-- The text of the answer's value, and the line feed after it.
use Rattle.std.proofs.Common.{ℕ, List, [], ◌∷◌, ◌++◌, ap, ◌∙◌, lit<}
use Rattle.std.specs.Prelude.{string_bytes}
use Rattle.mesh_service.proofs.answer.line_of.Goals as goal

pub returns : goal.returns
returns c =
    let push = c.in_ok-push.ensures in
    push.bytes ∙ ap (λ (s : List ℕ). string_bytes c.in_ok-line.line ++ s) (push.ascii (lit< tt)) ∙ ap (λ (t : List ℕ). t ++ 10 ∷ []) (c.in_ok-line.ensures.text c.requires)
