use Rattle.std.proofs.Common.{ℕ, List, ◌∷◌, [], ap, ◌∙◌}
use Rattle.std.specs.Prelude.{Vec, ◌++◌}
use Rattle.std.specs.declared.alloc.Global.{Global}
use Rattle.mesh_plane.specs.Plane.{Edge}
use Rattle.mesh_shapes.proofs.OneRow.{in_one_row}
use Rattle.mesh_shapes.proofs.arrange.rows_of.Goals as goal

pub returns : goal.returns
returns c = in_one_row c.args.edges c.new-2.result.items c.push.new.self.items c.new-2.ensures.items
    (c.in_ok-push.ensures.items ∙ ap (λ (l : List (Vec (Edge × ℕ) Global)). l ++ c.args.edges ∷ []) c.in_ok-lists.ensures.items)
