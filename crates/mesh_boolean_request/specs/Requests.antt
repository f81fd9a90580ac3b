-- Requests that combine operands.
use Rattle.std.specs.Prelude.{ℕ}
use Rattle.mesh_shapes.specs.Resolution.{Choices}
use Rattle.mesh_operands.specs.Operands.{Combined}

-- a request: what is combined with what, and the choices by which its shapes are listed. Its coordinates are of the type
-- with `unit`, which holds the whole numbers from `-2 * unit` on that are below `2 * unit`
pub record RequestedCombination : Type 0 where
  pub unit : ℕ
  pub combined : Combined
  pub choices : Choices
