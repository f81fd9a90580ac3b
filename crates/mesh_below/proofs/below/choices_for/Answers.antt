use Rattle.std.proofs.Common.{◌≡◌, refl, ◌∙◌}
use denote.Enum.Bare.{sameb}
use Rattle.mesh_below.specs.contracts.below.ContourDirection.{the_type}
use Rattle.mesh_below.specs.declared.below.ContourDirection.{ContourDirection}
use Rattle.mesh_below.specs.declared.below.ContourDirection.TheVariants.{CounterClockwise, Clockwise}
use Rattle.mesh_below.specs.Options.{is_clockwise}
use Rattle.mesh_below.proofs.below.choices_for.Goals as goal

told : (d : ContourDirection) → sameb the_type d Clockwise ≡ is_clockwise d
told CounterClockwise = refl
told Clockwise = refl

pub returns : goal.returns
returns g c =
    let turned = c.eq.ensures ∙ told c.args.options.output_direction in
    λ i. record { least_area = c.uint_to_u128.ensures.value i; all_vertices = c.args.options.preserve_output_collinear; clockwise = turned i }
