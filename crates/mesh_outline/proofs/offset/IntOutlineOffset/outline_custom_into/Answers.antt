-- The contours of the shapes are put into the buffer.
use Rattle.std.proofs.Common.{Result, Ok, Err, refl}
use Rattle.std.specs.Prelude.{OnErr}
use Rattle.mesh_num.specs.Paths.{shapes_of}
use Rattle.mesh_below.specs.Options.{choices_of}
use Rattle.mesh_join.specs.Styles.{style_of}
use Rattle.mesh_outline.proofs.Regions.{regions_of_outline}
use Rattle.mesh_outline.proofs.offset.IntOutlineOffset.outline_custom_into.Goals as goal

-- what holds holds after an error
on_err : {A E : Type 0} (r : Result A E) {P : Type 0} → P → OnErr r P
on_err (Ok x) h = tt
on_err (Err e) h = h

pub returns-clause-outline : goal.returns-clause-outline
returns-clause-outline g c = (shapes_of c.in_ok-shapes.shapes.items, c.in_ok-shapes.ensures.outline, c.in_ok-shapes.ensures.safe, c.in_ok-replace_with.ensures.ok)

pub returns-in_err-shapes-clause-err : goal.returns-in_err-shapes-clause-err
returns-in_err-shapes-clause-err g c = on_err c.from_residual.result refl

pub returns-in_err-replace_with-clause-err : goal.returns-in_err-replace_with-clause-err
returns-in_err-replace_with-clause-err g c = on_err c.from_residual-in_err-replace_with.result c.in_err-replace_with.ensures.err

pub returns-clause-regions : goal.returns-clause-regions
returns-clause-regions g c = (
  shapes_of c.in_ok-shapes.shapes.items,
  (regions_of_outline g.I.IntNumber.unit g.met.I.IntNumber.least_law (style_of g.I.IntNumber.value c.args.style.now) (choices_of g.I.WideUInt.WideUnsigned.value c.args.options)
      (g.Self.IntShapeResource.paths c.args.self.now) (shapes_of c.in_ok-shapes.shapes.items) c.in_ok-shapes.ensures.outline).0,
  c.in_ok-replace_with.ensures.ok,
)
