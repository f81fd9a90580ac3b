-- The kind chooses the way and the sense.
use Rattle.std.proofs.Common.{[], sym}
use Rattle.mesh_join.specs.Styles.{style_of}
use Rattle.mesh_offset.proofs.Adding.{on_ok_then, adds_nothing}
use Rattle.mesh_outline.proofs.Padding.{path_movable}
use Rattle.mesh_outline.proofs.Resolving.{gives_moved, gives_nothing}
use Rattle.mesh_outline.proofs.resolve.add_contour.Goals as goal

pub add_resolved-requires : goal.add_resolved-requires
add_resolved-requires g c =
    path_movable g.I.IntNumber.unit (style_of g.I.IntNumber.value c.args.style.now) c.args.kind c.in-Some.builder c.args.path.now (sym c.in-Some.ensures) c.requires.safe

pub returns-in_default : goal.returns-in_default
returns-in_default g c = (
  [],
  gives_nothing g.I.IntNumber.unit (style_of g.I.IntNumber.value c.args.style.now) c.args.kind c.args.path.now c.requires.kind (sym c.in_default.ensures),
  adds_nothing g.I.IntNumber.unit c.args.segments.now.items,
)

pub returns : goal.returns
returns g c =
    on_ok_then c.add_resolved.result c.add_resolved.ensures
    (λ h. gives_moved g.I.IntNumber.unit (style_of g.I.IntNumber.value c.args.style.now) c.args.kind c.in-Some.builder c.fill_of.result c.args.path.now _ _
    c.requires.kind (sym c.in-Some.ensures) c.fill_of.ensures h)
