-- The kind chooses the way.
use Rattle.std.proofs.Common.{sym}
use Rattle.mesh_num.specs.Paths.{shapes_of}
use Rattle.mesh_join.specs.Styles.{style_of}
use Rattle.mesh_offset.proofs.Adding.{on_ok_then}
use Rattle.mesh_outline.proofs.Gathering.{gathers_nothing, gathers_answer}
use Rattle.mesh_outline.proofs.Padding.{path_movable}
use Rattle.mesh_outline.proofs.gather.gather.Goals as goal

pub resolved_alone-requires : goal.resolved_alone-requires
resolved_alone-requires g c =
    path_movable g.I.IntNumber.unit (style_of g.I.IntNumber.value c.args.style.now) c.args.kind c.in-Some.builder c.args.path.now (sym c.in-Some.ensures) c.requires.safe

pub returns-in_default : goal.returns-in_default
returns-in_default g c = gathers_nothing g.I.IntNumber.unit (style_of g.I.IntNumber.value c.args.style.now) c.args.path.now c.args.kind _ c.requires.kind (sym c.in_default.ensures)

pub returns : goal.returns
returns g c =
    on_ok_then c.add_answer.result c.add_answer.ensures
    (gathers_answer g.I.IntNumber.unit (style_of g.I.IntNumber.value c.args.style.now) c.args.kind c.in-Some.builder c.args.path.now (shapes_of c.in_ok-answer.answer.shapes.items) _ _ _ _
    c.requires.kind c.requires.no_hole (sym c.in-Some.ensures) c.in_ok-answer.ensures)
