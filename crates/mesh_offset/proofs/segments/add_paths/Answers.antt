-- One contour of the source after another.
use Rattle.std.proofs.Common.{◌++◌, sym, ap, ◌∙◌, arith}
use Rattle.std.proofs.lemmas.List.{append-nil}
use Rattle.mesh_num.specs.Segments.{segments_of}
use Rattle.mesh_offset.proofs.Adding.{in_sense-none, path_more, paths_all}
use Rattle.mesh_offset.proofs.segments.add_paths.Goals as goal

pub loop-index-init : goal.loop-index-init
loop-index-init g c = sym (ap (λ es. c.args.segments.now.items ++ segments_of es) (in_sense-none c.args.fill) ∙ append-nil c.args.segments.now.items)

pub loop-index-preserved : goal.loop-index-preserved
loop-index-preserved g c =
    path_more c.args.fill (g.S.IntShapeResource.paths c.args.source.now) c.loop-index.index _ _ _ (omega arith) c.loop-index.invariant
    (rw c.path_at.ensures at c.in_ok-add_closed.ensures)

pub returns : goal.returns
returns g c = paths_all c.args.fill (g.S.IntShapeResource.paths c.args.source.now) c.loop-index.index _ _ (omega arith) c.loop-index.invariant
