use Rattle.std.proofs.Common.{subst}
use Rattle.mesh_paths.specs.Stops.{pieces_of}
use Rattle.mesh_check.specs.declared.comparing.Stretch.{Stretch}
use Rattle.mesh_check.specs.Clear.{AreClearStretches}
use Rattle.mesh_check.proofs.ByPieces.{clear_by_all}
use Rattle.mesh_check.proofs.comparing.are_clear_by_pieces.Goals as goal

pub returns : goal.returns
returns c = λ t.
    let p = c.args.paths.now in
    let first : Stretch = record { path = c.args.first; start = 0; end = pieces_of p.stops c.args.first } in
    clear_by_all p c.args.first c.args.second
    (subst (λ (s : Stretch). AreClearStretches p first s) c.whole-2.ensures
    (subst (λ (s : Stretch). AreClearStretches p s c.whole-2.result) c.whole.ensures (c.are_stretches_clear.ensures t)))
