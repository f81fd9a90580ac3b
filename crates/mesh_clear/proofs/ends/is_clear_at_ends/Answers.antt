use Rattle.mesh_clear.specs.Private.Looking.{IsClearAt}
use Rattle.mesh_clear.proofs.SharedEnds.{clear_at_both}
use Rattle.std.proofs.Common.{ℕ, refl, subst}
use Rattle.mesh_paths.specs.Stops.{stop_of}
use Rattle.mesh_clear.proofs.ends.is_clear_at_ends.Goals as goal

pub returns : goal.returns
returns c = λ t.
    clear_at_both c.args.paths.now c.args.path _ _ (c.requires.bends.fit.each c.args.path c.requires.within) refl refl
    (c.is_clear_at.ensures c.if-not-is_clear_at.false)
    (subst (λ (n : ℕ). IsClearAt c.args.paths.now c.args.path (stop_of c.args.paths.now.stops c.args.path n).id) c.pieces-place.ensures (c.is_clear_at-2.ensures t))
