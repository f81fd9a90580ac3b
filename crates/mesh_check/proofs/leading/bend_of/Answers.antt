use Rattle.std.proofs.Common.{ℕ, ◌<◌, sym, subst, ap, ◌∙◌, arith}
use Rattle.mesh_pairs.specs.Laws.{spread}
use Rattle.mesh_check.proofs.AlongPaths.{some_line}
use Rattle.mesh_check.proofs.Sizes.{bent_of}
use Rattle.mesh_check.proofs.WholePaths.{whole_bent}
use Rattle.mesh_check.proofs.leading.bend_of.Goals as goal

pub returns-then-pieces-eq1 : goal.returns-then-pieces-eq1
returns-then-pieces-eq1 c =
    whole_bent c.args.paths.now c.args.path c.requires.paths c.requires.within (omega (arith, c.pieces.ensures, c.if-pieces-eq1.true))

pub units_for-requires-clause-some : goal.units_for-requires-clause-some
units_for-requires-clause-some c =
    subst (λ (n : ℕ). 0 < n) (sym (c.spread_of.ensures.value ∙ ap spread c.line_of-line.ensures.value)) (some_line c.args.paths.now c.args.path c.requires.paths c.requires.within)

pub returns : goal.returns
returns c =
    bent_of c.args.paths.now c.args.path c.units_for.result c.loop-place.most c.spread_of.result c.loop-place.place c.line_of-line.result c.line_of-line.ensures.value c.loop-place.invariant.sizes
    (omega (arith, c.loop-place-test.false, c.loop-place.auto.place-end, c.pieces-place-end.ensures)) c.units_for.ensures c.spread_of.ensures.value
