use Rattle.std.proofs.Common.{◌≡◌, ℕ, List, sym, subst, arith}
use Rattle.mesh_paths.specs.Stops.{count_of}
use Rattle.mesh_clear.proofs.BentPaths.{bent_more, bent_none, AreBent}
use Rattle.mesh_clear.proofs.bends.bends_of.Goals as goal

pub loop-path-init : goal.loop-path-init
loop-path-init c = subst (λ (l : List ℕ). AreBent c.args.paths.now l 0) (sym c.in_ok-bends.ensures.items) (bent_none c.args.paths.now)

pub loop-path-preserved : goal.loop-path-preserved
loop-path-preserved c =
    bent_more c.args.paths.now c.loop-path.bends.items c.push.new.self.items c.loop-path.path c.bend_of-bend.result c.loop-path.invariant c.in_ok-push.ensures.items c.bend_of-bend.ensures
    (omega (arith, c.if-bend-gt-LEASH.false))

pub returns : goal.returns
returns c =
    let all : c.loop-path.path ≡ count_of c.args.paths.now.stops = omega (arith, c.loop-path-test.false, c.loop-path.auto.path-end, c.len-path-end.ensures, c.requires.paths.filed.count) in
    let bent : AreBent c.args.paths.now c.loop-path.bends.items (count_of c.args.paths.now.stops) = subst (λ (n : ℕ). AreBent c.args.paths.now c.loop-path.bends.items n) all c.loop-path.invariant in
    record { fit = c.requires; count = bent.count; bent = bent.bent; few = bent.few }
