use Rattle.std.proofs.Common.{◌≡◌, ℕ, ◌-◌, ◌<◌, List, length, sym, ap, subst, arith}
use Rattle.mesh_points.specs.Chains.{IsSearched}
use Rattle.mesh_points.proofs.Chains.{search_goes_on}
use Rattle.mesh_paths.specs.declared.paths.Paths.{Paths}
use Rattle.mesh_paths.specs.declared.stops.Stop.{Stop}
use Rattle.mesh_paths.specs.declared.through.Pass.{Pass}
use Rattle.mesh_paths.specs.Filed.{before_in, id_in, pass_in}
use Rattle.mesh_clear.specs.Private.Looking.{AreClearIfCut, EndsAt, IsClearAt}
use Rattle.mesh_clear.proofs.SharedEnds.{all_searched, IsDoubtful}
use Rattle.mesh_clear.proofs.ends.is_clear_at.Goals as goal

pub loop-rest-preserved : goal.loop-rest-preserved
loop-rest-preserved c =
    let p : Paths = c.args.paths.now in
    let ps : List Pass = p.through.passes.items in
    let j : ℕ = c.args.end.path in
    let id : ℕ = c.stop-id.result.id in
    let rest : ℕ = c.loop-rest.rest in
    let is : c.pass-pass.result ≡ pass_in ps (rest - 1) = c.pass-pass.ensures in
    let clear : j < (pass_in ps (rest - 1)).path → EndsAt p (pass_in ps (rest - 1)).path id → AreClearIfCut p j (pass_in ps (rest - 1)).path =
    subst (λ (x : Pass). j < x.path → EndsAt p x.path id → AreClearIfCut p j x.path) is (c.is_clear_at_end.ensures c.if-not-is_clear_at_end.false) in
    subst (λ (n : ℕ). IsSearched (IsDoubtful p j id) (length ps) (id_in ps) id n) (sym (ap (λ (x : Pass). x.before) is))
    (search_goes_on (IsDoubtful p j id) p.through.last.items (length ps) (before_in ps) (id_in ps) id rest c.requires.bends.fit.paths.filed.listed c.loop-rest-test.true
    (λ doubtful. doubtful.doubt (clear doubtful.later doubtful.ends))
    c.loop-rest.invariant)

pub returns : goal.returns
returns c = λ t.
    let p : Paths = c.args.paths.now in
    let j : ℕ = c.args.end.path in
    let none : c.loop-rest.rest ≡ 0 = omega (arith, c.loop-rest-test.false) in
    let searched : IsSearched (IsDoubtful p j c.stop-id.result.id) (length p.through.passes.items) (id_in p.through.passes.items) c.stop-id.result.id 0 =
    subst (λ (n : ℕ). IsSearched (IsDoubtful p j c.stop-id.result.id) (length p.through.passes.items) (id_in p.through.passes.items) c.stop-id.result.id n) none c.loop-rest.invariant in
    subst (λ (s : Stop). IsClearAt p j s.id) c.stop-id.ensures (all_searched p j c.stop-id.result.id c.requires.bends.fit searched)
