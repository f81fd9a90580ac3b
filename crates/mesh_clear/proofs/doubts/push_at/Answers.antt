use Rattle.std.proofs.Common.{◌≡◌, ℕ, ◌-◌, List, length, sym, ap, subst}
use Rattle.mesh_points.specs.Chains.{IsSearched}
use Rattle.mesh_points.proofs.Chains.{search_goes_on}
use Rattle.mesh_paths.specs.declared.through.Pass.{Pass}
use Rattle.mesh_paths.specs.Filed.{before_in, id_in, pass_in}
use Rattle.mesh_clear.proofs.doubts.push_at.Goals as goal

pub loop-rest-preserved : goal.loop-rest-preserved
loop-rest-preserved c =
    let through = c.args.paths.now.through in
    let ps : List Pass = through.passes.items in
    let id : ℕ = c.stop-id.result.id in
    let is : c.pass-pass.result ≡ pass_in ps (c.loop-rest.rest - 1) = c.pass-pass.ensures in
    subst (λ (n : ℕ). IsSearched (λ (k : ℕ). ⊥) (length ps) (id_in ps) id n) (sym (ap (λ (x : Pass). x.before) is))
    (search_goes_on (λ (k : ℕ). ⊥) through.last.items (length ps) (before_in ps) (id_in ps) id c.loop-rest.rest c.requires.bends.fit.paths.filed.listed c.loop-rest-test.true (λ h. h) c.loop-rest.invariant)
