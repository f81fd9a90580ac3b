use Rattle.std.proofs.Common.{◌≡◌, ℕ, ◌-◌, ◌<◌, List, length, refl, sym, ◌∙◌, ap, subst, arith}
use Rattle.std.proofs.lemmas.List.{get_or_read_under}
use Rattle.mesh_points.specs.Chains.{IsSearched}
use Rattle.mesh_points.proofs.Chains.{search_goes_on}
use Rattle.mesh_paths.specs.declared.through.Pass.{Pass}
use Rattle.mesh_paths.specs.Filed.{before_in, id_in, no_pass, pass_in, IsPassed}
use Rattle.mesh_paths.proofs.through.Through.leads.Goals as goal

pub loop-left-preserved : goal.loop-left-preserved
loop-left-preserved c =
    let ps : List Pass = c.args.self.now.passes.items in
    let left : ℕ = c.loop-left.left in
    let low : left - 1 < length ps = omega (arith, c.loop-left.invariant.within, c.loop-left-test.true) in
    let is : c.index-pass.result.now ≡ pass_in ps (left - 1) = get_or_read_under ps (left - 1) (length ps) c.index-pass.result.now no_pass c.index-pass.ensures low refl in
    let other : (pass_in ps (left - 1)).path ≡ c.args.path → ⊥ = λ h. c.if-pass-path.false (ap (λ (x : Pass). x.path) is ∙ h) in
    subst (λ (n : ℕ). IsSearched (λ (k : ℕ). (pass_in ps k).path ≡ c.args.path) (length ps) (id_in ps) c.args.id n) (sym (ap (λ (x : Pass). x.before) is))
    (search_goes_on (λ (k : ℕ). (pass_in ps k).path ≡ c.args.path) c.args.self.now.last.items (length ps) (before_in ps) (id_in ps) c.args.id left c.requires.listed c.loop-left-test.true other c.loop-left.invariant)
