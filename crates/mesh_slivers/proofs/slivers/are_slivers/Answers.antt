use Rattle.std.proofs.Common.{◌∙◌, sym, rules}
use Rattle.std.proofs.lemmas.Iterator.{YieldsList-from_slice}
use Rattle.std.proofs.lemmas.Iterator.Search.{all_from_yields_List}
use Rattle.std.proofs.lemmas.List.Folds.{list_all-map}
use Rattle.mesh_slivers.specs.Slivers.{is_sliver}
use Rattle.mesh_slivers.proofs.slivers.are_slivers.Goals as goal

pub returns : goal.returns
returns g c =
    all_from_yields_List (λ v. is_sliver c.args.width v.items) _ _ _ c.all.ensures.ran (YieldsList-from_slice c.args.shape.now cc) (λ x r q k. search rules)
    ∙ sym (list_all-map (is_sliver c.args.width) (λ v. v.items) c.args.shape.now)
