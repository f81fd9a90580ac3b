use Rattle.std.proofs.Common.{◌≡◌, ◌∷◌, ◌∙◌, rules}
use Rattle.std.proofs.lemmas.Iterator.{YieldsList-from_slice}
use Rattle.std.proofs.lemmas.Iterator.Search.{all_from_yields_List}
use Rattle.mesh_slivers.specs.Slivers.{is_in_strip}
use Rattle.mesh_slivers.proofs.Kept.{sliver_is}
use Rattle.mesh_slivers.proofs.slivers.is_sliver.Goals as goal

pub returns : goal.returns
returns g c =
    let a = c.in-Some.first.now in
    let ps = c.in-Some.others.now in
    let b = c.farthest-end.result in
    let parts : c.args.contour.now ≡ a ∷ ps = search rules in
    all_from_yields_List (is_in_strip c.args.width a b) _ _ _ c.all.ensures.ran (YieldsList-from_slice c.args.contour.now cc) (λ x r q k. search rules)
    ∙ sliver_is c.args.width c.args.contour.now a ps b parts c.farthest-end.ensures
