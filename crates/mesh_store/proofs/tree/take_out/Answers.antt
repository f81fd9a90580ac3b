use Rattle.std.proofs.Common.{◌≡◌, false, not, ap, rules}
use Rattle.std.proofs.lemmas.Fn.{filter_same}
use Rattle.mesh_plane.specs.Plane.{Edge}
use Rattle.mesh_lattice.specs.Split.{same_edge}
use Rattle.mesh_store.proofs.Listing.{filtered_keeps}
use Rattle.mesh_store.proofs.tree.take_out.Goals as goal

pub returns : goal.returns
returns c =
    let test = λ (x : Edge). not (same_edge x c.args.e) in
    filtered_keeps test (λ (x : Edge). same_edge x c.args.e ≡ false) (λ x h. ap not h) _ _ (filter_same _ test _ (λ x b f' k. search rules) _ _ c.retain.ensures.filtered)
