use Rattle.std.proofs.Common.{refl, ◌∙◌, ap}
use Rattle.mesh_attempt.proofs.Known.{cut_known}
use Rattle.mesh_anew.proofs.anew.cut_anew.Goals as goal

pub returns : goal.returns
returns c = λ given k.
    let es = c.args.cut.paths.edges.items in
    cut_known given es es c.cut_in_order.new.paths c.args.cut.pairs c.in_ok-cut_in_order.ensures.paths
    (ap (λ v. v.items) c.in_ok-cut_in_order.ensures.edges ∙ c.in_ok-again.ensures.edges) k.count k.found k.small refl
