use Rattle.std.proofs.Common.{◌≡◌, sym, subst, OnOk, List, ◌∷◌}
use Rattle.mesh_plane.specs.Plane.{Edge}
use Rattle.mesh_rounds.specs.Private.Groups.{Searches}
use Rattle.mesh_store.proofs.Lists.{on_ok}
use Rattle.mesh_rounds.proofs.Pairs.{searches_others}
use Rattle.mesh_rounds.proofs.groups.Search.+find_within.Goals as goal

pub returns : goal.returns
returns t c =
    let x = c.in-Some.x.now in
    let others = c.in-Some.others.now in
    let is : c.args.xs.now ≡ x ∷ others = c.in-Some.ensures.cases.0 in
    subst (λ (xs : List Edge). OnOk c.find_within.result (Searches xs xs c.args.self.now c.find_within.new.self)) (sym is)
    (on_ok c.find_within.result (searches_others x others c.args.self.now c.find_of.new.self c.find_within.new.self c.in_ok-find_of.ensures) c.find_within.ensures)
