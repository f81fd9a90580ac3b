use Rattle.std.proofs.Common.{◌≡◌, ◌*◌, length, map, arith, rules}
use Rattle.std.proofs.lemmas.List.{length-map}
use Rattle.mesh_num.specs.Paths.{shapes_of}
use Rattle.mesh_uses.proofs.KeptClear.{none_near}
use Rattle.mesh_uses.proofs.clearances.keep_apart.Goals as goal

pub returns : goal.returns
returns c = λ keep i j order within.
    let count = length-map c.args.nets.now (λ net. shapes_of net.items) in
    let none : length c.in_ok-near.near.items ≡ 0 = search rules in
    none_near (map (λ net. shapes_of net.items) c.args.nets.now) (c.args.distance * c.args.distance) c.in_ok-near.near.items c.in_ok-near.ensures none i j order (omega (arith, within, count))
