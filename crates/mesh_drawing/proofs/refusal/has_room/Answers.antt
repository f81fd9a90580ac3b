-- A size and a padding are added without a wrap.
use Rattle.std.proofs.Common.{◌≡◌, rules}
use Rattle.std.specs.Prelude.{unsigned_abs}
use Rattle.mesh_drawing.proofs.Ranges.{room_left}
use Rattle.mesh_drawing.proofs.refusal.has_room.Goals as goal

pub returns : goal.returns
returns g c =
    let size : c.unsigned_abs-size.result ≡ unsigned_abs (g.I.IntNumber.value c.args.coordinate) = search rules in
    let reach : c.unsigned_abs-reach.result ≡ unsigned_abs c.args.padding = search rules in
    let end : c.unsigned_abs.result ≡ g.I.IntNumber.unit = search rules in
    room_left g.I.IntNumber.unit _ _ _ c.args.padding (g.I.IntNumber.value c.args.coordinate) size reach end
