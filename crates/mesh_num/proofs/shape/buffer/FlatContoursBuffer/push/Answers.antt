-- One contour at the end.
use Rattle.std.proofs.Common.{◌≡◌, ◌+◌, [], ◌∷◌, ◌++◌, length, ap, ◌∙◌, arith}
use Rattle.mesh_num.proofs.FlatContours.{holds_push, range_is}
use Rattle.mesh_num.proofs.shape.buffer.FlatContoursBuffer.push.Goals as goal

pub returns : goal.returns
returns g c cs h =
    let start : c.len-start.result ≡ length c.args.self.now.points.items = c.len-start.ensures ∙ c.args.self.now.points.ok.0 in
    let size = ap length c.as_slice.ensures.value in
    let stop : c.len-end.result ≡ c.len-start.result + length c.args.contour.now.items = omega (arith, size, c.in_ok-extend_from_slice.ensures.len) in
    holds_push _ _ cs c.args.contour.now.items h
    (c.in_ok-extend_from_slice.ensures.items ∙ ap (λ p. c.args.self.now.points.items ++ p) c.as_slice.ensures.value)
    (c.in_ok-push.ensures.items ∙ ap (λ r. c.args.self.now.ranges.items ++ r ∷ []) (range_is _ _ _ _ start stop))
