use Rattle.std.proofs.Common.{lit≤, ◌^◌, ◌∙◌, ap, ◌+◌, ◌*◌, ◌/◌}
use Rattle.std.specs.Prelude.{unsigned_abs}
use Rattle.mesh_lattice.proofs.Arithmetic.{small_kept, quotient_below}
use Rattle.mesh_lattice.proofs.exact.rounded.Goals as goal

pub returns-else-r : goal.returns-else-r
returns-else-r c =
    let r = c.args.r in
    let n = small_kept (2 ^ 100) r.0 (lit≤ tt) c.requires.small.x in
    let d = small_kept (2 ^ 100) r.1 (lit≤ tt) c.requires.small.y in
    let a = c.unsigned_abs.ensures.value ∙ ap unsigned_abs n in
    let b = c.unsigned_abs-2.ensures.value ∙ ap unsigned_abs d in
    let size = c.rounded_size-size.ensures ∙ λ i. (2 * a i + b i) / (2 * b i) in
    quotient_below r.0 r.1 c.rounded_size-size.result c.requires.small.x c.requires.small.y c.requires.nonzero size (simp (n, d) at c.if-r.false)
