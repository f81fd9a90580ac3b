-- The root of the shifted square, shifted back by half as many digits, is still at most one too great.
use Rattle.std.proofs.Common.{◌^◌, ◌<◌, arith}
use Rattle.std.proofs.lemmas.Nat.{pow_pos}
use Rattle.mesh_num.proofs.Products.{squares_fit}
use Rattle.mesh_num.proofs.Roots.{shifted_large, shifted_whole, shifted_above, shifted_within, near_fits}
use Rattle.mesh_num.proofs.num.root.fine_length.Goals as goal

pub near_root-requires : goal.near_root-requires
near_root-requires c =
    let s : c.args.square < 2 ^ 63 = omega (arith, squares_fit c.args.width c.args.height c.requires.width c.requires.height) in
    record { large = shifted_large c.args.square c.requires.length s }

pub overflow_mul-root : goal.overflow_mul-root
overflow_mul-root c =
    let s : c.args.square < 2 ^ 63 = omega (arith, squares_fit c.args.width c.args.height c.requires.width c.requires.height) in
    let n = rw (shifted_whole c.args.square c.requires.length s) at c.near_root.ensures.near in
    omega (arith, near_fits c.args.square _ s (shifted_within c.args.square _ c.near_root.result (pow_pos _) n))

pub returns-then-root-square-clause-within : goal.returns-then-root-square-clause-within
returns-then-root-square-clause-within c =
    let s : c.args.square < 2 ^ 63 = omega (arith, squares_fit c.args.width c.args.height c.requires.width c.requires.height) in
    let n = rw (shifted_whole c.args.square c.requires.length s) at c.near_root.ensures.near in
    shifted_within c.args.square _ c.near_root.result (pow_pos _) n

pub returns-else-root-square-clause-above : goal.returns-else-root-square-clause-above
returns-else-root-square-clause-above c =
    let s : c.args.square < 2 ^ 63 = omega (arith, squares_fit c.args.width c.args.height c.requires.width c.requires.height) in
    let a = rw (shifted_whole c.args.square c.requires.length s) at c.near_root.ensures.above in
    shifted_above c.args.square _ c.near_root.result (pow_pos _) a
