-- The pairs fit, or they do not, or there are none.
use Rattle.std.proofs.Common.{refl, ◌∙◌, ap, arith}
use Rattle.mesh_arrays.specs.Rooms.{overwritten}
use Rattle.mesh_arrays.specs.Telling.{IsPut, IsTold}
use Rattle.mesh_arrays.proofs.nets.hand_over.Goals as goal

pub returns-in-Err : goal.returns-in-Err
returns-in-Err c = rw c.of.ensures (IsTold.refused c.in-Err.is refl)

pub returns-then-len-pairs : goal.returns-then-len-pairs
returns-then-len-pairs c =
    let size = c.in-Ok.found.ok.0 in
    IsTold.told c.in-Ok.is (record { put = IsPut.too_small (λ fit. omega (arith, fit, size, c.len-2.ensures, c.if-len-pairs.true)) refl; told = c.len.ensures ∙ size })

pub returns : goal.returns
returns c =
    let size = c.in-Ok.found.ok.0 in
    let put = c.put.ensures ∙ ap (λ l. overwritten l c.args.pairs.now) c.deref.ensures.value in
    IsTold.told c.in-Ok.is (record { put = IsPut.whole (omega (arith, size, c.len-2.ensures, c.if-len-pairs.false)) put; told = c.len.ensures ∙ size })
