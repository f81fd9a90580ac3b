-- The validation has accepted this very style.
use Rattle.std.proofs.Common.{refl}
use Rattle.std.specs.Prelude.{Result, Ok, Err, OnOk}
use Rattle.std.proofs.lemmas.Int.{to_z-of_z}
use mir.Syntax.{w32}
use Rattle.mesh_uses.proofs.offsets.grown.Goals as goal

-- what holds in any case
always : {T E P : Type 0} (r : Result T E) → P → OnOk r P
always (Ok _) p = p
always (Err _) p = tt

pub returns-clause-accepted : goal.returns-clause-accepted
returns-clause-accepted c =
    let offset = to_z-of_z w32 c.args.offset c.ranges.offset in
    always c.outline.result (rw (c.new-style.ensures, offset) at (c.in_ok-validate_outline.ensures.safe.0 refl))
