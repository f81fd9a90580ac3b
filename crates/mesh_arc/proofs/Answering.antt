-- Lemmas over answers: what holds of a refusal.
use Rattle.std.proofs.Common.{sym, ℕ}
use Rattle.std.specs.Prelude.{Result, Ok, Err, IsErr, OnOk, OnErr, IfOk}
use Rattle.std.proofs.lemmas.Bool.{true≢false}
use Rattle.mesh_plane.specs.Plane.{Point}
use Rattle.mesh_arc.specs.Building.{Building, IsBuilt}
use Rattle.mesh_num.specs.Direction.{IsShort, IsFresh}
use Rattle.mesh_num.specs.Widths.{IsUnit}
use Rattle.mesh_arc.specs.Gaps.{NoStepFails, default_options}
use Rattle.mesh_arc.proofs.FineSteps.{default_steps}
use Rattle.mesh_arc.specs.declared.arc.ArcDirection.{ArcDirection}

on_ok_of_err : {A E : Type 0} (P : Type 0) (r : Result A E) → IsErr r → OnOk r P
on_ok_of_err P (Ok x) h = absurd (true≢false (sym h))
on_ok_of_err P (Err e) h = tt

on_err : {A E P : Type 0} (r : Result A E) → P → OnErr r P
on_err (Ok x) p = tt
on_err (Err e) p = p

pub if_ok_of_err : {A E : Type 0} (P : A → Type 0) (r : Result A E) → IsErr r → IfOk r P
if_ok_of_err P (Ok x) h = absurd (true≢false (sym h))
if_ok_of_err P (Err e) h = tt

-- a refusal that is passed on
pub built_passed : (unit : ℕ) (old new : Building) (sense : ArcDirection) (from end : Point) {A B E F : Type 0} (e : E) (r : Result B F)
    → IsBuilt unit old new sense from end {A = A} {E = E} (Err e) → IsErr r → IsBuilt unit old new sense from end r
built_passed unit old new sense from end e r b h = record {
  options = b.options;
  room = b.room;
  directions = on_ok_of_err _ r h;
  none = on_err r b.none;
  fits = b.fits;
}

-- with the default options no step fails, for both coordinate types
pub steps_of_units : (unit : ℕ) → IsUnit unit → (sense : ArcDirection) (from : Point) → IsShort unit from → IsFresh unit from → NoStepFails unit default_options sense from
unfolding IsUnit
steps_of_units unit h sense from s f = default_steps unit h sense from s f
