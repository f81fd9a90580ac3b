-- Lemmas over lists and operands: zones as they are read, and a clip that is refused.
use Rattle.std.proofs.Common.{◌≡◌, ℕ, ◌<◌, List, map, length, get_or, Option, Some, None, sym, ap, ◌∙◌}
use Rattle.std.specs.Prelude.{IfSome}
use Rattle.std.proofs.lemmas.List.{get_or-map, length-map}
use Rattle.mesh_operands.specs.Combining.{MayTakePart}
use Rattle.mesh_operands.specs.Operands.{Given}
use Rattle.mesh_operands.specs.Refusals.{IsBooleanRefusal, IsReason}
use Rattle.mesh_operands.specs.declared.refusal.OperandPlace.{OperandPlace}
use Rattle.mesh_operands.specs.declared.refusal.OperandRefusal.{OperandRefusal}

-- what stands where an item is read
pub zone_here : {A G : Type 0} (f : A → G) (items : List A) (i : ℕ) (item : A) (d : G) → i < length items → item ≡ get_or items i item → get_or (map f items) i d ≡ f item
zone_here f items i item d low is = get_or-map f items i item d low ∙ ap f (sym is)

pub zone_within : {A G : Type 0} (f : A → G) (items : List A) (i : ℕ) → i < length items → i < length (map f items)
zone_within f items i low = rw (length-map items f) low

-- the clip of a boolean whose subject may take part
pub clip_refused : (unit : ℕ) (subject clip : Given) (found : Option OperandRefusal) → MayTakePart unit subject → IfSome found (λ refusal. refusal.which ≡ OperandPlace.Clip) → IfSome found (λ refusal. IsReason unit clip refusal.why) →
    IfSome found (λ refusal. IsBooleanRefusal unit subject clip refusal.which refusal.why)
clip_refused unit subject clip None may which why = tt
clip_refused unit subject clip (Some refusal) may which why = rw which (may, why)
