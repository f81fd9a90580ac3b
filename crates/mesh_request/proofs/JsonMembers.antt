-- Lemmas over values of JSON: how many members an object has.
use Rattle.std.proofs.Common.{◌≡◌, ◌≢◌, ℕ, ◌∙◌, Bool, List, [], ◌∷◌, length, refl, ap, arith, String, Global}
use Rattle.std.specs.Prelude.{cond, Option, Some, None}
use Rattle.std.proofs.lemmas.Bool.{eq-eqb, ne_eqb}
use Rattle.serde_json.specs.Data.{Data, Members}
use Rattle.serde_json.specs.Find.{get, as_object}
use Rattle.serde_json.specs.View.{members_view}
use Rattle.serde_json.specs.declared.value.Value.{Value}
use Rattle.mesh_request.specs.Reading.{member_count, has_one_member, sole_in}

-- as many members as entries
pub counted : (ms : List (String Global × Value)) → member_count (members_view ms) ≡ length ms
counted [] = refl
counted (m ∷ ms) = omega (arith, counted ms)

-- an object of one member holds what its key finds
pub sole_member : (key : List ℕ) (d : Data) (ms : Members) → as_object d ≡ Some ms → member_count ms ≡ 1 → sole_in key d ≡ get key d
sole_member key d ms e n =
    ap (λ (o : Option Members). cond (has_one_member o) (get key d) None) e ∙ ap (λ (t : Bool). cond t (get key d) None) (eq-eqb (member_count ms) 1 n)

pub not_sole : (key : List ℕ) (d : Data) (ms : Members) → as_object d ≡ Some ms → member_count ms ≢ 1 → sole_in key d ≡ None
not_sole key d ms e n =
    ap (λ (o : Option Members). cond (has_one_member o) (get key d) None) e ∙ ap (λ (t : Bool). cond t (get key d) None) (ne_eqb (member_count ms) 1 n)
