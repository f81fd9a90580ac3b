-- Lemmas over points and lists: ends that stand in a map of segments, or don't.
use Rattle.std.proofs.Common.{◌≡◌, ⊎_elim, Bool, true, false, cond, sym, ◌∙◌, ap, subst, refl, arith, List, [], ◌∷◌, Option, Some, None}
use Rattle.std.specs.Prelude.{ℤ, pos}
use Rattle.std.specs.List.Sorted.{IsPermutation}
use Rattle.std.specs.Map.{lookup}
use Rattle.std.proofs.lemmas.Bool.{both_ways, cases_Bool}
use Rattle.std.proofs.lemmas.Int.{ints}
use Rattle.std.proofs.lemmas.Option.{none-some}
use Rattle.mesh_plane.specs.Plane.{Edge}
use Rattle.mesh_plane.proofs.Whole.{linear}
use Rattle.mesh_lattice.specs.Split.{same_edge}
use Rattle.mesh_lattice.specs.Counted.{Counted, bit, times}
use Rattle.mesh_lattice.proofs.Ends.{decides_edge}
use Rattle.mesh_store.specs.Steps.{exactly, IsPut}
use Rattle.mesh_store.specs.Witnesses.{edge_eq}
use Rattle.mesh_store.proofs.Entries.{equal_self, found_stands, insert_put}
use Rattle.mesh_store.proofs.Filing.{positive_times}

-- ends that are not found do not stand
pub exactly_none : (k : Edge) (es : List Counted) → lookup (edge_eq k) es ≡ None → exactly k es ≡ pos 0
exactly_none k [] h = refl
exactly_none k (e ∷ es) h =
    ⊎_elim
    (λ (t : edge_eq k e.0 ≡ true).
    let value : Some e.1 ≡ None = ap (λ (b : Bool). cond b (Some e.1) (lookup (edge_eq k) es)) (sym t) ∙ h in
    absurd (none-some e.1 (sym value)))
    (λ (n : edge_eq k e.0 ≡ false).
    let other : same_edge k e.0 ≡ false =
    ⊎_elim
    (λ (t : same_edge k e.0 ≡ true).
    absurd (both_ways (edge_eq k e.0) n (ap (λ (x : Edge). edge_eq k x) (sym ((decides_edge k e.0).0 t)) ∙ equal_self k)))
    (λ (o : same_edge k e.0 ≡ false). o)
    (cases_Bool (same_edge k e.0)) in
    omega (arith, linear, ap bit other, exactly_none k es (ap (λ (b : Bool). cond b (Some e.1) (lookup (edge_eq k) es)) (sym n) ∙ h)))
    (cases_Bool (edge_eq k e.0))

not_found : (k : Edge) (es : List Counted) → times k es ≡ pos 0 → (o : Option ℤ) → lookup (edge_eq k) es ≡ o → lookup (edge_eq k) es ≡ None
not_found k es none (Some m) h = absurd (omega (arith, ints, none, positive_times k es (found_stands k m es h)))
not_found k es none None h = h

-- ends that do not stand are not found
pub absent_not_found : (k : Edge) (es now : List Counted) → es ≡ now → times k now ≡ pos 0 → lookup (edge_eq k) es ≡ None
absent_not_found k es now same none =
    not_found k es (ap (λ (ks : List Counted). times k ks) same ∙ none) (lookup (edge_eq k) es) refl

-- an insert of ends that do not stand
pub put_absent : (s : Counted) (es now left : List Counted) → es ≡ now → IsPermutation (s ∷ es) left → IsPut now left s
put_absent s es now left same put = subst (λ (ks : List Counted). IsPut ks left s) same (insert_put s es left put)
