-- Lemmas over points and lists: where a cleaned contour begins.
use Rattle.std.proofs.Common.{◌≡◌, ◌⊎◌, inl, inr, refl, sym, ◌∙◌, subst, true, false, List, [], ◌∷◌}
use Rattle.std.proofs.lemmas.Bool.{cases_Bool}
use Rattle.std.proofs.lemmas.List.Elements.{All-nil, All-cons}
use Rattle.mesh_plane.specs.Plane.{Point}
use Rattle.mesh_plane.specs.Winding.{same_point}
use Rattle.mesh_plane.specs.Turning.{last_of, first_or}
use Rattle.mesh_join.specs.Cleaned.{changes_from, without_repeats, without_repeated_end, kept_between, kept_inside}
use Rattle.mesh_join.specs.Cleaned.{kept_round, last_first, begun, cleaned_points, AllEqual}
use Rattle.mesh_join.specs.Laws.{BeginsAt}
use Rattle.mesh_plane.proofs.Comparing.{decides_point}
use Rattle.mesh_join.proofs.CleaningVectors.{SameWay, SameWay-self}
use Rattle.mesh_join.proofs.CleaningPass.{changes_from-same, changes_from-apart}
use Rattle.mesh_join.proofs.CleaningLoop.{without_end-cons}
use Rattle.mesh_join.proofs.CleaningStart.{Turned, Found, none_inside, first_inside, around, around-on}

-- that of a list whose points differ from the one before
abbrev begun_from : Point → List Point → Type 0
begun_from q ws = BeginsAt (first_or q (kept_inside (q ∷ ws))) (begun (kept_inside (q ∷ ws)) (kept_round (without_repeated_end (q ∷ ws))))

begun_apart : (q p : Point) (zs : List Point) → same_point q p ≡ false →
    BeginsAt (first_or q (kept_between q p (changes_from p zs))) (begun (kept_between q p (changes_from p zs)) (around q p zs))
begun_apart q p zs n = cases (kept_between q p (changes_from p zs)) refl
  where
    same : SameWay q q p
    same = SameWay-self q p n

    cases : (inside : List Point) → kept_between q p (changes_from p zs) ≡ inside → BeginsAt (first_or q inside) (begun inside (around q p zs))
    cases [] e =
        let t : Turned q p q p zs = none_inside q p q p zs n same (λ x. refl) e in
        let round : around q p zs ≡ last_of p (changes_from p zs) ∷ q ∷ [] = sym (around-on q p p zs n n (λ x. refl)) ∙ t.kept in
        subst (λ (ws : List Point). BeginsAt q (last_first ws)) (sym round) refl
    cases (k ∷ ks) e =
        let t : Found q p k q p zs = first_inside q p k q p zs ks same (λ x. refl) e in
        subst (λ (ws : List Point). BeginsAt k ws) (sym t.kept ∙ around-on q p k zs n t.apart t.alike) refl

pub begins : (q : Point) (ps : List Point) → (AllEqual (q ∷ ps) → ⊥) → BeginsAt (first_or q (kept_inside (without_repeats (q ∷ ps)))) (cleaned_points (q ∷ ps))
begins q [] n = absurd (n (All-nil (λ (p : Point). p ≡ q)))
begins q (p ∷ ps) n = by (cases_Bool (same_point q p)) (begins q ps)
  where
    by : (same_point q p ≡ true) ⊎ (same_point q p ≡ false) → ((AllEqual (q ∷ ps) → ⊥) → begun_from q (changes_from q ps)) → begun_from q (changes_from q (p ∷ ps))
    by (inl e) ih =
        subst (begun_from q) (sym (changes_from-same q p ps e)) (ih (λ h. n (All-cons (λ (p : Point). p ≡ q) p ps (sym ((decides_point q p).0 e)) h)))
    by (inr e) ih =
        let inside = kept_between q p (changes_from p ps) in
        let here = subst (λ (ws : List Point). BeginsAt (first_or q inside) (begun inside (kept_round (q ∷ ws)))) (sym (without_end-cons q p (changes_from p ps) e)) (begun_apart q p ps e) in
        subst (begun_from q) (sym (changes_from-apart q p ps e)) here
