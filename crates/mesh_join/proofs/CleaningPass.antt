-- Lemmas over points and lists: a pass that compares with the last kept point keeps what each point's own neighbours say.
use Rattle.std.proofs.Common.{◌≡◌, ◌⊎◌, inl, inr, sym, ◌∙◌, ap, subst, true, false, cond, List, [], ◌∷◌}
use Rattle.std.proofs.lemmas.Bool.{cases_Bool, cond-true, cond-false}
use Rattle.mesh_plane.specs.Plane.{Point, Edge}
use Rattle.mesh_plane.specs.Winding.{route, same_point}
use Rattle.mesh_plane.specs.Turning.{turns_at, last_of}
use Rattle.mesh_join.specs.Cleaned.{changes_from, kept_between, sections_between, open_sections}
use Rattle.mesh_plane.proofs.Comparing.{decides_point}
use Rattle.mesh_join.proofs.CleaningVectors.{SameWay, SameWay-straight, SameWay-self, SameWay-apart, judged, turns_at-from_self, turns_at-to_self}

-- ---- the definitions, case by case

pub changes_from-same : (p z : Point) (zs : List Point) → same_point p z ≡ true → changes_from p (z ∷ zs) ≡ changes_from p zs
changes_from-same p z zs e = cond-true (same_point p z) (changes_from p zs) (z ∷ changes_from z zs) e

pub changes_from-apart : (p z : Point) (zs : List Point) → same_point p z ≡ false → changes_from p (z ∷ zs) ≡ z ∷ changes_from z zs
changes_from-apart p z zs e = cond-false (same_point p z) (changes_from p zs) (z ∷ changes_from z zs) e

pub kept_between-kept : (a p z : Point) (zs : List Point) → turns_at a p z ≡ true → kept_between a p (z ∷ zs) ≡ p ∷ kept_between p z zs
kept_between-kept a p z zs e = cond-true (turns_at a p z) (p ∷ kept_between p z zs) (kept_between p z zs) e

pub kept_between-passed : (a p z : Point) (zs : List Point) → turns_at a p z ≡ false → kept_between a p (z ∷ zs) ≡ kept_between p z zs
kept_between-passed a p z zs e = cond-false (turns_at a p z) (p ∷ kept_between p z zs) (kept_between p z zs) e

-- ---- the pass

-- the edges of the list `a`, `p`, `zs`, where each point is judged from the last kept one
abbrev pub passed : Point → Point → List Point → List Edge
passed a p [] = cond (same_point a p) [] ((a, p) ∷ [])
passed a p (z ∷ zs) = cond (turns_at a p z) ((a, p) ∷ passed p z zs) (passed a z zs)

pub passed-kept : (a p z : Point) (zs : List Point) → turns_at a p z ≡ true → passed a p (z ∷ zs) ≡ (a, p) ∷ passed p z zs
passed-kept a p z zs e = cond-true (turns_at a p z) ((a, p) ∷ passed p z zs) (passed a z zs) e

pub passed-on : (a p z : Point) (zs : List Point) → turns_at a p z ≡ false → passed a p (z ∷ zs) ≡ passed a z zs
passed-on a p z zs e = cond-false (turns_at a p z) ((a, p) ∷ passed p z zs) (passed a z zs) e

pub passed-same : (a p z : Point) (zs : List Point) → same_point p z ≡ true → passed a p (z ∷ zs) ≡ passed a p zs
passed-same a p z zs e =
    let same : p ≡ z = (decides_point p z).0 e in
    let on : turns_at a p z ≡ false = subst (λ q. turns_at a p q ≡ false) same (turns_at-to_self a p) in
    passed-on a p z zs on ∙ ap (λ q. passed a q zs) (sym same)

-- the edges of the list `a`, `p`, `ws`, where `y` stands before `p`
abbrev line : Point → Point → Point → List Point → List Edge
line a y p ws = route a (kept_between y p ws) (last_of p ws)

-- `y` stands before `p` in the list
pub passed-own : (a y p : Point) (zs : List Point) → SameWay a y p → passed a p zs ≡ line a y p (changes_from p zs)
passed-own a y p [] h = cond-false (same_point a p) [] ((a, p) ∷ []) (SameWay-apart a y p h)
passed-own a y p (z ∷ zs) h = elim (cases_Bool (same_point p z)) [ inl e ↦ repeated e (passed-own a y p zs h) | inr e ↦ apart (λ a y p k. passed-own a y p zs k) e (cases_Bool (turns_at y p z)) ]
  where
    repeated : same_point p z ≡ true → passed a p zs ≡ line a y p (changes_from p zs) → passed a p (z ∷ zs) ≡ line a y p (changes_from p (z ∷ zs))
    repeated e ih = passed-same a p z zs e ∙ ih ∙ ap (line a y p) (sym (changes_from-same p z zs e))

    apart : ((a y p : Point) → SameWay a y p → passed a p zs ≡ line a y p (changes_from p zs)) → same_point p z ≡ false → (turns_at y p z ≡ true) ⊎ (turns_at y p z ≡ false)
        → passed a p (z ∷ zs) ≡ line a y p (changes_from p (z ∷ zs))
    apart ih e (inl k) =
        passed-kept a p z zs (judged a y p z h ∙ k)
        ∙ ap (λ (es : List Edge). (a, p) ∷ es) (ih p p z (SameWay-self p z e))
        ∙ ap (λ ws. route a ws (last_of z (changes_from z zs))) (sym (kept_between-kept y p z (changes_from z zs) k))
        ∙ ap (line a y p) (sym (changes_from-apart p z zs e))
    apart ih e (inr k) =
        let on : turns_at a p z ≡ false = judged a y p z h ∙ k in
        passed-on a p z zs on
        ∙ ih a p z (SameWay-straight a p z e on)
        ∙ ap (λ ws. route a ws (last_of z (changes_from z zs))) (sym (kept_between-passed y p z (changes_from z zs) k))
        ∙ ap (line a y p) (sym (changes_from-apart p z zs e))

pub passed-open : (p q : Point) (zs : List Point) → passed p q zs ≡ open_sections (p ∷ q ∷ zs)
unfolding open_sections
passed-open p q [] = elim (cases_Bool (same_point p q)) [
  | inl e ↦ cond-true (same_point p q) [] ((p, q) ∷ []) e ∙ ap (λ ws. sections_between (p ∷ ws)) (sym (changes_from-same p q [] e))
  | inr e ↦ cond-false (same_point p q) [] ((p, q) ∷ []) e ∙ ap (λ ws. sections_between (p ∷ ws)) (sym (changes_from-apart p q [] e))
]
passed-open p q (z ∷ zs) = elim (cases_Bool (same_point p q)) [
  | inl e ↦ repeated e (passed-open p z zs)
  | inr e ↦ passed-own p p q (z ∷ zs) (SameWay-self p q e) ∙ ap (λ ws. sections_between (p ∷ ws)) (sym (changes_from-apart p q (z ∷ zs) e))
]
  where
    repeated : same_point p q ≡ true → passed p z zs ≡ open_sections (p ∷ z ∷ zs) → passed p q (z ∷ zs) ≡ open_sections (p ∷ q ∷ z ∷ zs)
    repeated e ih =
        let same : p ≡ q = (decides_point p q).0 e in
        let on : turns_at p q z ≡ false = subst (λ x. turns_at p x z ≡ false) same (turns_at-from_self p z) in
        passed-on p q z zs on ∙ ih ∙ ap (λ ws. sections_between (p ∷ ws)) (sym (changes_from-same p q (z ∷ zs) e))
