-- Lemmas over points and lists: a pass that begins at the first point it keeps, and closes there, gives the cleaned contour.
use Rattle.std.proofs.Common.{◌≡◌, ◌⊎◌, inl, inr, refl, sym, ◌∙◌, ap, subst, true, false, cond, List, [], ◌∷◌, ◌++◌}
use Rattle.std.proofs.lemmas.Bool.{cases_Bool, cond-true, cond-false}
use Rattle.mesh_plane.specs.Plane.{Point, Edge}
use Rattle.mesh_plane.specs.Winding.{route, boundary, same_point}
use Rattle.mesh_plane.specs.Turning.{turns_at, last_of}
use Rattle.mesh_join.specs.Cleaned.{changes_from, without_end, without_repeated_end, kept_between, kept_inside}
use Rattle.mesh_join.specs.Cleaned.{kept_round, last_first, begun, cleaned_sections}
use Rattle.mesh_plane.proofs.Comparing.{decides_point, points_swap}
use Rattle.mesh_join.proofs.CleaningVectors.{SameWay, SameWay-straight, SameWay-ahead, SameWay-self, SameWay-apart, judged, judged_ahead, turns_at-to_self, turns_at-back}
use Rattle.mesh_join.proofs.CleaningPass.{changes_from-same, changes_from-apart, kept_between-kept, kept_between-passed, passed, passed-kept, passed-on, passed-same, passed-own}
use Rattle.mesh_join.proofs.CleaningLoop.{without_end-cons, last_of-append, round_to, kept_between-end}

-- the edges of the closed list `q`, `p`, `zs`, by a pass that begins at the first point that it keeps
abbrev pub started : Point → Point → List Point → List Edge
started q p [] = passed q p (q ∷ q ∷ [])
started q p (z ∷ zs) = cond (turns_at q p z) (passed p z (zs ++ q ∷ p ∷ [])) (started q z zs)

pub started-kept : (q p z : Point) (zs : List Point) → turns_at q p z ≡ true → started q p (z ∷ zs) ≡ passed p z (zs ++ q ∷ p ∷ [])
started-kept q p z zs e = cond-true (turns_at q p z) (passed p z (zs ++ q ∷ p ∷ [])) (started q z zs) e

pub started-on : (q p z : Point) (zs : List Point) → turns_at q p z ≡ false → started q p (z ∷ zs) ≡ started q z zs
started-on q p z zs e = cond-false (turns_at q p z) (passed p z (zs ++ q ∷ p ∷ [])) (started q z zs) e

pub started-same : (q p z : Point) (zs : List Point) → same_point p z ≡ true → started q p (z ∷ zs) ≡ started q p zs
started-same q p z zs e =
    let same : p ≡ z = (decides_point p z).0 e in
    let on : turns_at q p z ≡ false = subst (λ x. turns_at q p x ≡ false) same (turns_at-to_self q p) in
    started-on q p z zs on ∙ ap (λ x. started q x zs) (sym same)

-- for the verdict on `q`, the points `p` and `r` after it are alike
abbrev pub Alike : Point → Point → Point → Type 0
Alike q p r = (x : Point) → turns_at x q p ≡ turns_at x q r

-- the way from `q` goes straight on by `p` to `z`
Alike-on : (q p z r : Point) → same_point q p ≡ false → turns_at q p z ≡ false → Alike q p r → Alike q z r
Alike-on q p z r n e f x = judged_ahead x q z p (SameWay-ahead q p z n e) ∙ f x

-- ---- no point inside is kept

pub record Turned (q r y p : Point) (zs : List Point) : Type 0 where
  pub apart : same_point q (last_of p (changes_from p zs)) ≡ false
  pub edges : started q p zs ≡ (q, last_of p (changes_from p zs)) ∷ (last_of p (changes_from p zs), q) ∷ []
  pub kept : kept_between y p (changes_from p (zs ++ q ∷ r ∷ [])) ≡ last_of p (changes_from p zs) ∷ q ∷ []

pub none_inside : (q r y p : Point) (zs : List Point) → same_point q r ≡ false → SameWay q y p → Alike q p r → kept_between y p (changes_from p zs) ≡ [] → Turned q r y p zs
none_inside q r y p [] n h f e =
    let apart : same_point q p ≡ false = SameWay-apart q y p h in
    let out : same_point p q ≡ false = points_swap q p ∙ apart in
    let back : turns_at q p q ≡ true = turns_at-back q p out in
    let turn : turns_at p q r ≡ true = sym (f p) ∙ turns_at-back p q apart in
    let own : turns_at y p q ≡ true = sym (judged q y p q h) ∙ back in
    record {
      apart = apart;
      edges =
          passed-kept q p q (q ∷ []) back
          ∙ ap (λ (es : List Edge). (q, p) ∷ es) (passed-on p q q [] (turns_at-to_self p q) ∙ cond-false (same_point p q) [] ((p, q) ∷ []) out);
      kept =
          ap (kept_between y p) (changes_from-apart p q (r ∷ []) out ∙ ap (λ ws. q ∷ ws) (changes_from-apart q r [] n))
          ∙ kept_between-kept y p q (r ∷ []) own
          ∙ ap (λ ws. p ∷ ws) (kept_between-kept p q r [] turn);
    }
none_inside q r y p (z ∷ zs) n h f e =
    elim (cases_Bool (same_point p z)) [
      | inl s ↦ repeated s (λ g. none_inside q r y p zs n h f g)
      | inr s ↦ apart s (λ k g i. none_inside q r p z zs n k g i) (cases_Bool (turns_at y p z))
    ]
  where
    repeated : same_point p z ≡ true → (kept_between y p (changes_from p zs) ≡ [] → Turned q r y p zs) → Turned q r y p (z ∷ zs)
    repeated s ih =
        let same : changes_from p (z ∷ zs) ≡ changes_from p zs = changes_from-same p z zs s in
        let t : Turned q r y p zs = ih (ap (kept_between y p) (sym same) ∙ e) in
        let ends : (last_of p (changes_from p zs)) ≡ last_of p (changes_from p (z ∷ zs)) = ap (last_of p) (sym same) in
        record {
          apart = ap (same_point q) (sym ends) ∙ t.apart;
          edges = started-same q p z zs s ∙ t.edges ∙ ap (λ (l : Point). (q, l) ∷ (l, q) ∷ []) ends;
          kept = ap (kept_between y p) (changes_from-same p z (zs ++ q ∷ r ∷ []) s) ∙ t.kept ∙ ap (λ (l : Point). l ∷ q ∷ []) ends;
        }

    apart : same_point p z ≡ false → (SameWay q p z → Alike q z r → kept_between p z (changes_from z zs) ≡ [] → Turned q r p z zs)
        → (turns_at y p z ≡ true) ⊎ (turns_at y p z ≡ false) → Turned q r y p (z ∷ zs)
    apart s ih (inl k) = absurd (filled (sym (kept_between-kept y p z (changes_from z zs) k) ∙ ap (kept_between y p) (sym (changes_from-apart p z zs s)) ∙ e))
      where
        filled : p ∷ kept_between p z (changes_from z zs) ≡ [] → ⊥
        filled g = cc
    apart s ih (inr k) =
        let on : turns_at q p z ≡ false = judged q y p z h ∙ k in
        let split : changes_from p (z ∷ zs) ≡ z ∷ changes_from z zs = changes_from-apart p z zs s in
        let none : kept_between p z (changes_from z zs) ≡ [] = sym (kept_between-passed y p z (changes_from z zs) k) ∙ ap (kept_between y p) (sym split) ∙ e in
        let t : Turned q r p z zs = ih (SameWay-straight q p z s on) (Alike-on q p z r (SameWay-apart q y p h) on f) none in
        let ends : last_of z (changes_from z zs) ≡ last_of p (changes_from p (z ∷ zs)) = ap (last_of p) (sym split) in
        record {
          apart = ap (same_point q) (sym ends) ∙ t.apart;
          edges = started-on q p z zs on ∙ t.edges ∙ ap (λ (l : Point). (q, l) ∷ (l, q) ∷ []) ends;
          kept =
              ap (kept_between y p) (changes_from-apart p z (zs ++ q ∷ r ∷ []) s)
              ∙ kept_between-passed y p z (changes_from z (zs ++ q ∷ r ∷ [])) k
              ∙ t.kept
              ∙ ap (λ (l : Point). l ∷ q ∷ []) ends;
        }

-- ---- `k` is the first point inside that is kept

pub record Found (q r k y p : Point) (zs : List Point) : Type 0 where
  pub edges : (q, k) ∷ started q p zs ≡ passed q p (zs ++ q ∷ k ∷ [])
  pub alike : Alike q k r
  pub apart : same_point q k ≡ false
  pub rest : List Point
  pub kept : kept_between y p (changes_from p (zs ++ q ∷ k ∷ [])) ≡ k ∷ rest

heads : (p k : Point) (ps ks : List Point) → p ∷ ps ≡ k ∷ ks → p ≡ k
heads p k ps ks e = ap head e
  where
    head : List Point → Point
    head [] = p
    head (x ∷ xs) = x

pub first_inside : (q r k y p : Point) (zs ks : List Point) → SameWay q y p → Alike q p r → kept_between y p (changes_from p zs) ≡ k ∷ ks → Found q r k y p zs
first_inside q r k y p [] ks h f e = absurd (nothing e)
  where
    nothing : [] ≡ k ∷ ks → ⊥
    nothing g = cc
first_inside q r k y p (z ∷ zs) ks h f e =
    elim (cases_Bool (same_point p z)) [
      | inl s ↦ repeated s (λ g. first_inside q r k y p zs ks h f g)
      | inr s ↦ apart s (λ l g i. first_inside q r k p z zs ks l g i) (cases_Bool (turns_at y p z))
    ]
  where
    repeated : same_point p z ≡ true → (kept_between y p (changes_from p zs) ≡ k ∷ ks → Found q r k y p zs) → Found q r k y p (z ∷ zs)
    repeated s ih =
        let t : Found q r k y p zs = ih (ap (kept_between y p) (sym (changes_from-same p z zs s)) ∙ e) in
        record {
          edges = ap (λ (es : List Edge). (q, k) ∷ es) (started-same q p z zs s) ∙ t.edges ∙ sym (passed-same q p z (zs ++ q ∷ k ∷ []) s);
          alike = t.alike;
          apart = t.apart;
          rest = t.rest;
          kept = ap (kept_between y p) (changes_from-same p z (zs ++ q ∷ k ∷ []) s) ∙ t.kept;
        }

    at_once : same_point p z ≡ false → turns_at y p z ≡ true → Found q r p y p (z ∷ zs)
    at_once s i =
        record {
          edges =
              ap (λ (es : List Edge). (q, p) ∷ es) (started-kept q p z zs (judged q y p z h ∙ i))
              ∙ sym (passed-kept q p z (zs ++ q ∷ p ∷ []) (judged q y p z h ∙ i));
          alike = f;
          apart = SameWay-apart q y p h;
          rest = kept_between p z (changes_from z (zs ++ q ∷ p ∷ []));
          kept =
              ap (kept_between y p) (changes_from-apart p z (zs ++ q ∷ p ∷ []) s)
              ∙ kept_between-kept y p z (changes_from z (zs ++ q ∷ p ∷ [])) i;
        }

    apart : same_point p z ≡ false → (SameWay q p z → Alike q z r → kept_between p z (changes_from z zs) ≡ k ∷ ks → Found q r k p z zs)
        → (turns_at y p z ≡ true) ⊎ (turns_at y p z ≡ false) → Found q r k y p (z ∷ zs)
    apart s ih (inl i) =
        let shown : p ∷ kept_between p z (changes_from z zs) ≡ k ∷ ks =
        sym (kept_between-kept y p z (changes_from z zs) i) ∙ ap (kept_between y p) (sym (changes_from-apart p z zs s)) ∙ e in
        subst (λ x. Found q r x y p (z ∷ zs)) (heads p k (kept_between p z (changes_from z zs)) ks shown) (at_once s i)
    apart s ih (inr i) =
        let on : turns_at q p z ≡ false = judged q y p z h ∙ i in
        let more : kept_between p z (changes_from z zs) ≡ k ∷ ks =
        sym (kept_between-passed y p z (changes_from z zs) i) ∙ ap (kept_between y p) (sym (changes_from-apart p z zs s)) ∙ e in
        let t : Found q r k p z zs = ih (SameWay-straight q p z s on) (Alike-on q p z r (SameWay-apart q y p h) on f) more in
        record {
          edges = ap (λ (es : List Edge). (q, k) ∷ es) (started-on q p z zs on) ∙ t.edges ∙ sym (passed-on q p z (zs ++ q ∷ k ∷ []) on);
          alike = t.alike;
          apart = t.apart;
          rest = t.rest;
          kept =
              ap (kept_between y p) (changes_from-apart p z (zs ++ q ∷ k ∷ []) s)
              ∙ kept_between-passed y p z (changes_from z (zs ++ q ∷ k ∷ [])) i
              ∙ t.kept;
        }

-- ---- the loop

abbrev tail : List Edge → List Edge
tail [] = []
tail (x ∷ xs) = xs

-- the list on to `q` and `k` ends there
pub end_after_lap : (q p k : Point) (zs : List Point) → same_point q p ≡ false → same_point q k ≡ false → last_of p (changes_from p (zs ++ q ∷ k ∷ [])) ≡ k
end_after_lap q p k zs n m = ap (last_of p) (round_to q p k zs n m) ∙ last_of-append p (without_end q (changes_from p zs)) q k

pub started-found : (q p k : Point) (zs : List Point) → (n : same_point q p ≡ false) → (t : Found q p k q p zs) → started q p zs ≡ boundary (k ∷ t.rest)
started-found q p k zs n t =
    ap tail (
    t.edges
    ∙ passed-own q q p (zs ++ q ∷ k ∷ []) (SameWay-self q p n)
    ∙ ap (λ ws. route q ws (last_of p (changes_from p (zs ++ q ∷ k ∷ [])))) t.kept
    ∙ ap (λ l. route q (k ∷ t.rest) l) (end_after_lap q p k zs n t.apart)
    )

-- the points that are kept on the way round `q`, `p`, `zs`
abbrev pub around : Point → Point → List Point → List Point
around q p zs = kept_between q p (without_end q (changes_from p zs) ++ q ∷ p ∷ [])

-- the same, with the point `k` after `q`
pub around-on : (q p k : Point) (zs : List Point) → same_point q p ≡ false → same_point q k ≡ false → Alike q k p →
    kept_between q p (changes_from p (zs ++ q ∷ k ∷ [])) ≡ around q p zs
around-on q p k zs n m f =
    ap (kept_between q p) (round_to q p k zs n m) ∙ kept_between-end q p (without_end q (changes_from p zs)) q k p f

started-begun : (q p : Point) (zs : List Point) → same_point q p ≡ false →
    started q p zs ≡ boundary (begun (kept_between q p (changes_from p zs)) (around q p zs))
started-begun q p zs n = cases (kept_between q p (changes_from p zs)) refl
  where
    same : SameWay q q p
    same = SameWay-self q p n

    cases : (inside : List Point) → kept_between q p (changes_from p zs) ≡ inside → started q p zs ≡ boundary (begun inside (around q p zs))
    cases [] e =
        let t : Turned q p q p zs = none_inside q p q p zs n same (λ x. refl) e in
        let round : around q p zs ≡ last_of p (changes_from p zs) ∷ q ∷ [] = sym (around-on q p p zs n n (λ x. refl)) ∙ t.kept in
        t.edges ∙ ap (λ ws. boundary (last_first ws)) (sym round)
    cases (k ∷ ks) e =
        let t : Found q p k q p zs = first_inside q p k q p zs ks same (λ x. refl) e in
        started-found q p k zs n t ∙ ap boundary (sym t.kept ∙ around-on q p k zs n t.apart t.alike)

-- the pass from the first of two points that differ gives the sections of the cleaned contour
pub started-cleaned : (q p : Point) (zs : List Point) → same_point q p ≡ false → started q p zs ≡ cleaned_sections (q ∷ p ∷ zs)
unfolding cleaned_sections
started-cleaned q p zs n =
    started-begun q p zs n
    ∙ ap (λ ws. boundary (begun (kept_between q p (changes_from p zs)) (kept_round (q ∷ ws)))) (sym (without_end-cons q p (changes_from p zs) n))
    ∙ ap (λ ws. boundary (begun (kept_inside (q ∷ ws)) (kept_round (without_repeated_end (q ∷ ws))))) (sym (changes_from-apart q p zs n))

-- repeats of the first point change nothing
pub cleaned_sections-same : (q p : Point) (zs : List Point) → same_point q p ≡ true → cleaned_sections (q ∷ p ∷ zs) ≡ cleaned_sections (q ∷ zs)
unfolding cleaned_sections
cleaned_sections-same q p zs e = ap (λ ws. boundary (begun (kept_inside (q ∷ ws)) (kept_round (without_repeated_end (q ∷ ws))))) (changes_from-same q p zs e)
