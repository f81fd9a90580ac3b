-- Lemmas over points and lists: where the loop of the cleaned contour starts, and how it closes.
use Rattle.std.proofs.Common.{◌≡◌, inl, inr, refl, sym, ◌∙◌, ap, true, false, cond, List, [], ◌∷◌, ◌++◌}
use Rattle.std.proofs.lemmas.Bool.{cases_Bool, cond-true, cond-false}
use Rattle.mesh_plane.specs.Plane.{Point}
use Rattle.mesh_plane.specs.Winding.{same_point}
use Rattle.mesh_plane.specs.Turning.{turns_at, last_of}
use Rattle.mesh_join.specs.Cleaned.{changes_from, without_end, kept_between}
use Rattle.mesh_plane.proofs.Comparing.{decides_point, points_swap}
use Rattle.mesh_join.proofs.CleaningPass.{changes_from-same, changes_from-apart}

-- ---- lists

pub without_end-cons : (q p : Point) (ws : List Point) → same_point q p ≡ false → without_end q (p ∷ ws) ≡ p ∷ without_end q ws
without_end-cons q p [] e = cond-false (same_point q p) [] (p ∷ []) e
without_end-cons q p (w ∷ ws) e = refl

pub last_of-append : (p : Point) (ws : List Point) (q k : Point) → last_of p (ws ++ q ∷ k ∷ []) ≡ k
last_of-append p [] q k = refl
last_of-append p (w ∷ ws) q k = last_of-append w ws q k

-- a list that goes on to `q`: its repeats are those of the closed list, without its end
pub closing : (q x : Point) (zs rest : List Point) →
    without_end q (x ∷ changes_from x zs) ++ q ∷ changes_from q rest ≡ x ∷ changes_from x (zs ++ q ∷ rest)
closing q x [] rest = elim (cases_Bool (same_point q x)) [ inl e ↦ repeated e | inr e ↦ apart e ]
  where
    repeated : same_point q x ≡ true → without_end q (x ∷ []) ++ q ∷ changes_from q rest ≡ x ∷ changes_from x (q ∷ rest)
    repeated e =
        ap (λ ws. ws ++ q ∷ changes_from q rest) (cond-true (same_point q x) [] (x ∷ []) e)
        ∙ ap (λ y. y ∷ changes_from y rest) ((decides_point q x).0 e)
        ∙ ap (λ ws. x ∷ ws) (sym (changes_from-same x q rest (points_swap q x ∙ e)))

    apart : same_point q x ≡ false → without_end q (x ∷ []) ++ q ∷ changes_from q rest ≡ x ∷ changes_from x (q ∷ rest)
    apart e =
        ap (λ ws. ws ++ q ∷ changes_from q rest) (cond-false (same_point q x) [] (x ∷ []) e)
        ∙ ap (λ ws. x ∷ ws) (sym (changes_from-apart x q rest (points_swap q x ∙ e)))
closing q x (z ∷ zs) rest = elim (cases_Bool (same_point x z)) [ inl e ↦ repeated e (closing q x zs rest) | inr e ↦ apart e (closing q z zs rest) ]
  where
    repeated : same_point x z ≡ true → without_end q (x ∷ changes_from x zs) ++ q ∷ changes_from q rest ≡ x ∷ changes_from x (zs ++ q ∷ rest)
        → without_end q (x ∷ changes_from x (z ∷ zs)) ++ q ∷ changes_from q rest ≡ x ∷ changes_from x (z ∷ (zs ++ q ∷ rest))
    repeated e ih =
        ap (λ ws. without_end q (x ∷ ws) ++ q ∷ changes_from q rest) (changes_from-same x z zs e)
        ∙ ih
        ∙ ap (λ ws. x ∷ ws) (sym (changes_from-same x z (zs ++ q ∷ rest) e))

    apart : same_point x z ≡ false → without_end q (z ∷ changes_from z zs) ++ q ∷ changes_from q rest ≡ z ∷ changes_from z (zs ++ q ∷ rest)
        → without_end q (x ∷ changes_from x (z ∷ zs)) ++ q ∷ changes_from q rest ≡ x ∷ changes_from x (z ∷ (zs ++ q ∷ rest))
    apart e ih =
        ap (λ ws. without_end q (x ∷ ws) ++ q ∷ changes_from q rest) (changes_from-apart x z zs e)
        ∙ ap (λ ws. x ∷ ws) (ih ∙ sym (changes_from-apart x z (zs ++ q ∷ rest) e))

-- the list from `p` round to `q` and on to `k`
pub round_to : (q p k : Point) (zs : List Point) → same_point q p ≡ false → same_point q k ≡ false →
    changes_from p (zs ++ q ∷ k ∷ []) ≡ without_end q (changes_from p zs) ++ q ∷ k ∷ []
round_to q p k zs e g =
    sym (ap tail (ap (λ ws. ws ++ q ∷ changes_from q (k ∷ [])) (sym (without_end-cons q p (changes_from p zs) e)) ∙ closing q p zs (k ∷ [])))
    ∙ ap (λ ws. without_end q (changes_from p zs) ++ q ∷ ws) (changes_from-apart q k [] g)
  where
    tail : List Point → List Point
    tail [] = []
    tail (x ∷ xs) = xs

-- the verdict on the last but one hangs on the direction to the last
pub kept_between-end : (y p : Point) (ts : List Point) (q k r : Point) → ((x : Point) → turns_at x q k ≡ turns_at x q r) →
    kept_between y p (ts ++ q ∷ k ∷ []) ≡ kept_between y p (ts ++ q ∷ r ∷ [])
kept_between-end y p [] q k r f = ap (λ b. cond (turns_at y p q) (p ∷ cond b (q ∷ []) []) (cond b (q ∷ []) [])) (f p)
kept_between-end y p (t ∷ ts) q k r f =
    ap (λ ws. cond (turns_at y p t) (p ∷ ws) ws) (kept_between-end p t ts q k r f)
