-- Lemmas over paths: how far each is bent.
use Rattle.std.proofs.Common.{◌≡◌, ◌⊎◌, inl, inr, ℕ, ◌+◌, ◌<◌, ◌≤◌, List, [], ◌∷◌, ◌++◌, length, get_or, refl, sym, ◌∙◌, ap, subst, arith}
use Rattle.std.proofs.Math.ListN.{length-append, get_or-append}
use Rattle.std.proofs.Math.Seq.{get_or-append_seam}
use Rattle.mesh_paths.specs.declared.paths.Paths.{Paths}
use Rattle.mesh_check.specs.Bent.{IsBentBy}
use Rattle.mesh_clear.specs.Private.Looking.{bend_at}

-- so many paths are bent by so many units, at most 8
pub record AreBent (p : Paths) (bends : List ℕ) (n : ℕ) : Type 0 where
  pub count : length bends ≡ n
  pub bent : (k : ℕ) → k < n → IsBentBy p k (bend_at bends k)
  pub few : (k : ℕ) → k < n → bend_at bends k ≤ 8

pub bent_none : (p : Paths) → AreBent p [] 0
bent_none p = record { count = refl; bent = λ k h. absurd (omega arith); few = λ k h. absurd (omega arith) }

pub bent_more : (p : Paths) (bends more : List ℕ) (n units : ℕ) → AreBent p bends n → more ≡ bends ++ units ∷ [] → IsBentBy p n units → units ≤ 8 → AreBent p more (n + 1)
bent_more p bends more n units are pushed bent few = record {
  count = ap length pushed ∙ (length-append bends (units ∷ []) ∙ ap (λ (m : ℕ). m + 1) are.count);
  bent = λ k h. by (λ (m : ℕ). IsBentBy p k m) k (λ l. are.bent k l) (λ e. subst (λ (m : ℕ). IsBentBy p m units) (sym e) bent) (below_or_at k n h);
  few = λ k h. by (λ (m : ℕ). m ≤ 8) k (λ l. are.few k l) (λ e. few) (below_or_at k n h);
}
  where
    below_or_at : (k m : ℕ) → k < m + 1 → (k < m) ⊎ (k ≡ m)
    below_or_at k m h = grind arith

    by : (P : ℕ → Type 0) (k : ℕ) → (k < n → P (bend_at bends k)) → (k ≡ n → P units) → (k < n) ⊎ (k ≡ n) → P (bend_at more k)
    by P k old new (inl h) = subst P (sym (ap (λ (l : List ℕ). get_or l k 0) pushed ∙ get_or-append bends (units ∷ []) 0 k (omega (arith, are.count, h)))) (old h)
    by P k old new (inr h) =
        let at : k ≡ length bends = omega (arith, are.count, h) in
        subst P (sym (ap (λ (l : List ℕ). get_or l k 0) pushed ∙ (ap (λ (m : ℕ). get_or (bends ++ units ∷ []) m 0) at ∙ get_or-append_seam bends units [] 0))) (new h)
