-- Lemmas over lists: the least number that passes a test, and the list of a direction turned again and again.
use Rattle.std.proofs.Common.{◌≡◌, ℕ, ◌<◌, ◌≤◌, Bool, true, false, refl, ◌∙◌, ap, arith, zero, suc, List, [], ◌∷◌, ◌++◌, length, ◌⊎◌, inl, inr, ⊎_elim}
use Rattle.mesh_plane.specs.Plane.{Point}
use Rattle.mesh_num.specs.Rotation.{rotated}
use Rattle.mesh_arc.specs.Arcs.{least, turned_times, turned_list}

-- ---- the least number that passes a test

cases : (b : Bool) → (b ≡ true) ⊎ (b ≡ false)
cases true = inl refl
cases false = inr refl

first : (test : ℕ → Bool) (n : ℕ) → test zero ≡ true → least test (suc n) ≡ zero
unfolding least
first test n e = rw e refl

later : (test : ℕ → Bool) (n : ℕ) → test zero ≡ false → least test (suc n) ≡ suc (least (λ k. test (suc k)) n)
unfolding least
later test n e = rw e refl

none_within : (test : ℕ → Bool) → least test zero ≡ zero
unfolding least
none_within test = refl

-- no number below it passes
pub least_before : (test : ℕ → Bool) (n j : ℕ) → j < least test n → test j ≡ false
least_before test zero j h = absurd (omega (arith, none_within test))
least_before test (suc n) j h =
    ⊎_elim
    (λ e. absurd (omega (arith, first test n e)))
    (λ e. by j e (λ i l. least_before (λ k. test (suc k)) n i (omega (arith, later test n e, l))))
    (cases (test zero))
  where
    by : (j : ℕ) → test zero ≡ false → ((i : ℕ) → suc i ≡ j → test (suc i) ≡ false) → test j ≡ false
    by zero e f = e
    by (suc i) e f = f i refl

-- it is at most the bound
pub least_bounded : (test : ℕ → Bool) (n : ℕ) → least test n ≤ n
least_bounded test zero = omega (arith, none_within test)
least_bounded test (suc n) =
    ⊎_elim
    (λ e. omega (arith, first test n e))
    (λ e. omega (arith, later test n e, least_bounded (λ k. test (suc k)) n))
    (cases (test zero))

-- it passes, or is the bound
pub least_passes : (test : ℕ → Bool) (n : ℕ) → least test n < n → test (least test n) ≡ true
least_passes test zero h = absurd (omega arith)
least_passes test (suc n) h =
    ⊎_elim
    (λ e. rw (first test n e) e)
    (λ e. rw (later test n e) (least_passes (λ k. test (suc k)) n (omega (arith, later test n e))))
    (cases (test zero))

-- the first number that passes, or the bound where none before it does
pub least_is : (test : ℕ → Bool) (n k : ℕ) → k ≤ n → ((j : ℕ) → j < k → test j ≡ false) → (k ≡ n) ⊎ (test k ≡ true) → least test n ≡ k
unfolding least
least_is test zero zero l h p = refl
least_is test zero (suc k) l h p = absurd (omega arith)
least_is test (suc n) zero l h (inl p) = absurd (omega arith)
least_is test (suc n) zero l h (inr p) = rw p refl
least_is test (suc n) (suc k) l h p =
    rw (h zero (omega arith))
    (ap suc (least_is (λ k. test (suc k)) n k (omega arith) (λ j q. h (suc j) (omega arith)) (⊎_elim (λ (e : suc k ≡ suc n). inl (omega arith)) (λ e. inr e) p)))

-- ---- a direction turned again and again

pub turned_first : (step from : Point) (k : ℕ) →
    turned_times step (rotated step from) k ≡ turned_times step from (suc k)
unfolding turned_times
turned_first step from zero = refl
turned_first step from (suc k) = ap (rotated step) (turned_first step from k)

-- one direction more
pub turned_more : (step from : Point) (n : ℕ) → turned_list step from (suc n) ≡ turned_list step from n ++ (turned_times step from (suc n) ∷ [])
unfolding turned_times turned_list
turned_more step from zero = refl
turned_more step from (suc n) =
    ap (λ (ds : List Point). rotated step from ∷ ds) (turned_more step (rotated step from) n)
    ∙ ap (λ (d : Point). rotated step from ∷ (turned_list step (rotated step from) n ++ (d ∷ []))) (turned_first step from (suc n))

pub turned_count : (step from : Point) (n : ℕ) → length (turned_list step from n) ≡ n
unfolding turned_list
turned_count step from zero = refl
turned_count step from (suc n) = ap suc (turned_count step (rotated step from) n)
