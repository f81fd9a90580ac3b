-- Lemmas over whole numbers: the root is the one number whose square is at most a number while the next square is greater.
use Rattle.std.proofs.Common.{◌≡◌, ℕ, ◌+◌, ◌*◌, ◌<◌, ◌≤◌, arith, zero, suc}
use Rattle.std.specs.Prelude.{nat_le}
use Rattle.std.proofs.lemmas.Bool.{cond_both, leb-true, leb-false}
use Rattle.mesh_plane.proofs.Sizes.{lt_of_squares}
use Rattle.mesh_sine.specs.Sine.{root, root_within}

-- `r` is the greatest whole number whose square is at most `n`
pub record IsRoot (n r : ℕ) : Type 0 where
  pub within : r * r ≤ n
  pub above : n < (r + 1) * (r + 1)

root_unique : (n r q : ℕ) → IsRoot n r → IsRoot n q → r ≡ q
root_unique n r q h l =
    let a : r < q + 1 = lt_of_squares r (q + 1) (omega (arith, h.within, l.above)) in
    let b : q < r + 1 = lt_of_squares q (r + 1) (omega (arith, l.within, h.above)) in
    omega arith

root_within_is : (n k : ℕ) → n < (k + 1) * (k + 1) → IsRoot n (root_within n k)
unfolding root_within
root_within_is n zero h = record { within = omega arith; above = h }
root_within_is n (suc k) h =
    cond_both (nat_le (suc k * suc k) n) (suc k) (root_within n k) (IsRoot n)
    (λ e. record { within = leb-true (suc k * suc k) n e; above = h })
    (λ e. root_within_is n k (omega (arith, leb-false (suc k * suc k) n e)))

pub root_is : (n : ℕ) → IsRoot n (root n)
unfolding root
root_is n = root_within_is n n (omega (arith, long n))
  where
    long : (n : ℕ) → n < (n + 1) * (n + 1)
    long n = omega arith

-- a number is the root where its square and the next one say so
pub root_by : (n r : ℕ) → r * r ≤ n → n < (r + 1) * (r + 1) → root n ≡ r
root_by n r h l = root_unique n (root n) r (root_is n) (record { within = h; above = l })
