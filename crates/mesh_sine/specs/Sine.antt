-- Sines and cosines of angles, in whole numbers. A full turn has 2 ^ 32 bits. A pair is a cosine and a sine, both times
-- `one`.
use Rattle.std.specs.Prelude.{ℕ, zero, suc, ◌+◌, ◌-◌, ◌*◌, ◌/◌, ◌%◌}
use Rattle.std.specs.Prelude.{◌^◌, ◌≤◌, min, pos, neg_ℤ, nat_eq, nat_le, if◌then◌else◌}
use Rattle.mesh_plane.specs.Plane.{Point, length_sq}

abbrev pub one : ℕ
one = 2 ^ 60

-- no longer than the sine and the cosine of one angle, each times 2 ^ 30
abbrev pub IsWithinOne : Point → Type 0
IsWithinOne p = length_sq p ≤ 2 ^ 60

-- the greatest whole number of at most `k` whose square is at most `n`
unfoldable pub root_within : ℕ → ℕ → ℕ
root_within n zero = zero
root_within n (suc k) = if nat_le (suc k * suc k) n then suc k else root_within n k

-- the greatest whole number whose square is at most `n`
unfoldable pub root : ℕ → ℕ
root n = root_within n n

-- the cosine of half the angle with this cosine
unfoldable pub half_cosine : ℕ → ℕ
half_cosine c = root (one * (one + c) / 2)

-- the pair of half the angle with this pair: the sine is at most what the cosine leaves
unfoldable pub half_pair : ℕ × ℕ → ℕ × ℕ
half_pair a = (
  half_cosine a.0,
  min (a.1 * one / (2 * half_cosine a.0)) (root (one * one - half_cosine a.0 * half_cosine a.0)),
)

-- the pair of a quarter turn halved `k` times, that is of 2 ^ (30 - k) bits
unfoldable pub halved : ℕ → ℕ × ℕ
halved zero = (0, one)
halved (suc k) = half_pair (halved k)

-- the pair of the sum of two angles; a cosine below 0 counts as 0
abbrev pub sum_pair : ℕ × ℕ → ℕ × ℕ → ℕ × ℕ
sum_pair a b = ((a.0 * b.0 - a.1 * b.1) / one, (a.1 * b.0 + a.0 * b.1) / one)

-- the pair of an angle after the lowest `n` bits of `low` are added to it, the highest first
unfoldable pub with_bits : ℕ → ℕ → ℕ × ℕ → ℕ × ℕ
with_bits low zero a = a
with_bits low (suc j) a = with_bits low j (if nat_eq (low / 2 ^ j % 2) 1 then sum_pair a (halved (30 - j)) else a)

-- sine and cosine times 2 ^ 30, by those of the angle in the first quarter
abbrev pub in_quarter : ℕ → ℕ → ℕ → Point
in_quarter zero c s = (pos s, pos c)
in_quarter (suc zero) c s = (pos c, neg_ℤ (pos s))
in_quarter (suc (suc zero)) c s = (neg_ℤ (pos s), neg_ℤ (pos c))
in_quarter (suc (suc (suc _))) c s = (neg_ℤ (pos c), pos s)

-- the pair of an angle of at most a quarter turn
abbrev pub low_pair : ℕ → ℕ × ℕ
low_pair low = with_bits low 30 (one, 0)

-- the sine and the cosine of an angle, times 2 ^ 30
abbrev pub sin_cos : ℕ → Point
sin_cos bits =
    in_quarter (bits / 2 ^ 30) ((low_pair (bits % 2 ^ 30)).0 / 2 ^ 30) ((low_pair (bits % 2 ^ 30)).1 / 2 ^ 30)
