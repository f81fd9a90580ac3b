-- The direction of a vector, as a function.
use Rattle.std.specs.Prelude.{ℕ, zero, suc, ◌*◌, Bool, cond, leb, ℤ, pos, negsuc, neg_ℤ}
use Rattle.mesh_plane.specs.Plane.{Point, length_sq}

-- the greatest number up to `n` that passes the test, 0 where none does
unfoldable pub greatest : (ℕ → Bool) → ℕ → ℕ
greatest test zero = 0
greatest test (suc n) = cond (test (suc n)) (suc n) (greatest test n)

-- the greatest `j` for which `j / unit` is at most the share of a component of size `size` in a vector with the squared
-- length `square`
abbrev pub share_of : ℕ → ℕ → ℕ → ℕ
share_of unit square size = greatest (λ j. leb (j * j * square) (unit * unit * (size * size))) unit

-- that share with the component's sign
abbrev pub part_of : ℕ → ℕ → ℤ → ℤ
part_of unit square (pos x) = pos (share_of unit square x)
part_of unit square (negsuc x) = neg_ℤ (pos (share_of unit square (suc x)))

-- the direction of a vector other than 0
unfoldable pub direction_of : ℕ → Point → Point
direction_of unit v = (part_of unit (length_sq v) v.0, part_of unit (length_sq v) v.1)
