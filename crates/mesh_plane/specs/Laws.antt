-- Laws of crossings, windings, balance and rounded quotients. The function of the same name in the module `laws`
-- carries each.
use Rattle.std.specs.Prelude.{ℕ, ◌≡◌, [], ◌∷◌, pos, ◌≤ℤ◌, List, ℤ, ◌-ℤ◌, ◌+◌, ◌*◌, ◌<◌, ◌≤◌, unsigned_abs, neg_ℤ}
use Rattle.mesh_plane.specs.Plane.{Point, turn, plus, Edge, dot, length_sq}
use Rattle.mesh_plane.specs.Winding.{crossing_on, IsOdd, IsStraight, winding, boundary, IsBit, IsBalanced, sum_of}
use Rattle.mesh_plane.specs.Signs.{HasSignOf}
use Rattle.mesh_plane.specs.Rounding.{rounded}

-- an edge and the same edge back cross nothing together
abbrev pub CrossingsAreOdd : Type 0
CrossingsAreOdd = (m : ℕ) (q : Point) → IsOdd (crossing_on m q)

-- a point on the line through the ends of an edge parts it into two edges that cross what it crosses
abbrev pub CrossingsAddAlongLines : Type 0
CrossingsAddAlongLines = (m : ℕ) (q : Point) → IsStraight (crossing_on m q)

-- a triangle with its corners on one line winds round no point
abbrev pub FlatTrianglesDoNotWind : Type 0
FlatTrianglesDoNotWind =
    (m : ℕ) (q p r s : Point) → turn p r s ≡ pos 0 → winding m q (boundary (p ∷ r ∷ s ∷ [])) ≡ pos 0

-- a triangle that does not turn right winds once round a point or not at all
abbrev pub TrianglesWindOnce : Type 0
TrianglesWindOnce = (m : ℕ) (q p r s : Point) → pos 0 ≤ℤ turn p r s → IsBit (winding m q (boundary (p ∷ r ∷ s ∷ [])))

-- so does a parallelogram, given by its corners in order
abbrev pub ParallelogramsWindOnce : Type 0
ParallelogramsWindOnce =
    (m : ℕ) (q a b c d : Point) → plus a c ≡ plus b d → pos 0 ≤ℤ turn a b d
    → IsBit (winding m q (boundary (a ∷ b ∷ c ∷ d ∷ [])))

-- the edges of a closed list of points start where they end
abbrev pub ClosedListsBalance : Type 0
ClosedListsBalance = (points : List Point) → IsBalanced (boundary points)

-- the steps of any measure round a closed list cancel
abbrev pub ClosedListsTelescope : Type 0
ClosedListsTelescope =
    (f : Point → ℤ) (points : List Point) → sum_of (λ (e : Edge). f e.1 -ℤ f e.0) (boundary points) ≡ pos 0

-- the square of a length is the vector's product with itself
abbrev pub LengthsAreProducts : Type 0
LengthsAreProducts = (v : Point) → dot v v ≡ pos (length_sq v)

-- `k` is the whole number next to `a / d`, on the same side of 0 and at most a half away; of two that are a half away
-- the one farther from 0
pub record IsNearest (a : ℤ) (d : ℕ) (k : ℤ) : Type 0 where
  pub sign : HasSignOf a k
  pub at_most : 2 * (unsigned_abs k * d) ≤ 2 * unsigned_abs a + d
  pub above : 2 * unsigned_abs a < 2 * (unsigned_abs k * d) + d

-- a rounded quotient is the nearest whole number
abbrev pub RoundedIsNearest : Type 0
RoundedIsNearest = (a : ℤ) (d : ℕ) → 0 < d → IsNearest a d (rounded a d)

-- the opposite number has the opposite quotient
abbrev pub RoundedIsOdd : Type 0
RoundedIsOdd = (a : ℤ) (d : ℕ) → 0 < d → rounded (neg_ℤ a) d ≡ neg_ℤ (rounded a d)

-- a greater number has no smaller quotient
abbrev pub RoundedIsMonotone : Type 0
RoundedIsMonotone = (a b : ℤ) (d : ℕ) → 0 < d → a ≤ℤ b → rounded a d ≤ℤ rounded b d
