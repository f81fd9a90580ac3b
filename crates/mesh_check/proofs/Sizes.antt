-- Lemmas over points: how far beside the line of an edge a point lies, by the size of the turn.
use Rattle.std.proofs.Common.{◌≡◌, ◌⊎◌, inl, inr, ℕ, ◌+◌, ◌-◌, ◌*◌, ◌<◌, ◌≤◌, sym, ◌∙◌, ap, subst, arith}
use Rattle.std.specs.Prelude.{ℤ, pos, negsuc, ◌≤ℤ◌, ◌<ℤ◌, neg_ℤ, unsigned_abs}
use Rattle.std.proofs.lemmas.Int.{ints}
use Rattle.mesh_plane.specs.Plane.{Point, Edge, turn}
use Rattle.mesh_pairs.specs.Laws.{spread}
use Rattle.mesh_points.specs.Points.{point_at}
use Rattle.mesh_paths.specs.declared.paths.Paths.{Paths}
use Rattle.mesh_paths.specs.Paths.{ArePaths}
use Rattle.mesh_paths.specs.Stops.{count_of, pieces_of, point_of, stop_of}
use Rattle.mesh_check.specs.Bent.{line_of, IsBentBy}
use Rattle.mesh_check.specs.Heights.{units, IsFarFromLine, IsNearLine}

far_plain : (m : ℕ) (z : ℤ) → m < unsigned_abs z → (z <ℤ neg_ℤ (pos m)) ⊎ (pos m <ℤ z)
far_plain m (pos n) h = inr (omega (arith, ints))
far_plain m (negsuc n) h = inl (omega (arith, ints))

far_by : (k : ℕ) (e : Edge) (p : Point) → k * spread e < unsigned_abs (turn e.0 e.1 p) → IsFarFromLine k e p
unfolding units
far_by k e p h = far_plain (k * spread e) (turn e.0 e.1 p) h

pub far_of_size : (k s n : ℕ) (e : Edge) (p : Point) → s ≡ spread e → n ≡ unsigned_abs (turn e.0 e.1 p) → k * s < n → IsFarFromLine k e p
far_of_size k s n e p spread_is size_is far =
    far_by k e p (subst (λ (m : ℕ). k * m < unsigned_abs (turn e.0 e.1 p)) spread_is (subst (λ (m : ℕ). k * s < m) size_is far))

near_plain : (m : ℕ) (z : ℤ) → unsigned_abs z ≤ m → (neg_ℤ (pos m) ≤ℤ z) × (z ≤ℤ pos m)
near_plain m z h = (omega (arith, ints), omega (arith, ints))

pub near_of_size : (k : ℕ) (e : Edge) (p : Point) → unsigned_abs (turn e.0 e.1 p) ≤ k * spread e → IsNearLine k e p
unfolding units
near_of_size k e p h =
    let both = near_plain (k * spread e) (turn e.0 e.1 p) h in
    record { low = both.0; high = both.1 }

-- what holds of the number before one holds of the one that it follows
pub before_at : (P : ℕ → Type 0) (place j : ℕ) → P (place - 1) → j + 1 ≡ place → P j
before_at P place j h follows =
    let is : place - 1 ≡ j = omega (arith, follows) in
    subst P is h

-- a path is bent by so many units
pub bent_of : (p : Paths) (path k most s place : ℕ) (e : Edge) → e ≡ line_of p path
    → ((i : ℕ) → i < place → unsigned_abs (turn e.0 e.1 (point_of p.stops path i)) ≤ most)
    → pieces_of p.stops path < place → most ≤ k * s → s ≡ spread e → IsBentBy p path k
bent_of p path k most s place e is sizes all rise spread_is i low =
    let high : most ≤ k * spread e = subst (λ (m : ℕ). most ≤ k * m) spread_is rise in
    subst (λ (g : Edge). IsNearLine k g (point_of p.stops path i)) is (near_of_size k e (point_of p.stops path i) (omega (arith, high, sizes i (omega (arith, all, low)))))

-- stops of one number are one point
pub same_stop : (p : Paths) (j k first second : ℕ) → ArePaths p → j < count_of p.stops → k < count_of p.stops → first ≤ pieces_of p.stops j → second ≤ pieces_of p.stops k
    → (stop_of p.stops j first).id ≡ (stop_of p.stops k second).id → point_of p.stops j first ≡ point_of p.stops k second
same_stop p j k first second paths j_low k_low first_low second_low same =
    let a = paths.filed.numbered j first j_low first_low in
    let b = paths.filed.numbered k second k_low second_low in
    sym a.at ∙ (ap (point_at p.points) same ∙ b.at)
