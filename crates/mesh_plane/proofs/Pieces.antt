-- Lemmas over points and lists: sums over the boundaries of fans, and how many pieces hold a point.
use Rattle.std.proofs.Common.{◌≡◌, ℕ, List, [], ◌∷◌, inl, inr, refl, arith}
use Rattle.std.specs.Prelude.{ℤ, pos, negsuc, ◌+ℤ◌, ◌≤ℤ◌, neg_ℤ, not, cond, count_by}
use Rattle.std.specs.List.{All}
use Rattle.std.specs.Ordering.{int_eq}
use Rattle.std.proofs.lemmas.List.Sums.{sum_by-cons}
use Rattle.std.proofs.lemmas.List.Elements.{All-nil, All-cons, All-head, All-tail}
use Rattle.std.proofs.lemmas.Int.{ints}
use Rattle.mesh_plane.specs.Plane.{Point, Edge, turn}
use Rattle.mesh_plane.specs.Winding.{sum_of, total, route, boundary, fan, pieces_total, crossing_on, winding, holds, IsBit, IsOdd}
use Rattle.mesh_plane.proofs.Whole.{linear}
use Rattle.mesh_plane.proofs.Triangles.{triangle_winds, triangle_winds_back}

-- the inner sides of a fan are passed in both directions
pub fan_total : (f : Point → Point → ℤ) → IsOdd f → (v a : Point) (xs : List Point) (z : Point) →
    pieces_total f (fan v (route a xs z)) ≡ (f v a +ℤ total f (route a xs z)) +ℤ f z v
fan_total f odd v a [] z = omega (arith, linear)
fan_total f odd v a (x ∷ xs) z = omega (arith, linear, fan_total f odd v x xs z, odd x v)

bit_is : (z : ℤ) → IsBit z → z ≡ pos (cond (not (int_eq z (pos 0))) 1 0)
bit_is z (inl e) = rw e
bit_is z (inr e) = rw e

opposite_bit_is : (z : ℤ) → IsBit (neg_ℤ z) → z ≡ neg_ℤ (pos (cond (not (int_eq z (pos 0))) 1 0))
opposite_bit_is z (inl e) = let k : z ≡ pos 0 = omega (arith, linear) in rw k
opposite_bit_is z (inr e) = let k : z ≡ negsuc 0 = omega (arith, linear) in rw k

-- a sum of bits is the number of those that are not 0
pub bits_counted : {A : Type 0} (w : A → ℤ) (xs : List A) → All (λ x. IsBit (w x)) xs →
    sum_of w xs ≡ pos (count_by (λ x. not (int_eq (w x) (pos 0))) xs)
bits_counted w [] h = refl
bits_counted w (x ∷ xs) h =
    omega (
      arith,
      ints,
      bits_counted w xs (All-tail (λ x. IsBit (w x)) x xs h),
      bit_is (w x) (All-head (λ x. IsBit (w x)) x xs h),
      sum_by-cons (λ x. cond (not (int_eq (w x) (pos 0))) 1 0) x xs,
    )

pub opposite_bits_counted : {A : Type 0} (w : A → ℤ) (xs : List A) → All (λ x. IsBit (neg_ℤ (w x))) xs →
    sum_of w xs ≡ neg_ℤ (pos (count_by (λ x. not (int_eq (w x) (pos 0))) xs))
opposite_bits_counted w [] h = refl
opposite_bits_counted w (x ∷ xs) h =
    omega (
      arith,
      ints,
      opposite_bits_counted w xs (All-tail (λ x. IsBit (neg_ℤ (w x))) x xs h),
      opposite_bit_is (w x) (All-head (λ x. IsBit (neg_ℤ (w x))) x xs h),
      sum_by-cons (λ x. cond (not (int_eq (w x) (pos 0))) 1 0) x xs,
    )

-- pieces that wind 0 or 1 times round a point: their sum is the number of those that hold it
pub pieces_counted : (m : ℕ) (q : Point) (pieces : List (List Point)) → All (λ piece. IsBit (winding m q (boundary piece))) pieces →
    pieces_total (crossing_on m q) pieces ≡ pos (count_by (holds m q) pieces)
pieces_counted m q pieces h = bits_counted (λ piece. winding m q (boundary piece)) pieces h

pub opposite_pieces_counted : (m : ℕ) (q : Point) (pieces : List (List Point)) → All (λ piece. IsBit (neg_ℤ (winding m q (boundary piece)))) pieces →
    pieces_total (crossing_on m q) pieces ≡ neg_ℤ (pos (count_by (holds m q) pieces))
opposite_pieces_counted m q pieces h = opposite_bits_counted (λ piece. winding m q (boundary piece)) pieces h

-- the triangles of a fan in which no neighbours turn back round `v`
pub fan_winds : (m : ℕ) (q v : Point) (es : List Edge) → All (λ (e : Edge). pos 0 ≤ℤ turn v e.0 e.1) es →
    All (λ piece. IsBit (winding m q (boundary piece))) (fan v es)
fan_winds m q v [] h = All-nil (λ piece. IsBit (winding m q (boundary piece)))
fan_winds m q v (e ∷ es) h =
    All-cons (λ piece. IsBit (winding m q (boundary piece))) (v ∷ e.0 ∷ e.1 ∷ []) (fan v es)
    (triangle_winds m q v e.0 e.1 (All-head (λ (e : Edge). pos 0 ≤ℤ turn v e.0 e.1) e es h))
    (fan_winds m q v es (All-tail (λ (e : Edge). pos 0 ≤ℤ turn v e.0 e.1) e es h))

pub fan_winds_back : (m : ℕ) (q v : Point) (es : List Edge) → All (λ (e : Edge). turn v e.0 e.1 ≤ℤ pos 0) es →
    All (λ piece. IsBit (neg_ℤ (winding m q (boundary piece)))) (fan v es)
fan_winds_back m q v [] h = All-nil (λ piece. IsBit (neg_ℤ (winding m q (boundary piece))))
fan_winds_back m q v (e ∷ es) h =
    All-cons (λ piece. IsBit (neg_ℤ (winding m q (boundary piece)))) (v ∷ e.0 ∷ e.1 ∷ []) (fan v es)
    (triangle_winds_back m q v e.0 e.1 (All-head (λ (e : Edge). turn v e.0 e.1 ≤ℤ pos 0) e es h))
    (fan_winds_back m q v es (All-tail (λ (e : Edge). turn v e.0 e.1 ≤ℤ pos 0) e es h))
