-- Lemmas over points and lists: a segment put in, as it is or turned over, and the two pieces of a cut.
use Rattle.std.proofs.Common.{◌≡◌, ◌⊎◌, inl, inr, ⊎_elim, ℕ, ◌+◌, ◌-◌, ◌*◌, ◌≤◌, Bool, true, false, cond, ◌||◌, sym, ◌∙◌, ap, subst, refl, arith, List, [], ◌∷◌, max}
use Rattle.std.specs.Prelude.{ℤ, pos, ◌+ℤ◌, ◌*ℤ◌, ◌≤ℤ◌, ◌<ℤ◌, neg_ℤ, unsigned_abs, int_lt}
use Rattle.std.proofs.lemmas.Bool.{both_ways, cases_Bool}
use Rattle.std.proofs.Math.Nat.{mul-le-mul_right}
use Rattle.std.proofs.lemmas.Int.{ints}
use mir.Syntax.{w128}
use mir.Val.{to_z, of_z}
use Rattle.mesh_plane.specs.Plane.{Point, Edge}
use Rattle.mesh_plane.specs.Winding.{same_point}
use Rattle.mesh_plane.proofs.Whole.{linear, add_mul, neg_mul_neg}
use Rattle.mesh_lattice.specs.Split.{back, same_edge, same_ends, is_end, IsInBox}
use Rattle.mesh_lattice.specs.Counted.{Counted, bit, along, times}
use Rattle.mesh_store.specs.Steps.{exactly, IsRaised, IsNew, IsKept, IsTaken, Puts, PutsPieces, at_least_once, extent, weight, waiting_work, live_work, total_weight, HaveRoom}
use Rattle.mesh_lattice.proofs.Ends.{decides_end, ends_turned, along_turned}
use Rattle.mesh_store.proofs.Extents.{extent_split, extent_least}
use Rattle.mesh_lattice.proofs.Counts.{bit_least, times_least}
use Rattle.mesh_store.proofs.Stages.{times_along}
use Rattle.mesh_store.proofs.Entries.{count_kept}
use Rattle.mesh_plane.proofs.Comparing.{decides_point}
use Rattle.mesh_store.proofs.Room.{size_weight, sizes_weights, weights_least}
use Rattle.mesh_plane.proofs.Sizes.{size_neg}
use Rattle.mesh_lattice.specs.Counted.{IsRoomy}

-- ---- counts

edge_ends : (e f : Edge) → same_edge e f ≡ true → same_ends e f ≡ true
unfolding same_ends
edge_ends e f t = λ i. t i || same_edge e (back f)

-- ends that stand at least once, and no less often once they are put again
pub positive_times : (e : Edge) (ks : List Counted) → pos 0 <ℤ exactly e ks → pos 0 <ℤ times e ks
positive_times e [] h = absurd (omega (arith, ints, h))
positive_times e (k ∷ ks) h =
    ⊎_elim
    (λ (t : same_edge e k.0 ≡ true).
    let one = ap bit (edge_ends e k.0 t) in
    omega (arith, linear, one, times_least e ks))
    (λ (n : same_edge e k.0 ≡ false).
    let rest : pos 0 <ℤ exactly e ks = omega (arith, linear, ap bit n) in
    omega (arith, linear, bit_least (same_ends e k.0), positive_times e ks rest))
    (cases_Bool (same_edge e k.0))

once_raised : (b : Bool) (z : ℤ) → (b ≡ true → pos 0 <ℤ z) → at_least_once b z ≡ z
once_raised true z h = ap (λ (t : Bool). cond t z (pos 1)) (above z (h refl))
  where
    above : (z : ℤ) → pos 0 <ℤ z → int_lt (pos 0) z ≡ true
    above z h = grind (arith, ints)
once_raised false z h = refl

once_new : (b : Bool) (z : ℤ) → (b ≡ true → z ≡ pos 0) → z +ℤ bit b ≡ at_least_once b z
once_new true z h = rw (h refl) refl
once_new false z h = omega (arith, linear)

-- the weight of a sum of counts is at most the sum of the weights
weight_sum : (e : Edge) (m n : ℤ) → weight (e, m +ℤ n) ≤ℤ (weight (e, m) +ℤ weight (e, n))
weight_sum e m n = scaled (max 1 (extent e))
  where
    parts : unsigned_abs (m +ℤ n) ≤ unsigned_abs m + unsigned_abs n
    parts = omega (arith, ints)

    scaled : (w : ℕ) → pos (unsigned_abs (m +ℤ n) * w) ≤ℤ (pos (unsigned_abs m * w) +ℤ pos (unsigned_abs n * w))
    scaled w = omega (arith, ints, mul-le-mul_right w parts)

pub weight_one : (k : Counted) → pos 0 ≤ℤ weight k
weight_one k = omega (arith, ints)

-- a live segment's count was raised
pub raised_live : (todo live live' : List Counted) (k : Counted) → IsRaised live live' k → Puts todo live todo live' k
raised_live todo live live' k r = record {
  counts = λ q. omega (arith, linear, r.totals (λ (j : Counted). j.1 *ℤ along q j.0), add_mul r.was k.1 (along q k.0));
  once = λ q.
      let stood : same_ends q k.0 ≡ true → pos 0 <ℤ (times q todo +ℤ times q live) =
      λ t. omega (arith, linear, times_along q k.0 live t, positive_times k.0 live r.stood, times_least q todo) in
      omega (arith, linear, r.totals (λ (j : Counted). bit (same_ends q j.0)), once_raised (same_ends q k.0) (times q todo +ℤ times q live) stood);
  work_grows = omega (arith, ints, r.totals live_work);
  weight_grows = omega (arith, linear, r.totals weight, weight_sum k.0 r.was k.1);
  live_ends = λ q. omega (arith, linear, r.totals (λ (j : Counted). bit (same_edge q j.0)));
}

-- a waiting segment's count was raised
pub raised_waiting : (todo live todo' : List Counted) (k : Counted) → IsRaised todo todo' k → Puts todo live todo' live k
raised_waiting todo live todo' k r = record {
  counts = λ q. omega (arith, linear, r.totals (λ (j : Counted). j.1 *ℤ along q j.0), add_mul r.was k.1 (along q k.0));
  once = λ q.
      let stood : same_ends q k.0 ≡ true → pos 0 <ℤ (times q todo +ℤ times q live) =
      λ t. omega (arith, linear, times_along q k.0 todo t, positive_times k.0 todo r.stood, times_least q live) in
      omega (arith, linear, r.totals (λ (j : Counted). bit (same_ends q j.0)), once_raised (same_ends q k.0) (times q todo +ℤ times q live) stood);
  work_grows = omega (arith, ints, r.totals waiting_work);
  weight_grows = omega (arith, linear, r.totals weight, weight_sum k.0 r.was k.1);
  live_ends = λ q. refl;
}

-- a segment was put to the waiting ones, whose ends did not stand
pub new_waiting : (todo live todo' : List Counted) (k : Counted) → times k.0 live ≡ pos 0 → IsNew todo todo' k → Puts todo live todo' live k
new_waiting todo live todo' k none n = record {
  counts = λ q. omega (arith, linear, n.totals (λ (j : Counted). j.1 *ℤ along q j.0));
  once = λ q.
      let stood : same_ends q k.0 ≡ true → times q todo +ℤ times q live ≡ pos 0 =
      λ t. omega (arith, linear, times_along q k.0 todo t, times_along q k.0 live t, n.absent) in
      omega (arith, linear, n.totals (λ (j : Counted). bit (same_ends q j.0)), once_new (same_ends q k.0) (times q todo +ℤ times q live) stood);
  work_grows = omega (arith, linear, n.totals waiting_work);
  weight_grows = omega (arith, linear, n.totals weight);
  live_ends = λ q. refl;
}

-- ---- a segment turned over

pub extent_turned : (e : Edge) → extent (back e) ≡ extent e
extent_turned e = omega (arith, ints)

pub weight_turned : (k : Counted) → weight (back k.0, neg_ℤ k.1) ≡ weight k
weight_turned k = λ i. pos (size_neg k.1 i * max 1 (extent_turned k.0 i))

pub puts_turned : (todo live todo' live' : List Counted) (k : Counted) → Puts todo live todo' live' (back k.0, neg_ℤ k.1) → Puts todo live todo' live' k
puts_turned todo live todo' live' k p = record {
  counts = λ q.
      let same : neg_ℤ k.1 *ℤ along q (back k.0) ≡ k.1 *ℤ along q k.0 = ap (λ (z : ℤ). neg_ℤ k.1 *ℤ z) (along_turned q k.0) ∙ neg_mul_neg k.1 (along q k.0) in
      omega (arith, linear, p.counts q);
  once = λ q. p.once q ∙ ap (λ (b : Bool). at_least_once b (times q todo +ℤ times q live)) (ends_turned q k.0);
  work_grows = omega (arith, linear, p.work_grows, ap (λ (n : ℕ). pos (4 * n - 2)) (extent_turned k.0));
  weight_grows = omega (arith, linear, p.weight_grows, weight_turned k);
  live_ends = p.live_ends;
}

-- ---- the pieces of a cut

pub first_proper : (c : Point) (e : Edge) → is_end c e ≡ false → same_point e.0 c ≡ false
first_proper c e h =
    ⊎_elim
    (λ (t : same_point e.0 c ≡ true). absurd (both_ways _ h ((decides_end c e).1 (inl (sym ((decides_point e.0 c).0 t))))))
    (λ (f : same_point e.0 c ≡ false). f)
    (cases_Bool (same_point e.0 c))

pub second_proper : (c : Point) (e : Edge) → is_end c e ≡ false → same_point c e.1 ≡ false
second_proper c e h =
    ⊎_elim
    (λ (t : same_point c e.1 ≡ true). absurd (both_ways _ h ((decides_end c e).1 (inr ((decides_point c e.1).0 t)))))
    (λ (f : same_point c e.1 ≡ false). f)
    (cases_Bool (same_point c e.1))

weight_parts : (n a b d : ℕ) → 1 ≤ a → 1 ≤ b → a + b ≡ d → n * max 1 a + n * max 1 b ≡ n * max 1 d
weight_parts n a b d h k e =
    let p : max 1 a ≡ a = omega arith in
    let q : max 1 b ≡ b = omega arith in
    let r : max 1 d ≡ a + b = omega arith in
    rw (p, q, r) (omega arith)

-- cutting leaves the weight as it is
pub weight_pieces : (k : Counted) (c : Point) → is_end c k.0 ≡ false → IsInBox k.0 c → weight ((k.0.0, c), k.1) +ℤ weight ((c, k.0.1), k.1) ≡ weight k
weight_pieces k c inner box =
    let e = weight_parts (unsigned_abs k.1) (extent (k.0.0, c)) (extent (c, k.0.1)) (extent k.0) (extent_least (k.0.0, c) (first_proper c k.0 inner)) (extent_least (c, k.0.1) (second_proper c k.0 inner)) (extent_split k.0 c box) in
    omega (arith, ints, e)

-- the work of the pieces is less than that of the segment, waiting or live
pub work_pieces : (e : Edge) (c : Point) → is_end c e ≡ false → IsInBox e c
    → (pos (4 * extent (e.0, c) - 2) +ℤ pos (4 * extent (c, e.1) - 2)) <ℤ pos (4 * extent e - 3)
work_pieces e c inner box =
    let a = extent_least (e.0, c) (first_proper c e inner) in
    let b = extent_least (c, e.1) (second_proper c e inner) in
    let s = extent_split e c box in
    parts (extent (e.0, c)) (extent (c, e.1)) (extent e) a b s
  where
    parts : (a b d : ℕ) → 1 ≤ a → 1 ≤ b → a + b ≡ d → (pos (4 * a - 2) +ℤ pos (4 * b - 2)) <ℤ pos (4 * d - 3)
    parts a b d h k e = omega (arith, ints)

-- ---- room for the counts

pub room_live : (todo live : List Counted) (k : Counted) → IsRoomy (total_weight todo live +ℤ weight k) → HaveRoom live k
room_live todo live k h = omega (arith, linear, sizes_weights live, size_weight k, weights_least todo)

pub room_waiting : (todo live : List Counted) (k : Counted) → IsRoomy (total_weight todo live +ℤ weight k) → HaveRoom todo k
room_waiting todo live k h = omega (arith, linear, sizes_weights todo, size_weight k, weights_least live)

pub total_least : (todo live : List Counted) → pos 0 ≤ℤ total_weight todo live
total_least todo live = omega (arith, linear, weights_least todo, weights_least live)

pub room_turned : (todo live : List Counted) (k j : Counted) → j ≡ (back k.0, neg_ℤ k.1) → IsRoomy (total_weight todo live +ℤ weight k)
    → IsRoomy (total_weight todo live +ℤ weight j)
room_turned todo live k j e h = omega (arith, linear, ap weight e, weight_turned k)

-- a segment that was filed: a live one was raised, or there was none and the worklist took it
pub filed : (todo live todo' live' : List Counted) (k : Counted) → IsKept live live' k → (IsRaised todo todo' k ⊎ IsNew todo todo' k) → Puts todo live todo' live' k
filed todo live todo' live' k kept (inl r) = subst (λ (ks : List Counted). Puts todo live todo' ks k) (sym kept.same) (raised_waiting todo live todo' k r)
filed todo live todo' live' k kept (inr n) = subst (λ (ks : List Counted). Puts todo live todo' ks k) (sym kept.same) (new_waiting todo live todo' k kept.absent n)

pub puts_back : (todo live todo' live' : List Counted) (k j : Counted) → j ≡ (back k.0, neg_ℤ k.1) → Puts todo live todo' live' j → Puts todo live todo' live' k
puts_back todo live todo' live' k j e p = puts_turned todo live todo' live' k (subst (λ (x : Counted). Puts todo live todo' live' x) e p)

-- room for the two pieces of a cut, one after the other
pub room_first : (todo live : List Counted) (k : Counted) (c : Point) → is_end c k.0 ≡ false → IsInBox k.0 c → IsRoomy (total_weight todo live +ℤ weight k)
    → IsRoomy (total_weight todo live +ℤ weight ((k.0.0, c), k.1))
room_first todo live k c inner box h = omega (arith, linear, weight_pieces k c inner box, weight_one ((c, k.0.1), k.1))

pub room_second : (todo live todo' live' : List Counted) (k : Counted) (c : Point) → is_end c k.0 ≡ false → IsInBox k.0 c → IsRoomy (total_weight todo live +ℤ weight k)
    → Puts todo live todo' live' ((k.0.0, c), k.1) → IsRoomy (total_weight todo' live' +ℤ weight ((c, k.0.1), k.1))
room_second todo live todo' live' k c inner box h p = omega (arith, linear, weight_pieces k c inner box, p.weight_grows)

-- what 128 bits keep of a count that has room
pub room_kept : (todo live : List Counted) (k : Counted) → IsRoomy (total_weight todo live +ℤ weight k) → to_z w128 (of_z w128 k.1) ≡ k.1
room_kept todo live k h = count_kept live k (room_live todo live k h)

-- room after a live segment was taken in hand
pub room_taken : (todo live live' : List Counted) (k j : Counted) → IsTaken live live' j → IsRoomy (total_weight todo live +ℤ weight k)
    → IsRoomy (total_weight todo live' +ℤ weight k)
room_taken todo live live' k j t h = omega (arith, linear, t weight, weight_one j)

pub room_other : (todo live live1 todo' live' : List Counted) (k j : Counted) → IsTaken live live1 j → Puts todo live1 todo' live' k → IsRoomy (total_weight todo live +ℤ weight k)
    → IsRoomy (total_weight todo' live' +ℤ weight j)
room_other todo live live1 todo' live' k j t p h = omega (arith, linear, t weight, p.weight_grows)

pub room_pieces : (todo live live1 todo' live' : List Counted) (k j : Counted) (c : Point) → is_end c k.0 ≡ false → IsInBox k.0 c → IsTaken live live1 j
    → PutsPieces todo live1 todo' live' k c → IsRoomy (total_weight todo live +ℤ weight k) → IsRoomy (total_weight todo' live' +ℤ weight j)
room_pieces todo live live1 todo' live' k j c inner box t p h = omega (arith, linear, t weight, p.first.weight_grows, p.second.weight_grows, weight_pieces k c inner box)
