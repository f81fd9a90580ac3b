-- Lemmas over points and lists: how the waiting, live and held segments stand for a list of edges, step by step.
use Rattle.std.proofs.Common.{◌≡◌, Bool, true, false, cond, ◌&&◌, ◌||◌, not, sym, ◌∙◌, ap, refl, arith, List, [], ◌∷◌}
use Rattle.std.specs.Prelude.{ℤ, pos, ◌+ℤ◌, ◌-ℤ◌, ◌*ℤ◌, ◌≤ℤ◌, negsuc, int_lt, zero, suc}
use Rattle.std.proofs.lemmas.Int.{ints}
use Rattle.mesh_plane.specs.Plane.{Point, Edge}
use Rattle.mesh_plane.specs.Winding.{same_point}
use Rattle.mesh_plane.proofs.Whole.{linear, mul_add, mul_sub}
use Rattle.mesh_lattice.specs.Split.{same_ends, occurs, split_by}
use Rattle.mesh_lattice.specs.Counted.{Counted, bit, along, net, times}
use Rattle.mesh_store.specs.Steps.{IsTaken, IsPut, Puts, PutsPieces, AreCountOf, at_least_once}
use Rattle.mesh_lattice.proofs.Ends.{ends_self, ends_sym, ends_along, along_self}
use Rattle.mesh_lattice.proofs.Splits.{net_cut, occurs_cut, change}
use Rattle.mesh_lattice.proofs.Counts.{absent_net, bit_least, times_least, bit_most}

-- the same ends stand the same number of times
pub times_along : (q s : Edge) (ks : List Counted) → same_ends q s ≡ true → times q ks ≡ times s ks
times_along q s [] h = refl
times_along q s (k ∷ ks) h =
    let e : same_ends q k.0 ≡ same_ends s k.0 = ends_sym q k.0 ∙ sym (ends_along k.0 s q (ends_sym s q ∙ h)) ∙ ends_sym k.0 s in
    omega (arith, linear, ap bit e, times_along q s ks h)

-- ---- a held segment

pub bit_true : (b : Bool) → pos 1 ≤ℤ bit b → b ≡ true
bit_true true h = refl
bit_true false h = absurd (omega (arith, ints, h))

-- what is known of a held segment: it stands in the list of edges, nowhere else, and has its net count
pub record IsHeld (es : List Edge) (todo live : List Counted) (k : Counted) : Type 0 where
  pub stands : occurs k.0 es ≡ true
  pub waits : times k.0 todo ≡ pos 0
  pub lives : times k.0 live ≡ pos 0
  pub count : net k.0 es ≡ k.1

pub held_is : (es : List Edge) (todo live : List Counted) (k : Counted) (held : List Counted) → same_point k.0.0 k.0.1 ≡ false
    → AreCountOf es todo live (k ∷ held) → times k.0 held ≡ pos 0 → IsHeld es todo live k
held_is es todo live k held proper r alone =
    let here : bit (same_ends k.0 k.0) ≡ pos 1 = ap bit (ends_self k.0) in
    let some : pos 1 ≤ℤ bit (occurs k.0 es) = omega (arith, linear, r.once k.0, times_least k.0 todo, times_least k.0 live) in
    let most : bit (occurs k.0 es) ≤ℤ pos 1 = bit_most (occurs k.0 es) in
    let w : times k.0 todo ≡ pos 0 = omega (arith, linear, r.once k.0, times_least k.0 todo, times_least k.0 live) in
    let l : times k.0 live ≡ pos 0 = omega (arith, linear, r.once k.0, times_least k.0 todo, times_least k.0 live) in
    let unit : k.1 *ℤ along k.0 k.0 ≡ k.1 = rw (along_self k.0 proper) (omega (arith, ints)) in
    record {
      stands = bit_true (occurs k.0 es) some;
      waits = w;
      lives = l;
      count = omega (arith, linear, r.counts k.0, absent_net k.0 todo w, absent_net k.0 live l, absent_net k.0 held alone);
    }

-- ---- steps that move a segment

pub pop_count : (es : List Edge) (todo todo' live : List Counted) (k : Counted) (held : List Counted)
    → IsTaken todo todo' k → AreCountOf es todo live held → AreCountOf es todo' live (k ∷ held)
pop_count es todo todo' live k held t r = record {
  counts = λ q. omega (arith, linear, r.counts q, t (λ (j : Counted). j.1 *ℤ along q j.0));
  once = λ q. omega (arith, linear, r.once q, t (λ (j : Counted). bit (same_ends q j.0)));
}

pub take_count : (es : List Edge) (todo live live' : List Counted) (k : Counted) (held : List Counted)
    → IsTaken live live' k → AreCountOf es todo live held → AreCountOf es todo live' (k ∷ held)
take_count es todo live live' k held t r = record {
  counts = λ q. omega (arith, linear, r.counts q, t (λ (j : Counted). j.1 *ℤ along q j.0));
  once = λ q. omega (arith, linear, r.once q, t (λ (j : Counted). bit (same_ends q j.0)));
}

pub swap_count : (es : List Edge) (todo live : List Counted) (j k : Counted) (held : List Counted)
    → AreCountOf es todo live (j ∷ k ∷ held) → AreCountOf es todo live (k ∷ j ∷ held)
swap_count es todo live j k held r = record { counts = λ q. omega (arith, linear, r.counts q); once = λ q. omega (arith, linear, r.once q) }

pub keep_count : (es : List Edge) (todo live live' : List Counted) (k : Counted) (held : List Counted)
    → IsPut live live' k → AreCountOf es todo live (k ∷ held) → AreCountOf es todo live' held
keep_count es todo live live' k held t r = record {
  counts = λ q. omega (arith, linear, r.counts q, t (λ (j : Counted). j.1 *ℤ along q j.0));
  once = λ q. omega (arith, linear, r.once q, t (λ (j : Counted). bit (same_ends q j.0)));
}

-- ---- steps that put a segment

-- numbers of times: put once more where the ends stood nowhere
put_back : (b : Bool) (z h o : ℤ) → (b ≡ true → z ≡ pos 0) → z +ℤ (bit b +ℤ h) ≡ o → at_least_once b z +ℤ h ≡ o
put_back true z h o n e = rw (n refl) (omega (arith, linear, n refl))
put_back false z h o n e = omega (arith, linear)

-- a held segment is put back
pub put_count : (es : List Edge) (todo live todo' live' : List Counted) (k : Counted) (held : List Counted) → same_point k.0.0 k.0.1 ≡ false
    → times k.0 held ≡ pos 0
    → Puts todo live todo' live' k → AreCountOf es todo live (k ∷ held) → AreCountOf es todo' live' held
put_count es todo live todo' live' k held proper alone p r =
    let h = held_is es todo live k held proper r alone in
    record {
      counts = λ q. omega (arith, linear, r.counts q, p.counts q);
      once = λ q.
          let none : same_ends q k.0 ≡ true → times q todo +ℤ times q live ≡ pos 0 =
          λ e. omega (arith, linear, h.waits, h.lives, times_along q k.0 todo e, times_along q k.0 live e) in
          let now : (times q todo +ℤ times q live) +ℤ (bit (same_ends q k.0) +ℤ times q held) ≡ bit (occurs q es) = omega (arith, linear, r.once q) in
          omega (arith, linear, p.once q, put_back (same_ends q k.0) (times q todo +ℤ times q live) (times q held) (bit (occurs q es)) none now);
    }

-- ---- a held segment is cut

one_at_most : (z : ℤ) → pos 0 ≤ℤ z → z ≤ℤ pos 1 → cond (int_lt (pos 0) z) z (pos 1) ≡ pos 1
one_at_most (pos zero) l m = refl
one_at_most (pos (suc zero)) l m = refl
one_at_most (pos (suc (suc n))) l m = absurd (omega (arith, ints, m))
one_at_most (negsuc n) l m = absurd (omega (arith, ints, l))

twice : (a b : Bool) (z : ℤ) → pos 0 ≤ℤ z → z ≤ℤ pos 1 → at_least_once b (at_least_once a z) ≡ cond (a || b) (pos 1) z
twice true true z l m = ap (at_least_once true) (one_at_most z l m)
twice true false z l m = one_at_most z l m
twice false true z l m = one_at_most z l m
twice false false z l m = refl

once_after : (s x o : Bool) (z h : ℤ) → pos 0 ≤ℤ z → pos 0 ≤ℤ h → (x ≡ true → h ≡ pos 0) → z +ℤ (bit s +ℤ h) ≡ bit o
    → cond x (pos 1) z +ℤ h ≡ bit ((o && not s) || x)
once_after true true true z h l m n e = omega (arith, linear, n refl)
once_after true true false z h l m n e = omega (arith, linear, n refl)
once_after true false true z h l m n e = omega (arith, linear)
once_after true false false z h l m n e = absurd (omega (arith, ints, l, m, e))
once_after false true true z h l m n e = omega (arith, linear, n refl)
once_after false true false z h l m n e = omega (arith, linear, n refl)
once_after false false true z h l m n e = omega (arith, linear)
once_after false false false z h l m n e = omega (arith, linear)

once_cut : (s a b o p : Bool) (z h : ℤ) → pos 0 ≤ℤ z → pos 0 ≤ℤ h → p ≡ true → (a ≡ true → h ≡ pos 0) → (b ≡ true → h ≡ pos 0)
    → z +ℤ (bit s +ℤ h) ≡ bit o → at_least_once b (at_least_once a z) +ℤ h ≡ bit ((o && not s) || (p && (a || b)))
once_cut s a b o p z h l m t f g e =
    let top : z ≤ℤ pos 1 = omega (arith, linear, bit_least s, bit_most o) in
    let x : at_least_once b (at_least_once a z) ≡ cond (a || b) (pos 1) z = twice a b z l top in
    rw (x, t) (once_after s (a || b) o z h l m (either a b f g) e)
  where
    either : (a b : Bool) → (a ≡ true → h ≡ pos 0) → (b ≡ true → h ≡ pos 0) → (a || b) ≡ true → h ≡ pos 0
    either true b f g k = f refl
    either false b f g k = g k

pub cut_count : (es : List Edge) (todo live todo' live' : List Counted) (k : Counted) (c : Point) (held : List Counted) → same_point k.0.0 k.0.1 ≡ false
    → times (k.0.0, c) held ≡ pos 0 → times (c, k.0.1) held ≡ pos 0 → times k.0 held ≡ pos 0
    → PutsPieces todo live todo' live' k c → AreCountOf es todo live (k ∷ held) → AreCountOf (split_by (record { ends = k.0; at = c }) es) todo' live' held
cut_count es todo live todo' live' k c held proper first second alone p r =
    let h = held_is es todo live k held proper r alone in
    record {
      counts = λ q.
          let split : k.1 *ℤ change k.0 c q ≡ ((k.1 *ℤ along q (k.0.0, c)) +ℤ (k.1 *ℤ along q (c, k.0.1))) -ℤ (k.1 *ℤ along q k.0) =
          omega (arith, linear, mul_sub k.1 (along q (k.0.0, c) +ℤ along q (c, k.0.1)) (along q k.0), mul_add k.1 (along q (k.0.0, c)) (along q (c, k.0.1))) in
          let count : net k.0 es *ℤ change k.0 c q ≡ k.1 *ℤ change k.0 c q = ap (λ (n : ℤ). n *ℤ change k.0 c q) h.count in
          omega (arith, linear, r.counts q, p.first.counts q, p.second.counts q, net_cut q k.0 c es proper);
      once = λ q.
          let by : times q todo' +ℤ times q live' ≡ at_least_once (same_ends q (c, k.0.1)) (at_least_once (same_ends q (k.0.0, c)) (times q todo +ℤ times q live)) =
          p.second.once q ∙ ap (at_least_once (same_ends q (c, k.0.1))) (p.first.once q) in
          let low : pos 0 ≤ℤ (times q todo +ℤ times q live) = omega (arith, linear, times_least q todo, times_least q live) in
          let now : (times q todo +ℤ times q live) +ℤ (bit (same_ends q k.0) +ℤ times q held) ≡ bit (occurs q es) = omega (arith, linear, r.once q) in
          rw (by, occurs_cut q k.0 c es)
          (once_cut (same_ends q k.0) (same_ends q (k.0.0, c)) (same_ends q (c, k.0.1)) (occurs q es) (occurs k.0 es)
          (times q todo +ℤ times q live) (times q held) low (times_least q held) h.stands
          (λ e. times_along q (k.0.0, c) held e ∙ first) (λ e. times_along q (c, k.0.1) held e ∙ second) now);
    }
