-- Lemmas over lists: segments that wait and live, as they are made live, split, and made to wait again.
use Rattle.std.proofs.Common.{◌≡◌, ⊎_elim, true, false, sym, ◌∙◌, ap, subst, arith, List, []}
use Rattle.std.specs.Prelude.{pos, ◌<ℤ◌, ◌*ℤ◌}
use Rattle.std.proofs.lemmas.Bool.{cases_Bool}
use Rattle.mesh_plane.specs.Plane.{Point, Edge}
use Rattle.mesh_plane.proofs.Whole.{linear}
use Rattle.mesh_lattice.specs.Counted.{Counted, along, bit, times}
use Rattle.mesh_lattice.specs.Split.{same_edge, same_ends, occurs, EdgeSplit, after, Meets}
use Rattle.mesh_lattice.proofs.Counts.{times_least, bit_most}
use Rattle.mesh_lattice.proofs.Ends.{decides_edge, ends_self}
use Rattle.mesh_split.specs.Growth.{Waits}
use Rattle.mesh_store.specs.Steps.{exactly, AreSame, IsTaken, IsPut, IsPile, StandOnce, Moves, Settles, weight}
use Rattle.mesh_split.proofs.Settling.{clear_self}
use Rattle.mesh_store.proofs.Stages.{pop_count, take_count, keep_count}
use Rattle.mesh_split.proofs.Starting.{settled_reached, settled_weight}

-- ---- no ends stand twice

pub pile_once : (given : List Edge) (ks : List EdgeSplit) (todo live : List Counted) → IsPile given ks todo live → StandOnce todo live
pile_once given ks todo live p =
    let r = p.reached in
    record { most = λ q. omega (arith, linear, r.count.once q, bit_most (occurs q (after ks given))) }

pub once_absent : (old todo live : List Counted) (k : Counted) → IsTaken old todo k → StandOnce old live → times k.0 live ≡ pos 0
once_absent old todo live k e h =
    omega (arith, linear, h.most k.0, e (λ (j : Counted). bit (same_ends k.0 j.0)), ap bit (ends_self k.0), times_least k.0 todo, times_least k.0 live)

pub once_moved : (old todo live live' : List Counted) (k : Counted) → IsTaken old todo k → IsPut live live' k → StandOnce old live → StandOnce todo live'
once_moved old todo live live' k e put h = record {
  most = λ q. omega (arith, linear, h.most q, e (λ (j : Counted). bit (same_ends q j.0)), put (λ (j : Counted). bit (same_ends q j.0)));
}

-- ---- steps

-- the same segments wait, in another order
pub pile_ordered : (given : List Edge) (ks : List EdgeSplit) (old new live : List Counted) → AreSame old new → IsPile given ks old live → IsPile given ks new live
pile_ordered given ks old new live s p =
    let r = p.reached in
    record {
      reached = record {
        legal = r.legal;
        count = record {
          counts = λ q. omega (arith, linear, r.count.counts q, s (λ (j : Counted). j.1 *ℤ along q j.0));
          once = λ q. omega (arith, linear, r.count.once q, s (λ (j : Counted). bit (same_ends q j.0)));
        };
      };
      light = omega (arith, linear, p.light, s weight);
    }

pub waits_ordered : (x : Edge) (old new : List Counted) → AreSame old new → Waits x new → Waits x old
waits_ordered x old new s w = subst (λ z. pos 0 <ℤ z) (s (λ (j : Counted). bit (same_edge x j.0))) w

-- a waiting segment was made live
pub pile_moved : (ks : List EdgeSplit) (old todo live live' : List Counted) (k : Counted) (given : List Edge) → IsTaken old todo k → IsPut live live' k
    → IsPile given ks old live → IsPile given ks todo live'
pile_moved ks old todo live live' k given e put p =
    let r = p.reached in
    let es = after ks given in
    record {
      reached = record { legal = r.legal; count = keep_count es todo live live' k [] put (pop_count es old todo live k [] e r.count) };
      light = omega (arith, linear, e weight, put weight, p.light);
    }

-- a waiting segment was made live or split
pub pile_stepped : (given : List Edge) (ks ks' : List EdgeSplit) (old todo live todo' live' : List Counted) (k : Counted) → IsTaken old todo k
    → Moves ks todo live ks' todo' live' k → IsPile given ks old live → IsPile given ks' todo' live'
pile_stepped given ks ks' old todo live todo' live' k e s p =
    let r = p.reached in
    record {
      reached = s.reached given (record { legal = r.legal; count = pop_count (after ks given) old todo live k [] e r.count });
      light = omega (arith, linear, s.weight_stays, e weight, p.light);
    }

-- a waiting segment was settled
pub pile_settled : (given : List Edge) (ks ks' : List EdgeSplit) (old todo live todo' live' : List Counted) (k : Counted) → IsTaken old todo k
    → Settles ks todo live ks' todo' live' k → IsPile given ks old live → IsPile given ks' todo' live'
pile_settled given ks ks' old todo live todo' live' k e s p = record {
  reached = settled_reached given ks ks' old todo live todo' live' k e s p.reached;
  light = settled_weight ks ks' old todo live todo' live' k _ e s p.light;
}

-- a live segment was taken and settled
pub pile_split : (ks ks' : List EdgeSplit) (todo live live1 todo' live' : List Counted) (k : Counted) (given : List Edge) → IsTaken live live1 k
    → Settles ks todo live1 ks' todo' live' k → IsPile given ks todo live → IsPile given ks' todo' live'
pile_split ks ks' todo live live1 todo' live' k given e s p =
    let r = p.reached in
    record {
      reached = s.reached given (record { legal = r.legal; count = take_count (after ks given) todo live live1 k [] e r.count });
      light = omega (arith, linear, s.weight_stays, e weight, p.light);
    }

-- the live segments wait again
pub pile_again : (given : List Edge) (ks ks' : List EdgeSplit) (todo live todo' live' : List Counted) → todo ≡ [] → todo' ≡ live → live' ≡ [] → ks' ≡ ks
    → IsPile given ks todo live → IsPile given ks' todo' live'
pile_again given ks ks' todo live todo' live' none same fresh log p =
    subst (λ (x : List EdgeSplit). IsPile given x todo' live') (sym log)
    (subst (λ (x : List Counted). IsPile given ks x live') (sym same)
    (subst (λ (x : List Counted). IsPile given ks live x) (sym fresh) (turned (subst (λ (x : List Counted). IsPile given ks x live) none p))))
  where
    turned : IsPile given ks [] live → IsPile given ks live []
    turned q =
        let r = q.reached in
        record {
          reached = record { legal = r.legal; count = record { counts = λ e. omega (arith, linear, r.count.counts e); once = λ e. omega (arith, linear, r.count.once e) } };
          light = omega (arith, linear, q.light);
        }

-- a segment that meets the one that was taken lives on
pub other_lives : (live live' : List Counted) (k : Counted) (e f : Edge) (c : Point) → IsTaken live live' k → k.0 ≡ e → Meets e f c
    → pos 0 <ℤ exactly f live → pos 0 <ℤ exactly f live'
other_lives live live' k e f c taken same m h =
    ⊎_elim
    (λ (t : same_edge f k.0 ≡ true).
    let one : f ≡ e = (decides_edge f k.0).0 t ∙ same in
    absurd (clear_self e c (subst (λ (x : Edge). Meets e x c) one m)))
    (λ (n : same_edge f k.0 ≡ false). omega (arith, linear, ap bit n, taken (λ (j : Counted). bit (same_edge f j.0))))
    (cases_Bool (same_edge f k.0))
