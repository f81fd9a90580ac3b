-- Lemmas over paths: any two are clear of each other once all pairs were looked at.
use Rattle.std.proofs.Common.{◌≡◌, ◌⊎◌, inl, inr, ⊎_elim, ℕ, ◌<◌, ◌≤◌, List, refl, subst, arith}
use Rattle.std.specs.List.{All, Contains}
use Rattle.std.specs.Prelude.{pos, ◌*ℤ◌, ◌≤ℤ◌}
use Rattle.std.proofs.lemmas.Int.{ints}
use Rattle.std.proofs.lemmas.List.Elements.{All-contains}
use Rattle.mesh_plane.specs.Plane.{Point, Edge}
use Rattle.mesh_plane.proofs.Whole.{linear, mul_le_mul_right}
use Rattle.mesh_pairs.specs.declared.pairs.Meeting.{Meeting}
use Rattle.mesh_pairs.specs.declared.pairs.Pairs.{Pairs}
use Rattle.mesh_pairs.specs.Laws.{spread}
use Rattle.mesh_pairs.specs.Pairs.{AreFound, IsOf, IsSettled, is_close, is_meeting, share_end, stay_clear}
use Rattle.mesh_paths.specs.declared.paths.Paths.{Paths}
use Rattle.mesh_paths.specs.Stops.{count_of, pieces_of, point_of}
use Rattle.mesh_check.specs.Bent.{line_of, AreClearPaths, IsBentBy}
use Rattle.mesh_check.specs.Heights.{units, IsNearLine}
use Rattle.mesh_check.proofs.ClearPaths.{own_clear, paths_swapped, stay_clear as kept_clear}
use Rattle.mesh_check.proofs.WholePaths.{whole_clear}
use Rattle.mesh_clear.specs.AllClear.{AreAllClear}
use Rattle.mesh_clear.specs.Private.Looking.{bend_at, AreBends, AreWhole, IsClearAtEnds, IsClearMeeting, IsClearPair}

near_within : (least most : ℕ) (e : Edge) (z : Point) → least ≤ most → IsNearLine least e z → IsNearLine most e z
unfolding units
near_within least most e z h near =
    let more : (pos least *ℤ pos (spread e)) ≤ℤ (pos most *ℤ pos (spread e)) = mul_le_mul_right (pos (spread e)) (pos least) (pos most) (omega (arith, ints)) (omega (arith, ints, h)) in
    record { low = omega (arith, linear, more, near.low); high = omega (arith, linear, more, near.high) }

-- what is bent by so many units is bent by no more than 8
bent_little : (p : Paths) (bends : List ℕ) (k : ℕ) → AreBends p bends → k < count_of p.stops → IsBentBy p k 8
bent_little p bends k are within i low = near_within (bend_at bends k) 8 (line_of p k) (point_of p.stops k i) (are.few k within) (are.bent k within i low)

both_or_not : (m n : ℕ) → (m ≡ 1) ⊎ (m ≡ 1 → ⊥) → (n ≡ 1) ⊎ (n ≡ 1 → ⊥) → ((m ≡ 1) × (n ≡ 1)) ⊎ (((m ≡ 1) × (n ≡ 1)) → ⊥)
both_or_not m n (inl h) (inl k) = inl (h, k)
both_or_not m n (inl h) (inr k) = inr (λ both. k both.1)
both_or_not m n (inr h) k = inr (λ both. h both.0)

one_or_not : (n : ℕ) → (n ≡ 1) ⊎ (n ≡ 1 → ⊥)
one_or_not n = grind arith

whole_or_cut : (m n : ℕ) → ((m ≡ 1) × (n ≡ 1)) ⊎ (((m ≡ 1) × (n ≡ 1)) → ⊥)
whole_or_cut m n = both_or_not m n (one_or_not m) (one_or_not n)

module _ (p : Paths) (pairs : Pairs) (bends : List ℕ) (found : AreFound p.edges.items pairs) (are : AreBends p bends)
    (met : All (IsClearMeeting p) pairs.meetings.items) (close : All (IsClearPair p) pairs.close.items)
    (joined : (j : ℕ) → j < count_of p.stops → IsClearAtEnds p j) where
  met_clear : (j k : ℕ) (m : Meeting) → Contains pairs.meetings.items m → IsOf m j k → AreClearPaths p j k
  met_clear j k m here (inl is) =
      subst (λ (n : ℕ). AreClearPaths p n k) is.0 (subst (λ (n : ℕ). AreClearPaths p m.first n) is.1 (All-contains (IsClearMeeting p) pairs.meetings.items m met here))
  met_clear j k m here (inr is) =
      paths_swapped p k j
      (subst (λ (n : ℕ). AreClearPaths p n j) is.0 (subst (λ (n : ℕ). AreClearPaths p m.first n) is.1 (All-contains (IsClearMeeting p) pairs.meetings.items m met here)))

  settled_clear : (j k : ℕ) → j < k → k < count_of p.stops → IsSettled p.edges.items pairs.meetings.items pairs.close.items j k → AreClearPaths p j k
  settled_clear j k order within (is_meeting {m} here is) = met_clear j k m here is
  settled_clear j k order within (is_close here) = All-contains (IsClearPair p) pairs.close.items (j, k) close here
  settled_clear j k order within (stay_clear clear) =
      kept_clear p j k 8 are.fit.paths (omega arith) within (bent_little p bends j are (omega arith)) (bent_little p bends k are within) clear
  settled_clear j k order within (share_end shared clear) =
      ⊎_elim
      (λ (whole : AreWhole p j k). whole_clear p j k are.fit.paths (omega (arith, order, within)) within whole.0 whole.1 clear)
      (λ (cut : AreWhole p j k → ⊥). joined j (omega (arith, order, within)) k order within shared cut)
      (whole_or_cut (pieces_of p.stops j) (pieces_of p.stops k))

  ordered_clear : (j k : ℕ) → j < k → k < count_of p.stops → AreClearPaths p j k
  ordered_clear j k order within = settled_clear j k order within (found.settled j k order (omega (arith, within, are.fit.paths.filed.count)))

  pub all_clear : AreAllClear p
  all_clear a b a_is b_is = by (in_order a.path b.path) a b a_is b_is refl refl
    where
      in_order : (j k : ℕ) → (j ≡ k) ⊎ ((j < k) ⊎ (k < j))
      in_order j k = grind arith

      by : (a.path ≡ b.path) ⊎ ((a.path < b.path) ⊎ (b.path < a.path)) → AreClearPaths p a.path b.path
      by (inl same) =
          subst (λ (n : ℕ). AreClearPaths p a.path n) same (own_clear p a.path (bend_at bends a.path) are.fit.paths a_is.path (are.bent a.path a_is.path))
      by (inr (inl order)) = ordered_clear a.path b.path order b_is.path
      by (inr (inr order)) = paths_swapped p b.path a.path (ordered_clear b.path a.path order a_is.path)
