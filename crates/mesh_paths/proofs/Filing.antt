-- Lemmas over numbered stops and the passes through points.
use Rattle.std.proofs.Common.{◌≡◌, ◌≢◌, ◌⊎◌, inl, inr, ⊎_elim, ℕ, suc, ◌+◌, ◌-◌, ◌<◌, ◌≤◌, true, false, List, length, refl, sym, ◌∙◌, ap, subst, arith, add-one}
use Rattle.std.proofs.lemmas.Bool.{cases_Bool}
use Rattle.std.specs.declared.alloc.Global.{Global}
use Rattle.std.specs.Prelude.{Vec}
use Rattle.mesh_plane.specs.Plane.{Point, Edge}
use Rattle.mesh_lattice.specs.Split.{occurs, same_ends, split_by}
use Rattle.mesh_lattice.proofs.Ends.{decides_ends}
use Rattle.mesh_points.specs.declared.edges.NumberedEdge.{NumberedEdge}
use Rattle.mesh_points.specs.Points.{point_at, AreDistinct, IsNumberOf}
use Rattle.mesh_points.proofs.Merging.{one_number}
use Rattle.mesh_paths.specs.declared.paths.Paths.{Paths}
use Rattle.mesh_paths.specs.declared.stops.Stop.{Stop}
use Rattle.mesh_paths.specs.declared.stops.Stops.{Stops}
use Rattle.mesh_paths.specs.declared.through.Pass.{Pass}
use Rattle.mesh_paths.specs.Stops.{count_of, edges_along, path_of, pieces_of, point_of, stop_of, AreApart, IsBetweenIds, IsInserted}
use Rattle.mesh_paths.specs.Private.Cutting.{cut_of, IsInjective, IsStop}
use Rattle.mesh_paths.specs.Filed.{pass_of, AreFiled, AreListed, IsPassAdded, IsPassed}
use Rattle.mesh_paths.proofs.Along.{along_same, place_of, split_put, StandsAt}

same_or_not : (i j : ℕ) → (i ≡ j) ⊎ (i ≢ j)
same_or_not i j = grind arith

-- ---- stops and their numbers

-- stops of one number lie at one point, and the other way round
pub same_point : (p : Paths) (s t : Stop) → IsStop p s → IsStop p t → s.id ≡ t.id → s.at ≡ t.at
same_point p s t a b e = sym a.at ∙ (ap (point_at p.points) e ∙ b.at)

pub same_id : (p : Paths) (s t : Stop) → AreDistinct p.points → IsStop p s → IsStop p t → s.at ≡ t.at → s.id ≡ t.id
same_id p s t distinct a b e = one_number p.points t.at s.id t.id distinct (subst (λ (x : Point). IsNumberOf p.points x s.id) e a) b

module _ (p : Paths) (path : ℕ) (a b : Stop) (filed : AreFiled p) (within : path < count_of p.stops) (start : IsStop p a) (end : IsStop p b) where
  -- the piece between two numbers is the one between their points
  pub piece_same : (place : ℕ) → IsBetweenIds p.stops path a.id b.id place → same_ends (a.at, b.at) (point_of p.stops path place, point_of p.stops path (place + 1)) ≡ true
  piece_same place is = (decides_ends (a.at, b.at) (point_of p.stops path place, point_of p.stops path (place + 1))).1 (by is.ids)
    where
      first : IsStop p (stop_of p.stops path place)
      first = filed.numbered path place within (omega (arith, is.within))

      second : IsStop p (stop_of p.stops path (place + 1))
      second = filed.numbered path (place + 1) within (omega (arith, is.within))

      by : (((stop_of p.stops path place).id ≡ a.id) × ((stop_of p.stops path (place + 1)).id ≡ b.id))
          ⊎ (((stop_of p.stops path place).id ≡ b.id) × ((stop_of p.stops path (place + 1)).id ≡ a.id))
          → (◌≡◌ {A = Edge} (a.at, b.at) (point_of p.stops path place, point_of p.stops path (place + 1)))
          ⊎ (◌≡◌ {A = Edge} (a.at, b.at) (point_of p.stops path (place + 1), point_of p.stops path place))
      by (inl h) =
          let x = same_point p a (stop_of p.stops path place) start first (sym h.0) in
          let y = same_point p b (stop_of p.stops path (place + 1)) end second (sym h.1) in
          inl (λ i. (x i, y i))
      by (inr h) =
          let x = same_point p a (stop_of p.stops path (place + 1)) start second (sym h.1) in
          let y = same_point p b (stop_of p.stops path place) end first (sym h.0) in
          inr (λ i. (x i, y i))

  -- where a segment stands in a path, by numbers
  pub ids_of : (at : StandsAt (a.at, b.at) (point_of p.stops path) (pieces_of p.stops path)) → IsBetweenIds p.stops path a.id b.id at.place
  ids_of at = record { within = at.within; ids = by ((decides_ends (a.at, b.at) (point_of p.stops path at.place, point_of p.stops path (suc at.place))).0 at.same) }
    where
      first : IsStop p (stop_of p.stops path at.place)
      first = filed.numbered path at.place within (omega (arith, at.within))

      second : IsStop p (stop_of p.stops path (at.place + 1))
      second = filed.numbered path (at.place + 1) within (omega (arith, at.within))

      one : point_of p.stops path (suc at.place) ≡ point_of p.stops path (at.place + 1)
      one = ap (point_of p.stops path) (sym (add-one at.place))

      by : (◌≡◌ {A = Edge} (a.at, b.at) (point_of p.stops path at.place, point_of p.stops path (suc at.place)))
          ⊎ (◌≡◌ {A = Edge} (a.at, b.at) (point_of p.stops path (suc at.place), point_of p.stops path at.place))
          → (((stop_of p.stops path at.place).id ≡ a.id) × ((stop_of p.stops path (at.place + 1)).id ≡ b.id))
          ⊎ (((stop_of p.stops path at.place).id ≡ b.id) × ((stop_of p.stops path (at.place + 1)).id ≡ a.id))
      by (inl h) = inl (
        sym (same_id p a (stop_of p.stops path at.place) filed.distinct start first (ap (λ (v : Edge). v.0) h)),
        sym (same_id p b (stop_of p.stops path (at.place + 1)) filed.distinct end second (ap (λ (v : Edge). v.1) h ∙ one)),
      )
      by (inr h) = inr (
        sym (same_id p b (stop_of p.stops path at.place) filed.distinct end first (ap (λ (v : Edge). v.1) h)),
        sym (same_id p a (stop_of p.stops path (at.place + 1)) filed.distinct start second (ap (λ (v : Edge). v.0) h ∙ one)),
      )

  -- a path that has no piece between two numbers has none between their points
  pub none_between : ((k : ℕ) → IsBetweenIds p.stops path a.id b.id k → ⊥) → occurs (a.at, b.at) (path_of p.stops path) ≡ false
  none_between none =
      ⊎_elim
      (λ (t : occurs (a.at, b.at) (path_of p.stops path) ≡ true).
      let at = place_of (a.at, b.at) (point_of p.stops path) (pieces_of p.stops path) t in
      absurd (none at.place (ids_of at)))
      (λ (f : occurs (a.at, b.at) (path_of p.stops path) ≡ false). f)
      (cases_Bool (occurs (a.at, b.at) (path_of p.stops path)))

-- ---- a stop inserted

-- a stop of a path, wherever it stands
record IsOneOf (s : Stops) (path : ℕ) (stop : Stop) : Type 0 where
  pub place : ℕ
  pub within : place ≤ pieces_of s path
  pub same : stop ≡ stop_of s path place

module _ (old new : Stops) (path place : ℕ) (stop : Stop) (low : place < pieces_of old path) (inserted : IsInserted old new path place stop) where
  -- each stop is an old one of its path or the new one
  stop_from : (k i : ℕ) → k < count_of old → i ≤ pieces_of new k → IsOneOf old k (stop_of new k i) ⊎ ((k ≡ path) × (stop_of new k i ≡ stop))
  stop_from k i h l = by (same_or_not k path)
    where
      own : (i : ℕ) → i ≤ pieces_of new path → (i ≤ place) ⊎ ((i ≡ place + 1) ⊎ (place + 2 ≤ i)) → IsOneOf old path (stop_of new path i) ⊎ ((path ≡ path) × (stop_of new path i ≡ stop))
      own i l (inl m) = inl (record { place = i; within = omega arith; same = inserted.before i m })
      own i l (inr (inl m)) = inr (refl, ap (stop_of new path) m ∙ inserted.at)
      own i l (inr (inr m)) =
          let back : i ≡ (i - 1) + 1 = omega arith in
          inl (record { place = i - 1; within = omega (arith, inserted.pieces); same = ap (stop_of new path) back ∙ inserted.after (i - 1) (omega arith) (omega (arith, inserted.pieces)) })

      order : (i place : ℕ) → (i ≤ place) ⊎ ((i ≡ place + 1) ⊎ (place + 2 ≤ i))
      order i place = grind arith

      by : (k ≡ path) ⊎ (k ≢ path) → IsOneOf old k (stop_of new k i) ⊎ ((k ≡ path) × (stop_of new k i ≡ stop))
      by (inl e) =
          subst (λ (j : ℕ). IsOneOf old j (stop_of new j i) ⊎ ((j ≡ path) × (stop_of new j i ≡ stop))) (sym e)
          (own i (subst (λ (j : ℕ). i ≤ pieces_of new j) e l) (order i place))
      by (inr n) =
          let kept = inserted.others k h n in
          inl (record { place = i; within = omega (arith, kept.pieces); same = kept.stops i (omega (arith, kept.pieces)) })

  -- the pieces are split there
  pub path_inserted : (a b : Stop) → IsInjective (point_of old path) (pieces_of old path) → same_ends (a.at, b.at) (point_of old path place, point_of old path (place + 1)) ≡ true
      → path_of new path ≡ split_by (cut_of a b stop) (path_of old path)
  path_inserted a b once same =
      ap edges_of (inserted.pieces ∙ add-one (pieces_of old path))
      ∙ split_put (cut_of a b stop) (point_of old path) (point_of new path) (pieces_of old path) place once low
      (subst (λ (j : ℕ). same_ends (a.at, b.at) (point_of old path place, point_of old path j) ≡ true) (add-one place) same)
      (record {
        before = λ i h. ap (λ (s : Stop). s.at) (inserted.before i h);
        at = ap (point_of new path) (sym (add-one place)) ∙ ap (λ (s : Stop). s.at) inserted.at;
        after = λ i h l. ap (point_of new path) (sym (add-one i)) ∙ ap (λ (s : Stop). s.at) (inserted.after i h l);
      })
    where
      edges_of : ℕ → List Edge
      edges_of n = edges_along (point_of new path) n

  -- other paths have the same pieces
  pub path_kept : (k : ℕ) → k < count_of old → k ≢ path → path_of new k ≡ path_of old k
  path_kept k h n =
      let kept = inserted.others k h n in
      ap (edges_along (point_of new k)) kept.pieces ∙ along_same (point_of old k) (point_of new k) (pieces_of old k) (λ i l. ap (λ (s : Stop). s.at) (kept.stops i l))

-- what a cut path leaves of the paths
pub record IsCutAt (old new : Paths) (path place : ℕ) (stop : Stop) : Type 0 where
  pub apart : AreApart new.stops
  pub inserted : IsInserted old.stops new.stops path place stop
  pub edges : new.edges ≡ old.edges
  pub points : new.points ≡ old.points
  pub listed : AreListed new.through
  pub lists : length new.through.last.items ≡ length old.through.last.items
  pub added : IsPassAdded old.through new.through stop.id path

pub filed_cut : (old new : Paths) (path place : ℕ) (stop : Stop) → AreFiled old → path < count_of old.stops → place < pieces_of old.stops path → IsStop old stop
    → IsCutAt old new path place stop → AreFiled new
filed_cut old new path place stop filed within low number cut = record {
  count = cut.inserted.count ∙ (filed.count ∙ ap (λ (v : Vec NumberedEdge Global). length v.items) (sym cut.edges));
  apart = cut.apart;
  points = cut.lists ∙ (filed.points ∙ ap length (sym cut.points));
  distinct = subst AreDistinct (sym cut.points) filed.distinct;
  numbered = λ k i h l.
      subst (λ (ps : List Point). IsNumberOf ps (stop_of new.stops k i).at (stop_of new.stops k i).id) (sym cut.points)
      (numbered k i (omega (arith, cut.inserted.count)) (stop_from old.stops new.stops path place stop low cut.inserted k i (omega (arith, cut.inserted.count)) l));
  listed = cut.listed;
  passed = λ k i h l. passed k i (omega (arith, cut.inserted.count)) (stop_from old.stops new.stops path place stop low cut.inserted k i (omega (arith, cut.inserted.count)) l);
  real = λ k h. real k (below_or_at k (length old.through.passes.items) (omega (arith, cut.added.count)));
}
  where
    below_or_at : (k n : ℕ) → k < n + 1 → (k < n) ⊎ (k ≡ n)
    below_or_at k n h = grind arith

    numbered : (k i : ℕ) → k < count_of old.stops → IsOneOf old.stops k (stop_of new.stops k i) ⊎ ((k ≡ path) × (stop_of new.stops k i ≡ stop)) → IsStop old (stop_of new.stops k i)
    numbered k i h (inl one) = subst (IsStop old) (sym one.same) (filed.numbered k one.place h one.within)
    numbered k i h (inr is) = subst (IsStop old) (sym is.1) number

    kept : (k id : ℕ) → IsPassed old.through k id → IsPassed new.through k id
    kept k id is = record {
      at = is.at;
      within = omega (arith, is.within, cut.added.count);
      its_path = ap (λ (p : Pass). p.path) (cut.added.same is.at is.within) ∙ is.its_path;
      its_id = ap (λ (p : Pass). p.id) (cut.added.same is.at is.within) ∙ is.its_id;
    }

    passed : (k i : ℕ) → k < count_of old.stops → IsOneOf old.stops k (stop_of new.stops k i) ⊎ ((k ≡ path) × (stop_of new.stops k i ≡ stop)) → IsPassed new.through k (stop_of new.stops k i).id
    passed k i h (inl one) = subst (λ (s : Stop). IsPassed new.through k s.id) (sym one.same) (kept k (stop_of old.stops k one.place).id (filed.passed k one.place h one.within))
    passed k i h (inr is) =
        subst (λ (s : Stop). IsPassed new.through k s.id) (sym is.1)
        (record { at = length old.through.passes.items; within = omega (arith, cut.added.count); its_path = cut.added.its_path ∙ sym is.0; its_id = cut.added.its_id })

    real : (k : ℕ) → (k < length old.through.passes.items) ⊎ (k ≡ length old.through.passes.items) → (pass_of new.through k).path < count_of new.stops
    real k (inl h) = omega (arith, cut.inserted.count, filed.real k h, ap (λ (p : Pass). p.path) (cut.added.same k h))
    real k (inr e) = omega (arith, cut.inserted.count, within, cut.added.its_path, ap (λ (j : ℕ). (pass_of new.through j).path) e)
