-- Lemmas over paths that are edges: one more of them, and all of them.
use Rattle.std.proofs.Common.{◌≡◌, ◌⊎◌, inl, inr, ℕ, zero, suc, ◌+◌, ◌<◌, ◌≤◌, List, [], ◌∷◌, ◌++◌, length, map, sym, ◌∙◌, ap, subst, arith}
use Rattle.std.proofs.Math.ListN.{length-append, get_or-append}
use Rattle.std.proofs.Math.Seq.{get_or-append_seam}
use Rattle.std.proofs.lemmas.Bool.{both_ways}
use Rattle.std.specs.Prelude.{IsTrue}
use Rattle.mesh_plane.specs.Order.{point_lt}
use Rattle.mesh_plane.specs.Plane.{Point, Edge}
use Rattle.mesh_plane.specs.Winding.{same_point}
use Rattle.mesh_plane.proofs.Comparing.{decides_point}
use Rattle.mesh_lattice.specs.Clean.{IsProper}
use Rattle.mesh_lattice.specs.Split.{path, EdgeSplit, IsLegal, no_cut}
use Rattle.mesh_lattice.proofs.Each.{Each}
use Rattle.mesh_lattice.proofs.Ends.{forward_proper}
use Rattle.mesh_lattice.proofs.SoundSplits.{each_proper, ProperEnds}
use Rattle.mesh_points.specs.declared.edges.NumberedEdge.{NumberedEdge}
use Rattle.mesh_points.specs.Edges.{edge_at, no_edge, AreNumbered, IsNumbered}
use Rattle.mesh_points.specs.Points.{AreDistinct, IsNumberOf}
use Rattle.mesh_paths.specs.declared.paths.Paths.{Paths}
use Rattle.mesh_paths.specs.declared.stops.Stop.{Stop}
use Rattle.mesh_paths.specs.declared.through.Pass.{Pass}
use Rattle.mesh_paths.specs.declared.through.Through.{Through}
use Rattle.mesh_paths.specs.Paths.{ends_of, given_to, AreHeld, ArePaths}
use Rattle.mesh_paths.specs.Stops.{count_of, edges_along, path_of, pieces_of, point_of, stop_of, AreApart, IsAdded}
use Rattle.mesh_paths.specs.Filed.{pass_of, AreFiled, AreListed, IsPassAdded, IsPassed}
use Rattle.mesh_paths.proofs.Along.{along_same}

below_or_at : (k n : ℕ) → k < n + 1 → (k < n) ⊎ (k ≡ n)
below_or_at k n h = grind arith

-- a stop at the start of an edge, and one at its end
abbrev pub start_of : NumberedEdge → Stop
start_of e = record { at = e.start; id = e.from }

abbrev pub end_of : NumberedEdge → Stop
end_of e = record { at = e.end; id = e.to }

-- the path of an edge came after the others
pub record IsBegun (old new : Paths) (between : Through) (e : NumberedEdge) : Type 0 where
  pub apart : AreApart new.stops
  pub added : IsAdded old.stops new.stops (start_of e) (end_of e)
  pub edges : new.edges.items ≡ old.edges.items ++ e ∷ []
  pub points : new.points ≡ old.points
  pub listed : AreListed new.through
  pub lists : length new.through.last.items ≡ length old.through.last.items
  pub first : IsPassAdded old.through between e.from (count_of old.stops)
  pub second : IsPassAdded between new.through e.to (count_of old.stops)

module _ (old new : Paths) (between : Through) (e : NumberedEdge) (filed : AreFiled old) (one : IsNumbered old.points e) (begun : IsBegun old new between e) where
  -- stops of earlier paths, and of the new one
  numbered : (k i : ℕ) → (k < count_of old.stops) ⊎ (k ≡ count_of old.stops) → i ≤ pieces_of new.stops k → IsNumberOf old.points (stop_of new.stops k i).at (stop_of new.stops k i).id
  numbered k i (inl h) l =
      let kept = begun.added.others k h in
      let low : i ≤ pieces_of old.stops k = omega (arith, kept.pieces) in
      subst (λ (s : Stop). IsNumberOf old.points s.at s.id) (sym (kept.stops i low)) (filed.numbered k i h low)
  numbered k i (inr h) l = subst (λ (j : ℕ). IsNumberOf old.points (stop_of new.stops j i).at (stop_of new.stops j i).id) (sym h) (own i (subst (λ (j : ℕ). i ≤ pieces_of new.stops j) h l))
    where
      own : (i : ℕ) → i ≤ pieces_of new.stops (count_of old.stops) → IsNumberOf old.points (stop_of new.stops (count_of old.stops) i).at (stop_of new.stops (count_of old.stops) i).id
      own zero l = subst (λ (s : Stop). IsNumberOf old.points s.at s.id) (sym begun.added.first) one.from
      own (suc zero) l = subst (λ (s : Stop). IsNumberOf old.points s.at s.id) (sym begun.added.last) one.to
      own (suc (suc i)) l = absurd (omega (arith, begun.added.pieces))

  kept_pass : (k id : ℕ) → IsPassed old.through k id → IsPassed new.through k id
  kept_pass k id is =
      let low : is.at < length between.passes.items = omega (arith, is.within, begun.first.count) in
      let same : pass_of new.through is.at ≡ pass_of old.through is.at = begun.second.same is.at low ∙ begun.first.same is.at is.within in
      record { at = is.at; within = omega (arith, low, begun.second.count); its_path = ap (λ (p : Pass). p.path) same ∙ is.its_path; its_id = ap (λ (p : Pass). p.id) same ∙ is.its_id }

  passed : (k i : ℕ) → (k < count_of old.stops) ⊎ (k ≡ count_of old.stops) → i ≤ pieces_of new.stops k → IsPassed new.through k (stop_of new.stops k i).id
  passed k i (inl h) l =
      let kept = begun.added.others k h in
      let low : i ≤ pieces_of old.stops k = omega (arith, kept.pieces) in
      subst (λ (s : Stop). IsPassed new.through k s.id) (sym (kept.stops i low)) (kept_pass k (stop_of old.stops k i).id (filed.passed k i h low))
  passed k i (inr h) l = subst (λ (j : ℕ). IsPassed new.through j (stop_of new.stops j i).id) (sym h) (own i (subst (λ (j : ℕ). i ≤ pieces_of new.stops j) h l))
    where
      own : (i : ℕ) → i ≤ pieces_of new.stops (count_of old.stops) → IsPassed new.through (count_of old.stops) (stop_of new.stops (count_of old.stops) i).id
      own zero l =
          let low : length old.through.passes.items < length between.passes.items = omega (arith, begun.first.count) in
          let same = begun.second.same (length old.through.passes.items) low in
          subst (λ (s : Stop). IsPassed new.through (count_of old.stops) s.id) (sym begun.added.first)
          (record {
            at = length old.through.passes.items;
            within = omega (arith, low, begun.second.count);
            its_path = ap (λ (p : Pass). p.path) same ∙ begun.first.its_path;
            its_id = ap (λ (p : Pass). p.id) same ∙ begun.first.its_id;
          })
      own (suc zero) l =
          subst (λ (s : Stop). IsPassed new.through (count_of old.stops) s.id) (sym begun.added.last)
          (record { at = length between.passes.items; within = omega (arith, begun.second.count); its_path = begun.second.its_path; its_id = begun.second.its_id })
      own (suc (suc i)) l = absurd (omega (arith, begun.added.pieces))

  real : (k : ℕ) → (k < length old.through.passes.items) ⊎ ((k ≡ length old.through.passes.items) ⊎ (k ≡ length between.passes.items)) → (pass_of new.through k).path < count_of old.stops + 1
  real k (inl h) =
      let same : pass_of new.through k ≡ pass_of old.through k = begun.second.same k (omega (arith, begun.first.count)) ∙ begun.first.same k h in
      omega (arith, ap (λ (p : Pass). p.path) same, filed.real k h)
  real k (inr (inl h)) =
      let same : pass_of new.through k ≡ pass_of between k = begun.second.same k (omega (arith, begun.first.count)) in
      omega (arith, ap (λ (p : Pass). p.path) same, ap (λ (j : ℕ). (pass_of between j).path) h, begun.first.its_path)
  real k (inr (inr h)) = omega (arith, ap (λ (j : ℕ). (pass_of new.through j).path) h, begun.second.its_path)

  which : (k a b n : ℕ) → k < n → n ≡ b + 1 → b ≡ a + 1 → (k < a) ⊎ ((k ≡ a) ⊎ (k ≡ b))
  which k a b n h i j = grind arith

  pub filed_begun : AreFiled new
  filed_begun = record {
    count = begun.added.count ∙ (ap (λ (n : ℕ). n + 1) filed.count ∙ (sym (length-append old.edges.items (e ∷ [])) ∙ ap length (sym begun.edges)));
    apart = begun.apart;
    points = begun.lists ∙ (filed.points ∙ ap length (sym begun.points));
    distinct = subst AreDistinct (sym begun.points) filed.distinct;
    numbered = λ k i h l.
        subst (λ (ps : List Point). IsNumberOf ps (stop_of new.stops k i).at (stop_of new.stops k i).id) (sym begun.points)
        (numbered k i (below_or_at k (count_of old.stops) (omega (arith, begun.added.count))) l);
    listed = begun.listed;
    passed = λ k i h l. passed k i (below_or_at k (count_of old.stops) (omega (arith, begun.added.count))) l;
    real = λ k h.
        omega (
          arith,
          begun.added.count,
          real k (which k (length old.through.passes.items) (length between.passes.items) (length new.through.passes.items) h begun.second.count begun.first.count),
        );
  }

  -- each path is its edge
  pub held_begun : (splits : List EdgeSplit) → splits ≡ [] → old.splits ≡ splits → new.splits ≡ splits → AreHeld old → AreHeld new
  held_begun splits none was is held k h = by (below_or_at k (count_of old.stops) (omega (arith, begun.added.count)))
    where
      edge : ℕ → Edge
      edge j = ends_of (edge_at new.edges.items j)

      by : (k < count_of old.stops) ⊎ (k ≡ count_of old.stops) → path_of new.stops k ≡ path new.splits (edge k)
      by (inl l) =
          let kept = begun.added.others k l in
          ap (edges_along (point_of new.stops k)) kept.pieces
          ∙ (along_same (point_of old.stops k) (point_of new.stops k) (pieces_of old.stops k) (λ i m. ap (λ (s : Stop). s.at) (kept.stops i m))
          ∙ (held k l
          ∙ λ i. path ((was ∙ sym is) i) (ends_of ((sym (get_or-append old.edges.items (e ∷ []) no_edge k (omega (arith, filed.count))) ∙ ap (λ (es : List NumberedEdge). edge_at es k) (sym begun.edges)) i))))
      by (inr l) =
          let last : edge_at new.edges.items k ≡ e = ap (λ (es : List NumberedEdge). edge_at es k) begun.edges ∙ (ap (edge_at (old.edges.items ++ e ∷ [])) (l ∙ filed.count) ∙ get_or-append_seam old.edges.items e [] no_edge) in
          ap (path_of new.stops) l
          ∙ (ap (edges_along (point_of new.stops (count_of old.stops))) begun.added.pieces
          ∙ ((λ i. ((begun.added.first i).at, (begun.added.last i).at) ∷ [])
          ∙ λ i. path ((sym none ∙ sym is) i) (ends_of (sym last i))))

-- ---- all edges

pub numbered_proper : (ps : List Point) (es : List NumberedEdge) → AreNumbered ps es → IsProper (map ends_of es)
numbered_proper ps es all = each_proper (map ends_of es) (each es (λ k h. (all k h).forward))
  where
    each : (es : List NumberedEdge) → ((k : ℕ) → k < length es → IsTrue (point_lt (edge_at es k).start (edge_at es k).end)) → Each ProperEnds (map ends_of es)
    each [] h = tt
    each (e ∷ es) h = (
      (λ (same : e.start ≡ e.end). both_ways (same_point e.start e.end) (forward_proper (e.start, e.end) (h 0 (omega arith))) ((decides_point e.start e.end).1 same)),
      each es (λ k l. h (suc k) (omega arith)),
    )

pub paths_begun : (p : Paths) (ps : List Point) (es : List NumberedEdge) → AreFiled p → AreHeld p → p.splits ≡ [] → p.edges.items ≡ es → AreNumbered ps es → ArePaths p
paths_begun p ps es filed held none is all = record {
  filed = filed;
  proper = subst (λ (xs : List NumberedEdge). IsProper (map ends_of xs)) (sym is) (numbered_proper ps es all);
  held = held;
  legal = subst (IsLegal (given_to p)) (sym none) no_cut;
}
