-- Lemmas over paths: how far their stops lie from the edges that they began as, and the nearness of the splits.
use Rattle.std.proofs.Common.{◌≡◌, ⊎_elim, ℕ, zero, suc, ◌+◌, ◌*◌, ◌<◌, ◌≤◌, ◌^◌, max, true, false, List, [], ◌∷◌, length, get_or, map, refl, sym, ◌∙◌, ap, subst, arith}
use Rattle.std.specs.Prelude.{ℤ, ◌-ℤ◌, ◌*ℤ◌, ◌≤ℤ◌, ◌<ℤ◌, unsigned_abs}
use Rattle.std.proofs.Math.Nat.{mul-le-mul_right}
use Rattle.std.proofs.lemmas.Bool.{cases_lt, false≢true, or_cases}
use Rattle.std.proofs.lemmas.Grind.{common_steps}
use Rattle.std.proofs.lemmas.Int.{ints, by_lt_z}
use Rattle.std.proofs.lemmas.List.{get_or-map, length-map}
use Rattle.mesh_plane.specs.Bounds.{IsSafe, IsSmall}
use Rattle.mesh_plane.specs.Plane.{Point, Edge, turn}
use Rattle.mesh_plane.proofs.Sizes.{difference_size, product_size}
use Rattle.mesh_lattice.specs.Nearness.{IsNearTo, IsNearness}
use Rattle.mesh_lattice.specs.Split.{back, occurs, same_ends, path, EdgeSplit, IsBetween, IsInBox}
use Rattle.mesh_lattice.proofs.Ends.{decides_ends}
use Rattle.mesh_lattice.proofs.Keys.{occurs_back}
use Rattle.mesh_lattice.proofs.Nearness.{near_of_turn, turn_of_near}
use Rattle.mesh_lattice.proofs.Each.{Each}
use Rattle.mesh_lattice.proofs.SoundSplits.{legal_sound, IsSound}
use Rattle.mesh_lattice.specs.Splitting.{ComesFrom}
use Rattle.mesh_meeting.specs.Small.{HasSmallEnds}
use Rattle.mesh_pairs.specs.Laws.{spread}
use Rattle.mesh_points.specs.declared.edges.NumberedEdge.{NumberedEdge}
use Rattle.mesh_points.specs.Edges.{edge_at, no_edge}
use Rattle.mesh_paths.specs.declared.paths.Paths.{Paths}
use Rattle.mesh_paths.specs.declared.stops.Stop.{Stop}
use Rattle.mesh_paths.specs.Paths.{ends_of, given_to, ArePaths}
use Rattle.mesh_paths.specs.Stops.{count_of, edges_along, pieces_of, point_of, stop_of}
use Rattle.mesh_paths.proofs.Along.{piece_occurs, place_of}
use Rattle.mesh_paths.proofs.Onward.{pieces_some}
use Rattle.mesh_rounds.proofs.Paths.{comes_from}
use Rattle.mesh_check.specs.Bent.{line_of}
use Rattle.mesh_ahead.specs.Farthest.{beside_at, IsFarthest, IsFarthestOf, IsNearnessOf, IsNoNearer}
use Rattle.mesh_ahead.proofs.NearPaths.{nearness_of, ArePathsNear, IsReachedAt}

-- ---- stops

-- where a segment of a path starts lies in the box of its edge
path_boxed : (splits : List EdgeSplit) → Each IsSound splits → (e q : Edge) → occurs q (path splits e) ≡ true → IsInBox e q.0
path_boxed splits sound e q o = by (comes_from splits sound (e ∷ []) q o)
  where
    by : ComesFrom (e ∷ []) splits q → IsInBox e q.0
    by from =
        ⊎_elim
        (λ (t : same_ends from.edge e ≡ true).
        ⊎_elim
        (λ (m : from.edge ≡ e). subst (λ (x : Edge). IsInBox x q.0) m from.start_in_box)
        (λ (m : from.edge ≡ back e). turned (subst (λ (x : Edge). IsInBox x q.0) m from.start_in_box))
        ((decides_ends from.edge e).0 t))
        (λ (u : false ≡ true). absurd (false≢true u))
        (or_cases (same_ends from.edge e) false from.is_given)
      where
        turned : IsInBox (back e) q.0 → IsInBox e q.0
        turned h = record { by_x = record { up = h.by_x.down; down = h.by_x.up }; by_y = record { up = h.by_y.down; down = h.by_y.up } }

-- where a segment of a path starts, it has a stop
record HasStopAt (p : Paths) (k : ℕ) (at : Point) : Type 0 where
  place : ℕ
  within : place ≤ pieces_of p.stops k
  same : point_of p.stops k place ≡ at

stop_at : (p : Paths) (k : ℕ) (q : Edge) → occurs q (edges_along (point_of p.stops k) (pieces_of p.stops k)) ≡ true → HasStopAt p k q.0
stop_at p k q o =
    let r = place_of q (point_of p.stops k) (pieces_of p.stops k) o in
    ⊎_elim
    (λ (m : q ≡ (point_of p.stops k r.place, point_of p.stops k (suc r.place))). record { place = r.place; within = omega (arith, r.within); same = sym (ap (λ (x : Edge). x.0) m) })
    (λ (m : q ≡ (point_of p.stops k (suc r.place), point_of p.stops k r.place)). record { place = suc r.place; within = omega (arith, r.within); same = sym (ap (λ (x : Edge). x.0) m) })
    ((decides_ends q (point_of p.stops k r.place, point_of p.stops k (suc r.place))).0 r.same)

-- a segment of a path that starts at a stop, either way about
record HasSegmentAt (p : Paths) (k : ℕ) (at : Point) : Type 0 where
  segment : Edge
  on_path : occurs segment (edges_along (point_of p.stops k) (pieces_of p.stops k)) ≡ true
  starts : segment.0 ≡ at

segment_at : (p : Paths) (k place : ℕ) → 0 < pieces_of p.stops k → place ≤ pieces_of p.stops k → HasSegmentAt p k (point_of p.stops k place)
segment_at p k place some l =
    ⊎_elim
    (λ (before : place < pieces_of p.stops k).
    record { segment = (point_of p.stops k place, point_of p.stops k (suc place)); on_path = piece_occurs (point_of p.stops k) (pieces_of p.stops k) place before; starts = refl })
    (λ (last : pieces_of p.stops k ≤ place). at_last place (omega arith) l)
    (cases_lt place (pieces_of p.stops k))
  where
    at_last : (i : ℕ) → 0 < i → i ≤ pieces_of p.stops k → HasSegmentAt p k (point_of p.stops k i)
    at_last zero h m = absurd (omega arith)
    at_last (suc i) h m = record {
      segment = (point_of p.stops k (suc i), point_of p.stops k i);
      on_path =
          occurs_back (point_of p.stops k i, point_of p.stops k (suc i)) (edges_along (point_of p.stops k) (pieces_of p.stops k))
          ∙ piece_occurs (point_of p.stops k) (pieces_of p.stops k) i (omega arith);
      starts = refl;
    }

-- stops lie in the boxes of edges with small ends, so they are small
pub stop_safe : (p : Paths) (k i : ℕ) → ArePaths p → k < count_of p.stops → i ≤ pieces_of p.stops k → HasSmallEnds (line_of p k) → IsSafe (2 ^ 30) (point_of p.stops k i)
stop_safe p k i paths within place small =
    let held = paths.held k within in
    let s = segment_at p k i (pieces_some p.splits (line_of p k) (point_of p.stops k) (pieces_of p.stops k) held) place in
    let boxed = path_boxed p.splits (legal_sound (given_to p) p.splits paths.legal) (line_of p k) s.segment (subst (λ (es : List Edge). occurs s.segment es ≡ true) held s.on_path) in
    subst (IsSafe (2 ^ 30)) s.starts (record {
      x = between (line_of p k).0.0 s.segment.0.0 (line_of p k).1.0 boxed.by_x small.start.x small.end.x;
      y = between (line_of p k).0.1 s.segment.0.1 (line_of p k).1.1 boxed.by_y small.start.y small.end.y;
    })
  where
    between : (a z b : ℤ) → IsBetween a z b → IsSmall (2 ^ 30) a → IsSmall (2 ^ 30) b → IsSmall (2 ^ 30) z
    between a z b h s t =
        by_lt_z b a
        (λ (l : b <ℤ a). let r = h.down (omega (arith, ints)) in record { low = omega (arith, ints, r.0, t.low); high = omega (arith, ints, r.1, s.high) })
        (λ (l : a ≤ℤ b). let r = h.up l in record { low = omega (arith, ints, r.0, s.low); high = omega (arith, ints, r.1, t.high) })

-- ---- one path

-- between points below 2^30 in size nothing lies farther beside an edge than 2^32 units
pub turn_bound : (e : Edge) (q : Point) → HasSmallEnds e → IsSafe (2 ^ 30) q → unsigned_abs (turn e.0 e.1 q) ≤ 2 ^ 32 * spread e
turn_bound e q small safe =
    omega (
      arith,
      difference_size ((e.1.0 -ℤ e.0.0) *ℤ (q.1 -ℤ e.0.1)) ((e.1.1 -ℤ e.0.1) *ℤ (q.0 -ℤ e.0.0)) (unsigned_abs (e.1.0 -ℤ e.0.0) * 4294967296) (unsigned_abs (e.1.1 -ℤ e.0.1) * 4294967296)
          (product_size (e.1.0 -ℤ e.0.0) (q.1 -ℤ e.0.1) (unsigned_abs (e.1.0 -ℤ e.0.0)) 4294967296 (omega arith) (apart q.1 e.0.1 safe.y small.start.y))
          (product_size (e.1.1 -ℤ e.0.1) (q.0 -ℤ e.0.0) (unsigned_abs (e.1.1 -ℤ e.0.1)) 4294967296 (omega arith) (apart q.0 e.0.0 safe.x small.start.x)),
    )
  where
    apart : (a b : ℤ) → IsSmall (2 ^ 30) a → IsSmall (2 ^ 30) b → unsigned_abs (a -ℤ b) ≤ 4294967296
    apart a b h k = omega (arith, ints, h.low, h.high, k.low, k.high)

-- one stop more
pub farthest_more : (p : Paths) (k most count : ℕ) (e : Edge) (s : Stop) (d new : ℕ) → e ≡ line_of p k → s ≡ stop_of p.stops k count → d ≡ unsigned_abs (turn e.0 e.1 s.at) → new ≡ max most d
    → IsFarthestOf p k most count → IsFarthestOf p k new (count + 1)
farthest_more p k most count e s d new line stop value greatest h = record {
  all = λ i l.
      ⊎_elim
      (λ (before : i < count). omega (arith, greatest, h.all i before))
      (λ (last : count ≤ i).
      let same : i ≡ count = omega arith in
      omega (arith, greatest, own, ap (beside_at p k) same))
      (cases_lt i count);
  one = λ some.
      ⊎_elim
      (λ (past : most < d). record { place = count; within = omega arith; same = sym own ∙ omega (arith, greatest) })
      (λ (within : d ≤ most).
      let r = h.one (omega (arith, greatest)) in
      record { place = r.place; within = omega (arith, r.within); same = r.same ∙ omega (arith, greatest) })
      (cases_lt most d);
}
  where
    own : d ≡ beside_at p k count
    own = value ∙ (λ j. unsigned_abs (turn (line j).0 (line j).1 (stop j).at))

pub stop_bound : (p : Paths) (k i : ℕ) (e : Edge) (s : Stop) (d most new : ℕ) → ArePaths p → k < count_of p.stops → i ≤ pieces_of p.stops k → HasSmallEnds (line_of p k)
    → e ≡ line_of p k → s ≡ stop_of p.stops k i → d ≡ unsigned_abs (turn e.0 e.1 s.at) → new ≡ max most d → most ≤ 2 ^ 32 * spread (line_of p k) → new ≤ 2 ^ 32 * spread (line_of p k)
stop_bound p k i e s d most new paths within place small line stop value greatest bound =
    let own : d ≡ beside_at p k i = value ∙ (λ j. unsigned_abs (turn (line j).0 (line j).1 (stop j).at)) in
    omega (arith, greatest, bound, own, turn_bound (line_of p k) (point_of p.stops k i) small (stop_safe p k i paths within place small))

-- ---- all paths

-- 64ths of a unit that something lies beside an edge of a spread, rounded up
pub record IsRoundedUp (beside spread d : ℕ) : Type 0 where
  pub enough : 64 * beside ≤ d * spread
  pub least : (l : ℕ) → l < d → l * spread < 64 * beside

-- one path more
pub nearness_more : (p : Paths) (count k most wide d new : ℕ) → IsFarthest p count most → wide ≡ spread (line_of p count) → IsRoundedUp most wide d → new ≡ max k d → IsNearnessOf p count k
    → IsNearnessOf p (count + 1) new
nearness_more p count k most wide d new far its_spread rounded greatest h = record {
  all = λ j i l place.
      ⊎_elim
      (λ (before : j < count).
      let more : k * spread (line_of p j) ≤ new * spread (line_of p j) = mul-le-mul_right (spread (line_of p j)) (omega (arith, greatest)) in
      omega (arith, more, h.all j i before place))
      (λ (last : count ≤ j).
      let same : j ≡ count = omega arith in
      let stop : beside_at p count i ≤ most = far.all i (subst (λ (m : ℕ). i < suc (pieces_of p.stops m)) same (omega (arith, place))) in
      let more : d * wide ≤ new * wide = mul-le-mul_right wide (omega (arith, greatest)) in
      subst (λ (m : ℕ). 64 * beside_at p m i ≤ new * spread (line_of p m)) (sym same)
      (subst (λ (w : ℕ). 64 * beside_at p count i ≤ new * w) its_spread (omega (arith, more, stop, rounded.enough))))
      (cases_lt j count);
  one = λ some.
      ⊎_elim
      (λ (past : k < d).
      let r = far.one (positive wide (rounded.least 0 (omega arith))) in
      let all : new ≡ d = omega (arith, greatest) in
      record {
        path = count;
        place = r.place;
        its_path = omega arith;
        its_place = omega (arith, r.within);
        least = λ l m.
            subst (λ (w : ℕ). l * w < 64 * beside_at p count r.place) its_spread
            (omega (arith, r.same, rounded.least l (omega (arith, all))));
      })
      (λ (within : d ≤ k).
      let all : new ≡ k = omega (arith, greatest) in
      let r = h.one (omega (arith, all)) in
      record { path = r.path; place = r.place; its_path = omega (arith, r.its_path); its_place = r.its_place; least = λ l m. r.least l (omega (arith, all)) })
      (cases_lt k d);
}
  where
    positive : (w : ℕ) → 0 * w < 64 * most → 0 < most
    positive w h = grind (arith, common_steps)

-- ---- the nearness

abbrev pub no_line : Edge
no_line = ends_of no_edge

pub line_at : (es : List NumberedEdge) (k : ℕ) → k < length es → get_or (map ends_of es) k no_line ≡ ends_of (edge_at es k)
line_at es k l = get_or-map ends_of es k no_edge no_line l

pub paths_nearness : (p : Paths) (count k : ℕ) → ArePaths p → count ≡ length p.edges.items → IsNearnessOf p count k → IsNearness (given_to p) p.splits k
paths_nearness p count k paths all h = nearness_of (given_to p) no_line k p.splits paths.legal near reached
  where
    sound : Each IsSound p.splits
    sound = legal_sound (given_to p) p.splits paths.legal

    inside : (i : ℕ) → i < length (given_to p) → i < length p.edges.items
    inside i l = omega (arith, l, length-map p.edges.items ends_of)

    listed : (i : ℕ) → i < length p.edges.items → i < count_of p.stops
    listed i l = omega (arith, l, paths.filed.count)

    near : ArePathsNear k (given_to p) no_line p.splits
    near i l q o = subst (λ (e : Edge). IsNearTo k 1 e q.0) (sym line) (near_of_turn k (line_of p i) q.0 (path_boxed p.splits sound (line_of p i) q on) few)
      where
        line : get_or (given_to p) i no_line ≡ line_of p i
        line = line_at p.edges.items i (inside i l)

        on : occurs q (path p.splits (line_of p i)) ≡ true
        on = subst (λ (e : Edge). occurs q (path p.splits e) ≡ true) line o

        stop : HasStopAt p i q.0
        stop = stop_at p i q (subst (λ (es : List Edge). occurs q es ≡ true) (sym (paths.held i (listed i (inside i l)))) on)

        few : 64 * unsigned_abs (turn (line_of p i).0 (line_of p i).1 q.0) ≤ k * spread (line_of p i)
        few = subst (λ (at : Point). 64 * unsigned_abs (turn (line_of p i).0 (line_of p i).1 at) ≤ k * spread (line_of p i)) stop.same (h.all i stop.place (omega (arith, all, inside i l)) stop.within)

    reached : 0 < k → IsReachedAt k (given_to p) no_line p.splits
    reached some = record {
      place = r.path;
      within = omega (arith, within, length-map p.edges.items ends_of);
      segment = s.segment;
      on_path =
          subst (λ (e : Edge). occurs s.segment (path p.splits e) ≡ true) (sym line)
          (subst (λ (es : List Edge). occurs s.segment es ≡ true) (paths.held r.path (listed r.path within)) s.on_path);
      least = λ l m close.
          absurd (omega (
            arith,
            r.least l m,
            turn_of_near l (line_of p r.path) (point_of p.stops r.path r.place)
                (subst (λ (at : Point). IsNearTo l 1 (line_of p r.path) at) s.starts (subst (λ (e : Edge). IsNearTo l 1 e s.segment.0) line close)),
          ));
    }
      where
        r : IsNoNearer p count k
        r = h.one some

        within : r.path < length p.edges.items
        within = omega (arith, all, r.its_path)

        line : get_or (given_to p) r.path no_line ≡ line_of p r.path
        line = line_at p.edges.items r.path within

        s : HasSegmentAt p r.path (point_of p.stops r.path r.place)
        s = segment_at p r.path r.place (pieces_some p.splits (line_of p r.path) (point_of p.stops r.path) (pieces_of p.stops r.path) (paths.held r.path (listed r.path within))) r.its_place
