-- Lemmas over edges and splits: a path that splits have made of an edge goes along it.
use Rattle.std.proofs.Common.{◌≡◌, ◌⊎◌, inl, inr, ⊎_elim, ℕ, zero, suc, ◌+◌, ◌<◌, ◌≤◌, Bool, true, false, cond, List, [], ◌∷◌, add-one, refl, sym, subst, arith}
use Rattle.std.specs.Prelude.{ℤ, ◌≤ℤ◌}
use Rattle.std.proofs.lemmas.Int.{ints}
use Rattle.mesh_plane.specs.Plane.{Point, Edge}
use Rattle.mesh_lattice.specs.Split.{AreClear, same_ends, split_by, split_edge, path, EdgeSplit, IsBetween, IsInBox}
use Rattle.mesh_lattice.proofs.Each.{Each, each_append}
use Rattle.mesh_lattice.proofs.KeptBySplits.{cut_box}
use Rattle.mesh_lattice.proofs.SoundSplits.{legal_sound, IsSound, ProperEnds}
use Rattle.mesh_pairs.specs.Laws.{spread}
use Rattle.mesh_paths.specs.declared.paths.Paths.{Paths}
use Rattle.mesh_paths.specs.Paths.{given_to, ArePaths}
use Rattle.mesh_paths.specs.Stops.{count_of, edges_along, pieces_of, point_of}
use Rattle.mesh_paths.proofs.Cuts.{edge_proper}
use Rattle.mesh_check.specs.Bent.{line_of, AreClearPaths, LeadingApartIsClear, PathsGoAlong}
use Rattle.mesh_check.specs.Heights.{GoesAlong}
use Rattle.mesh_check.proofs.LeadingApart.{lead_apart}

-- not down, or not up
abbrev GoesOn : Bool → ℤ → ℤ → Type 0
GoesOn true a b = a ≤ℤ b
GoesOn false a b = b ≤ℤ a

goes_between : (up : Bool) (a z b : ℤ) → GoesOn up a b → IsBetween a z b → GoesOn up a z × GoesOn up z b
goes_between true a z b h k = k.up h
goes_between false a z b h k = let p = k.down h in (p.1, p.0)

goes_far : (up : Bool) (a b c : ℤ) → GoesOn up a b → GoesOn up b c → GoesOn up a c
goes_far true a b c h k = omega (arith, ints)
goes_far false a b c h k = omega (arith, ints)

goes_stays : (up : Bool) (a : ℤ) → GoesOn up a a
goes_stays true a = omega (arith, ints)
goes_stays false a = omega (arith, ints)

-- a coordinate
abbrev IsBoxed : (Point → ℤ) → Type 0
IsBoxed c = (e : Edge) (z : Point) → IsInBox e z → IsBetween (c e.0) (c z) (c e.1)

abbrev Goes : (Point → ℤ) → Bool → Edge → Type 0
Goes c up e = GoesOn up (c e.0) (c e.1)

split_goes : (c : Point → ℤ) (up : Bool) → IsBoxed c → (s : EdgeSplit) → IsInBox s.ends s.at → (es : List Edge) → Each (Goes c up) es → Each (Goes c up) (split_by s es)
split_goes c up boxed s box [] h = tt
split_goes c up boxed s box (e ∷ es) h =
    each_append (Goes c up) (split_edge s e) (split_by s es) (by (same_ends e s.ends) refl) (split_goes c up boxed s box es h.1)
  where
    by : (b : Bool) → same_ends e s.ends ≡ b → Each (Goes c up) (cond b ((e.0, s.at) ∷ (s.at, e.1) ∷ []) (e ∷ []))
    by true t =
        let parts = goes_between up (c e.0) (c s.at) (c e.1) h.0 (boxed e s.at (cut_box s e box t)) in
        (parts.0, (parts.1, tt))
    by false t = (h.0, tt)

path_goes : (c : Point → ℤ) (up : Bool) → IsBoxed c → (splits : List EdgeSplit) → Each IsSound splits → (e : Edge) → Goes c up e → Each (Goes c up) (path splits e)
path_goes c up boxed [] sound e h = (h, tt)
path_goes c up boxed (s ∷ splits) sound e h = split_goes c up boxed s sound.0.boxed (path splits e) (path_goes c up boxed splits sound.1 e h)

-- from one stop to a later one
stops_go : (c : Point → ℤ) (up : Bool) (a : ℕ → Point) (n i j : ℕ) → Each (Goes c up) (edges_along a n) → i ≤ j → j ≤ n → GoesOn up (c (a i)) (c (a j))
stops_go c up a n zero zero h k l = goes_stays up (c (a 0))
stops_go c up a zero zero (suc j) h k l = absurd (omega arith)
stops_go c up a (suc n) zero (suc j) h k l =
    goes_far up (c (a 0)) (c (a 1)) (c (a (suc j))) h.0 (stops_go c up (λ m. a (suc m)) n zero j h.1 (omega arith) (omega arith))
stops_go c up a n (suc i) zero h k l = absurd (omega arith)
stops_go c up a zero (suc i) (suc j) h k l = absurd (omega arith)
stops_go c up a (suc n) (suc i) (suc j) h k l = stops_go c up (λ m. a (suc m)) n i j h.1 (omega arith) (omega arith)

-- an edge leads somewhere
none_or_some : (n : ℕ) → (n ≡ 0) ⊎ (0 < n)
none_or_some zero = inl refl
none_or_some (suc n) = inr (omega arith)

some_spread : (e : Edge) → ProperEnds e → 0 < spread e
some_spread e proper =
    ⊎_elim
    (λ (z : spread e ≡ 0).
    let x : e.0.0 ≡ e.1.0 = omega (arith, ints, z) in
    let y : e.0.1 ≡ e.1.1 = omega (arith, ints, z) in
    absurd (proper (λ i. (x i, y i))))
    (λ (h : 0 < spread e). h)
    (none_or_some (spread e))

-- the edge of a path has two ends
pub some_line : (p : Paths) (k : ℕ) → ArePaths p → k < count_of p.stops → 0 < spread (line_of p k)
some_line p k paths within = some_spread (line_of p k) (edge_proper p k (omega (arith, within, paths.filed.count)) paths.proper)

-- so the way from a stop to a later one goes back nowhere
pub goes_along : (p : Paths) (k i j : ℕ) → ArePaths p → k < count_of p.stops → i ≤ j → j ≤ pieces_of p.stops k → GoesAlong (line_of p k) (point_of p.stops k i) (point_of p.stops k j)
goes_along p k i j paths within h l = record {
  east = λ up. goes (λ q. q.0) true (λ e z box. box.by_x) up;
  west = λ down. goes (λ q. q.0) false (λ e z box. box.by_x) down;
  up = λ up. goes (λ q. q.1) true (λ e z box. box.by_y) up;
  down = λ down. goes (λ q. q.1) false (λ e z box. box.by_y) down;
}
  where
    sound : Each IsSound p.splits
    sound = legal_sound (given_to p) p.splits paths.legal

    goes : (c : Point → ℤ) (up : Bool) → IsBoxed c → Goes c up (line_of p k) → GoesOn up (c (point_of p.stops k i)) (c (point_of p.stops k j))
    goes c up boxed g =
        stops_go c up (point_of p.stops k) (pieces_of p.stops k) i j (subst (Each (Goes c up)) (sym (paths.held k within)) (path_goes c up boxed p.splits sound (line_of p k) g)) h l

pub paths_along : PathsGoAlong
paths_along p k units paths within bent = record {
  proper = some_spread (line_of p k) (edge_proper p k (omega (arith, within, paths.filed.count)) paths.proper);
  along = λ i j h l. goes_along p k i j paths within h l;
  near = bent;
}

-- the piece from a stop of a path to the next one
abbrev pub piece_of : Paths → ℕ → ℕ → Edge
piece_of p k i = (point_of p.stops k i, point_of p.stops k (suc i))

-- paths are clear of each other where their pieces are, place by place
pub clear_by_places : (p : Paths) (j k : ℕ) → ((i l : ℕ) → i < pieces_of p.stops j → l < pieces_of p.stops k → AreClear (piece_of p j i) (piece_of p k l)) → AreClearPaths p j k
clear_by_places p j k clear a b a_is b_is a_path b_path =
    subst (λ (m : ℕ). AreClear (at m a.place (a.place + 1)) (at b.path b.place (b.place + 1))) (sym a_path)
    (subst (λ (m : ℕ). AreClear (at j a.place (a.place + 1)) (at m b.place (b.place + 1))) (sym b_path)
    (subst (λ (n : ℕ). AreClear (at j a.place n) (at k b.place (b.place + 1))) (sym (add-one a.place))
    (subst (λ (n : ℕ). AreClear (at j a.place (suc a.place)) (at k b.place n)) (sym (add-one b.place))
    (clear a.place b.place
    (subst (λ (m : ℕ). a.place < pieces_of p.stops m) a_path a_is.place)
    (subst (λ (m : ℕ). b.place < pieces_of p.stops m) b_path b_is.place)))))
  where
    at : ℕ → ℕ → ℕ → Edge
    at m i n = (point_of p.stops m i, point_of p.stops m n)

pub apart_clear : LeadingApartIsClear
apart_clear p j k first second j_units k_units paths j_within k_within j_bent k_bent apart =
    clear_by_places p j k
    (lead_apart j_units k_units (line_of p j) (line_of p k) (point_of p.stops j) (point_of p.stops k) (pieces_of p.stops j) (pieces_of p.stops k) first second
    (paths_along p j j_units paths j_within j_bent) (paths_along p k k_units paths k_within k_bent)
    apart.first_place apart.second_place apart.same apart.first_leads apart.second_leads)
