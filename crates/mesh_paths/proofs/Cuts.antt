-- Lemmas over paths: all paths that have a piece are cut, and splits stay legal.
use Rattle.std.proofs.Common.{◌≡◌, ◌≢◌, ◌⊎◌, inl, inr, ⊎_elim, ℕ, zero, suc, ◌-◌, ◌<◌, ◌≤◌, Bool, true, false, cond, List, [], ◌∷◌, length, map, refl, sym, ◌∙◌, ap, subst, arith, add-one}
use Rattle.std.proofs.lemmas.Bool.{both_ways, cases_Bool, or_left, or_right}
use Rattle.std.specs.Prelude.{Vec}
use Rattle.std.specs.declared.alloc.Global.{Global}
use Rattle.mesh_plane.specs.Plane.{Point, Edge}
use Rattle.mesh_lattice.specs.Clean.{IsProper}
use Rattle.mesh_lattice.specs.Split.{add_split, after, is_end, occurs, path, same_ends, split_by, EdgeSplit, IsLegal, Meets, split}
use Rattle.mesh_lattice.proofs.Each.{proper_of}
use Rattle.mesh_lattice.proofs.Ends.{decides_end, decides_ends, ends_self}
use Rattle.mesh_lattice.proofs.KeptBySplits.{after_append}
use Rattle.mesh_lattice.proofs.SoundSplits.{legal_sound, ProperEnds}
use Rattle.mesh_lattice.proofs.Splits.{occurs_append}
use Rattle.mesh_points.specs.declared.edges.NumberedEdge.{NumberedEdge}
use Rattle.mesh_points.specs.Edges.{edge_at}
use Rattle.mesh_points.specs.Points.{IsNumberOf}
use Rattle.mesh_points.specs.Chains.{IsSearched}
use Rattle.mesh_points.proofs.Chains.{search_begins, search_goes_on}
use Rattle.mesh_paths.specs.declared.paths.Paths.{Paths}
use Rattle.mesh_paths.specs.declared.paths.Piece.{Piece}
use Rattle.mesh_paths.specs.declared.stops.Stop.{Stop}
use Rattle.mesh_paths.specs.declared.stops.Stops.{Stops}
use Rattle.mesh_paths.specs.declared.through.Pass.{Pass}
use Rattle.mesh_paths.specs.Paths.{edge_of, ends_of, given_to, AreHeld, ArePaths, IsPieceOf}
use Rattle.mesh_paths.specs.Stops.{count_of, path_of, pieces_of, point_of, stop_of, IsBetweenIds}
use Rattle.mesh_paths.specs.Private.Cutting.{cut_of, AreCut, AreSame, AreSound, HasPiece, IsAsOrCut, IsCutPath, IsCutting, IsInjective, IsStop}
use Rattle.mesh_paths.specs.Filed.{before_in, id_in, last_of, pass_of, AreFiled, IsPassed}
use Rattle.mesh_paths.proofs.Along.{piece_occurs, place_of, split_gone, split_none, StandsAt}
use Rattle.mesh_paths.proofs.Filing.{none_between, path_inserted, path_kept, piece_same, same_id, same_point, IsCutAt}
use Rattle.mesh_paths.proofs.Onward.{path_once, sound_each}

same_or_not : (i j : ℕ) → (i ≡ j) ⊎ (i ≢ j)
same_or_not i j = grind arith

below_or_not : (k n : ℕ) → (k < n) ⊎ (n ≤ k)
below_or_not k n = grind arith

-- ---- the paths that have a piece, one after the other

pub same_paths : (p : Paths) → AreSame p p
same_paths p = record { edges = refl; points = refl; splits = refl; count = refl }

pub cutting_begins : (old now : Paths) (s : EdgeSplit) (a : Stop) → AreFiled now → IsStop old a → AreSame old now → ((k : ℕ) → k < count_of old.stops → IsAsOrCut old now s k)
    → IsCutting old now s a.id (last_of now.through a.id)
cutting_begins old now s a filed number same paths = record {
  filed = filed;
  same = same;
  paths = paths;
  search =
      search_begins (HasPiece now s) now.through.last.items (length now.through.passes.items) (before_in now.through.passes.items) (id_in now.through.passes.items) a.id filed.listed
      (omega (arith, filed.points, number.within, ap length same.points));
}

-- one path was cut, or none
pub as_or_cut : (old now : Paths) (path : ℕ) (s : EdgeSplit) → IsCutPath old now path s → (k : ℕ) → k < count_of old.stops → IsAsOrCut old now s k
as_or_cut old now path s cut k h = by (same_or_not k path)
  where
    by : (k ≡ path) ⊎ (k ≢ path) → IsAsOrCut old now s k
    by (inl e) = inr (subst (λ (j : ℕ). path_of now.stops j ≡ split_by s (path_of old.stops j)) (sym e) cut.cut)
    by (inr n) = inl (cut.others k h n)

pub as_before : (old now : Paths) (s : EdgeSplit) → now ≡ old → AreSame old now × ((k : ℕ) → k < count_of old.stops → IsAsOrCut old now s k)
as_before old now s is = (
  record { edges = ap (λ (p : Paths). p.edges) is; points = ap (λ (p : Paths). p.points) is; splits = ap (λ (p : Paths). p.splits) is; count = ap (λ (p : Paths). count_of p.stops) is },
  λ k h. inl (ap (λ (p : Paths). path_of p.stops k) is),
)

pub near_begins : (old now : Paths) (s : EdgeSplit) (a : Stop) (path : ℕ) (is_cut : Bool) → AreFiled now → IsStop old a → (is_cut ≡ true → IsCutPath old now path s) → (is_cut ≡ false → now ≡ old)
    → IsCutting old now s a.id (last_of now.through a.id)
near_begins old now s a path is_cut filed number cut left = by (cases_Bool is_cut)
  where
    by : (is_cut ≡ true) ⊎ (is_cut ≡ false) → IsCutting old now s a.id (last_of now.through a.id)
    by (inl t) = cutting_begins old now s a filed number (cut t).same (as_or_cut old now path s (cut t))
    by (inr f) = let same = as_before old now s (left f) in cutting_begins old now s a filed number same.0 same.1

-- what a path has not, it gets by no cut
pub stays_gone : (old now : Paths) (path k : ℕ) (s : EdgeSplit) → is_end s.at s.ends ≡ false → IsCutPath old now path s → k < count_of old.stops → occurs s.ends (path_of old.stops k) ≡ false
    → occurs s.ends (path_of now.stops k) ≡ false
stays_gone old now path k s inner cut h none = by (as_or_cut old now path s cut k h)
  where
    by : IsAsOrCut old now s k → occurs s.ends (path_of now.stops k) ≡ false
    by (inl is) = ap (occurs s.ends) is ∙ none
    by (inr is) = ap (occurs s.ends) is ∙ split_gone s (path_of old.stops k) inner

module _ (old now next : Paths) (s : EdgeSplit) (start left : ℕ) (inner : is_end s.at s.ends ≡ false) (some : 0 < left) (cutting : IsCutting old now s start left) (filed : AreFiled next) (cut : IsCutPath now next (pass_of now.through (left - 1)).path s) where
  path_is : ℕ
  path_is = (pass_of now.through (left - 1)).path

  -- the path that was cut has the piece no more
  gone : occurs s.ends (path_of next.stops (pass_of now.through (left - 1)).path) ≡ false
  gone = ap (occurs s.ends) cut.cut ∙ split_gone s (path_of now.stops (pass_of now.through (left - 1)).path) inner

  gone_at : (k : ℕ) → k ≡ (pass_of now.through (left - 1)).path → occurs s.ends (path_of next.stops k) ≡ true → ⊥
  gone_at k e h = both_ways (occurs s.ends (path_of next.stops k)) (subst (λ (j : ℕ). occurs s.ends (path_of next.stops j) ≡ false) (sym e) gone) h

  -- what has it after the cut had it before
  had : (k : ℕ) → k < length now.through.passes.items → HasPiece next s k → HasPiece now s k
  had k h has = by (same_or_not (pass_of now.through k).path (pass_of now.through (left - 1)).path)
    where
      here : occurs s.ends (path_of next.stops (pass_of now.through k).path) ≡ true
      here = subst (λ (x : Pass). occurs s.ends (path_of next.stops x.path) ≡ true) (cut.passes k h) has

      by : ((pass_of now.through k).path ≡ (pass_of now.through (left - 1)).path) ⊎ ((pass_of now.through k).path ≢ (pass_of now.through (left - 1)).path) → HasPiece now s k
      by (inl e) = absurd (gone_at (pass_of now.through k).path e here)
      by (inr n) = subst (λ (es : List Edge). occurs s.ends es ≡ true) (cut.others (pass_of now.through k).path (cutting.filed.real k h) n) here

  passed_first : IsSearched (HasPiece next s) (length now.through.passes.items) (id_in now.through.passes.items) start (before_in now.through.passes.items (left - 1))
  passed_first =
      let low : left - 1 < length now.through.passes.items = omega (arith, cutting.search.within) in
      search_goes_on (HasPiece next s) now.through.last.items (length now.through.passes.items) (before_in now.through.passes.items) (id_in now.through.passes.items) start left cutting.filed.listed some
      (λ has. gone_at (pass_of now.through (left - 1)).path refl (subst (λ (x : Pass). occurs s.ends (path_of next.stops x.path) ≡ true) (cut.passes (left - 1) low) has))
      (record {
        within = cutting.search.within;
        listed = cutting.search.listed;
        passed = λ k l h e has. cutting.search.passed k l h e (had k h has);
      })

  searched : IsSearched (HasPiece next s) (length next.through.passes.items) (id_in next.through.passes.items) start (before_in now.through.passes.items (left - 1))
  searched = record {
    within = omega (arith, passed_first.within, cut.more);
    listed = λ l. ap (λ (x : Pass). x.id) (cut.passes (before_in now.through.passes.items (left - 1) - 1) (omega (arith, passed_first.within))) ∙ passed_first.listed l;
    passed = λ k l h e has. passed k l h e has (below_or_not k (length now.through.passes.items));
  }
    where
      passed : (k : ℕ) → before_in now.through.passes.items (left - 1) ≤ k → k < length next.through.passes.items → id_in next.through.passes.items k ≡ start → HasPiece next s k
          → (k < length now.through.passes.items) ⊎ (length now.through.passes.items ≤ k) → ⊥
      passed k l h e has (inl m) = passed_first.passed k l m (sym (ap (λ (x : Pass). x.id) (cut.passes k m)) ∙ e) has
      passed k l h e has (inr m) = gone_at (pass_of next.through k).path (cut.fresh k m h) has

  states : (k : ℕ) → k < count_of old.stops → IsAsOrCut old next s k
  states k h = by (same_or_not k (pass_of now.through (left - 1)).path) (cutting.paths k h)
    where
      by : (k ≡ (pass_of now.through (left - 1)).path) ⊎ (k ≢ (pass_of now.through (left - 1)).path) → IsAsOrCut old now s k → IsAsOrCut old next s k
      by (inr n) (inl is) = inl (cut.others k (omega (arith, cutting.same.count)) n ∙ is)
      by (inr n) (inr is) = inr (cut.others k (omega (arith, cutting.same.count)) n ∙ is)
      by (inl e) (inl is) = inr (split_here e ∙ ap (split_by s) is)
        where
          split_here : k ≡ (pass_of now.through (left - 1)).path → path_of next.stops k ≡ split_by s (path_of now.stops k)
          split_here e = subst (λ (j : ℕ). path_of next.stops j ≡ split_by s (path_of now.stops j)) (sym e) cut.cut
      by (inl e) (inr is) = inr (split_here e ∙ (ap (split_by s) is ∙ split_none s (split_by s (path_of old.stops k)) (split_gone s (path_of old.stops k) inner)))
        where
          split_here : k ≡ (pass_of now.through (left - 1)).path → path_of next.stops k ≡ split_by s (path_of now.stops k)
          split_here e = subst (λ (j : ℕ). path_of next.stops j ≡ split_by s (path_of now.stops j)) (sym e) cut.cut

  pub cutting_goes_on : IsCutting old next s start (pass_of now.through (left - 1)).before
  cutting_goes_on = record {
    filed = filed;
    same = record {
      edges = cut.same.edges ∙ cutting.same.edges;
      points = cut.same.points ∙ cutting.same.points;
      splits = cut.same.splits ∙ cutting.same.splits;
      count = cut.same.count ∙ cutting.same.count;
    };
    paths = states;
    search = searched;
  }

-- a path that has not the piece
pub cut_absent : (p : Paths) (path : ℕ) (s : EdgeSplit) → occurs s.ends (path_of p.stops path) ≡ false → IsCutPath p p path s
cut_absent p path s none = record {
  same = same_paths p;
  cut = sym (split_none s (path_of p.stops path) none);
  others = λ k h n. refl;
  more = omega arith;
  passes = λ k h. refl;
  fresh = λ k h l. absurd (omega arith);
}

pub cut_none : (p : Paths) (path : ℕ) (a b c : Stop) → AreFiled p → path < count_of p.stops → IsStop p a → IsStop p b
    → ((k : ℕ) → IsBetweenIds p.stops path a.id b.id k → ⊥) → IsCutPath p p path (cut_of a b c)
cut_none p path a b c filed within start end none = cut_absent p path (cut_of a b c) (none_between p path a b filed within start end none)

-- one that does not lead through the piece's end
pub cut_beside : (p : Paths) (path : ℕ) (a b c : Stop) → AreFiled p → path < count_of p.stops → IsStop p b → (IsPassed p.through path b.id → ⊥) → IsCutPath p p path (cut_of a b c)
cut_beside p path a b c filed within end not = cut_absent p path (cut_of a b c) none
  where
    listed : (i : ℕ) → i ≤ pieces_of p.stops path → b.at ≡ point_of p.stops path i → ⊥
    listed i l e =
        let id : b.id ≡ (stop_of p.stops path i).id = same_id p b (stop_of p.stops path i) filed.distinct end (filed.numbered path i within l) e in
        not (subst (IsPassed p.through path) (sym id) (filed.passed path i within l))

    still : occurs (a.at, b.at) (path_of p.stops path) ≡ true → ⊥
    still t =
        let at : StandsAt (a.at, b.at) (point_of p.stops path) (pieces_of p.stops path) = place_of (a.at, b.at) (point_of p.stops path) (pieces_of p.stops path) t in
        ⊎_elim
        (λ (e : ◌≡◌ {A = Edge} (a.at, b.at) (point_of p.stops path at.place, point_of p.stops path (suc at.place))). listed (suc at.place) (omega (arith, at.within)) (ap (λ (v : Edge). v.1) e))
        (λ (e : ◌≡◌ {A = Edge} (a.at, b.at) (point_of p.stops path (suc at.place), point_of p.stops path at.place)). listed at.place (omega (arith, at.within)) (ap (λ (v : Edge). v.1) e))
        ((decides_ends (a.at, b.at) (point_of p.stops path at.place, point_of p.stops path (suc at.place))).0 at.same)

    none : occurs (a.at, b.at) (path_of p.stops path) ≡ false
    none =
        ⊎_elim (λ (t : occurs (a.at, b.at) (path_of p.stops path) ≡ true). absurd (still t)) (λ (f : occurs (a.at, b.at) (path_of p.stops path) ≡ false). f)
        (cases_Bool (occurs (a.at, b.at) (path_of p.stops path)))

-- and one that has it
pub cut_found : (old new : Paths) (path place : ℕ) (a b c : Stop) → AreFiled old → path < count_of old.stops → IsStop old a → IsStop old b → IsBetweenIds old.stops path a.id b.id place
    → IsInjective (point_of old.stops path) (pieces_of old.stops path) → new.splits ≡ old.splits → IsCutAt old new path place c → IsCutPath old new path (cut_of a b c)
cut_found old new path place a b c filed within start end is once splits cut = record {
  same = record { edges = cut.edges; points = cut.points; splits = splits; count = cut.inserted.count };
  cut = path_inserted old.stops new.stops path place c is.within cut.inserted a b once (piece_same old path a b filed within start end place is);
  others = λ k h n. path_kept old.stops new.stops path place c is.within cut.inserted k h n;
  more = omega (arith, cut.added.count);
  passes = cut.added.same;
  fresh = λ k h l.
      let last : k ≡ length old.through.passes.items = omega (arith, cut.added.count) in
      ap (λ (j : ℕ). (pass_of new.through j).path) last ∙ cut.added.its_path;
}

-- where no pass is left, all paths were cut
pub cutting_ends : (old now : Paths) (a b c : Stop) (left : ℕ) → IsStop now a → left ≡ 0 → IsCutting old now (cut_of a b c) a.id left
    → (k : ℕ) → k < count_of old.stops → path_of now.stops k ≡ split_by (cut_of a b c) (path_of old.stops k)
cutting_ends old now a b c left number none cutting k h = by (cutting.paths k h)
  where
    real : k < count_of now.stops
    real = omega (arith, cutting.same.count)

    still : occurs (a.at, b.at) (path_of now.stops k) ≡ true → ⊥
    still t =
        let at : StandsAt (a.at, b.at) (point_of now.stops k) (pieces_of now.stops k) = place_of (a.at, b.at) (point_of now.stops k) (pieces_of now.stops k) t in
        ⊎_elim
        (λ (e : (a.at, b.at) ≡ (point_of now.stops k at.place, point_of now.stops k (suc at.place))). listed at.place (omega (arith, at.within)) (ap (λ (v : Edge). v.0) e))
        (λ (e : (a.at, b.at) ≡ (point_of now.stops k (suc at.place), point_of now.stops k at.place)). listed (suc at.place) (omega (arith, at.within)) (ap (λ (v : Edge). v.0) e))
        ((decides_ends (a.at, b.at) (point_of now.stops k at.place, point_of now.stops k (suc at.place))).0 at.same)
      where
        listed : (i : ℕ) → i ≤ pieces_of now.stops k → a.at ≡ point_of now.stops k i → ⊥
        listed i l e =
            let id : a.id ≡ (stop_of now.stops k i).id = same_id now a (stop_of now.stops k i) cutting.filed.distinct number (cutting.filed.numbered k i real l) e in
            let is = cutting.filed.passed k i real l in
            cutting.search.passed is.at (omega (arith, none)) is.within (is.its_id ∙ sym id)
            (subst (λ (j : ℕ). occurs (a.at, b.at) (path_of now.stops j) ≡ true) (sym is.its_path) t)

    absent : occurs (a.at, b.at) (path_of now.stops k) ≡ false
    absent =
        ⊎_elim (λ (t : occurs (a.at, b.at) (path_of now.stops k) ≡ true). absurd (still t)) (λ (f : occurs (a.at, b.at) (path_of now.stops k) ≡ false). f)
        (cases_Bool (occurs (a.at, b.at) (path_of now.stops k)))

    by : IsAsOrCut old now (cut_of a b c) k → path_of now.stops k ≡ split_by (cut_of a b c) (path_of old.stops k)
    by (inr is) = is
    by (inl is) = is ∙ sym (split_none (cut_of a b c) (path_of old.stops k) (ap (occurs (a.at, b.at)) (sym is) ∙ absent))

-- ---- all paths hold

pub edge_proper : (p : Paths) (k : ℕ) → k < length p.edges.items → IsProper (given_to p) → ProperEnds (ends_of (edge_at p.edges.items k))
edge_proper p k h proper =
    proper_of (given_to p) proper (ends_of (edge_at p.edges.items k)) (stands p.edges.items k h)
  where
    stands : (es : List NumberedEdge) (k : ℕ) → k < length es → occurs (ends_of (edge_at es k)) (map ends_of es) ≡ true
    stands [] k h = absurd (omega arith)
    stands (e ∷ es) zero h = or_left (same_ends (ends_of e) (ends_of e)) (occurs (ends_of e) (map ends_of es)) (ends_self (ends_of e))
    stands (e ∷ es) (suc k) h = or_right (same_ends (ends_of (edge_at es k)) (ends_of e)) (occurs (ends_of (edge_at es k)) (map ends_of es)) (stands es k (omega arith))

-- while paths are cut, none stops anywhere twice
pub cutting_once : (old now : Paths) (s : EdgeSplit) (start left k : ℕ) → AreCut old → AreSound (s ∷ old.splits) → IsCutting old now s start left → k < count_of now.stops
    → IsInjective (point_of now.stops k) (pieces_of now.stops k)
cutting_once old now s start left k cut sound cutting h = by (cutting.paths k low)
  where
    low : k < count_of old.stops
    low = omega (arith, cutting.same.count)

    proper : ProperEnds (ends_of (edge_at old.edges.items k))
    proper = edge_proper old k (omega (arith, cut.filed.count)) cut.proper

    by : IsAsOrCut old now s k → IsInjective (point_of now.stops k) (pieces_of now.stops k)
    by (inl is) = path_once old.splits sound.2 (ends_of (edge_at old.edges.items k)) proper (point_of now.stops k) (pieces_of now.stops k) (is ∙ cut.held k low)
    by (inr is) = path_once (s ∷ old.splits) sound (ends_of (edge_at old.edges.items k)) proper (point_of now.stops k) (pieces_of now.stops k) (is ∙ ap (split_by s) (cut.held k low))

-- none does before
pub held_once : (p : Paths) (k : ℕ) → AreCut p → k < count_of p.stops → IsInjective (point_of p.stops k) (pieces_of p.stops k)
held_once p k cut h =
    path_once p.splits cut.sound (ends_of (edge_at p.edges.items k)) (edge_proper p k (omega (arith, cut.filed.count)) cut.proper) (point_of p.stops k) (pieces_of p.stops k) (cut.held k h)

-- after the cut the paths hold for one split more
pub cut_done : (old now new : Paths) (a b c : Stop) (left : ℕ) → AreCut old → AreSound (cut_of a b c ∷ old.splits) → IsStop old a → left ≡ 0 → IsCutting old now (cut_of a b c) a.id left
    → new.edges ≡ now.edges → new.points ≡ now.points → new.stops ≡ now.stops → new.through ≡ now.through → new.splits ≡ cut_of a b c ∷ now.splits → AreCut new
cut_done old now new a b c left cut sound number none cutting edges points stops through splits =
    let noted : new.splits ≡ cut_of a b c ∷ old.splits = splits ∙ ap (λ (l : List EdgeSplit). cut_of a b c ∷ l) cutting.same.splits in
    let same : new.edges ≡ old.edges = edges ∙ cutting.same.edges in
    record {
      filed = filed_same now new edges points stops through cutting.filed;
      proper = subst (λ (v : Vec NumberedEdge Global). IsProper (map ends_of v.items)) (sym same) cut.proper;
      held = λ k h. held noted same k (subst (λ (n : ℕ). k < n) (ap count_of stops ∙ cutting.same.count) h);
      sound = subst AreSound (sym noted) sound;
    }
  where
    filed_same : (p q : Paths) → q.edges ≡ p.edges → q.points ≡ p.points → q.stops ≡ p.stops → q.through ≡ p.through → AreFiled p → AreFiled q
    filed_same p q edges points stops through filed =
        let is : q ≡ record { edges = p.edges; points = p.points; splits = q.splits; stops = p.stops; through = p.through } =
        λ i. record { edges = edges i; points = points i; splits = q.splits; stops = stops i; through = through i } in
        subst AreFiled (sym is)
        (record { count = filed.count; apart = filed.apart; points = filed.points; distinct = filed.distinct; numbered = filed.numbered; listed = filed.listed; passed = filed.passed; real = filed.real })

    held : new.splits ≡ cut_of a b c ∷ old.splits → new.edges ≡ old.edges → (k : ℕ) → k < count_of old.stops → path_of new.stops k ≡ path new.splits (ends_of (edge_at new.edges.items k))
    held noted same k h =
        ap (λ (t : Stops). path_of t k) stops
        ∙ (cutting_ends old now a b c left (subst (λ (ps : List Point). IsNumberOf ps a.at a.id) (sym cutting.same.points) number) none cutting k h
        ∙ (ap (split_by (cut_of a b c)) (cut.held k h)
        ∙ (ap (λ (ss : List EdgeSplit). path ss (ends_of (edge_at old.edges.items k))) (sym noted) ∙ ap (λ (v : Vec NumberedEdge Global). path new.splits (ends_of (edge_at v.items k))) (sym same))))

-- ---- legal splits

-- a piece of a path is one of the segments
pub piece_stands : (p : Paths) (piece : Piece) → AreFiled p → AreHeld p → IsPieceOf p piece → occurs (edge_of p piece) (after p.splits (given_to p)) ≡ true
piece_stands p piece filed held is =
    stands p.splits p.edges.items piece.path (edge_of p piece) (omega (arith, filed.count, is.path))
    (subst (λ (es : List Edge). occurs (edge_of p piece) es ≡ true) (held piece.path is.path)
    (subst (λ (i : ℕ). occurs (point_of p.stops piece.path piece.place, point_of p.stops piece.path i) (path_of p.stops piece.path) ≡ true) (sym (add-one piece.place))
    (piece_occurs (point_of p.stops piece.path) (pieces_of p.stops piece.path) piece.place is.place)))
  where
    stands : (splits : List EdgeSplit) (es : List NumberedEdge) (k : ℕ) (q : Edge) → k < length es → occurs q (path splits (ends_of (edge_at es k))) ≡ true
        → occurs q (after splits (map ends_of es)) ≡ true
    stands splits [] k q h o = absurd (omega arith)
    stands splits (e ∷ es) zero q h o =
        ap (occurs q) (after_append splits (ends_of e ∷ []) (map ends_of es))
        ∙ (occurs_append q (path splits (ends_of e)) (after splits (map ends_of es)) ∙ or_left (occurs q (path splits (ends_of e))) (occurs q (after splits (map ends_of es))) o)
    stands splits (e ∷ es) (suc k) q h o =
        ap (occurs q) (after_append splits (ends_of e ∷ []) (map ends_of es))
        ∙ (occurs_append q (path splits (ends_of e)) (after splits (map ends_of es))
        ∙ or_right (occurs q (path splits (ends_of e))) (occurs q (after splits (map ends_of es))) (stands splits es k q (omega arith) o))

pub cut_of_paths : (p : Paths) → ArePaths p → AreCut p
cut_of_paths p paths = record {
  filed = paths.filed;
  proper = paths.proper;
  held = paths.held;
  sound = sound_each p.splits (legal_sound (given_to p) p.splits paths.legal);
}

-- more points change nothing
pub cut_numbered : (old new : Paths) → AreCut old → AreFiled new → new.stops ≡ old.stops → new.edges ≡ old.edges → new.splits ≡ old.splits → AreCut new
cut_numbered old new cut filed stops edges splits = record {
  filed = filed;
  proper = subst (λ (v : Vec NumberedEdge Global). IsProper (map ends_of v.items)) (sym edges) cut.proper;
  held = λ k h.
      ap (λ (t : Stops). path_of t k) stops
      ∙ (cut.held k (subst (λ (t : Stops). k < count_of t) stops h) ∙ λ i. path (sym splits i) (ends_of (edge_at (sym edges i).items k)));
  sound = subst AreSound (sym splits) cut.sound;
}

-- both pieces were split where they meet
pub paths_split : (old new : Paths) (p q : Piece) (c : Point) → ArePaths old → IsPieceOf old p → IsPieceOf old q → Meets (edge_of old p) (edge_of old q) c → AreCut new → new.edges ≡ old.edges
    → new.splits ≡ add_split (edge_of old q) c (add_split (edge_of old p) c old.splits) → ArePaths new
paths_split old new p q c paths first second meets cut edges noted = record {
  filed = cut.filed;
  proper = cut.proper;
  held = cut.held;
  legal =
      subst (λ (v : Vec NumberedEdge Global). IsLegal (map ends_of v.items) new.splits) (sym edges)
      (subst (IsLegal (given_to old)) (sym noted)
      (split paths.legal (piece_stands old p paths.filed paths.held first) (piece_stands old q paths.filed paths.held second) meets));
}

-- ---- as the code does it

-- a split at an end is none
pub no_split : (a b c : Stop) (p : Paths) (splits : List EdgeSplit) → IsStop p a → IsStop p b → IsStop p c → (c.id ≡ a.id) ⊎ ((c.id ≡ a.id → ⊥) × (c.id ≡ b.id)) → splits ≡ add_split (a.at, b.at) c.at splits
no_split a b c p splits start end stop is =
    ap (λ (t : Bool). cond t splits (cut_of a b c ∷ splits)) (sym ((decides_end c.at (a.at, b.at)).1 (by is)))
  where
    by : (c.id ≡ a.id) ⊎ ((c.id ≡ a.id → ⊥) × (c.id ≡ b.id)) → (c.at ≡ a.at) ⊎ (c.at ≡ b.at)
    by (inl e) = inl (same_point p c a stop start e)
    by (inr e) = inr (same_point p c b stop end e.1)

pub is_inner : (a b c : Stop) (p : Paths) → AreFiled p → IsStop p a → IsStop p b → IsStop p c → (c.id ≡ a.id → ⊥) → (c.id ≡ b.id → ⊥) → is_end c.at (a.at, b.at) ≡ false
is_inner a b c p filed start end stop x y =
    ⊎_elim
    (λ (t : is_end c.at (a.at, b.at) ≡ true).
    absurd
    (⊎_elim (λ (e : c.at ≡ a.at). x (same_id p c a filed.distinct stop start e)) (λ (e : c.at ≡ b.at). y (same_id p c b filed.distinct stop end e))
    ((decides_end c.at (a.at, b.at)).0 t)))
    (λ (f : is_end c.at (a.at, b.at) ≡ false). f)
    (cases_Bool (is_end c.at (a.at, b.at)))

pub one_split : (a b c : Stop) (splits : List EdgeSplit) → is_end c.at (a.at, b.at) ≡ false → cut_of a b c ∷ splits ≡ add_split (a.at, b.at) c.at splits
one_split a b c splits inner = ap (λ (t : Bool). cond t splits (cut_of a b c ∷ splits)) (sym inner)

-- two splits, one after the other
pub both_noted : (e f e' f' : Edge) (at at' : Point) (none one two three : List EdgeSplit) → e' ≡ e → f' ≡ f → at' ≡ at → one ≡ none → two ≡ add_split e' at' one → three ≡ add_split f' at' two
    → three ≡ add_split f at (add_split e at none)
both_noted e f e' f' at at' none one two three first second place start a b =
    let before : two ≡ add_split e at none = a ∙ λ i. add_split (first i) (place i) (start i) in
    b ∙ λ i. add_split (second i) (place i) (before i)
