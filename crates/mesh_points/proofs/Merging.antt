-- Lemmas over edges between numbered points.
use Rattle.std.proofs.Common.{◌≡◌, ◌≢◌, ℕ, ◌+◌, ◌-◌, ◌<◌, ◌≤◌, ◌^◌, ◌⊎◌, inl, inr, ⊎_elim, true, false, List, [], ◌∷◌, ◌++◌, length, map, get_or, set, take, zero, suc, add-one, sym, ◌∙◌, ap, subst, arith, get_or-set_other, get_or-set_same}
use Rattle.std.specs.Prelude.{ℤ, ◌+ℤ◌, unsigned_abs}
use Rattle.std.proofs.Math.ListN.{length-take, length-set, length-append, get_or-append, get_or-map}
use Rattle.std.proofs.Math.Seq.{get_or-append_seam, take-suc}
use Rattle.std.proofs.lemmas.List.{length-map, map-append, map-set}
use Rattle.std.proofs.lemmas.Bool.{cases_Bool, or_left, or_right}
use Rattle.std.proofs.lemmas.Int.{ints}
use mir.Syntax.{w32}
use mir.Val.{to_z, of_z}
use Rattle.mesh_plane.specs.Order.{point_lt}
use Rattle.mesh_plane.specs.Plane.{Point, Edge}
use Rattle.mesh_plane.specs.Winding.{same_point}
use Rattle.mesh_lattice.specs.Clean.{IsProper}
use Rattle.mesh_lattice.specs.Split.{back, occurs, same_ends}
use Rattle.mesh_lattice.specs.Counted.{Counted, IsCountOf}
use Rattle.mesh_lattice.proofs.Ends.{decides_ends, ends_self}
use Rattle.mesh_points.specs.declared.edges.NumberedEdge.{NumberedEdge}
use Rattle.mesh_points.specs.declared.edges.Merger.{Merger}
use Rattle.mesh_points.specs.Edges.{counted, edge_at, no_edge, AreNumbered, IsCountedAs, IsNumbered, IsPlaceOf}
use Rattle.mesh_points.specs.Points.{point_at, AreDistinct, IsNewPoint, IsNumberOf}
use Rattle.mesh_points.specs.Chains.{AreChained}
use Rattle.mesh_points.specs.Merged.{link_in, start_in, AreCountsWithin, AreFiled, AreOf, IsMerged}
use Rattle.mesh_points.proofs.Chains.{chain_pushed, chain_widened}
use Rattle.mesh_points.proofs.Counting.{count_new, count_raised, sum_kept}
use Rattle.mesh_points.proofs.Numbers.{number_kept}

-- ---- numbers tell points apart

order : (i j : ℕ) → (i < j) ⊎ ((i ≡ j) ⊎ (j < i))
order i j = grind arith

pub one_number : (ps : List Point) (p : Point) (i j : ℕ) → AreDistinct ps → IsNumberOf ps p i → IsNumberOf ps p j → i ≡ j
one_number ps p i j apart a b = by (order i j)
  where
    by : (i < j) ⊎ ((i ≡ j) ⊎ (j < i)) → i ≡ j
    by (inl h) = absurd (apart.distinct i j h b.within (a.at ∙ sym b.at))
    by (inr (inl h)) = h
    by (inr (inr h)) = absurd (apart.distinct j i h a.within (b.at ∙ sym a.at))

asymmetric : (a b x y : ℤ) → point_lt (a, b) (x, y) ≡ true → point_lt (x, y) (a, b) ≡ true → ⊥
asymmetric a b x y h k = grind (arith, ints)

abbrev counted_ends : NumberedEdge → Edge
counted_ends e = (e.start, e.end)

-- edges with other numbers have other ends
pub ends_apart : (ps : List Point) (e f : NumberedEdge) → AreDistinct ps → IsNumbered ps e → IsNumbered ps f → (f.from ≡ e.from → f.to ≡ e.to → ⊥)
    → same_ends (e.start, e.end) (f.start, f.end) ≡ false
ends_apart ps e f apart a b other = by (cases_Bool (same_ends (e.start, e.end) (f.start, f.end)))
  where
    same : (e.start ≡ f.start) → (e.end ≡ f.end) → ⊥
    same h k =
        other (one_number ps f.start f.from e.from apart b.from (subst (λ (p : Point). IsNumberOf ps p e.from) h a.from))
        (one_number ps f.end f.to e.to apart b.to (subst (λ (p : Point). IsNumberOf ps p e.to) k a.to))

    turned : (e.start ≡ f.end) → (e.end ≡ f.start) → ⊥
    turned h k =
        asymmetric f.start.0 f.start.1 f.end.0 f.end.1 b.forward (ap (λ (p : Point). point_lt p f.start) (sym h) ∙ (ap (point_lt e.start) (sym k) ∙ a.forward))

    by : (same_ends (e.start, e.end) (f.start, f.end) ≡ true) ⊎ (same_ends (e.start, e.end) (f.start, f.end) ≡ false) → same_ends (e.start, e.end) (f.start, f.end) ≡ false
    by (inl t) =
        absurd
        (⊎_elim (λ (h : counted_ends e ≡ counted_ends f). same (ap (λ (v : Edge). v.0) h) (ap (λ (v : Edge). v.1) h))
        (λ (h : counted_ends e ≡ back (counted_ends f)). turned (ap (λ (v : Edge). v.0) h) (ap (λ (v : Edge). v.1) h))
        ((decides_ends (e.start, e.end) (f.start, f.end)).0 t))
    by (inr n) = n

-- edges with the same numbers have the same ends
pub ends_same : (ps : List Point) (e f : NumberedEdge) → IsNumbered ps e → IsNumbered ps f → f.from ≡ e.from → f.to ≡ e.to → (f.start ≡ e.start) × (f.end ≡ e.end)
ends_same ps e f a b h k =
    let start : f.start ≡ e.start = sym b.from.at ∙ (ap (point_at ps) h ∙ a.from.at) in
    let end : f.end ≡ e.end = sym b.to.at ∙ (ap (point_at ps) k ∙ a.to.at) in
    (start, end)

-- ---- an edge whose ends stand

-- an edge in place of another one, with the same ends and a count that is added to its
pub record IsRaisedTo (es : List NumberedEdge) (e : NumberedEdge) (k : ℕ) (x : NumberedEdge) : Type 0 where
  pub start : x.start ≡ (edge_at es k).start
  pub end : x.end ≡ (edge_at es k).end
  pub from : x.from ≡ (edge_at es k).from
  pub to : x.to ≡ (edge_at es k).to
  pub count : x.count ≡ (edge_at es k).count +ℤ e.count

same_or_not : (i j : ℕ) → (i ≡ j) ⊎ (i ≢ j)
same_or_not i j = grind arith

edge_set : (es : List NumberedEdge) (k j : ℕ) (x : NumberedEdge) → k < length es → j ≡ k → edge_at (set es k x) j ≡ x
edge_set es k j x here h = ap (edge_at (set es k x)) h ∙ get_or-set_same es k x no_edge here

edge_kept : (es : List NumberedEdge) (k j : ℕ) (x : NumberedEdge) → j ≢ k → edge_at (set es k x) j ≡ edge_at es j
edge_kept es k j x n = get_or-set_other es k j x no_edge n

pub filed_raised : (es : List NumberedEdge) (ps : List Point) (last before : List ℕ) (e x : NumberedEdge) (k : ℕ) → k < length es → IsRaisedTo es e k x
    → AreFiled es ps last before → AreFiled (set es k x) ps last before
filed_raised es ps last before e x k here raised filed =
    let many : length (set es k x) ≡ length es = length-set es k x in
    record {
      points = filed.points;
      links = filed.links ∙ sym many;
      chained =
          subst (λ (n : ℕ). AreChained last n (link_in before) (start_in (set es k x))) (sym many)
          (subst (λ (key : ℕ → ℕ). AreChained last (length es) (link_in before) key) (sym (λ i j. starts j (same_or_not j k) i)) filed.chained);
      numbered = λ j h. numbered j (omega (arith, many)) (same_or_not j k);
      distinct = filed.distinct;
      fit = omega (arith, many, filed.fit);
    }
  where
    starts : (j : ℕ) → (j ≡ k) ⊎ (j ≢ k) → start_in (set es k x) j ≡ start_in es j
    starts j (inl h) = ap (λ (y : NumberedEdge). y.from) (edge_set es k j x here h) ∙ (raised.from ∙ ap (start_in es) (sym h))
    starts j (inr n) = ap (λ (y : NumberedEdge). y.from) (edge_kept es k j x n)

    own : IsNumbered ps x
    own =
        let was = filed.numbered k here in
        record {
          forward = ap (λ (p : Point). point_lt p x.end) raised.start ∙ (ap (point_lt (edge_at es k).start) raised.end ∙ was.forward);
          from = subst (λ (p : Point). IsNumberOf ps p x.from) (sym raised.start) (subst (IsNumberOf ps (edge_at es k).start) (sym raised.from) was.from);
          to = subst (λ (p : Point). IsNumberOf ps p x.to) (sym raised.end) (subst (IsNumberOf ps (edge_at es k).end) (sym raised.to) was.to);
        }

    numbered : (j : ℕ) → j < length es → (j ≡ k) ⊎ (j ≢ k) → IsNumbered ps (edge_at (set es k x) j)
    numbered j h (inl p) = subst (IsNumbered ps) (sym (edge_set es k j x here p)) own
    numbered j h (inr n) = subst (IsNumbered ps) (sym (edge_kept es k j x n)) (filed.numbered j h)

counted_at : (es : List NumberedEdge) (k : ℕ) → get_or (map counted es) k (counted no_edge) ≡ counted (edge_at es k)
counted_at es k = get_or-map counted es k no_edge

counted_many : (es : List NumberedEdge) → length (map counted es) ≡ length es
counted_many es = length-map es counted

summed : (a b : ℤ) (n : ℕ) → unsigned_abs a ≤ n → unsigned_abs b ≤ 1 → unsigned_abs (a +ℤ b) ≤ n + 1
summed a b n h k = omega (arith, ints)

pub of_raised : (given : List Edge) (g : Edge) (es : List NumberedEdge) (ps : List Point) (e x : NumberedEdge) (k : ℕ) → AreNumbered ps es → IsNumbered ps e
    → IsPlaceOf es e.from e.to k → IsRaisedTo es e k x → IsCountedAs g (counted e) → AreOf given es → AreOf (given ++ g ∷ []) (set es k x)
of_raised given g es ps e x k all one place raised alike of =
    let same : (edge_at es k).start ≡ e.start = (ends_same ps e (edge_at es k) one (all k place.within) place.from place.to).0 in
    let same_end : (edge_at es k).end ≡ e.end = (ends_same ps e (edge_at es k) one (all k place.within) place.from place.to).1 in
    let mine : Edge = (x.start, x.end) in
    let its : Edge = (e.start, e.end) in
    let ends : mine ≡ its = λ i. ((raised.start ∙ same) i, (raised.end ∙ same_end) i) in
    let here : k < length (map counted es) = omega (arith, place.within, counted_many es) in
    let stands : (get_or (map counted es) k (counted no_edge)).0 ≡ its = ap (λ (y : Counted). y.0) (counted_at es k) ∙ λ i. (same i, same_end i) in
    let sum : x.count ≡ (get_or (map counted es) k (counted no_edge)).1 +ℤ e.count = raised.count ∙ ap (λ (y : Counted). y.1 +ℤ e.count) (sym (counted_at es k)) in
    record {
      count =
          subst (IsCountOf (given ++ g ∷ [])) (sym (map-set counted es k x))
          (subst (λ (v : Edge). IsCountOf (given ++ g ∷ []) (set (map counted es) k (v, x.count))) (sym ends)
          (count_raised given (map counted es) g (counted e) (counted no_edge) k x.count of.count alike here stands sum));
      sizes = λ j h. sized j (omega (arith, length-set es k x)) (same_or_not j k);
      few = omega (arith, length-set es k x, length-append given (g ∷ []), of.few);
    }
  where
    longer : length (given ++ g ∷ []) ≡ length given + 1
    longer = length-append given (g ∷ [])

    sized : (j : ℕ) → j < length es → (j ≡ k) ⊎ (j ≢ k) → unsigned_abs (edge_at (set es k x) j).count ≤ length (given ++ g ∷ [])
    sized j h (inl p) =
        let is : (edge_at (set es k x) j).count ≡ (edge_at es k).count +ℤ e.count = ap (λ (y : NumberedEdge). y.count) (edge_set es k j x place.within p) ∙ raised.count in
        omega (arith, longer, ap unsigned_abs is, summed (edge_at es k).count e.count (length given) (of.sizes k place.within) alike.size)
    sized j h (inr n) = omega (arith, longer, ap (λ (y : NumberedEdge). unsigned_abs y.count) (edge_kept es k j x n), of.sizes j h)

-- ---- an edge whose ends do not stand

edge_before : (es : List NumberedEdge) (e : NumberedEdge) (j : ℕ) → j < length es → edge_at (es ++ e ∷ []) j ≡ edge_at es j
edge_before es e j h = get_or-append es (e ∷ []) no_edge j h

edge_last : (es : List NumberedEdge) (e : NumberedEdge) → edge_at (es ++ e ∷ []) (length es) ≡ e
edge_last es e = get_or-append_seam es e [] no_edge

below_or_at : (k n : ℕ) → k < n + 1 → (k < n) ⊎ (k ≡ n)
below_or_at k n h = grind arith

pub filed_new : (es : List NumberedEdge) (ps : List Point) (last before : List ℕ) (e : NumberedEdge) (link : ℕ) → AreFiled es ps last before → IsNumbered ps e
    → length es + 1 < 2 ^ 31 → link ≡ get_or last e.from 0 → AreFiled (es ++ e ∷ []) ps (set last e.from (length es + 1)) (before ++ link ∷ [])
filed_new es ps last before e link filed one fits is =
    let many : length (es ++ e ∷ []) ≡ length es + 1 = length-append es (e ∷ []) in
    let within : e.from < length last = omega (arith, filed.points, one.from.within) in
    record {
      points = length-set last e.from (length es + 1) ∙ filed.points;
      links = omega (arith, many, length-append before (link ∷ []), filed.links);
      chained =
          subst (λ (n : ℕ). AreChained (set last e.from (length es + 1)) n (link_in (before ++ link ∷ [])) (start_in (es ++ e ∷ []))) (sym many)
          (chain_pushed last (length es) (link_in before) (start_in es) (link_in (before ++ link ∷ [])) (start_in (es ++ e ∷ [])) e.from within filed.chained
          (record {
            befores = λ k h. get_or-append before (link ∷ []) 0 k (omega (arith, filed.links));
            keys = λ k h. ap (λ (y : NumberedEdge). y.from) (edge_before es e k h);
            next_link = ap (link_in (before ++ link ∷ [])) (sym filed.links) ∙ (get_or-append_seam before link [] 0 ∙ is);
            next_key = ap (λ (y : NumberedEdge). y.from) (edge_last es e);
          }));
      numbered = λ j h. numbered j (below_or_at j (length es) (omega (arith, many)));
      distinct = filed.distinct;
      fit = omega (arith, many, fits);
    }
  where
    numbered : (j : ℕ) → (j < length es) ⊎ (j ≡ length es) → IsNumbered ps (edge_at (es ++ e ∷ []) j)
    numbered j (inl h) = subst (IsNumbered ps) (sym (edge_before es e j h)) (filed.numbered j h)
    numbered j (inr h) = subst (IsNumbered ps) (sym (ap (edge_at (es ++ e ∷ [])) h ∙ edge_last es e)) one

pub of_new : (given : List Edge) (g : Edge) (es : List NumberedEdge) (ps : List Point) (e : NumberedEdge) → AreDistinct ps → AreNumbered ps es → IsNumbered ps e
    → ((k : ℕ) → IsPlaceOf es e.from e.to k → ⊥) → IsCountedAs g (counted e) → AreOf given es → AreOf (given ++ g ∷ []) (es ++ e ∷ [])
of_new given g es ps e distinct all one absent alike of = record {
  count =
      subst (IsCountOf (given ++ g ∷ [])) (sym (map-append counted es (e ∷ [])))
      (count_new given (map counted es) g (counted e) (counted no_edge) of.count alike (λ k h. none k (omega (arith, counted_many es))));
  sizes = λ j h. sized j (below_or_at j (length es) (omega (arith, length-append es (e ∷ []))));
  few = omega (arith, length-append es (e ∷ []), longer, of.few);
}
  where
    longer : length (given ++ g ∷ []) ≡ length given + 1
    longer = length-append given (g ∷ [])

    none : (k : ℕ) → k < length es → same_ends (counted e).0 (get_or (map counted es) k (counted no_edge)).0 ≡ false
    none k h =
        ap (λ (y : Counted). same_ends (e.start, e.end) y.0) (counted_at es k)
        ∙ ends_apart ps e (edge_at es k) distinct one (all k h) (λ u v. absent k (record { within = h; from = u; to = v }))

    sized : (j : ℕ) → (j < length es) ⊎ (j ≡ length es) → unsigned_abs (edge_at (es ++ e ∷ []) j).count ≤ length (given ++ g ∷ [])
    sized j (inl h) = omega (arith, longer, ap (λ (y : NumberedEdge). unsigned_abs y.count) (edge_before es e j h), of.sizes j h)
    sized j (inr h) =
        omega (arith, longer, ap (λ (y : NumberedEdge). unsigned_abs y.count) (ap (edge_at (es ++ e ∷ [])) h ∙ edge_last es e), alike.size)

-- ---- a point more

pub filed_numbered : (es : List NumberedEdge) (ps ps' : List Point) (last last' before : List ℕ) (p : Point) → AreFiled es ps last before → IsNewPoint ps ps' p
    → AreDistinct ps' → last' ≡ last ++ 0 ∷ [] → AreFiled es ps' last' before
filed_numbered es ps ps' last last' before p filed more distinct is = record {
  points = ap length is ∙ (length-append last (0 ∷ []) ∙ (ap (λ (n : ℕ). n + 1) filed.points ∙ (sym (length-append ps (p ∷ [])) ∙ sym (ap length more.added))));
  links = filed.links;
  chained = subst (λ (xs : List ℕ). AreChained xs (length es) (link_in before) (start_in es)) (sym is) (chain_widened last (length es) (link_in before) (start_in es) filed.chained);
  numbered = λ k h.
      let was = filed.numbered k h in
      subst (λ (qs : List Point). IsNumbered qs (edge_at es k)) (sym more.added)
      (record {
        forward = was.forward;
        from = number_kept ps p (edge_at es k).start (edge_at es k).from was.from;
        to = number_kept ps p (edge_at es k).end (edge_at es k).to was.to;
      });
  distinct = distinct;
  fit = filed.fit;
}

-- ---- as the code does it

-- an edge whose count was added to, in 32 bits
abbrev pub added_to : NumberedEdge → ℤ → NumberedEdge
added_to now n = record {
  start = now.start;
  end = now.end;
  from = now.from;
  to = now.to;
  count = to_z w32 (of_z w32 (to_z w32 (of_z w32 now.count) +ℤ to_z w32 (of_z w32 n)));
}

pub added_raised : (es : List NumberedEdge) (e now : NumberedEdge) (k : ℕ) → now ≡ edge_at es k → unsigned_abs now.count ≤ 2 ^ 31 - 2 → unsigned_abs e.count ≤ 1
    → IsRaisedTo es e k (added_to now e.count)
added_raised es e now k is least one = record {
  start = ap (λ (y : NumberedEdge). y.start) is;
  end = ap (λ (y : NumberedEdge). y.end) is;
  from = ap (λ (y : NumberedEdge). y.from) is;
  to = ap (λ (y : NumberedEdge). y.to) is;
  count = sum_kept now.count e.count least one ∙ ap (λ (y : NumberedEdge). y.count +ℤ e.count) is;
}

pub record IsPutLast (es es' : List NumberedEdge) (before before' last : List ℕ) (e : NumberedEdge) (link n : ℕ) : Type 0 where
  pub edges : es' ≡ es ++ e ∷ []
  pub links : before' ≡ before ++ link ∷ []
  pub is_link : link ≡ get_or last e.from 0
  pub count : n ≡ length es

pub put_filed : (es es' : List NumberedEdge) (ps : List Point) (last before before' : List ℕ) (e : NumberedEdge) (link n : ℕ) → AreFiled es ps last before → IsNumbered ps e
    → length es + 1 < 2 ^ 31 → IsPutLast es es' before before' last e link n → AreFiled es' ps (set last e.from (n + 1)) before'
put_filed es es' ps last before before' e link n filed one fits put =
    subst (λ (xs : List NumberedEdge). AreFiled xs ps (set last e.from (n + 1)) before') (sym put.edges)
    (subst (λ (xs : List ℕ). AreFiled (es ++ e ∷ []) ps (set last e.from (n + 1)) xs) (sym put.links)
    (subst (λ (k : ℕ). AreFiled (es ++ e ∷ []) ps (set last e.from (k + 1)) (before ++ link ∷ [])) (sym put.count)
    (filed_new es ps last before e link filed one fits put.is_link)))

-- ---- the given edges

pub given_proper : (given : List Edge) (i : ℕ) (d : Edge) → i < length given → IsProper given → same_point (get_or given i d).0 (get_or given i d).1 ≡ false
given_proper given i d h proper = proper (get_or given i d) (stands given i h)
  where
    stands : (es : List Edge) (i : ℕ) → i < length es → occurs (get_or es i d) es ≡ true
    stands [] i h = absurd (omega arith)
    stands (e ∷ es) zero h = or_left (same_ends e e) (occurs e es) (ends_self e)
    stands (e ∷ es) (suc i) h = or_right (same_ends (get_or es i d) e) (occurs (get_or es i d) es) (stands es i (omega arith))

pub given_more : (given : List Edge) (i : ℕ) (d : Edge) (m : Merger) → i < length given → IsMerged (take i given ++ get_or given i d ∷ []) m → IsMerged (take (i + 1) given) m
given_more given i d m h merged =
    subst (λ (n : ℕ). IsMerged (take n given) m) (sym (add-one i)) (subst (λ (es : List Edge). IsMerged es m) (sym (take-suc given i d h)) merged)

-- what is known of the given edges before `i` holds for counts that fit
pub counts_small : (given : List Edge) (i : ℕ) (es es' : List NumberedEdge) → i < length given → length given ≤ 2 ^ 31 - 1 → es' ≡ es → AreOf (take i given) es
    → AreCountsWithin es' (2 ^ 31 - 2)
counts_small given i es es' h most is of = subst (λ (xs : List NumberedEdge). AreCountsWithin xs (2 ^ 31 - 2)) (sym is) (λ k l. omega (arith, of.sizes k l, length-take i given))
