-- Lemmas over the pieces of paths, collected one by one.
use Rattle.std.proofs.Common.{◌≡◌, ◌≢◌, ◌⊎◌, inl, inr, ℕ, zero, suc, ◌+◌, ◌-◌, ◌<◌, ◌≤◌, ◌^◌, false, List, [], ◌∷◌, ◌++◌, length, map, get_or, set, take, add-one, append_assoc, refl, sym, ◌∙◌, ap, subst, arith}
use Rattle.std.specs.Prelude.{ℤ, ◌+ℤ◌}
use Rattle.std.proofs.Math.ListN.{length-append, get_or-map}
use Rattle.std.proofs.Math.Seq.{take-length, take-suc}
use Rattle.std.proofs.lemmas.List.{length-map, map-append, map-set}
use Rattle.std.proofs.lemmas.Int.{to_z-of_z}
use mir.Syntax.{w32}
use mir.Val.{SFits, of_z, to_z}
use Rattle.mesh_plane.specs.Plane.{Point, Edge}
use Rattle.mesh_plane.specs.Winding.{same_point}
use Rattle.mesh_lattice.specs.Clean.{IsProper}
use Rattle.mesh_lattice.specs.Counted.{Counted, IsCountOf}
use Rattle.mesh_lattice.specs.Split.{after, path, same_ends, EdgeSplit, IsLegal}
use Rattle.mesh_lattice.proofs.SoundSplits.{after_proper, legal_sound}
use Rattle.mesh_points.specs.declared.edges.NumberedEdge.{NumberedEdge}
use Rattle.mesh_points.specs.Edges.{counted, edge_at, no_edge, AreNumbered, IsNumbered, IsPlaceOf}
use Rattle.mesh_points.specs.Points.{AreDistinct}
use Rattle.mesh_points.specs.Merged.{AreFiled}
use Rattle.mesh_points.proofs.Chains.{chain_none}
use Rattle.mesh_points.proofs.Merging.{ends_apart, ends_same, filed_raised, put_filed, IsPutLast, IsRaisedTo}
use Rattle.mesh_paths.specs.declared.paths.Paths.{Paths}
use Rattle.mesh_paths.specs.declared.paths.Piece.{Piece}
use Rattle.mesh_paths.specs.declared.pieces.Pieces.{Pieces}
use Rattle.mesh_paths.specs.Paths.{edge_of, ends_of, given_to, ArePaths, IsPieceOf}
use Rattle.mesh_paths.specs.Pieces.{alike, ends_in, segments_of, AreMergedOf, AreReached}
use Rattle.mesh_paths.specs.Private.Merging.{segments_to, CountAlike, IsMergedTo}
use Rattle.mesh_paths.specs.Stops.{count_of, edges_along, path_of, pieces_of, point_of}
use Rattle.mesh_paths.proofs.Along.{later}
use Rattle.mesh_paths.proofs.Cuts.{piece_stands}
use Rattle.mesh_paths.proofs.Merged.{merged_new, merged_raised, reached, segments_more}

counted_at : (es : List NumberedEdge) (k : ℕ) → get_or (map counted es) k (counted no_edge) ≡ counted (edge_at es k)
counted_at es k = get_or-map counted es k no_edge

counted_many : (es : List NumberedEdge) → length (map counted es) ≡ length es
counted_many es = length-map es counted

-- ---- one piece more

raised_of : (all : List Counted) (g : Counted) (es : List NumberedEdge) (ps : List Point) (e x : NumberedEdge) (k : ℕ) → AreNumbered ps es → IsNumbered ps e
    → IsPlaceOf es e.from e.to k → IsRaisedTo es e k x → CountAlike g (counted e) → AreMergedOf all (map counted es) → AreMergedOf (all ++ g ∷ []) (map counted (set es k x))
raised_of all g es ps e x k numbered one place raised alike of =
    let same : (edge_at es k).start ≡ e.start = (ends_same ps e (edge_at es k) one (numbered k place.within) place.from place.to).0 in
    let same_end : (edge_at es k).end ≡ e.end = (ends_same ps e (edge_at es k) one (numbered k place.within) place.from place.to).1 in
    let mine : Edge = (x.start, x.end) in
    let its : Edge = (e.start, e.end) in
    let ends : mine ≡ its = λ i. ((raised.start ∙ same) i, (raised.end ∙ same_end) i) in
    let here : k < length (map counted es) = omega (arith, place.within, counted_many es) in
    let stands : (get_or (map counted es) k (counted no_edge)).0 ≡ its = ap (λ (y : Counted). y.0) (counted_at es k) ∙ λ i. (same i, same_end i) in
    let sum : x.count ≡ (get_or (map counted es) k (counted no_edge)).1 +ℤ e.count = raised.count ∙ ap (λ (y : Counted). y.1 +ℤ e.count) (sym (counted_at es k)) in
    subst (AreMergedOf (all ++ g ∷ [])) (sym (map-set counted es k x))
    (subst (λ (v : Edge). AreMergedOf (all ++ g ∷ []) (set (map counted es) k (v, x.count))) (sym ends)
    (merged_raised all (map counted es) g (counted e) (counted no_edge) k x.count of alike here stands sum))

new_of : (all : List Counted) (g : Counted) (es : List NumberedEdge) (ps : List Point) (e : NumberedEdge) → AreDistinct ps → AreNumbered ps es → IsNumbered ps e
    → ((k : ℕ) → IsPlaceOf es e.from e.to k → ⊥) → CountAlike g (counted e) → AreMergedOf all (map counted es) → AreMergedOf (all ++ g ∷ []) (map counted (es ++ e ∷ []))
new_of all g es ps e distinct numbered one absent alike of =
    subst (AreMergedOf (all ++ g ∷ [])) (sym (map-append counted es (e ∷ [])))
    (merged_new all (map counted es) g (counted e) (counted no_edge) of alike (λ k h. none k (omega (arith, counted_many es))))
  where
    none : (k : ℕ) → k < length es → same_ends (counted e).0 (get_or (map counted es) k (counted no_edge)).0 ≡ false
    none k h =
        ap (λ (y : Counted). same_ends (e.start, e.end) y.0) (counted_at es k)
        ∙ ends_apart ps e (edge_at es k) distinct one (numbered k h) (λ u v. absent k (record { within = h; from = u; to = v }))

-- pieces that are segments, merged, by their lists
abbrev pub AreMerged : List Point → List Counted → List NumberedEdge → List ℕ → List ℕ → Type 0
AreMerged ps all es last before = AreFiled es ps last before × AreMergedOf all (map counted es)

-- its count was added
pub merged_added : (es : List NumberedEdge) (last before : List ℕ) (e x : NumberedEdge) (k : ℕ) → IsPlaceOf es e.from e.to k → IsRaisedTo es e k x → (ps : List Point) (all : List Counted)
    (g : Counted) → IsNumbered ps e → CountAlike g (counted e) → AreMerged ps all es last before → AreMerged ps (all ++ g ∷ []) (set es k x) last before
merged_added es last before e x k place raised ps all g one alike was = (
  filed_raised es ps last before e x k place.within raised was.0,
  raised_of all g es ps e x k was.0.numbered one place raised alike was.1,
)

-- it was put last
pub merged_put : (es es' : List NumberedEdge) (last before before' : List ℕ) (e : NumberedEdge) (link n : ℕ) → IsPutLast es es' before before' last e link n → length es + 1 < 2 ^ 31
    → ((k : ℕ) → IsPlaceOf es e.from e.to k → ⊥) → (ps : List Point) (all : List Counted) (g : Counted) → IsNumbered ps e → CountAlike g (counted e) → AreMerged ps all es last before
    → AreMerged ps (all ++ g ∷ []) es' (set last e.from (n + 1)) before'
merged_put es es' last before before' e link n put fits absent ps all g one alike was = (
  put_filed es es' ps last before before' e link n was.0 one fits put,
  subst (λ (xs : List NumberedEdge). AreMergedOf (all ++ g ∷ []) (map counted xs)) (sym put.edges) (new_of all g es ps e was.0.distinct was.0.numbered one absent alike was.1),
)

-- a piece with another count, in 32 bits
abbrev pub with_count : NumberedEdge → ℤ → NumberedEdge
with_count now n = record { start = now.start; end = now.end; from = now.from; to = now.to; count = to_z w32 (of_z w32 n) }

-- a sum that fits
abbrev pub IsSum : ℤ → ℤ → ℤ → Type 0
IsSum n a b = SFits w32 (to_z w32 (of_z w32 a) +ℤ to_z w32 (of_z w32 b)) × (n ≡ to_z w32 (of_z w32 a) +ℤ to_z w32 (of_z w32 b))

pub raised_by : (es : List NumberedEdge) (e now first : NumberedEdge) (k : ℕ) (n : ℤ) → now ≡ edge_at es k → first ≡ edge_at es k → SFits w32 first.count → SFits w32 e.count → IsSum n first.count e.count
    → IsRaisedTo es e k (with_count now n)
raised_by es e now first k n is was fits own sum = record {
  start = ap (λ (y : NumberedEdge). y.start) is;
  end = ap (λ (y : NumberedEdge). y.end) is;
  from = ap (λ (y : NumberedEdge). y.from) is;
  to = ap (λ (y : NumberedEdge). y.to) is;
  count =
      to_z-of_z w32 n (subst (SFits w32) (sym sum.1) sum.0)
      ∙ (sum.1
      ∙ λ i. (to_z-of_z w32 first.count fits ∙ ap (λ (y : NumberedEdge). y.count) was) i +ℤ to_z-of_z w32 e.count own i);
}

-- ---- the pieces of a path

along_more : (a : ℕ → Point) (n : ℕ) → edges_along a (suc n) ≡ edges_along a n ++ (a n, a (suc n)) ∷ []
along_more a zero = refl
along_more a (suc n) = ap (λ (es : List Edge). (a 0, a 1) ∷ es) (along_more (later a) n)

append_none : (xs : List Counted) → xs ++ [] ≡ xs
append_none [] = refl
append_none (x ∷ xs) = ap (λ (l : List Counted). x ∷ l) (append_none xs)

-- one more of them
pub segments_next : (p : Paths) (k place : ℕ)
    → segments_to p k (place + 1) ≡ segments_to p k place ++ ((point_of p.stops k place, point_of p.stops k (place + 1)), (edge_at p.edges.items k).count) ∷ []
segments_next p k place =
    subst (λ (n : ℕ). segments_to p k n ≡ segments_to p k place ++ ((point_of p.stops k place, point_of p.stops k n), (edge_at p.edges.items k).count) ∷ []) (sym (add-one place)) by
  where
    by : segments_to p k (suc place) ≡ segments_to p k place ++ ((point_of p.stops k place, point_of p.stops k (suc place)), (edge_at p.edges.items k).count) ∷ []
    by =
        ap (λ (es : List Edge). segments_of p.splits (take k (map counted p.edges.items)) ++ alike es (edge_at p.edges.items k).count) (along_more (point_of p.stops k) place)
        ∙ (ap (λ (l : List Counted). segments_of p.splits (take k (map counted p.edges.items)) ++ l)
        (map-append (λ (e : Edge). (e, (edge_at p.edges.items k).count)) (edges_along (point_of p.stops k) place) ((point_of p.stops k place, point_of p.stops k (suc place)) ∷ []))
        ∙ sym (append_assoc (segments_of p.splits (take k (map counted p.edges.items))) (alike (edges_along (point_of p.stops k) place) (edge_at p.edges.items k).count) (((point_of p.stops k place, point_of p.stops k (suc place)), (edge_at p.edges.items k).count) ∷ [])))

-- the next path
pub segments_path : (p : Paths) (k : ℕ) → ArePaths p → k < count_of p.stops → segments_to p (k + 1) 0 ≡ segments_to p k (pieces_of p.stops k)
segments_path p k paths h =
    append_none (segments_of p.splits (take (k + 1) (map counted p.edges.items)))
    ∙ (ap (λ (n : ℕ). segments_of p.splits (take n (map counted p.edges.items))) (add-one k)
    ∙ (ap (segments_of p.splits) (take-suc (map counted p.edges.items) k (counted no_edge) low)
    ∙ (segments_more p.splits (take k (map counted p.edges.items)) (get_or (map counted p.edges.items) k (counted no_edge))
    ∙ (ap (λ (x : Counted). segments_of p.splits (take k (map counted p.edges.items)) ++ alike (path p.splits x.0) x.1) (counted_at p.edges.items k)
    ∙ ap (λ (es : List Edge). segments_of p.splits (take k (map counted p.edges.items)) ++ alike es (edge_at p.edges.items k).count) (sym (paths.held k h))))))
  where
    low : k < length (map counted p.edges.items)
    low = omega (arith, counted_many p.edges.items, paths.filed.count)

-- a piece has two ends
pub piece_proper : (p : Paths) (piece : Piece) → ArePaths p → IsPieceOf p piece → same_point (edge_of p piece).0 (edge_of p piece).1 ≡ false
piece_proper p piece paths is = after_proper p.splits (legal_sound (given_to p) p.splits paths.legal) (given_to p) paths.proper (edge_of p piece) (piece_stands p piece paths.filed paths.held is)

-- ---- all paths

pub ends_counted : (es : List NumberedEdge) → ends_in (map counted es) ≡ map ends_of es
ends_counted [] = refl
ends_counted (e ∷ es) = ap (λ (l : List Edge). (e.start, e.end) ∷ l) (ends_counted es)

pub all_reached : (p : Paths) (pieces : Pieces) (n : ℕ) → ArePaths p → n ≡ length p.edges.items → IsMergedTo p.points (segments_to p n 0) pieces
    → (given : List Edge) → IsProper given → IsCountOf given (map counted p.edges.items) → AreReached given p.splits (map counted pieces.list.items)
all_reached p pieces n paths all merged given proper count =
    reached given (map counted p.edges.items) (map counted pieces.list.items) p.splits proper count (subst (λ (es : List Edge). IsLegal es p.splits) (sym (ends_counted p.edges.items)) paths.legal)
    (subst (λ (l : List Counted). AreMergedOf l (map counted pieces.list.items)) whole merged.1)
  where
    whole : segments_to p n 0 ≡ segments_of p.splits (map counted p.edges.items)
    whole =
        append_none (segments_of p.splits (take n (map counted p.edges.items)))
        ∙ ap (segments_of p.splits)
        (ap (λ (m : ℕ). take m (map counted p.edges.items)) (all ∙ sym (counted_many p.edges.items)) ∙ take-length (map counted p.edges.items))
