-- Lemmas over paths: where all pieces are clear of each other, they are a splitting.
use Rattle.std.proofs.Common.{◌≡◌, ⊎_elim, ℕ, ◌<◌, true, List, length, map, add-one, sym, ◌∙◌, ap, subst, arith}
use Rattle.std.proofs.lemmas.List.{length-map}
use Rattle.mesh_plane.specs.Plane.{Edge}
use Rattle.mesh_lattice.specs.Clean.{IsClean, IsProper}
use Rattle.mesh_lattice.specs.Counted.{Counted, IsCountOf}
use Rattle.mesh_lattice.specs.Split.{back, occurs, path, same_ends, after, EdgeSplit}
use Rattle.mesh_lattice.specs.Splitting.{IsSplitting}
use Rattle.mesh_lattice.specs.Nearness.{IsNearness}
use Rattle.mesh_lattice.proofs.Ends.{decides_ends}
use Rattle.mesh_lattice.proofs.KeptBySplits.{after_balanced}
use Rattle.mesh_lattice.proofs.SafeSplits.{split_safe}
use Rattle.mesh_lattice.proofs.SoundSplits.{after_proper, legal_sound}
use Rattle.mesh_points.specs.declared.edges.NumberedEdge.{NumberedEdge}
use Rattle.mesh_points.specs.Edges.{counted}
use Rattle.mesh_paths.specs.declared.paths.Paths.{Paths}
use Rattle.mesh_paths.specs.declared.paths.Piece.{Piece}
use Rattle.mesh_paths.specs.Paths.{edge_of, given_to, ends_of, ArePaths, IsPieceOf}
use Rattle.mesh_paths.specs.Pieces.{AreReached}
use Rattle.mesh_paths.specs.Stops.{count_of, pieces_of, point_of}
use Rattle.mesh_paths.proofs.Along.{place_of, StandsAt}
use Rattle.mesh_split.specs.Counting.{CountsAmong}
use Rattle.mesh_split.specs.declared.count.SplitCount.{SplitCount}
use Rattle.mesh_rounds.specs.Told.{IsToldSplitting}
use Rattle.mesh_rounds.proofs.Clean.{apart_of, share_of_apart}
use Rattle.mesh_rounds.proofs.Paths.{comes_from, path_of_edge}
use Rattle.mesh_rounds.proofs.Sharing.{apart_back, apart_swap, ShareNoInside}
use Rattle.mesh_clear.specs.AllClear.{AreAllClear}
use Rattle.mesh_ahead.specs.Ahead.{AreSettled, IsMadeAmong}
use Rattle.mesh_paths.proofs.Merged.{after_alike}
use Rattle.mesh_ahead.proofs.Alike.{merged_alike}
use Rattle.mesh_ahead.proofs.Origins.{origin, IsPartOf}
use Rattle.mesh_ahead.proofs.PathDistances.{line_at, no_line}

-- a segment is a piece of a path, either way about
record IsPiece (p : Paths) (q : Edge) : Type 0 where
  piece : Piece
  is : IsPieceOf p piece
  same : same_ends q (edge_of p piece) ≡ true

piece_of : (p : Paths) (q : Edge) → ArePaths p → occurs q (after p.splits (given_to p)) ≡ true → IsPiece p q
piece_of p q paths o = record {
  piece = record { path = from.place; place = at.place };
  is = record { path = listed; place = at.within };
  same = subst (λ (n : ℕ). same_ends q (point_of p.stops from.place at.place, point_of p.stops from.place n) ≡ true) (sym (add-one at.place)) at.same;
}
  where
    from : IsPartOf p.splits (given_to p) no_line q
    from = origin p.splits (given_to p) no_line q o

    inside : from.place < length p.edges.items
    inside = omega (arith, from.within, length-map p.edges.items ends_of)

    listed : from.place < count_of p.stops
    listed = omega (arith, inside, paths.filed.count)

    at : StandsAt q (point_of p.stops from.place) (pieces_of p.stops from.place)
    at =
        place_of q (point_of p.stops from.place) (pieces_of p.stops from.place)
        (subst (λ (es : List Edge). occurs q es ≡ true) (sym (paths.held from.place listed))
        (subst (λ (e : Edge). occurs q (path p.splits e) ≡ true) (line_at p.edges.items from.place inside) from.on_path))

turned : (q e f : Edge) → same_ends q e ≡ true → ShareNoInside e f → ShareNoInside q f
turned q e f t h =
    ⊎_elim
    (λ (m : q ≡ e). subst (λ (x : Edge). ShareNoInside x f) (sym m) h)
    (λ (m : q ≡ back e). subst (λ (x : Edge). ShareNoInside x f) (sym m) (apart_back e f h))
    ((decides_ends q e).0 t)

all_apart : (p : Paths) (q r : Edge) → ArePaths p → AreAllClear p → occurs q (after p.splits (given_to p)) ≡ true → occurs r (after p.splits (given_to p)) ≡ true → ShareNoInside q r
all_apart p q r paths clear o u =
    let a = piece_of p q paths o in
    let b = piece_of p r paths u in
    turned q (edge_of p a.piece) r a.same
    (apart_swap r (edge_of p a.piece)
    (turned r (edge_of p b.piece) (edge_of p a.piece) b.same
    (apart_swap (edge_of p a.piece) (edge_of p b.piece) (apart_of (edge_of p a.piece) (edge_of p b.piece) (clear a.piece b.piece a.is b.is)))))

-- the segments that splits make of given edges are clean
settled : (given : List Edge) (p : Paths) (ks : List Counted) → IsProper given → ArePaths p → AreAllClear p → IsCountOf given (map counted p.edges.items) → AreReached given p.splits ks
    → AreSettled given p.splits ks
settled given p ks proper paths clear count reached = record { reached = reached; clean = clean }
  where
    whole : IsProper (after p.splits given)
    whole = after_proper p.splits (legal_sound given p.splits reached.legal) given proper

    moved : (q : Edge) → occurs q (after p.splits given) ≡ true → occurs q (after p.splits (given_to p)) ≡ true
    moved q o = sym (after_alike given (given_to p) p.splits (merged_alike given p.edges.items count) q) ∙ o

    clean : IsClean (after p.splits given)
    clean e f s t other m some = share_of_apart m e f some (whole e s) (whole f t) (all_apart p e f paths clear (moved e s) (moved f t)) other

pub settled_as : (given : List Edge) (p : Paths) (list items : List NumberedEdge) (ks : List Counted) → IsProper given → ArePaths p → AreAllClear p → IsCountOf given (map counted p.edges.items)
    → ks ≡ map counted items → items ≡ list → AreReached given p.splits (map counted list) → AreSettled given p.splits ks
settled_as given p list items ks proper paths clear count are same reached =
    settled given p ks proper paths clear count (subst (AreReached given p.splits) (sym (are ∙ ap (map counted) same)) reached)

pub splitting_of : (given : List Edge) (splits : List EdgeSplit) (ks : List Counted) → IsProper given → AreSettled given splits ks → IsSplitting given ks
splitting_of given splits ks proper s =
    let sound = legal_sound given splits s.reached.legal in
    record {
      splits = splits;
      legal = s.reached.legal;
      count = s.reached.count;
      clean = s.clean;
      proper = after_proper splits sound given proper;
      paths = path_of_edge splits sound;
      boxed = comes_from splits sound given;
      safe = λ unit h. split_safe unit given splits s.reached.legal h;
      balanced = after_balanced splits given;
    }

told_of : (given : List Edge) (splits : List EdgeSplit) (ks : List Counted) (k : ℕ) → IsProper given → AreSettled given splits ks → IsNearness given splits k → IsToldSplitting given ks k
unfolding splitting_of
told_of given splits ks k proper s near = record { splitting = splitting_of given splits ks proper s; nearness = near }

-- the same, made by one of so many attempts
pub made_by : (most : ℕ) (given : List Edge) (splits : List EdgeSplit) (ks : List Counted) (k : ℕ) (old new : SplitCount) → IsProper given → AreSettled given splits ks → IsNearness given splits k
    → CountsAmong most given old new splits → IsMadeAmong most given old new ks k
unfolding splitting_of told_of
made_by most given splits ks k old new proper s near counts = record { told = told_of given splits ks k proper s near; counted = counts }
