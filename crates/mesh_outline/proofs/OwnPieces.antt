-- Lemmas over pieces: where the edges of each are their own boundary and the boxes are apart, so are all edges together.
use Rattle.std.proofs.Common.{◌≡◌, ℕ, ◌<◌, suc, ⊎_elim, true, List, [], ◌∷◌, ◌++◌, map, length, get_or, sym, ◌∙◌, refl, subst, arith}
use Rattle.std.specs.List.{All, AllPairs}
use Rattle.std.proofs.lemmas.Bool.{false≢true, or_cases}
use Rattle.std.proofs.lemmas.List.{append-nil}
use Rattle.std.proofs.lemmas.List.Elements.{All-head, All-tail}
use Rattle.mesh_plane.specs.Plane.{Edge}
use Rattle.mesh_plane.proofs.Balance.{balanced_append}
use Rattle.mesh_lattice.specs.Clean.{IsProper}
use Rattle.mesh_lattice.specs.FillRules.{filled}
use Rattle.mesh_lattice.specs.Split.{occurs, no_cut}
use Rattle.mesh_lattice.specs.declared.fill.FillRule.TheVariants.{Positive}
use Rattle.mesh_lattice.proofs.Each.{Each}
use Rattle.mesh_lattice.proofs.Splits.{occurs_append}
use Rattle.mesh_apart.specs.Apart.{Box, AreBoxesApart, LiesInBox, Piece, IsBoxed, edges_in}
use Rattle.mesh_apart.proofs.Boundaries.{AreSegmentsOf, segments_left, clean_both, boundary_both}
use Rattle.mesh_apart.proofs.Pieces.{AreApart}
use Rattle.mesh_below.specs.Answers.{AreOwnBoundary}

-- a piece whose edges are their own boundary and lie in its box
record IsOwnPiece (p : Piece) : Type 0 where
  own : AreOwnBoundary p.edges
  within : All (LiesInBox p.box) p.edges

boxed : (p : Piece) → IsOwnPiece p → IsBoxed p
boxed p h = record { balanced = h.own.split.balanced; within = h.within }

boxed_each : (ps : List Piece) → Each IsOwnPiece ps → Each IsBoxed ps
boxed_each [] h = tt
boxed_each (p ∷ ps) h = (boxed p h.0, boxed_each ps h.1)

proper_append : (es fs : List Edge) → IsProper es → IsProper fs → IsProper (es ++ fs)
proper_append es fs h k e o =
    ⊎_elim (λ (t : occurs e es ≡ true). h e t) (λ (t : occurs e fs ≡ true). k e t) (or_cases (occurs e es) (occurs e fs) (sym (occurs_append e es fs) ∙ o))

none_own : AreOwnBoundary []
none_own = record {
  split = record {
    balanced = λ p. refl;
    clean = λ e f here there differ m some. absurd (false≢true here);
    proper = λ e here. absurd (false≢true here);
  };
  bounded = record { counts = λ (e : Edge). refl };
}

-- one piece more, apart from the others
own_more : (p : Piece) (ps : List Piece) → IsOwnPiece p → Each IsOwnPiece ps → Each (λ (q : Piece). AreBoxesApart p.box q.box) ps → AreOwnBoundary (edges_in ps)
    → AreOwnBoundary (p.edges ++ edges_in ps)
own_more p ps h each far rest =
    let apart : AreApart (p ∷ []) ps = (far, tt) in
    let first : AreSegmentsOf (p ∷ []) p.edges =
    subst (AreSegmentsOf (p ∷ [])) (append-nil p.edges) (segments_left (p ∷ []) (boxed p h, tt) [] no_cut) in
    let second : AreSegmentsOf ps (edges_in ps) = segments_left ps (boxed_each ps each) [] no_cut in
    record {
      split = record {
        balanced = balanced_append p.edges (edges_in ps) h.own.split.balanced rest.split.balanced;
        clean = clean_both (p ∷ []) ps apart p.edges (edges_in ps) first second h.own.split.clean rest.split.clean;
        proper = proper_append p.edges (edges_in ps) h.own.split.proper rest.split.proper;
      };
      bounded = boundary_both (p ∷ []) ps apart p.edges (edges_in ps) first second (filled Positive) p.edges (edges_in ps) h.own.bounded rest.bounded;
    }

abbrev boxes : List Piece → List Box
boxes ps = map (λ (p : Piece). p.box) ps

far_from : (b : Box) (ps : List Piece) → ((k : ℕ) (d : Box) → k < length (boxes ps) → AreBoxesApart b (get_or (boxes ps) k d)) → Each (λ (q : Piece). AreBoxesApart b q.box) ps
far_from b [] h = tt
far_from b (q ∷ ps) h = (h 0 q.box (omega arith), far_from b ps (λ k d low. h (suc k) d (omega arith)))

each_together : (ps : List Piece) → Each IsOwnPiece ps → AllPairs AreBoxesApart (boxes ps) → AreOwnBoundary (edges_in ps)
each_together [] h apart = none_own
each_together (p ∷ ps) h apart =
    own_more p ps h.0 h.1 (far_from p.box ps (λ k d low. apart 0 (suc k) d (omega arith) (omega arith)))
    (each_together ps h.1 (λ i j d before low. apart (suc i) (suc j) d (omega arith) (omega arith)))

own_each : (ps : List Piece) → All (λ (p : Piece). All (LiesInBox p.box) p.edges) ps → All (λ (p : Piece). AreOwnBoundary p.edges) ps → Each IsOwnPiece ps
own_each [] within own = tt
own_each (p ∷ ps) within own = (
  record {
    own = All-head (λ (q : Piece). AreOwnBoundary q.edges) p ps own;
    within = All-head (λ (q : Piece). All (LiesInBox q.box) q.edges) p ps within;
  },
  own_each ps (All-tail (λ (q : Piece). All (LiesInBox q.box) q.edges) p ps within) (All-tail (λ (q : Piece). AreOwnBoundary q.edges) p ps own),
)

pub own_together : (ps : List Piece) → All (λ (p : Piece). All (LiesInBox p.box) p.edges) ps → All (λ (p : Piece). AreOwnBoundary p.edges) ps
    → AllPairs AreBoxesApart (map (λ (p : Piece). p.box) ps) → AreOwnBoundary (edges_in ps)
own_together ps within own apart = each_together ps (own_each ps within own) apart
