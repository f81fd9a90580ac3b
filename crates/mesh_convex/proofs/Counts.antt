-- Lemmas over edges and segments: the edges of a convex loop, each counted once, are a splitting of them.
use Rattle.std.proofs.Common.{◌≡◌, ⊎_elim, ℕ, suc, ◌<◌, ◌+◌, Bool, true, false, ◌||◌, List, [], ◌∷◌, ◌++◌, length, take, get_or, refl, sym, ◌∙◌, ap, subst, arith}
use Rattle.std.specs.Prelude.{ℤ, pos, ◌+ℤ◌, ◌≤ℤ◌}
use Rattle.std.proofs.lemmas.Bool.{cases_Bool}
use Rattle.std.proofs.lemmas.Int.{ints}
use Rattle.mesh_plane.specs.Plane.{Edge}
use Rattle.mesh_plane.specs.Winding.{sum_of}
use Rattle.std.proofs.lemmas.List.{map_more}
use Rattle.mesh_plane.proofs.Sums.{sum_of_append}
use Rattle.mesh_plane.proofs.Whole.{one_mul}
use Rattle.mesh_lattice.specs.Counted.{along, bit, counted_net, net, size, times, Counted, IsCountOf}
use Rattle.mesh_lattice.specs.Clean.{IsProper}
use Rattle.mesh_lattice.specs.Split.{no_cut, occurs, same_ends}
use Rattle.mesh_lattice.specs.Splitting.{IsSplitting}
use Rattle.mesh_lattice.proofs.Ends.{ends_along, ends_sym}
use Rattle.mesh_convex.specs.Convex.{edge_at, no_edge, once_each, IsConvexLoop}
use Rattle.mesh_rounds.specs.Told.{IsToldSplitting}
use Rattle.mesh_rounds.proofs.Paths.{comes_from, path_of_edge}
use Rattle.mesh_convex.proofs.Clear.{edges_differ, loop_clean, stands}

-- no two edges of a list have the same ends
abbrev AreDistinct : List Edge → Type 0
AreDistinct es = (i j : ℕ) → i < j → j < length es → same_ends (edge_at es i) (edge_at es j) ≡ true → ⊥

once_counted : (q : Edge) (es : List Edge) → counted_net q (once_each es) ≡ net q es
once_counted q [] = refl
once_counted q (e ∷ es) = λ i. one_mul (along q e) i +ℤ once_counted q es i

-- what stands at the head stands nowhere else
head_alone : (q e : Edge) (es : List Edge) → AreDistinct (e ∷ es) → same_ends q e ≡ true → occurs q es ≡ false
head_alone q e es distinct t =
    ⊎_elim
    (λ (o : occurs q es ≡ true).
    let at = stands es q o in
    absurd
    (distinct 0 (suc at.place) (omega arith) (omega (arith, at.within))
    (ends_sym e (edge_at es at.place) ∙ sym (ends_along (edge_at es at.place) q e t) ∙ ends_sym (edge_at es at.place) q ∙ at.same)))
    (λ (n : occurs q es ≡ false). n)
    (cases_Bool (occurs q es))

none : (x : ℤ) → pos 0 +ℤ x ≡ x
none x = omega (arith, ints)

one_more : (q e : Edge) (es : List Edge) → AreDistinct (e ∷ es) → times q (once_each es) ≡ bit (occurs q es) → times q (once_each (e ∷ es)) ≡ bit (occurs q (e ∷ es))
one_more q e es distinct rest =
    ⊎_elim
    (λ (t : same_ends q e ≡ true).
    (λ i. bit (t i) +ℤ times q (once_each es))
    ∙ ap (λ (n : ℤ). pos 1 +ℤ n) (rest ∙ ap bit (head_alone q e es distinct t))
    ∙ ap (λ (b : Bool). bit (b || occurs q es)) (sym t))
    (λ (n : same_ends q e ≡ false).
    (λ i. bit (n i) +ℤ times q (once_each es))
    ∙ none (times q (once_each es))
    ∙ rest
    ∙ ap (λ (b : Bool). bit (b || occurs q es)) (sym n))
    (cases_Bool (same_ends q e))

once : (q : Edge) (es : List Edge) → AreDistinct es → times q (once_each es) ≡ bit (occurs q es)
once q [] distinct = refl
once q (e ∷ es) distinct = one_more q e es distinct (once q es (λ i j low h. distinct (suc i) (suc j) (omega (arith, low)) (omega (arith, h))))

loop_counted : (es : List Edge) → IsConvexLoop es → IsCountOf es (once_each es)
loop_counted es c = record { once = λ q. once q es (edges_differ es c); counts = λ q. once_counted q es }

pub counted_as : (es : List Edge) (ks : List Counted) → IsConvexLoop es → ks ≡ once_each es → IsCountOf es ks
counted_as es ks c same = subst (IsCountOf es) (sym same) (loop_counted es c)

-- the splitting without a split
splitting : (es : List Edge) → IsConvexLoop es → IsProper es → IsSplitting es (once_each es)
splitting es c proper = record {
  splits = [];
  legal = no_cut;
  count = loop_counted es c;
  clean = loop_clean es c proper;
  proper = proper;
  paths = path_of_edge [] tt;
  boxed = comes_from [] tt es;
  safe = λ unit h. h;
  balanced = λ h. h;
}

told : (es : List Edge) → IsConvexLoop es → IsProper es → IsToldSplitting es (once_each es) 0
unfolding splitting
told es c proper = record {
  splitting = splitting es c proper;
  nearness = record { witnessed = []; same = refl; near = tt; reached = λ l h. absurd (omega (arith, h)) };
}

pub told_as : (es : List Edge) (ks : List Counted) → IsConvexLoop es → IsProper es → ks ≡ once_each es → IsToldSplitting es ks 0
told_as es ks c proper same = subst (λ (segments : List Counted). IsToldSplitting es segments 0) (sym same) (told es c proper)

-- ---- the segments, one by one

pub segments_more : (es : List Edge) (old new : List Counted) (i : ℕ) → i < length es → new ≡ old ++ (get_or es i no_edge, pos 1) ∷ [] → old ≡ once_each (take i es)
    → new ≡ once_each (take (i + 1) es)
segments_more es old new i low added before = added ∙ ((λ j. before j ++ (get_or es i no_edge, pos 1) ∷ []) ∙ sym (map_more (λ (e : Edge). (e, pos 1)) es i no_edge low))

pub sizes_more : (old new : List Counted) (e : Edge) (i : ℕ) → new ≡ old ++ (e, pos 1) ∷ [] → sum_of size old ≤ℤ pos i → sum_of size new ≤ℤ pos (i + 1)
sizes_more old new e i same before = omega (arith, ints, ap (sum_of size) same, sum_of_append size old ((e, pos 1) ∷ []), before)
