-- Lemmas over lists: contours without the points that they run straight through are still their own boundary, where each such
-- point is passed once.
use Rattle.std.proofs.Common.{◌≡◌, ⊎_elim, Bool, true, false, cond, ◌||◌, List, [], ◌∷◌, ◌++◌, map, refl, sym, ap, subst, arith}
use Rattle.std.specs.Prelude.{ℤ, pos, ◌+ℤ◌, ◌≤ℤ◌}
use Rattle.std.specs.List.{All, flat_map}
use Rattle.std.proofs.lemmas.Bool.{false≢true}
use Rattle.std.proofs.lemmas.List.Elements.{All-head, All-tail}
use Rattle.mesh_plane.specs.Plane.{Point, Edge, minus}
use Rattle.mesh_plane.specs.Turning.{turns_at}
use Rattle.mesh_plane.specs.Winding.{sum_of, route, boundary, same_point}
use Rattle.mesh_plane.proofs.Comparing.{point_self}
use Rattle.mesh_plane.proofs.Sums.{sum_of_append, sum_least}
use Rattle.mesh_plane.proofs.Whole.{linear}
use Rattle.mesh_lattice.specs.Counted.{bit}
use Rattle.mesh_lattice.specs.Split.{back, is_end, same_ends, occurs}
use Rattle.mesh_lattice.proofs.Counts.{bit_least}
use Rattle.mesh_lattice.proofs.Each.{Each, each_left, each_right}
use Rattle.mesh_lattice.proofs.SoundSplits.{ProperEnds}
use Rattle.mesh_lattice.proofs.Ends.{decides_ends}
use Rattle.mesh_shapes.specs.Contours.{turning_points, straight_points, left_out, vertices}
use Rattle.mesh_below.specs.Answers.{AreOwnBoundary}
use Rattle.mesh_below.proofs.Merging.{Same, IsFreeOf, own_same, merged, either_of}
use Rattle.mesh_below.proofs.Straight.{LookAlike, RunsThrough, apart_alike, straight_alike, alike_through, whole_alike}

-- ---- how many ends of edges are at a point

abbrev pub end_count : Point → List Edge → ℤ
end_count x es = sum_of (λ (e : Edge). bit (same_point x e.0) +ℤ bit (same_point x e.1)) es

ends_least : (x : Point) (es : List Edge) → pos 0 ≤ℤ end_count x es
ends_least x es =
    sum_least (λ (e : Edge). bit (same_point x e.0) +ℤ bit (same_point x e.1))
    (λ (e : Edge). let a = bit_least (same_point x e.0) in let b = bit_least (same_point x e.1) in omega (arith, linear, a, b)) es

no_bit : (b : Bool) → bit b ≤ℤ pos 0 → b ≡ false
no_bit false h = refl
no_bit true h = absurd (omega (arith, linear, h))

no_end : (x : Point) (g : Edge) → same_point x g.0 ≡ false → same_point x g.1 ≡ false → is_end x g ≡ false
unfolding is_end
no_end x g p q = λ i. p i || q i

-- where there is none, the list is free of the point
lone_of : (x : Point) (es : List Edge) → end_count x es ≤ℤ pos 0 → IsFreeOf x es
lone_of x [] h f o = absurd (false≢true o)
lone_of x (e ∷ es) h f o =
    ⊎_elim
    (λ (s : same_ends f e ≡ true).
    ⊎_elim (λ (q : f ≡ e). subst (λ (g : Edge). is_end x g ≡ false) (sym q) (no_end x e first second))
    (λ (q : f ≡ back e). subst (λ (g : Edge). is_end x g ≡ false) (sym q) (no_end x (back e) second first)) ((decides_ends f e).0 s))
    (λ (s : occurs f es ≡ true). lone_of x es (let a = bit_least (same_point x e.0) in let b = bit_least (same_point x e.1) in omega (arith, linear, a, b, h)) f s)
    (either_of (same_ends f e) (occurs f es) o)
  where
    first : same_point x e.0 ≡ false
    first = no_bit (same_point x e.0) (let b = bit_least (same_point x e.1) in let r = ends_least x es in omega (arith, linear, b, r, h))

    second : same_point x e.1 ≡ false
    second = no_bit (same_point x e.1) (let a = bit_least (same_point x e.0) in let r = ends_least x es in omega (arith, linear, a, r, h))

-- ---- contours one after another

module _ (Free : Point → Type 0) where
  -- at each free point there are at most two ends
  abbrev pub FewEnds : List Edge → Type 0
  FewEnds es = (x : Point) → Free x → end_count x es ≤ℤ pos 2

  abbrev pub Merged : List Edge → Type 0
  Merged es = AreOwnBoundary es × FewEnds es

  pub merged_same : (es gs : List Edge) → Same es gs → Merged es → Merged gs
  merged_same es gs same m =
      (own_same es gs same m.0, λ (x : Point) (free : Free x). let e = same (λ (f : Edge). bit (same_point x f.0) +ℤ bit (same_point x f.1)) in let k = m.1 x free in omega (arith, linear, e, k))

  -- two edges that run straight on at a free point become one
  merge_one : (a x n : Point) (rest : List Edge) → RunsThrough a x n → Free x → Merged ((a, x) ∷ (x, n) ∷ rest) → Merged ((a, n) ∷ rest)
  merge_one a x n rest through free m = (merged a x n rest through lone m.0, few)
    where
      lone : IsFreeOf x rest
      lone =
          lone_of x rest
          (let k = m.1 x free in
          let one = ap bit (point_self x) in
          let p = bit_least (same_point x a) in
          let q = bit_least (same_point x n) in
          omega (arith, linear, k, one, p, q))

      few : FewEnds ((a, n) ∷ rest)
      few y f = let k = m.1 y f in let p = bit_least (same_point y x) in omega (arith, linear, k, p)

  run : (a p x : Point) (xs : List Point) (z : Point) (rest : List Edge) → Merged ((a, x) ∷ (route x xs z ++ rest)) → LookAlike (minus x a) (minus x p) →
      Each ProperEnds (route p (x ∷ xs) z) → All Free (straight_points p (x ∷ xs) z) → Merged (route a (turning_points p (x ∷ xs) z) z ++ rest)
  run a p x [] z rest m alike proper free = by (turns_at p x z) refl free
    where
      by : (b : Bool) → turns_at p x z ≡ b → All Free (cond b [] (x ∷ [])) → Merged (route a (cond b (x ∷ []) []) z ++ rest)
      by true h f = m
      by false h f = merge_one a x z rest (alike_through (minus x a) (minus x p) (minus z x) alike (straight_alike p x z h proper.0 proper.1.0)) (All-head Free x [] f) m
  run a p x (n ∷ ys) z rest m alike proper free =
      by (turns_at p x n) refl free
      (λ (k : Merged ((x, n) ∷ (route n ys z ++ (a, x) ∷ rest))) (f : All Free (straight_points x (n ∷ ys) z)). run x x n ys z ((a, x) ∷ rest) k (apart_alike x n proper.1.0) proper.1 f)
      (λ (k : Merged ((a, n) ∷ (route n ys z ++ rest))) (l : LookAlike (minus n a) (minus n x)) (f : All Free (straight_points x (n ∷ ys) z)). run a x n ys z rest k l proper.1 f)
    where
      by : (b : Bool) → turns_at p x n ≡ b → All Free (cond b (straight_points x (n ∷ ys) z) (x ∷ straight_points x (n ∷ ys) z)) →
          (Merged ((x, n) ∷ (route n ys z ++ (a, x) ∷ rest)) → All Free (straight_points x (n ∷ ys) z) → Merged (route x (turning_points x (n ∷ ys) z) z ++ (a, x) ∷ rest)) →
          (Merged ((a, n) ∷ (route n ys z ++ rest)) → LookAlike (minus n a) (minus n x) → All Free (straight_points x (n ∷ ys) z) → Merged (route a (turning_points x (n ∷ ys) z) z ++ rest)) →
          Merged (route a (cond b (x ∷ turning_points x (n ∷ ys) z) (turning_points x (n ∷ ys) z)) z ++ rest)
      by true h f kept further =
          merged_same (route x (turning_points x (n ∷ ys) z) z ++ (a, x) ∷ rest) ((a, x) ∷ (route x (turning_points x (n ∷ ys) z) z ++ rest))
          (λ (g : Edge → ℤ). omega (arith, linear, sum_of_append g (route x (turning_points x (n ∷ ys) z) z) ((a, x) ∷ rest), sum_of_append g (route x (turning_points x (n ∷ ys) z) z) rest))
          (kept
          (merged_same ((a, x) ∷ (x, n) ∷ (route n ys z ++ rest)) ((x, n) ∷ (route n ys z ++ (a, x) ∷ rest))
          (λ (g : Edge → ℤ). omega (arith, linear, sum_of_append g (route n ys z) ((a, x) ∷ rest), sum_of_append g (route n ys z) rest)) m)
          f)
      by false h f kept further =
          let through : RunsThrough a x n = alike_through (minus x a) (minus x p) (minus n x) alike (straight_alike p x n h proper.0 proper.1.0) in
          further (merge_one a x n (route n ys z ++ rest) through (All-head Free x (straight_points x (n ∷ ys) z) f) m) (whole_alike a x n through) (All-tail Free x (straight_points x (n ∷ ys) z) f)

  contour_merged : (all : Bool) (c : List Point) (rest : List Edge) → Merged (boundary c ++ rest) → Each ProperEnds (boundary c) → All Free (left_out all c) → Merged (boundary (vertices all c) ++ rest)
  contour_merged all [] rest m proper free = m
  contour_merged true (p ∷ xs) rest m proper free = m
  contour_merged false (p ∷ []) rest m proper free = m
  contour_merged false (p ∷ x ∷ ys) rest m proper free = run p p x ys p rest m (apart_alike p x proper.0) proper free

  pub contours_merged : (all : Bool) (cs : List (List Point)) (rest : List Edge) → Merged (flat_map boundary cs ++ rest) → Each ProperEnds (flat_map boundary cs) →
      All (λ (c : List Point). All Free (left_out all c)) cs → Merged (flat_map boundary (map (vertices all) cs) ++ rest)
  contours_merged all [] rest m proper free = m
  contours_merged all (c ∷ cs) rest m proper free =
      let own = boundary (vertices all c) in
      let others = flat_map boundary cs in
      let first : Merged (own ++ (others ++ rest)) =
      contour_merged all c (others ++ rest)
      (merged_same ((boundary c ++ others) ++ rest) (boundary c ++ (others ++ rest))
      (λ (g : Edge → ℤ).
      omega (arith, linear, sum_of_append g (boundary c ++ others) rest, sum_of_append g (boundary c) others, sum_of_append g (boundary c) (others ++ rest), sum_of_append g others rest)) m)
      (each_left ProperEnds (boundary c) others proper)
      (All-head (λ (d : List Point). All Free (left_out all d)) c cs free) in
      let second : Merged (flat_map boundary (map (vertices all) cs) ++ (own ++ rest)) =
      contours_merged all cs (own ++ rest)
      (merged_same (own ++ (others ++ rest)) (others ++ (own ++ rest))
      (λ (g : Edge → ℤ).
      omega (arith, linear, sum_of_append g own (others ++ rest), sum_of_append g others rest, sum_of_append g others (own ++ rest), sum_of_append g own rest)) first)
      (each_right ProperEnds (boundary c) others proper)
      (All-tail (λ (d : List Point). All Free (left_out all d)) c cs free) in
      merged_same (flat_map boundary (map (vertices all) cs) ++ (own ++ rest)) ((own ++ flat_map boundary (map (vertices all) cs)) ++ rest)
      (λ (g : Edge → ℤ).
      omega (
        arith,
        linear,
        sum_of_append g (flat_map boundary (map (vertices all) cs)) (own ++ rest),
        sum_of_append g own rest,
        sum_of_append g (own ++ flat_map boundary (map (vertices all) cs)) rest,
        sum_of_append g own (flat_map boundary (map (vertices all) cs)),
      )) second
