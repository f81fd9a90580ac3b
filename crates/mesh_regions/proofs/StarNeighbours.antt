-- Lemmas over points and lists: each segment at a vertex has a neighbour, the next one counterclockwise.
use Rattle.std.proofs.Common.{◌≡◌, ◌⊎◌, inl, inr, ⊎_elim, Bool, true, false, ◌&&◌, List, [], ◌∷◌, refl, sym, ◌∙◌, ap, subst, arith}
use Rattle.std.specs.Prelude.{ℤ, pos, ◌+ℤ◌}
use Rattle.std.proofs.lemmas.Bool.{both_ways, cases_Bool, or_cases, or_right, and_parts}
use Rattle.std.proofs.lemmas.Int.{ints}
use Rattle.mesh_plane.specs.Plane.{Point, Edge}
use Rattle.mesh_plane.proofs.Whole.{linear}
use Rattle.mesh_lattice.specs.Counted.{bit}
use Rattle.mesh_lattice.specs.Split.{back, same_edge, same_ends, is_end, occurs}
use Rattle.mesh_lattice.proofs.Each.{proper_of}
use Rattle.mesh_lattice.proofs.Ends.{decides_edge, decides_ends, decides_end}
use Rattle.mesh_lattice.proofs.Keys.{occurs_ends, occurs_head}
use Rattle.mesh_regions.specs.SideLaws.{AreSplit}
use Rattle.mesh_regions.specs.Star.{comes_before, AreCounterclockwise, AreNeighbours}
use Rattle.mesh_regions.proofs.Directions.{before, not_before, two_before, ordered_turning}
use Rattle.mesh_regions.proofs.StarSums.{star_order, IsAmong}

-- of segments at a vertex, one that comes before a second that comes before a third comes before the third
chained : (es : List Edge) → AreSplit es → (v x y z : Point) → occurs (v, x) es ≡ true → occurs (v, y) es ≡ true → occurs (v, z) es ≡ true
    → before v x y ≡ pos 1 → before v y z ≡ pos 1 → before v x z ≡ pos 1
chained es split v x y z hx hy hz a b =
    let nx = proper_of es split.proper (v, x) hx in
    let ny = proper_of es split.proper (v, y) hy in
    let nz = proper_of es split.proper (v, z) hz in
    let turning = ordered_turning v x y z nx ny nz a b in
    omega (arith, linear, two_before v x y z nx ny nz turning, star_order es split v x z hx hz, apart)
  where
    -- the first is not the third
    apart : bit (same_edge (v, x) (v, z)) ≡ pos 0
    apart =
        ap bit (⊎_elim
        (λ (t : same_edge (v, x) (v, z) ≡ true).
        let e : x ≡ z = ap (λ (f : Edge). f.1) ((decides_edge (v, x) (v, z)).0 t) in
        let c : before v y x ≡ pos 1 = subst (λ (p : Point). before v y p ≡ pos 1) (sym e) b in
        absurd (one_way (bit (same_edge (v, x) (v, y))) (bit_some (same_edge (v, x) (v, y))) (omega (arith, linear, star_order es split v x y hx hy, a, c))))
        (λ (f : same_edge (v, x) (v, z) ≡ false). f)
        (cases_Bool (same_edge (v, x) (v, z))))
      where
        bit_some : (b : Bool) → (bit b ≡ pos 0) ⊎ (bit b ≡ pos 1)
        bit_some true = inr refl
        bit_some false = inl refl

        one_way : (z : ℤ) → (z ≡ pos 0) ⊎ (z ≡ pos 1) → pos 2 +ℤ z ≡ pos 1 → ⊥
        one_way z (inl e) h = absurd (omega (arith, ints))
        one_way z (inr e) h = absurd (omega (arith, ints))

-- ---- the first of the segments at a vertex that pass a test

data First (es : List Edge) (v : Point) (test : Point → Bool) (rest : List Edge) : Type 0 where
  nothing : ((x : Point) → occurs (v, x) rest ≡ true → test x ≡ false) → First es v test rest
  first : (z : Point) → occurs (v, z) es ≡ true → test z ≡ true → ((x : Point) → occurs (v, x) rest ≡ true → test x ≡ true → before v x z ≡ pos 0) → First es v test rest

-- the other end of a segment that ends at `v`
data OtherEnd (v : Point) (e : Edge) : Type 0 where
  untouched : is_end v e ≡ false → OtherEnd v e
  other : (y : Point) → same_ends (v, y) e ≡ true → ((x : Point) → same_ends (v, x) e ≡ true → x ≡ y) → OtherEnd v e

other_end : (v : Point) (e : Edge) → (e.0 ≡ e.1 → ⊥) → OtherEnd v e
other_end v e proper =
    ⊎_elim
    (λ (t : is_end v e ≡ true).
    ⊎_elim
    (λ (p : v ≡ e.0).
    other e.1 ((decides_ends (v, e.1) e).1 (inl (λ i. (p i, e.1))))
    (λ (x : Point) (s : same_ends (v, x) e ≡ true).
    ⊎_elim (λ (h : (v, x) ≡ e). ap (λ (f : Edge). f.1) h) (λ (h : (v, x) ≡ back e). absurd (proper (sym p ∙ ap (λ (f : Edge). f.0) h)))
    ((decides_ends (v, x) e).0 s)))
    (λ (p : v ≡ e.1).
    other e.0 ((decides_ends (v, e.0) e).1 (inr (λ i. (p i, e.0))))
    (λ (x : Point) (s : same_ends (v, x) e ≡ true).
    ⊎_elim (λ (h : (v, x) ≡ e). absurd (proper (sym (ap (λ (f : Edge). f.0) h) ∙ p))) (λ (h : (v, x) ≡ back e). ap (λ (f : Edge). f.1) h)
    ((decides_ends (v, x) e).0 s)))
    ((decides_end v e).0 t))
    (λ (f : is_end v e ≡ false). untouched f)
    (cases_Bool (is_end v e))

not_touching : (v x : Point) (e : Edge) → is_end v e ≡ false → same_ends (v, x) e ≡ true → ⊥
not_touching v x e off s =
    both_ways (is_end v e) off
    ((decides_end v e).1
    (⊎_elim (λ (h : (v, x) ≡ e). inl (ap (λ (f : Edge). f.0) h)) (λ (h : (v, x) ≡ back e). inr (ap (λ (f : Edge). f.0) h)) ((decides_ends (v, x) e).0 s)))

-- one more segment
first_more : (es : List Edge) → AreSplit es → (v : Point) (test : Point → Bool) (e : Edge) (rest : List Edge) → occurs e es ≡ true
    → ((x : Point) → occurs (v, x) rest ≡ true → occurs (v, x) es ≡ true) → First es v test rest → First es v test (e ∷ rest)
first_more es split v test e rest he known so_far = by (other_end v e (proper_of es split.proper e he)) so_far
  where
    one_of : (x : Point) → occurs (v, x) (e ∷ rest) ≡ true → (same_ends (v, x) e ≡ true) ⊎ (occurs (v, x) rest ≡ true)
    one_of x h = or_cases (same_ends (v, x) e) (occurs (v, x) rest) h

    by : OtherEnd v e → First es v test rest → First es v test (e ∷ rest)
    by (untouched off) (nothing f) =
        nothing (λ (x : Point) (h : occurs (v, x) (e ∷ rest) ≡ true).
        ⊎_elim (λ (s : same_ends (v, x) e ≡ true). absurd (not_touching v x e off s)) (λ (k : occurs (v, x) rest ≡ true). f x k) (one_of x h))
    by (untouched off) (first z hz tz f) =
        first z hz tz (λ (x : Point) (h : occurs (v, x) (e ∷ rest) ≡ true) (t : test x ≡ true).
        ⊎_elim (λ (s : same_ends (v, x) e ≡ true). absurd (not_touching v x e off s)) (λ (k : occurs (v, x) rest ≡ true). f x k t) (one_of x h))
    by (other y sy only) (nothing f) =
        ⊎_elim
        (λ (t : test y ≡ true).
        first y (stands y sy) t (λ (x : Point) (h : occurs (v, x) (e ∷ rest) ≡ true) (tx : test x ≡ true).
        ⊎_elim (λ (s : same_ends (v, x) e ≡ true). subst (λ (p : Point). before v p y ≡ pos 0) (sym (only x s)) (not_before v y))
        (λ (k : occurs (v, x) rest ≡ true). absurd (both_ways (test x) (f x k) tx)) (one_of x h)))
        (λ (t : test y ≡ false).
        nothing (λ (x : Point) (h : occurs (v, x) (e ∷ rest) ≡ true).
        ⊎_elim (λ (s : same_ends (v, x) e ≡ true). ap test (only x s) ∙ t) (λ (k : occurs (v, x) rest ≡ true). f x k) (one_of x h)))
        (cases_Bool (test y))
      where
        stands : (y : Point) → same_ends (v, y) e ≡ true → occurs (v, y) es ≡ true
        stands y s = occurs_ends (v, y) e es s ∙ he
    by (other y sy only) (first z hz tz f) =
        ⊎_elim
        (λ (t : (test y && comes_before (v, y) (v, z)) ≡ true).
        let both = and_parts (test y) (comes_before (v, y) (v, z)) t in
        first y (stands y sy) both.0 (λ (x : Point) (h : occurs (v, x) (e ∷ rest) ≡ true) (tx : test x ≡ true).
        ⊎_elim (λ (s : same_ends (v, x) e ≡ true). subst (λ (p : Point). before v p y ≡ pos 0) (sym (only x s)) (not_before v y))
        (λ (k : occurs (v, x) rest ≡ true). not_one (comes_before (v, x) (v, y)) (before v x z) (f x k tx)
        (λ (c : before v x y ≡ pos 1). chained es split v x y z (known x k) (stands y sy) hz c (ap bit both.1))) (one_of x h)))
        (λ (t : (test y && comes_before (v, y) (v, z)) ≡ false).
        first z hz tz (λ (x : Point) (h : occurs (v, x) (e ∷ rest) ≡ true) (tx : test x ≡ true).
        ⊎_elim
        (λ (s : same_ends (v, x) e ≡ true).
        subst (λ (p : Point). before v p z ≡ pos 0) (sym (only x s)) (ap bit (not_second (test y) (comes_before (v, y) (v, z)) t (ap test (sym (only x s)) ∙ tx))))
        (λ (k : occurs (v, x) rest ≡ true). f x k tx) (one_of x h)))
        (cases_Bool (test y && comes_before (v, y) (v, z)))
      where
        stands : (y : Point) → same_ends (v, y) e ≡ true → occurs (v, y) es ≡ true
        stands y s = occurs_ends (v, y) e es s ∙ he

        not_one : (b : Bool) (z : ℤ) → z ≡ pos 0 → (bit b ≡ pos 1 → z ≡ pos 1) → bit b ≡ pos 0
        not_one true z h f = absurd (omega (arith, ints, f refl))
        not_one false z h f = refl

        not_second : (a b : Bool) → (a && b) ≡ false → a ≡ true → b ≡ false
        not_second true b h t = h
        not_second false b h t = absurd (both_ways false refl t)

first_of_star : (es : List Edge) → AreSplit es → (v : Point) (test : Point → Bool) (rest : List Edge) → ((e : Edge) → occurs e rest ≡ true → occurs e es ≡ true) → First es v test rest
first_of_star es split v test [] known = nothing (λ (x : Point) (h : false ≡ true). absurd (both_ways false refl h))
first_of_star es split v test (e ∷ rest) known =
    let later : (f : Edge) → occurs f rest ≡ true → occurs f es ≡ true = λ f h. known f (or_right (same_ends f e) (occurs f rest) h) in
    first_more es split v test e rest (known e (occurs_head e rest)) (λ x h. later (v, x) h) (first_of_star es split v test rest later)

-- ---- the neighbour

pub record Neighbour (es : List Edge) (s : Edge) : Type 0 where
  pub at : Edge
  pub neighbours : AreNeighbours es s at

turned_twice : (a b c : Edge) → AreCounterclockwise a b c → AreCounterclockwise b c a
turned_twice a b c (inl h) = inr (inr h)
turned_twice a b c (inr (inl h)) = inl h
turned_twice a b c (inr (inr h)) = inr (inl h)

same_or : (v x y : Point) → ◌≡◌ {A = Edge} (v, x) (v, y) ⊎ (same_edge (v, x) (v, y) ≡ false)
same_or v x y =
    ⊎_elim (λ (t : same_edge (v, x) (v, y) ≡ true). inl ((decides_edge (v, x) (v, y)).0 t)) (λ (f : same_edge (v, x) (v, y) ≡ false). inr f)
    (cases_Bool (same_edge (v, x) (v, y)))

by_others : (es : List Edge) (v w z : Point) → occurs (v, w) es ≡ true → occurs (v, z) es ≡ true
    → ((x : Point) → occurs (v, x) es ≡ true → same_edge (v, x) (v, w) ≡ false → same_edge (v, x) (v, z) ≡ false → AreCounterclockwise (v, z) (v, x) (v, w))
    → Neighbour es (v, w)
by_others es v w z hw hz turning = record {
  at = (v, z);
  neighbours = record {
    first = hw;
    second = hz;
    one_start = refl;
    others = λ (g : Edge) (hg : occurs g es ≡ true) (start : g.0 ≡ v).
        (subst (λ (h : Edge). (◌≡◌ {A = Edge} h (v, w) ⊎ ◌≡◌ {A = Edge} h (v, z)) ⊎ AreCounterclockwise (v, z) h (v, w)) (λ i. (sym start i, g.1))
        (one g.1 (subst (λ (u : Point). occurs (u, g.1) es ≡ true) start hg)));
  };
}
  where
    one : (x : Point) → occurs (v, x) es ≡ true → IsAmong v w z x
    one x hx =
        ⊎_elim (λ (p : ◌≡◌ {A = Edge} (v, x) (v, w)). inl (inl p))
        (λ (p : same_edge (v, x) (v, w) ≡ false).
        ⊎_elim (λ (q : ◌≡◌ {A = Edge} (v, x) (v, z)). inl (inr q)) (λ (q : same_edge (v, x) (v, z) ≡ false). inr (turning x hx p q)) (same_or v x z))
        (same_or v x w)

neighbour_from : (es : List Edge) → AreSplit es → (v w : Point) → occurs (v, w) es ≡ true → Neighbour es (v, w)
neighbour_from es split v w hw = by (first_of_star es split v (λ (x : Point). comes_before (v, w) (v, x)) es (λ e h. h)) (first_of_star es split v (λ (x : Point). true) es (λ e h. h))
  where
    apart : (x : Point) → occurs (v, x) es ≡ true → v ≡ x → ⊥
    apart x hx = proper_of es split.proper (v, x) hx

    -- after the last one comes the first
    from_first : ((x : Point) → occurs (v, x) es ≡ true → comes_before (v, w) (v, x) ≡ false) → First es v (λ (x : Point). true) es → Neighbour es (v, w)
    from_first none (nothing f) = absurd (both_ways true (f w hw) refl)
    from_first none (first z hz tz f) =
        by_others es v w z hw hz
        (λ (x : Point) (hx : occurs (v, x) es ≡ true) (p : same_edge (v, x) (v, w) ≡ false) (q : same_edge (v, x) (v, z) ≡ false).
        ordered_turning v z x w (apart z hz) (apart x hx) (apart w hw)
        (omega (arith, linear, star_order es split v x z hx hz, f x hx refl, ap bit q))
        (omega (arith, linear, star_order es split v x w hx hw, ap bit (none x hx), ap bit p)))

    by : First es v (λ (x : Point). comes_before (v, w) (v, x)) es → First es v (λ (x : Point). true) es → Neighbour es (v, w)
    by (nothing none) least = from_first none least
    by (first z hz tz f) least =
        by_others es v w z hw hz
        (λ (x : Point) (hx : occurs (v, x) es ≡ true) (p : same_edge (v, x) (v, w) ≡ false) (q : same_edge (v, x) (v, z) ≡ false).
        ⊎_elim
        (λ (t : comes_before (v, w) (v, x) ≡ true).
        turned_twice (v, w) (v, z) (v, x)
        (ordered_turning v w z x (apart w hw) (apart z hz) (apart x hx) (ap bit tz) (omega (arith, linear, star_order es split v x z hx hz, f x hx t, ap bit q))))
        (λ (t : comes_before (v, w) (v, x) ≡ false).
        turned_twice (v, w) (v, z) (v, x)
        (turned_twice (v, x) (v, w) (v, z)
        (ordered_turning v x w z (apart x hx) (apart w hw) (apart z hz) (omega (arith, linear, star_order es split v x w hx hw, ap bit t, ap bit p)) (ap bit tz))))
        (cases_Bool (comes_before (v, w) (v, x))))

-- each segment at a vertex has a neighbour
pub has_neighbour : (es : List Edge) → AreSplit es → (s : Edge) → occurs s es ≡ true → Neighbour es s
has_neighbour es split s h = neighbour_from es split s.0 s.1 h
