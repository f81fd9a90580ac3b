-- Lemmas over points: paths that lead apart from a stop of both meet in ends alone.
use Rattle.std.proofs.Common.{◌≡◌, ◌⊎◌, inl, inr, ⊎_elim, ℕ, zero, suc, ◌+◌, ◌<◌, ◌≤◌, refl, sym, ◌∙◌, subst, arith}
use Rattle.std.specs.Prelude.{pos, ◌≤ℤ◌, ◌<ℤ◌, neg_ℤ}
use Rattle.std.proofs.lemmas.Int.{ints}
use Rattle.mesh_plane.specs.Plane.{Point, Edge, turn}
use Rattle.mesh_plane.proofs.Crossings.{turn_flip}
use Rattle.mesh_plane.proofs.Whole.{linear, mul_nonneg}
use Rattle.mesh_lattice.specs.Split.{back, AreClear, IsInside, Meets, at_start_of_second, at_end_of_second, at_start_of_first, at_end_of_first, at_crossing}
use Rattle.mesh_lattice.proofs.Boxes.{crossing_swapped}
use Rattle.mesh_lattice.proofs.Meeting.{clear_of_tests}
use Rattle.mesh_pairs.specs.Laws.{spread}
use Rattle.mesh_check.specs.Heights.{units, GoesAlong, IsFarFromLine, IsNearLine, IsPathAlong, LeadsAway, PathsThatLeadApartAreClear}
use Rattle.mesh_check.proofs.Parted.{beyond_not_inside, end_not_inside, joined_cross_not, parted_by_line}
use Rattle.mesh_check.proofs.Strips.{along_back, later_left, near_back, spread_back, units_back, units_sum}

-- a point lies to the left of a strip, or to the right
abbrev IsLeft : ℕ → Edge → Point → Type 0
IsLeft l f p = units l f <ℤ turn f.0 f.1 p

abbrev IsRight : ℕ → Edge → Point → Type 0
IsRight l f p = turn f.0 f.1 p <ℤ neg_ℤ (units l f)

units_least : (k : ℕ) (e : Edge) → pos 0 ≤ℤ units k e
unfolding units
units_least k e = mul_nonneg (pos k) (pos (spread e)) (omega (arith, ints)) (omega (arith, ints))

left_back : (l : ℕ) (f : Edge) (p : Point) → IsRight l f p → IsLeft l (back f) p
left_back l f p h = omega (arith, linear, h, turn_flip f.0 f.1 p, units_back l f)

right_back : (l : ℕ) (f : Edge) (p : Point) → IsLeft l (back f) p → IsRight l f p
right_back l f p h = omega (arith, linear, h, turn_flip f.0 f.1 p, units_back l f)

-- ---- what follows a stop from which a path leads away

-- from a stop in a strip the next one lies far from it: then all later points lie on its side
beyond : (k l : ℕ) (e f : Edge) → 0 < spread e → (c s : Point) → IsNearLine k e c → IsNearLine k e s → GoesAlong e c s → IsNearLine l f c → IsFarFromLine (l + (k + k)) f s
    → ((w : Point) → IsNearLine k e w → GoesAlong e s w → IsLeft l f w) ⊎ ((w : Point) → IsNearLine k e w → GoesAlong e s w → IsRight l f w)
beyond k l e f some c s near_c near_s way inside (inr h) =
    inl (λ w near_w later. later_left k l e f some c s w near_c near_s near_w way later inside.high (omega (arith, linear, h, units_sum k l f)))
beyond k l e f some c s near_c near_s way inside (inl h) =
    inr
    (λ w near_w later.
    right_back l f w
    (later_left k l e (back f) some c s w near_c near_s near_w way later (near_back l f c inside).high
    (omega (arith, linear, h, units_sum k l f, units_back k f, units_back l f, turn_flip f.0 f.1 s))))

-- a strip holds an edge, and another one lies on one side of it
strip_parted : (l : ℕ) (f e g : Edge) → (IsLeft l f e.0 × IsLeft l f e.1) ⊎ (IsRight l f e.0 × IsRight l f e.1) → IsNearLine l f g.0 → IsNearLine l f g.1 → AreClear e g
strip_parted l f e g (inl h) start end = parted_by_line f (units l f) e g h.0 h.1 start.high end.high
strip_parted l f e g (inr h) start end =
    parted_by_line (back f) (units l f) e g
    (omega (arith, linear, h.0, turn_flip f.0 f.1 e.0))
    (omega (arith, linear, h.1, turn_flip f.0 f.1 e.1))
    (omega (arith, linear, start.low, turn_flip f.0 f.1 g.0))
    (omega (arith, linear, end.low, turn_flip f.0 f.1 g.1))

module _ (k l : ℕ) (e f : Edge) (a : ℕ → Point) (n : ℕ) (path : IsPathAlong k e a n) where
  -- pieces from a stop on that lies far from a strip in which the path was before
  pub after_clear : (i end : ℕ) → i ≤ end → end ≤ n → IsNearLine l f (a i) → IsFarFromLine (l + (k + k)) f (a end) → (p : ℕ) → p < n → end ≤ p
      → (g : Edge) → IsNearLine l f g.0 → IsNearLine l f g.1 → AreClear (a p, a (suc p)) g
  after_clear i end low within inside far p p_low later g start stop =
      strip_parted l f (a p, a (suc p)) g
      (⊎_elim
      (λ (h : (w : Point) → IsNearLine k e w → GoesAlong e (a end) w → IsLeft l f w).
      inl (h (a p) (path.near p (omega arith)) (path.along end p later (omega arith)), h (a (suc p)) (path.near (suc p) (omega arith)) (path.along end (suc p) (omega arith) (omega arith))))
      (λ (h : (w : Point) → IsNearLine k e w → GoesAlong e (a end) w → IsRight l f w).
      inr (h (a p) (path.near p (omega arith)) (path.along end p later (omega arith)), h (a (suc p)) (path.near (suc p) (omega arith)) (path.along end (suc p) (omega arith) (omega arith))))
      (beyond k l e f path.proper (a i) (a end) (path.near i (omega arith)) (path.near end within) (path.along i end low within) inside far))
      start
      stop

  -- and pieces up to such a stop
  pub before_clear : (start i : ℕ) → start ≤ i → i ≤ n → IsNearLine l f (a i) → IsFarFromLine (l + (k + k)) f (a start) → (p : ℕ) → suc p ≤ start
      → (g : Edge) → IsNearLine l f g.0 → IsNearLine l f g.1 → AreClear (a p, a (suc p)) g
  before_clear start i low within inside far p earlier g first last =
      strip_parted l f (a p, a (suc p)) g
      (⊎_elim
      (λ (h : (w : Point) → IsNearLine k (back e) w → GoesAlong (back e) (a start) w → IsLeft l f w).
      inl (h (a p) (near p (omega arith)) (way p start (omega arith) (omega arith)), h (a (suc p)) (near (suc p) (omega arith)) (way (suc p) start earlier (omega arith))))
      (λ (h : (w : Point) → IsNearLine k (back e) w → GoesAlong (back e) (a start) w → IsRight l f w).
      inr (h (a p) (near p (omega arith)) (way p start (omega arith) (omega arith)), h (a (suc p)) (near (suc p) (omega arith)) (way (suc p) start earlier (omega arith))))
      (beyond k l (back e) f (subst (λ (m : ℕ). 0 < m) (sym (spread_back e)) path.proper) (a i) (a start) (near i within) (near start (omega arith)) (way start i low within) inside far))
      first
      last
    where
      near : (m : ℕ) → m ≤ n → IsNearLine k (back e) (a m)
      near m h = near_back k e (a m) (path.near m h)

      way : (m j : ℕ) → m ≤ j → j ≤ n → GoesAlong (back e) (a j) (a m)
      way m j h h_n = along_back e (a m) (a j) (path.along m j h h_n)

-- ---- pieces at the stop

-- a piece begins or ends at a point, and its other end has a property
abbrev IsAt : Point → (Point → Type 0) → Edge → Type 0
IsAt c P e = ((c ≡ e.0) × P e.1) ⊎ ((c ≡ e.1) × P e.0)

end_of : (c : Point) (P : Point → Type 0) (e : Edge) → IsAt c P e → (c ≡ e.0) ⊎ (c ≡ e.1)
end_of c P e (inl h) = inl h.0
end_of c P e (inr h) = inr h.0

starts_at : (c : Point) (P : Point → Type 0) (e : Edge) → IsAt c P e → (c ≡ e.0) ⊎ P e.0
starts_at c P e (inl h) = inl h.0
starts_at c P e (inr h) = inr h.1

ends_at : (c : Point) (P : Point → Type 0) (e : Edge) → IsAt c P e → (c ≡ e.1) ⊎ P e.1
ends_at c P e (inl h) = inr h.1
ends_at c P e (inr h) = inl h.0

far_not_inside : (k : ℕ) (e g : Edge) (p : Point) → IsNearLine k e g.0 → IsNearLine k e g.1 → IsFarFromLine k e p → IsInside g p → ⊥
far_not_inside k e g p start end (inr h) i = beyond_not_inside e (units k e) g p start.high end.high h i
far_not_inside k e g p start end (inl h) i =
    beyond_not_inside (back e) (units k e) g p
    (omega (arith, linear, start.low, turn_flip e.0 e.1 g.0))
    (omega (arith, linear, end.low, turn_flip e.0 e.1 g.1))
    (omega (arith, linear, h, turn_flip e.0 e.1 p))
    i

-- an end of another piece at the stop, or one that is far from the line, is not inside a piece at the stop
none_inside : (k : ℕ) (e g : Edge) (c p : Point) → (c ≡ g.0) ⊎ (c ≡ g.1) → IsNearLine k e g.0 → IsNearLine k e g.1 → (c ≡ p) ⊎ IsFarFromLine k e p → IsInside g p → ⊥
none_inside k e g c p (inl h) start end (inl s) i = end_not_inside g p (inl (sym s ∙ h)) i
none_inside k e g c p (inr h) start end (inl s) i = end_not_inside g p (inr (sym s ∙ h)) i
none_inside k e g c p at start end (inr far) i = far_not_inside k e g p start end far i

joined_clear : (k l : ℕ) (e f g h : Edge) (c : Point) → IsNearLine k e g.0 → IsNearLine k e g.1 → IsNearLine l f h.0 → IsNearLine l f h.1
    → IsAt c (IsFarFromLine l f) g → IsAt c (IsFarFromLine k e) h → AreClear g h
joined_clear k l e f g h c near_0 near_1 other_0 other_1 first second =
    let at_first = end_of c (IsFarFromLine l f) g first in
    let at_second = end_of c (IsFarFromLine k e) h second in
    clear_of_tests g h
    (none_inside k e g c h.0 at_first near_0 near_1 (starts_at c (IsFarFromLine k e) h second))
    (none_inside k e g c h.1 at_first near_0 near_1 (ends_at c (IsFarFromLine k e) h second))
    (none_inside l f h c g.0 at_second other_0 other_1 (starts_at c (IsFarFromLine l f) g first))
    (none_inside l f h c g.1 at_second other_0 other_1 (ends_at c (IsFarFromLine l f) g first))
    (joined_cross_not g h c at_first at_second)

-- ---- all pieces

far_less : (k l : ℕ) (f : Edge) (p : Point) → IsFarFromLine (l + (k + k)) f p → IsFarFromLine l f p
far_less k l f p (inl h) = inl (omega (arith, linear, h, units_sum k l f, units_least k f))
far_less k l f p (inr h) = inr (omega (arith, linear, h, units_sum k l f, units_least k f))

module _ (k l : ℕ) (e f : Edge) (a : ℕ → Point) (n : ℕ) (path : IsPathAlong k e a n) where
  -- a piece that does not begin or end at a stop from which the path leads away
  outside_clear : (i : ℕ) → i ≤ n → IsNearLine l f (a i) → LeadsAway (l + (k + k)) f a n i → (p : ℕ) → p < n → (suc i ≤ p) ⊎ (suc (suc p) ≤ i)
      → (g : Edge) → IsNearLine l f g.0 → IsNearLine l f g.1 → AreClear (a p, a (suc p)) g
  outside_clear i low inside away p within (inl h) g start end =
      after_clear k l e f a n path i (suc i) (omega arith) (omega arith) inside (away.after (omega arith)) p within h g start end
  outside_clear zero low inside away p within (inr h) g start end = absurd (omega (arith, h))
  outside_clear (suc j) low inside away p within (inr h) g start end =
      before_clear k l e f a n path j (suc j) (omega arith) low inside (away.before j refl) p (omega (arith, h)) g start end

  -- and one that does
  at_stop : (i : ℕ) → LeadsAway (l + (k + k)) f a n i → (p : ℕ) → p < n → (i ≡ p) ⊎ (i ≡ suc p) → IsAt (a i) (IsFarFromLine l f) (a p, a (suc p))
  at_stop i away p within (inl h) =
      subst (λ (m : ℕ). IsAt (a i) (IsFarFromLine l f) (a m, a (suc m))) h (inl (refl, far_less k l f (a (suc i)) (away.after (subst (λ (m : ℕ). m < n) (sym h) within))))
  at_stop i away p within (inr h) = inr ((λ t. a (h t)), far_less k l f (a p) (away.before p (sym h)))

where_is : (p i : ℕ) → ((suc i ≤ p) ⊎ (suc (suc p) ≤ i)) ⊎ ((i ≡ p) ⊎ (i ≡ suc p))
where_is p i = grind arith

pub clear_swapped : (e f : Edge) → AreClear e f → AreClear f e
clear_swapped e f h c m = by m h
  where
    by : {e f : Edge} {c : Point} → Meets f e c → AreClear e f → ⊥
    by {e} {f} (at_start_of_second i) h = h e.0 (at_start_of_first i)
    by {e} {f} (at_end_of_second i) h = h e.1 (at_end_of_first i)
    by {e} {f} (at_start_of_first i) h = h f.0 (at_start_of_second i)
    by {e} {f} (at_end_of_first i) h = h f.1 (at_end_of_second i)
    by {e} {f} (at_crossing i) h = h _ (at_crossing (crossing_swapped f e i))

pub lead_apart : PathsThatLeadApartAreClear
lead_apart k l e f a b n o i j first second i_low j_low same away back_away p q p_low q_low =
    ⊎_elim
    (λ (h : (suc i ≤ p) ⊎ (suc (suc p) ≤ i)).
    outside_clear k l e f a n first i i_low (subst (IsNearLine l f) (sym same) (second.near j j_low)) away p p_low h Q (second.near q (omega arith)) (second.near (suc q) (omega arith)))
    (λ (at_p : (i ≡ p) ⊎ (i ≡ suc p)).
    ⊎_elim
    (λ (h : (suc j ≤ q) ⊎ (suc (suc q) ≤ j)).
    clear_swapped Q P
    (outside_clear l k f e b o second j j_low (subst (IsNearLine k e) same (first.near i i_low)) back_away q q_low h P (first.near p (omega arith)) (first.near (suc p) (omega arith))))
    (λ (at_q : (j ≡ q) ⊎ (j ≡ suc q)).
    joined_clear k l e f P Q (a i) (first.near p (omega arith)) (first.near (suc p) (omega arith)) (second.near q (omega arith)) (second.near (suc q) (omega arith))
    (at_stop k l e f a n first i away p p_low at_p)
    (subst (λ (c : Point). IsAt c (IsFarFromLine k e) Q) (sym same) (at_stop l k f e b o second j back_away q q_low at_q)))
    (where_is q j))
    (where_is p i)
  where
    P : Edge
    P = (a p, a (suc p))

    Q : Edge
    Q = (b q, b (suc q))
