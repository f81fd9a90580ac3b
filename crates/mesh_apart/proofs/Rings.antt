-- Lemmas over points and lists: each contour of components, and its ring, keeps to the box of one of them.
use Rattle.std.proofs.Common.{◌≡◌, ℕ, ◌≤◌, ◌⊎◌, inl, inr, Bool, true, false, cond, not, ◌&&◌, List, [], ◌∷◌, refl, ap, arith}
use Rattle.std.specs.Prelude.{ℤ, pos, ◌<ℤ◌, int_lt}
use Rattle.std.specs.Ordering.{int_eq}
use Rattle.std.specs.List.{flat_map}
use Rattle.std.proofs.lemmas.List.Sums.{sum_by-cons}
use Rattle.mesh_plane.specs.Plane.{Point, Edge}
use Rattle.mesh_plane.specs.Turning.{turns_at, first_or}
use Rattle.mesh_plane.specs.Winding.{refined, winding, boundary, route, holds}
use Rattle.mesh_plane.proofs.HalfPlanes.{along_by, closed_before}
use Rattle.mesh_lattice.specs.Boundary.{IsBoundary, count, left_winding, right_winding}
use Rattle.mesh_lattice.specs.Split.{same_edge, occurs}
use Rattle.mesh_lattice.proofs.Each.{Each, each_more, each_left, each_right}
use Rattle.mesh_lattice.proofs.Ends.{decides_edge}
use Rattle.mesh_shapes.specs.Contours.{turning_points, kept, double_area, StartIsLeast}
use Rattle.mesh_shapes.specs.Resolution.{Ring, ring_of}
use Rattle.mesh_apart.specs.Apart.{finer_box, IsWithin, AreBoxesApart, LiesInBox, Piece}
use Rattle.mesh_apart.specs.Joined.{surrounds}
use Rattle.mesh_apart.proofs.Boundaries.{AreSegmentsOf}
use Rattle.mesh_apart.proofs.Boxes.{not_both, within_refined, middle_within, IsPast}
use Rattle.mesh_apart.proofs.Joins.{all_from_each}
use Rattle.mesh_apart.proofs.Pieces.{LiesIn, AreApart, IsAmong, lies_where_occurs, past_each}

-- ---- edges of contours are segments

same_self : (e : Edge) → same_edge e e ≡ true
same_self e = (decides_edge e e).1 refl

edges_where_counted : (P : Edge → Type 0) (bs : List Edge) → ((e : Edge) → 1 ≤ count e bs → P e) → Each P bs
edges_where_counted P [] h = tt
edges_where_counted P (b ∷ bs) h =
    let split = λ (e : Edge). sum_by-cons (λ (f : Edge). cond {A = ℕ} (same_edge e f) 1 0) b bs in
    let own = ap (λ (t : Bool). cond {A = ℕ} t 1 0) (same_self b) in
    (h b (omega (arith, split b, own)), edges_where_counted P bs (λ (e : Edge) (k : 1 ≤ count e bs). h e (omega (arith, split e, k))))

counted_occurs : (n : ℕ) (o s : Bool) → n ≡ cond (o && s) 1 0 → 1 ≤ n → o ≡ true
counted_occurs n true s h k = refl
counted_occurs n false s h k = absurd (omega (arith, h, k))

each_flat : {A B : Type 0} (P : B → Type 0) (f : A → List B) (xs : List A) → Each P (flat_map f xs) → Each (λ x. Each P (f x)) xs
each_flat P f [] h = tt
each_flat P f (x ∷ xs) h = (each_left P (f x) (flat_map f xs) h, each_flat P f xs (each_right P (f x) (flat_map f xs) h))

-- what holds of each segment holds of the edges of each contour
pub contours_hold : (P : Edge → Type 0) (es : List Edge) → ((e : Edge) → occurs e es ≡ true → P e) → (fill : ℤ → Bool) (contours : List (List Point)) → IsBoundary es fill (flat_map boundary contours)
    → Each (λ (c : List Point). Each P (boundary c)) contours
contours_hold P es f fill contours h =
    each_flat P boundary contours
    (edges_where_counted P (flat_map boundary contours) (λ (e : Edge) (k : 1 ≤ count e (flat_map boundary contours)).
    f e (counted_occurs (count e (flat_map boundary contours)) (occurs e es) (fill (left_winding es e) && not (fill (right_winding es e))) (h.counts e) k)))

pub contours_lie : (ps : List Piece) (es : List Edge) → AreSegmentsOf ps es → (fill : ℤ → Bool) (contours : List (List Point)) → IsBoundary es fill (flat_map boundary contours)
    → Each (λ (c : List Point). Each (LiesIn ps) (boundary c)) contours
contours_lie ps es segments fill contours h = contours_hold (LiesIn ps) es (lies_where_occurs ps es segments.lie) fill contours h

-- ---- a contour keeps to one box

-- boxes apart from each other
abbrev pub AreParted : List Piece → Type 0
AreParted [] = Unit {0}
AreParted (p ∷ ps) = Each (λ (q : Piece). AreBoxesApart p.box q.box) ps × AreParted ps

-- a point in the box of one of the pieces
abbrev pub IsOf : List Piece → Point → Type 0
IsOf [] z = ⊥
IsOf (p ∷ ps) z = IsWithin p.box z ⊎ IsOf ps z

of_start : (ps : List Piece) (e : Edge) → LiesIn ps e → IsOf ps e.0
of_start [] e h = h
of_start (p ∷ ps) e (inl h) = inl h.0
of_start (p ∷ ps) e (inr h) = inr (of_start ps e h)

of_end : (ps : List Piece) (e : Edge) → LiesIn ps e → IsOf ps e.1
of_end [] e h = h
of_end (p ∷ ps) e (inl h) = inl h.1
of_end (p ∷ ps) e (inr h) = inr (of_end ps e h)

of_one : (p : Piece) (ps : List Piece) → Each (λ (q : Piece). AreBoxesApart p.box q.box) ps → (z : Point) → IsWithin p.box z → IsOf ps z → ⊥
of_one p [] apart z h k = k
of_one p (q ∷ qs) apart z h (inl k) = not_both p.box q.box z apart.0 h k
of_one p (q ∷ qs) apart z h (inr k) = of_one p qs apart.1 z h k

pub of_neither : (ps qs : List Piece) → AreApart ps qs → (z : Point) → IsOf ps z → IsOf qs z → ⊥
of_neither [] qs apart z h k = h
of_neither (p ∷ ps) qs apart z (inl h) k = of_one p qs apart.0 z h k
of_neither (p ∷ ps) qs apart z (inr h) k = of_neither ps qs apart.1 z h k

step_in : (p : Piece) (ps : List Piece) → Each (λ (q : Piece). AreBoxesApart p.box q.box) ps → (e : Edge) → IsWithin p.box e.0 → LiesIn (p ∷ ps) e → LiesInBox p.box e
step_in p ps apart e h (inl k) = k
step_in p ps apart e h (inr k) = absurd (of_one p ps apart e.0 h (of_start ps e k))

step_out : (p : Piece) (ps : List Piece) → Each (λ (q : Piece). AreBoxesApart p.box q.box) ps → (e : Edge) → IsOf ps e.0 → LiesIn (p ∷ ps) e → LiesIn ps e
step_out p ps apart e h (inl k) = absurd (of_one p ps apart e.0 k.0 h)
step_out p ps apart e h (inr k) = k

walk_in : (p : Piece) (ps : List Piece) → Each (λ (q : Piece). AreBoxesApart p.box q.box) ps → (a : Point) (xs : List Point) (z : Point) → IsWithin p.box a
    → Each (LiesIn (p ∷ ps)) (route a xs z) → Each (IsWithin p.box) xs
walk_in p ps apart a [] z h k = tt
walk_in p ps apart a (x ∷ xs) z h k = let w = step_in p ps apart (a, x) h k.0 in (w.1, walk_in p ps apart x xs z w.1 k.1)

walk_out : (p : Piece) (ps : List Piece) → Each (λ (q : Piece). AreBoxesApart p.box q.box) ps → (a : Point) (xs : List Point) (z : Point) → IsOf ps a
    → Each (LiesIn (p ∷ ps)) (route a xs z) → Each (LiesIn ps) (route a xs z)
walk_out p ps apart a [] z h k = (step_out p ps apart (a, z) h k.0, tt)
walk_out p ps apart a (x ∷ xs) z h k = let w = step_out p ps apart (a, x) h k.0 in (w, walk_out p ps apart x xs z (of_end ps (a, x) w) k.1)

-- a list of points in the box of one of the pieces
abbrev pub KeepsToOne : List Piece → List Point → Type 0
KeepsToOne [] c = ⊥
KeepsToOne (p ∷ ps) c = Each (IsWithin p.box) c ⊎ KeepsToOne ps c

route_start : (ps : List Piece) (a : Point) (xs : List Point) (z : Point) → Each (LiesIn ps) (route a xs z) → IsOf ps a
route_start ps a [] z h = of_start ps (a, z) h.0
route_start ps a (x ∷ xs) z h = of_start ps (a, x) h.0

round_one : (ps : List Piece) → AreParted ps → (x : Point) (xs : List Point) → IsOf ps x → Each (LiesIn ps) (route x xs x) → KeepsToOne ps (x ∷ xs)
round_one [] parted x xs h k = h
round_one (p ∷ ps) parted x xs (inl h) k = inl (h, walk_in p ps parted.0 x xs x h k)
round_one (p ∷ ps) parted x xs (inr h) k = inr (round_one ps parted.1 x xs h (walk_out p ps parted.0 x xs x h k))

-- ---- rings

-- a ring's vertices and its side point lie in the box of one of the pieces
abbrev pub IsRingIn : List Piece → Ring → Type 0
IsRingIn [] r = ⊥
IsRingIn (p ∷ ps) r = (Each (IsWithin p.box) r.0 × IsWithin (finer_box 2 p.box) r.1) ⊎ IsRingIn ps r

-- a list begins with a point in the box of one of the pieces
abbrev pub BeginsIn : List Piece → List Point → Type 0
BeginsIn ps [] = ⊥
BeginsIn ps (z ∷ zs) = IsOf ps z

-- both
pub record Fits (ps : List Piece) (r : Ring) : Type 0 where
  pub ring : IsRingIn ps r
  pub begins : BeginsIn ps r.0

each_turning : (P : Point → Type 0) (a : Point) (xs : List Point) (z : Point) → Each P xs → Each P (turning_points a xs z)
each_turning P a [] z h = tt
each_turning P a (x ∷ xs) z h = by (turns_at a x (first_or z xs)) (each_turning P x xs z h.1)
  where
    by : (b : Bool) → Each P (turning_points x xs z) → Each P (cond b (x ∷ turning_points x xs z) (turning_points x xs z))
    by true rest = (h.0, rest)
    by false rest = rest

each_kept : (P : Point → Type 0) (all : Bool) (a : Point) (xs : List Point) (z : Point) → Each P xs → Each P (kept all a xs z)
each_kept P true a xs z h = h
each_kept P false a xs z h = each_turning P a xs z h

first_within : (P : Point → Type 0) (x : Point) (xs : List Point) → P x → Each P xs → P (first_or x xs)
first_within P x [] h k = h
first_within P x (y ∷ ys) h k = k.0

ring_in : (ps : List Piece) (all : Bool) (x : Point) (xs : List Point) → KeepsToOne ps (x ∷ xs) → IsRingIn ps (ring_of all (x ∷ xs))
ring_in [] all x xs h = h
ring_in (p ∷ ps) all x xs (inl h) =
    inl ((h.0, each_kept (IsWithin p.box) all x xs x h.1), middle_within p.box (x, first_or x xs) (h.0, first_within (IsWithin p.box) x xs h.0 h.1))
ring_in (p ∷ ps) all x xs (inr h) = inr (ring_in ps all x xs h)

pub contour_fits : (ps : List Piece) → AreParted ps → (all : Bool) (c : List Point) → StartIsLeast c → Each (LiesIn ps) (boundary c) → Fits ps (ring_of all c)
contour_fits ps parted all [] some h = absurd some
contour_fits ps parted all (x ∷ xs) some h =
    let begins : IsOf ps x = route_start ps x xs x h in
    record { ring = ring_in ps all x xs (round_one ps parted x xs begins h); begins = begins }

pub contour_begins : (ps : List Piece) (all : Bool) (c : List Point) → StartIsLeast c → Each (LiesIn ps) (boundary c) → BeginsIn ps (ring_of all c).0
contour_begins ps all [] some h = absurd some
contour_begins ps all (x ∷ xs) some h = route_start ps x xs x h

-- ---- rings that lie apart

among_side : (ps : List Piece) (r : Ring) → IsRingIn ps r → IsAmong 2 ps r.1
among_side [] r h = h
among_side (p ∷ ps) r (inl h) = inl h.1
among_side (p ∷ ps) r (inr h) = inr (among_side ps r h)

not_round : (ps : List Piece) (r : Ring) (z : Point) → Each (λ (p : Piece). IsPast (finer_box 2 p.box) z) ps → IsRingIn ps r → winding 2 z (boundary r.0) ≡ pos 0
not_round [] r z past h = absurd h
not_round (p ∷ ps) r z past (inl h) =
    let far = past.0 in
    closed_before far.u far.v 2 z r.0
    (all_from_each (λ (x : Point). along_by far.u far.v (refined 2 x) <ℤ along_by far.u far.v z) r.0
    (each_more (IsWithin p.box) (λ (x : Point). along_by far.u far.v (refined 2 x) <ℤ along_by far.u far.v z)
    (λ (x : Point) (w : IsWithin p.box x). far.past (refined 2 x) (within_refined 2 p.box x w)) r.0 h.0))
not_round (p ∷ ps) r z past (inr h) = not_round ps r z past.1 h

pub and_last : (a b : Bool) → b ≡ false → (a && b) ≡ false
and_last true b h = h
and_last false b h = refl

-- no ring of the one list surrounds one of the other
pub never_round : (ps qs : List Piece) → AreApart qs ps → (r s : Ring) → Fits ps r → Fits qs s → surrounds r s ≡ false
never_round ps qs back r s h k =
    and_last (int_lt (pos 0) (double_area r.0)) (holds 2 s.1 r.0)
    (ap (λ (w : ℤ). not (int_eq w (pos 0))) (not_round ps r s.1 (past_each 2 (omega arith) qs ps back s.1 (among_side qs s k.ring)) h.ring))

pub begins_once : (ps qs : List Piece) → AreApart ps qs → (l : List Point) → BeginsIn ps l → BeginsIn qs l → ⊥
begins_once ps qs apart [] h k = h
begins_once ps qs apart (z ∷ zs) h k = of_neither ps qs apart z h k
