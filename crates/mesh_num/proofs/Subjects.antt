-- Lemmas over points and lists: the segments of edges have their smaller end first, and a count of 1 or -1.
use Rattle.std.proofs.Common.{◌≡◌, ◌↔◌, IsTrue, inl, inr, Bool, true, false, cond, ◌&&◌, ◌||◌, ◌++◌, List, [], ◌∷◌, refl, sym, ◌∙◌, ap, arith}
use Rattle.std.specs.Prelude.{ℤ, ◌≤ℤ◌, ◌<ℤ◌, pos, negsuc, int_lt}
use Rattle.std.specs.Ordering.{int_eq, is_eq}
use Rattle.std.specs.declared.cmp.Ordering.TheVariants.{Less, Equal, Greater}
use Rattle.std.specs.List.{All}
use Rattle.std.proofs.lemmas.Bool.{true≢false}
use Rattle.std.proofs.lemmas.Bool.Decides.{Decides-int_eq}
use Rattle.std.proofs.lemmas.Int.{ints, by_lt_z}
use Rattle.std.proofs.lemmas.List.Elements.{All-nil, All-cons, All-append}
use Rattle.mesh_plane.specs.Plane.{Point, Edge}
use Rattle.mesh_plane.specs.Winding.{same_point}
use Rattle.mesh_plane.specs.Order.{point_lt}
use Rattle.mesh_plane.proofs.Comparing.{less_test, not_less_test}
use Rattle.mesh_num.specs.Segments.{SignedEdge, subject_of, segment_between, segments_of, IsSubject}

-- of two different points of which the first is not the smaller one, the second is
other_smaller : (p r : Point) → same_point p r ≡ false → point_lt p r ≡ false → point_lt r p ≡ true
other_smaller p r differ after = by_x (int_lt r.0 p.0) refl
  where
    by_y : p.0 ≡ r.0 → int_lt p.1 r.1 ≡ false → int_eq p.1 r.1 ≡ false → (b : Bool) → int_lt r.1 p.1 ≡ b → b ≡ true
    by_y x above apart true e = refl
    by_y x above apart false e =
        let y : p.1 ≡ r.1 = omega (arith, ints) in
        absurd (true≢false (sym ((Decides-int_eq p.1 r.1).1 y) ∙ apart))

    by_x : (b : Bool) → int_lt r.0 p.0 ≡ b → (b || (int_eq r.0 p.0 && int_lt r.1 p.1)) ≡ true
    by_x true e = refl
    by_x false e = level (int_lt p.0 r.0) refl after
      where
        level : (b : Bool) → int_lt p.0 r.0 ≡ b → (b || (int_eq p.0 r.0 && int_lt p.1 r.1)) ≡ false → (int_eq r.0 p.0 && int_lt r.1 p.1) ≡ true
        level true f h = absurd (true≢false h)
        level false f h =
            let x : p.0 ≡ r.0 = omega (arith, ints) in
            let same : int_eq p.0 r.0 ≡ true = (Decides-int_eq p.0 r.0).1 x in
            let back : int_eq r.0 p.0 ≡ true = (Decides-int_eq r.0 p.0).1 (sym x) in
            let above : int_lt p.1 r.1 ≡ false = ap (λ (b : Bool). b && int_lt p.1 r.1) (sym same) ∙ h in
            let apart : int_eq p.1 r.1 ≡ false = ap (λ (b : Bool). b && int_eq p.1 r.1) (sym same) ∙ differ in
            ap (λ (b : Bool). b && int_lt r.1 p.1) back ∙ by_y x above apart (int_lt r.1 p.1) refl

pub subject_ordered : (p r : Point) → same_point p r ≡ false → IsSubject (subject_of p r)
subject_ordered p r differ = by (point_lt p r) refl
  where
    by : (b : Bool) → point_lt p r ≡ b → IsSubject (cond b ((p, r), pos 1) ((r, p), negsuc 0))
    by true e = record { ordered = e; unit_count = inl refl }
    by false e = record { ordered = other_smaller p r differ e; unit_count = inr refl }

-- the segment between two points, where they differ
pub segment_between_subject : (p r : Point) → All IsSubject (segment_between p r)
segment_between_subject p r = by (same_point p r) refl
  where
    by : (b : Bool) → same_point p r ≡ b → All IsSubject (cond b [] (subject_of p r ∷ []))
    by true e = All-nil IsSubject
    by false e = All-cons IsSubject (subject_of p r) [] (subject_ordered p r e) (All-nil IsSubject)

-- the segments of any edges
pub segments_of_subjects : (es : List Edge) → All IsSubject (segments_of es)
segments_of_subjects [] = All-nil IsSubject
segments_of_subjects (e ∷ es) = All-append IsSubject (segment_between e.0 e.1) (segments_of es) (segment_between_subject e.0 e.1) (segments_of_subjects es)

-- ---- the two forms of a subject, by the order of its points

pub forward_is : (p r : Point) → point_lt p r ≡ true → ((p, r), pos 1) ≡ subject_of p r
forward_is p r h = sym (ap (λ (b : Bool). cond b ((p, r), pos 1) ((r, p), negsuc 0)) h)

pub back_is : (p r : Point) → point_lt p r ≡ false → ((r, p), negsuc 0) ≡ subject_of p r
back_is p r h = sym (ap (λ (b : Bool). cond b ((p, r), pos 1) ((r, p), negsuc 0)) h)

pub segment_is : (p r : Point) → same_point p r ≡ false → segment_between p r ≡ subject_of p r ∷ []
segment_is p r h = ap (λ (b : Bool). cond b [] (subject_of p r ∷ [])) h

pub added_is : (old new : List SignedEdge) (s : SignedEdge) (p r : Point) → same_point p r ≡ false → s ≡ subject_of p r → new ≡ old ++ s ∷ []
    → new ≡ old ++ segment_between p r
added_is old new s p r h e f = f ∙ ap (λ (t : SignedEdge). old ++ t ∷ []) e ∙ ap (λ (l : List SignedEdge). old ++ l) (sym (segment_is p r h))

-- ---- tests of points, coordinate by coordinate

pub less_is : (r : Bool) (x y : ℤ) → (IsTrue r ↔ x <ℤ y) → r ≡ int_lt x y
less_is true x y h = sym (less_test x y (h.0 refl))
less_is false x y h = by_lt_z x y (λ (l : x <ℤ y). absurd (true≢false (sym (h.1 l)))) (λ (l : y ≤ℤ x). sym (not_less_test x y l))

pub before_by_x : (p r : Point) → int_lt p.0 r.0 ≡ true → true ≡ point_lt p r
before_by_x p r e = sym (ap (λ (b : Bool). b || (int_eq p.0 r.0 && int_lt p.1 r.1)) e)

pub after_by_x : (p r : Point) → int_lt p.0 r.0 ≡ false → int_lt r.0 p.0 ≡ true → false ≡ point_lt p r
after_by_x p r e f = sym (λ i. e i || (is_eq (cond (e i) Less (cond (f i) Greater Equal)) && int_lt p.1 r.1))

pub before_by_y : (p r : Point) → int_lt p.0 r.0 ≡ false → int_lt r.0 p.0 ≡ false → int_lt p.1 r.1 ≡ point_lt p r
before_by_y p r e f = sym (λ i. e i || (is_eq (cond (e i) Less (cond (f i) Greater Equal)) && int_lt p.1 r.1))
