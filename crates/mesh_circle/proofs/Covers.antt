-- Lemmas over whole numbers and points: a circle that keeps inside each side of a quadrilateral is held by it.
use Rattle.std.proofs.Common.{◌≡◌, ℕ, ◌*◌, ◌≤◌, ◌^◌, sym, ◌∙◌, ap, arith}
use Rattle.std.specs.Prelude.{ℤ, Bool, true, false, pos, negsuc, ◌-ℤ◌, ◌*ℤ◌, ◌≤ℤ◌, neg_ℤ, ◌&&◌, not, int_le, int_lt}
use Rattle.std.specs.Prelude.{List, [], ◌∷◌, unsigned_abs}
use Rattle.std.specs.List.{list_all, All}
use Rattle.std.specs.Int.Signed.{le_z_yes}
use Rattle.std.specs.Ordering.{int_eq}
use Rattle.std.proofs.Math.Nat.{mul-le-mul, mul-le-mul_left}
use Rattle.std.proofs.lemmas.Bool.{and_parts, cond-true, cond-false, false_from_ne_true, true≢false}
use Rattle.std.proofs.lemmas.Bool.Decides.{Decides-int_eq, Decides-not}
use Rattle.std.proofs.lemmas.Float.{T_from_true}
use Rattle.std.proofs.lemmas.Int.{ints}
use Rattle.std.proofs.lemmas.List.Sums.{AllPass-from_list_all}
use mir.Syntax.{w128}
use mir.Val.{SFits}
use Rattle.mesh_plane.specs.Bounds.{IsWithin}
use Rattle.mesh_plane.specs.Plane.{Point, Edge, minus, cross, turn, length_sq}
use Rattle.mesh_plane.specs.Winding.{boundary}
use Rattle.mesh_num.specs.Widths.{IsUnit}
use Rattle.mesh_num.specs.Roots.{raised_root}
use Rattle.mesh_num.proofs.Roots.{raised_root_reaches}
use Rattle.mesh_circle.specs.Sections.{Circle, Section, sides, orientation, inner_turn, keeps_inside}
use Rattle.mesh_circle.specs.Sections.{covers_circle, IsBeyond, HoldsCircle}
use Rattle.mesh_circle.proofs.Lifts.{bound_most}

-- a distance times a length that is at least a radius times a length that is not too short
far : (r t : ℤ) (l n : ℕ) → pos 0 ≤ℤ r → n ≤ l * l → (r *ℤ pos l) ≤ℤ t →
    unsigned_abs r * unsigned_abs r * n ≤ unsigned_abs t * unsigned_abs t
far (pos r) (pos t) l n h m k =
    let j : r * l ≤ t = omega (arith, ints, k) in
    omega (arith, mul-le-mul j j, mul-le-mul_left (r * r) m)
far (pos r) (negsuc t) l n h m k = absurd (omega (arith, ints, k))
far (negsuc r) t l n h m k = absurd (omega (arith, ints, h))

beyond : (o : ℤ) (c : Circle) (side : Edge) → pos 0 ≤ℤ c.radius → keeps_inside o c side ≡ true → IsBeyond o c side
beyond o c side h e =
    let b = and_parts _ _ e in
    let t : pos 0 ≤ℤ inner_turn o side c.center = le_z_yes (T_from_true _ b.0) in
    let d : (c.radius *ℤ pos (raised_root (length_sq (minus side.1 side.0)))) ≤ℤ inner_turn o side c.center =
    le_z_yes (T_from_true _ b.1) in
    record {
      inside = t;
      distance = far c.radius _ (raised_root (length_sq (minus side.1 side.0))) _ h
          (raised_root_reaches (length_sq (minus side.1 side.0))) d;
    }

all_beyond : (o : ℤ) (c : Circle) (es : List Edge) → pos 0 ≤ℤ c.radius → list_all (keeps_inside o c) es ≡ true →
    All (IsBeyond o c) es
all_beyond o c es h e = λ k d l. beyond o c _ h (AllPass-from_list_all (keeps_inside o c) es e k d l)

pub covers_holds : (s : Section) (c : Circle) → pos 0 ≤ℤ c.radius → covers_circle s c ≡ true → HoldsCircle s c
unfolding covers_circle
covers_holds s c h e =
    let b = and_parts _ _ e in
    record {
      turns = (Decides-not _ (Decides-int_eq (orientation s) (pos 0))).0 b.0;
      beyond = all_beyond (orientation s) c (sides s) h b.1;
    }

-- ---- what the code puts together

-- the opposite of a number of the wide type fits
pub opposite_fits : (unit half : ℕ) (t v : ℤ) → IsUnit unit → half ≡ 8 * unit * unit → t ≡ v → IsWithin half v →
    SFits w128 (pos 0 -ℤ t)
opposite_fits unit half t v u e f s =
    let l : half ≤ 2 ^ 63 = omega (arith, e, bound_most unit u) in
    let m : SFits w128 (pos 0 -ℤ v) = omega (arith, ints, s.low, s.high, l) in
    rw f m

-- a turn to the other side
pub turned_round : (o : ℤ) (from to p v w : Point) (t r : ℤ) → int_lt o (pos 0) ≡ true → t ≡ cross v w →
    v ≡ minus to from → w ≡ minus p from → r ≡ (pos 0 -ℤ t) →
    r ≡ inner_turn o (from, to) p
turned_round o from to p v w t r h e f g k =
    let m : t ≡ turn from to p = e ∙ (λ i. cross (f i) (g i)) in
    let n : (pos 0 -ℤ t) ≡ neg_ℤ t = omega (arith, ints) in
    k ∙ n ∙ ap neg_ℤ m ∙ sym (cond-true (int_lt o (pos 0)) (neg_ℤ (turn from to p)) (turn from to p) h)

-- a turn to this side
pub turned_on : (o : ℤ) (from to p v w : Point) (t : ℤ) → int_lt o (pos 0) ≡ false → t ≡ cross v w →
    v ≡ minus to from → w ≡ minus p from → t ≡ inner_turn o (from, to) p
turned_on o from to p v w t h e f g =
    e ∙ (λ i. cross (f i) (g i)) ∙ sym (cond-false (int_lt o (pos 0)) (neg_ℤ (turn from to p)) (turn from to p) h)

pub keeps_made : (o : ℤ) (c : Circle) (side : Edge) (p : Point) (radius t r : ℤ) (l : ℕ) →
    ◌≡◌ {A = Circle} (record { center = p; radius = radius }) c →
    int_le (pos 0) t ≡ true → t ≡ inner_turn o side p → r ≡ radius *ℤ pos l → l ≡ raised_root
    (length_sq (minus side.1 side.0)) →
    int_le r t ≡ keeps_inside o c side
keeps_made o c side p radius t r l e h f g k =
    let u : t ≡ inner_turn o side c.center = f ∙ ap (λ (d : Circle). inner_turn o side d.center) e in
    let w : r ≡ c.radius *ℤ pos (raised_root (length_sq (minus side.1 side.0))) =
    g ∙ (λ i. ap (λ (d : Circle). d.radius) e i *ℤ pos (k i)) in
    sym (ap (λ (b : Bool). b && int_le r t) h) ∙ (λ i. int_le (pos 0) (u i) && int_le (w i) (u i))

-- one side and one more
pub pair_both : (x y p q : Bool) → p ≡ x → q ≡ y → p ≡ true → q ≡ (x && y)
pair_both x y p q e f h = f ∙ sym (ap (λ (b : Bool). b && y) (sym e ∙ h))

pub pair_none : (x y p : Bool) → p ≡ x → p ≡ false → p ≡ (x && y)
pair_none x y p e h = h ∙ sym (ap (λ (b : Bool). b && y) (sym e ∙ h))

-- two sides and two more
four_both : (a b x y p q : Bool) → p ≡ (a && b) → q ≡ (x && y) → p ≡ true → q ≡ (a && (b && (x && (y && true))))
four_both true true true true p q e f h = f
four_both true true true false p q e f h = f
four_both true true false y p q e f h = f
four_both true false x y p q e f h = absurd (true≢false (sym h ∙ e))
four_both false b x y p q e f h = absurd (true≢false (sym h ∙ e))

four_none : (a b x y p : Bool) → p ≡ (a && b) → p ≡ false → p ≡ (a && (b && (x && (y && true))))
four_none true true x y p e h = absurd (true≢false (sym e ∙ h))
four_none true false x y p e h = h
four_none false b x y p e h = h

pub sides_both : (f : Edge → Bool) (p q r s : Point) (m n : Bool) → m ≡ (f (p, q) && f (q, r)) →
    n ≡ (f (r, s) && f (s, p)) → m ≡ true →
    n ≡ list_all f (boundary (p ∷ q ∷ r ∷ s ∷ []))
sides_both f p q r s m n = four_both (f (p, q)) (f (q, r)) (f (r, s)) (f (s, p)) m n

pub sides_none : (f : Edge → Bool) (p q r s : Point) (m : Bool) → m ≡ (f (p, q) && f (q, r)) → m ≡ false →
    m ≡ list_all f (boundary (p ∷ q ∷ r ∷ s ∷ []))
sides_none f p q r s m = four_none (f (p, q)) (f (q, r)) (f (r, s)) (f (s, p)) m

pub covers_made : (w s : Section) (c : Circle) (o : ℤ) (n : Bool) → w ≡ s → o ≡ orientation w → (o ≡ pos 0 → ⊥) →
    n ≡ list_all (keeps_inside o c) (sides w) →
    n ≡ covers_circle s c
unfolding covers_circle
covers_made w s c o n e f g h =
    let z : int_eq (orientation w) (pos 0) ≡ false =
    false_from_ne_true _ (λ k. g (f ∙ (Decides-int_eq (orientation w) (pos 0)).0 k)) in
    h ∙ ap (λ (k : ℤ). list_all (keeps_inside k c) (sides w)) f
    ∙ sym (ap (λ (b : Bool). not b && list_all (keeps_inside (orientation w) c) (sides w)) z)
    ∙ ap (λ (k : Section). covers_circle k c) e

pub covers_none : (w s : Section) (c : Circle) (o : ℤ) → w ≡ s → o ≡ orientation w → o ≡ pos 0 →
    false ≡ covers_circle s c
unfolding covers_circle
covers_none w s c o e f g =
    let z : int_eq (orientation w) (pos 0) ≡ true = (Decides-int_eq (orientation w) (pos 0)).1 (sym f ∙ g) in
    sym (ap (λ (b : Bool). not b && list_all (keeps_inside (orientation w) c) (sides w)) z)
    ∙ ap (λ (k : Section). covers_circle k c) e
