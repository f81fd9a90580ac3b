-- Lemmas over points and lists: two nets have no common point where their edges are apart and each net lies outside the
-- other near its own edges. From a common point the way out of both would meet an edge of the one, before it an edge of
-- the other, before that one of the first again, and so on, each time another edge.
use Rattle.std.proofs.Common.{◌≡◌, ℕ, ◌*◌, ◌<◌, ◌≤◌, ⊎_elim, refl, sym, ◌∙◌, subst, arith, List, [], ◌∷◌, length, zero, suc}
use Rattle.std.specs.Prelude.{ℤ, pos, ◌+ℤ◌, ◌≤ℤ◌, unsigned_abs}
use Rattle.std.proofs.lemmas.Int.{ints}
use Rattle.mesh_plane.specs.Plane.{Point, Edge, turn}
use Rattle.mesh_plane.specs.Winding.{refined, winding, crossing_on, IsBalanced}
use Rattle.mesh_plane.proofs.Crossings.{crossing_low}
use Rattle.mesh_plane.proofs.Whole.{linear, mul_assoc}
use Rattle.mesh_lattice.specs.Clean.{IsOn, refined_edge}
use Rattle.mesh_clearance.specs.Clearance.{AreApart, IsNearer}
use Rattle.mesh_clearance.proofs.Ways.{no_distance, product_some}
use Rattle.mesh_nets.proofs.Among.{Among, AreOthers, others_of}
use Rattle.mesh_nets.proofs.Between.{finer_on, on_between, on_finer, on_turned}
use Rattle.mesh_nets.proofs.Meeting.{Meets, MeetsOne, met_between, met_longer, met_on, winding_finer}

-- the edges of two nets are apart, and near the edges of each the other does not wind
pub record AreParted (t : ℕ) (es fs : List Edge) : Type 0 where
  pub positive : 0 < t
  pub first_balanced : IsBalanced es
  pub second_balanced : IsBalanced fs
  pub apart : (e f : Edge) → Among e es → Among f fs → AreApart t e f
  pub first_outside : (f : Edge) → Among f fs → (m : ℕ) (q : Point) → IsNearer t m f q → winding m q es ≡ pos 0
  pub second_outside : (e : Edge) → Among e es → (m : ℕ) (q : Point) → IsNearer t m e q → winding m q fs ≡ pos 0

pub near_itself : (t m : ℕ) (e : Edge) (q : Point) → 0 < t → 0 < m → IsOn (refined_edge m e) q → IsNearer t m e q
near_itself t m e q positive some on = record {
  grid = 1;
  nearest = refined 1 q;
  on_edge = finer_on 1 m e q on;
  nearer =
      let whole : 0 < 1 * m = product_some 1 m (omega arith) some in
      let size = product_some t ((1 * m) * (1 * m)) positive (product_some (1 * m) (1 * m) whole whole) in
      omega (arith, no_distance (refined 1 q), size);
}

-- no point lies on both of two edges that are apart
pub none_on_both : (t m : ℕ) (e f : Edge) (p : Point) → 0 < t → 0 < m → AreApart t e f → IsOn (refined_edge m e) p → IsOn (refined_edge m f) p → ⊥
none_on_both t m e f p positive some apart first second =
    let l = apart m p p first second in
    let size = product_some t (m * m) positive (product_some m m some some) in
    omega (arith, no_distance p, l, size)

-- ---- a point above all edges

-- from a height on nothing winds
pub record IsClearAbove (m : ℕ) (x : ℤ) (es : List Edge) : Type 0 where
  pub height : ℤ
  pub none : (y : ℤ) → height ≤ℤ y → winding m (x, y) es ≡ pos 0

pub clear_above : (m : ℕ) (x : ℤ) (es : List Edge) → IsClearAbove m x es
clear_above m x [] = record { height = pos 0; none = λ y h. refl }
clear_above m x (e ∷ es) =
    let r = clear_above m x es in
    let top : ℤ = pos (unsigned_abs r.height) +ℤ (pos (unsigned_abs (refined m e.0).1) +ℤ pos (unsigned_abs (refined m e.1).1)) in record {
      height = top;
      none = λ y h.
          let first : (refined m e.0).1 ≤ℤ y = omega (arith, ints, h) in
          let second : (refined m e.1).1 ≤ℤ y = omega (arith, ints, h) in
          let rest : r.height ≤ℤ y = omega (arith, ints, h) in
          let one : crossing_on m (x, y) e.0 e.1 ≡ pos 0 = crossing_low (refined m e.0).1 (refined m e.1).1 y (turn (refined m e.0) (refined m e.1) (x, y)) first second in
          omega (arith, linear, one, r.none y rest);
    }

-- ---- from edge to edge

-- the edges of a net that the way from `q` to `z` meets are among others
abbrev pub AreMetAmong : ℕ → List Edge → Point → Point → List Edge → Type 0
AreMetAmong m es q z gs = (e : Edge) → Among e es → Meets m e q z → Among e gs

-- an edge of the first net that the way meets, before it one of the second, and no other edge than those of a shorter list
-- before that
pub record IsNext (t m : ℕ) (es fs : List Edge) (q z : Point) (gs : List Edge) : Type 0 where
  pub factor : ℕ
  pub positive : 0 < factor
  pub end : Point
  pub others : List Edge
  pub fewer : suc (length others) ≡ length gs
  pub outside : winding (factor * m) end es ≡ pos 0
  pub among : AreMetAmong (factor * m) es (refined factor q) end others

next_from : (t m : ℕ) (es fs : List Edge) (q z : Point) (gs : List Edge) → AreParted t es fs → 0 < m → AreMetAmong m es q z gs →
    (first : MeetsOne m es q z) → (second : MeetsOne (first.common.grid * m) fs (refined first.common.grid q) first.common.point) →
    IsNext t m es fs q z gs
next_from t m es fs q z gs parted some among first second = record {
  factor = l * k;
  positive = product_some l k second.common.positive first.common.positive;
  end = y;
  others = left.others;
  fewer = left.fewer;
  outside = subst (λ (n : ℕ). winding n y es ≡ pos 0) grids (parted.first_outside f second.listed (l * (k * m)) y (near_itself t (l * (k * m)) f y parted.positive whole y_on));
  among = λ e listed h.
      let h' : Meets (l * (k * m)) e (refined l (refined k q)) y = subst (λ (w : ℕ × Point). Meets w.0 e w.1 y) (λ i. (sym grids i, points i)) h in
      let longer : Meets (k * m) e (refined k q) x = met_longer l (k * m) e (refined k q) x y second.common.positive second.common.first h' in
      let whole_way : Meets m e q z = met_longer k m e q z x first.common.positive first.common.first longer in
      ⊎_elim (λ (same : e ≡ d). absurd (none (subst (λ (a : Edge). Meets (l * (k * m)) a (refined l (refined k q)) y) same h')))
      (λ (r : Among e left.others). r)
      (left.kept e (among e listed whole_way));
}
  where
    d : Edge
    d = first.edge

    f : Edge
    f = second.edge

    k : ℕ
    k = first.common.grid

    l : ℕ
    l = second.common.grid

    x : Point
    x = first.common.point

    y : Point
    y = second.common.point

    some_k : 0 < k * m
    some_k = product_some k m first.common.positive some

    whole : 0 < l * (k * m)
    whole = product_some l (k * m) second.common.positive some_k

    grids : l * (k * m) ≡ (l * k) * m
    grids = omega arith

    points : refined (l * k) q ≡ refined l (refined k q)
    points = λ i. (mul_assoc (pos l) (pos k) q.0 i, mul_assoc (pos l) (pos k) q.1 i)

    x_on : IsOn (refined_edge (k * m) d) x
    x_on = met_on m d q z first.common

    y_on : IsOn (refined_edge (l * (k * m)) f) y
    y_on = met_on (k * m) f (refined k q) x second.common

    left : AreOthers d gs
    left = others_of gs d (among d first.listed first.common)

    none : Meets (l * (k * m)) d (refined l (refined k q)) y → ⊥
    none h =
        let n : ℕ = h.grid * (l * (k * m)) in
        let on_p : IsOn (refined_edge n d) h.point = met_on (l * (k * m)) d (refined l (refined k q)) y h in
        let on_x : IsOn (refined_edge n d) (refined h.grid (refined l x)) = finer_on h.grid (l * (k * m)) d (refined l x) (finer_on l (k * m) d x x_on) in
        let turned : IsOn (h.point, refined h.grid (refined l x)) (refined h.grid y) =
        on_turned (refined h.grid (refined l (refined k q))) h.point (refined h.grid y) (refined h.grid (refined l x)) h.first (on_finer h.grid (refined l (refined k q)) (refined l x) y second.common.first) in
        let on_d : IsOn (refined_edge n d) (refined h.grid y) = on_between (refined n d.0) (refined n d.1) h.point (refined h.grid (refined l x)) (refined h.grid y) on_p on_x turned in
        let on_f : IsOn (refined_edge n f) (refined h.grid y) = finer_on h.grid (l * (k * m)) f y y_on in
        none_on_both t n d f (refined h.grid y) parted.positive (product_some h.grid (l * (k * m)) h.positive whole) (parted.apart d f first.listed second.listed) on_d on_f

pub next_of : (t m : ℕ) (es fs : List Edge) (q z : Point) (gs : List Edge) → AreParted t es fs → 0 < m → AreMetAmong m es q z gs →
    (winding m q es ≡ pos 0 → ⊥) → (winding m q fs ≡ pos 0 → ⊥) → winding m z es ≡ pos 0 → IsNext t m es fs q z gs
next_of t m es fs q z gs parted some among in_first in_second out = next_from t m es fs q z gs parted some among first second
  where
    first : MeetsOne m es q z
    first = met_between m q z es parted.first_balanced (λ same. in_first (same ∙ out))

    k : ℕ
    k = first.common.grid

    x : Point
    x = first.common.point

    x_out : winding (k * m) x fs ≡ pos 0
    x_out = parted.second_outside first.edge first.listed (k * m) x (near_itself t (k * m) first.edge x parted.positive (product_some k m first.common.positive some) (met_on m first.edge q z first.common))

    second : MeetsOne (k * m) fs (refined k q) x
    second = met_between (k * m) (refined k q) x fs parted.second_balanced (λ same. in_second (sym (winding_finer k m q fs first.common.positive) ∙ (same ∙ x_out)))

descend : (n t m : ℕ) (es fs : List Edge) (q z : Point) (gs : List Edge) → length gs ≤ n → AreParted t es fs → 0 < m → AreMetAmong m es q z gs →
    (winding m q es ≡ pos 0 → ⊥) → (winding m q fs ≡ pos 0 → ⊥) → winding m z es ≡ pos 0 → ⊥
descend zero t m es fs q z gs most parted some among in_first in_second out =
    let r = next_of t m es fs q z gs parted some among in_first in_second out in
    let fewer = r.fewer in
    omega (arith, fewer, most)
descend (suc n) t m es fs q z gs most parted some among in_first in_second out =
    let r = next_of t m es fs q z gs parted some among in_first in_second out in
    let fewer = r.fewer in
    descend n t (r.factor * m) es fs (refined r.factor q) r.end r.others (omega (arith, fewer, most)) parted (product_some r.factor m r.positive some) r.among
    (λ same. in_first (sym (winding_finer r.factor m q es r.positive) ∙ same))
    (λ same. in_second (sym (winding_finer r.factor m q fs r.positive) ∙ same))
    r.outside

-- no point lies within both nets
pub none_within_both : (t m : ℕ) (es fs : List Edge) (q : Point) → AreParted t es fs → 0 < m →
    (winding m q es ≡ pos 0 → ⊥) → (winding m q fs ≡ pos 0 → ⊥) → ⊥
none_within_both t m es fs q parted some in_first in_second =
    let above = clear_above m q.0 es in
    descend (length es) t m es fs q (q.0, above.height) es (omega arith) parted some (λ e listed h. listed) in_first in_second
    (above.none above.height (omega (arith, linear)))
