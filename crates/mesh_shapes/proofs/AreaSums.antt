-- Lemmas over whole numbers and lists: sums along a closed list of points, as 128 bits hold them.
use Rattle.std.proofs.Common.{◌≡◌, ℕ, ◌+◌, ◌*◌, ◌^◌, ◌<◌, ◌≤◌, List, [], ◌∷◌, length, drop, ◌-◌, false, refl, sym, ◌∙◌, ap, subst, arith}
use Rattle.std.specs.Prelude.{ℤ, pos, ◌+ℤ◌, unsigned_abs, ◌==◌}
use Rattle.std.proofs.lemmas.Int.{ints, to_z-of_z}
use Rattle.std.proofs.Math.Nat.{mul-le-mul}
use Rattle.std.proofs.lemmas.Bool.{true≢false}
use Rattle.std.proofs.lemmas.List.{drop_all}
use mir.Syntax.{w32, w128}
use mir.Val.{SFits, to_z, of_z}
use Rattle.mesh_plane.specs.Bounds.{IsSmall}
use Rattle.mesh_plane.specs.Plane.{Point}
use Rattle.mesh_plane.specs.Winding.{total, route, boundary}
use Rattle.mesh_plane.proofs.Sizes.{sum_size}
use Rattle.mesh_plane.proofs.Whole.{linear}
use Rattle.mesh_shapes.specs.Private.Progress.{point_at}
use Rattle.mesh_shapes.proofs.ContoursBegun.{at_place}

-- a number below 2 ^ 127 in size
pub record FitsLong (z : ℤ) : Type 0 where
  pub fits : SFits w128 z
  pub kept : to_z w128 (of_z w128 z) ≡ z

pub fits_long : (z : ℤ) (n : ℕ) → unsigned_abs z ≤ n → n < 2 ^ 127 → FitsLong z
fits_long z n h m =
    let f : SFits w128 z = omega (arith, ints) in
    record { fits = f; kept = to_z-of_z w128 z f }

pub narrow_size : (z : ℤ) → SFits w32 z → unsigned_abs z ≤ 2 ^ 31
narrow_size z f = omega (arith, ints)

-- one more edge of the sum along a list
pub route_place : (f : Point → Point → ℤ) (before z : Point) (ps : List Point) (i : ℕ) → i < length ps →
    total f (route before (drop i ps) z) ≡ f before (point_at ps i) +ℤ total f (route (point_at ps i) (drop (i + 1) ps) z)
route_place f before z ps i h = ap (λ (l : List Point). total f (route before l z)) (at_place ps i h)

pub route_last : (f : Point → Point → ℤ) (before z : Point) (ps : List Point) (n : ℕ) → length ps ≤ n → total f (route before (drop n ps) z) ≡ f before z
route_last f before z ps n h =
    ap (λ (l : List Point). total f (route before l z)) (drop_all n ps h) ∙ omega (arith, linear)

-- ---- the loop along a closed list
-- the sum so far, before the place `i`, and what is still to come make the sum over the boundary
pub record ClosedSum (f : Point → Point → ℤ) (m : ℕ) (ps : List Point) (i : ℕ) (before : Point) (sum : ℤ) : Type 0 where
  pub value : sum +ℤ total f (route before (drop i ps) (point_at ps 0)) ≡ total f (boundary ps)
  pub size : unsigned_abs sum + m ≤ m * i

pub closed_init : (f : Point → Point → ℤ) (m : ℕ) (ps : List Point) → 0 < length ps → ClosedSum f m ps 1 (point_at ps 0) (pos 0)
closed_init f m [] h = absurd (omega arith)
closed_init f m (p ∷ ps) h = record { value = ap (λ (l : List Point). pos 0 +ℤ total f (route p l p)) (drop_zero ps) ∙ omega (arith, linear); size = omega arith }
  where
    drop_zero : (l : List Point) → drop 1 (p ∷ l) ≡ l
    drop_zero [] = refl
    drop_zero (x ∷ l) = refl

-- the sum and one more term, as 128 bits hold them
abbrev pub added : ℤ → ℤ → ℤ
added a b = to_z w128 (of_z w128 (a +ℤ to_z w128 (of_z w128 b)))

pub record Added (a b : ℤ) (n : ℕ) : Type 0 where
  pub fits : SFits w128 (a +ℤ to_z w128 (of_z w128 b))
  pub same : added a b ≡ a +ℤ b
  pub size : unsigned_abs (added a b) ≤ n

pub added_of : (a b : ℤ) (k m n : ℕ) → unsigned_abs a ≤ k → unsigned_abs b ≤ m → k + m ≤ n → m < 2 ^ 127 → n < 2 ^ 127 → Added a b n
added_of a b k m n ha hb le mm mn =
    let own = fits_long b m hb mm in
    let sum = fits_long (a +ℤ b) (k + m) (sum_size a b k m ha hb) (omega arith) in
    let same : added a b ≡ a +ℤ b = ap (λ (z : ℤ). to_z w128 (of_z w128 (a +ℤ z))) own.kept ∙ sum.kept in
    record {
      fits = subst (λ (z : ℤ). SFits w128 (a +ℤ z)) (sym own.kept) sum.fits;
      same = same;
      size = subst (λ (z : ℤ). unsigned_abs z ≤ n) (sym same) (omega (arith, sum_size a b k m ha hb));
    }

times_below : (m i : ℕ) → m ≤ 2 ^ 63 → i < 2 ^ 64 → m * i < 2 ^ 127
times_below m i h l =
    let q : i ≤ 2 ^ 64 - 1 = omega arith in
    let p : m * i ≤ 2 ^ 63 * (2 ^ 64 - 1) = mul-le-mul h q in
    omega arith

pub closed_added : (f : Point → Point → ℤ) (m : ℕ) (ps : List Point) (i : ℕ) (before : Point) (a b : ℤ) → ClosedSum f m ps i before a → unsigned_abs b ≤ m → m ≤ 2 ^ 63 → i < 2 ^ 64 →
    Added a b (m * i)
closed_added f m ps i before a b s hb mm l =
    added_of a b (unsigned_abs a) m (m * i) (omega arith) hb s.size (omega arith) (times_below m i mm l)

pub closed_next : (f : Point → Point → ℤ) (m : ℕ) (ps : List Point) (i : ℕ) (before : Point) (a b : ℤ) → ClosedSum f m ps i before a → Added a b (m * i) → i < length ps →
    b ≡ f before (point_at ps i) → ClosedSum f m ps (i + 1) (point_at ps i) (added a b)
closed_next f m ps i before a b s d low term = record {
  value = omega (arith, linear, d.same, s.value, term, route_place f before (point_at ps 0) ps i low);
  size = omega (arith, d.size);
}

pub closed_end : (f : Point → Point → ℤ) (m : ℕ) (ps : List Point) (i : ℕ) (before : Point) (a b : ℤ) → ClosedSum f m ps i before a → Added a b (m * i) → length ps ≤ i →
    b ≡ f before (point_at ps 0) → added a b ≡ total f (boundary ps)
closed_end f m ps i before a b s d low term = omega (arith, linear, d.same, s.value, term, route_last f before (point_at ps 0) ps i low)

pub total_below : (m i : ℕ) (z : ℤ) → unsigned_abs z ≤ m * i → m ≤ 2 ^ 63 → i < 2 ^ 64 → unsigned_abs z < 2 ^ 127
total_below m i z h mm l = omega (arith, times_below m i mm l)

-- a list that is not empty
pub some_elements : {A : Type 0} (xs : List A) → (length xs == 0) ≡ false → 0 < length xs
some_elements [] h = absurd (true≢false h)
some_elements (x ∷ xs) h = omega arith

pub one_size : (z : ℤ) → IsSmall 2 z → unsigned_abs z ≤ 1
one_size z h = omega (arith, ints, h.low, h.high)
