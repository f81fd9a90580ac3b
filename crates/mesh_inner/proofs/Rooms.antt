-- Lemmas over points: what room a triangle over an edge leaves.
use Rattle.std.proofs.Common.{◌≡◌, ℕ, ◌*◌, ◌≤◌, sym, ◌∙◌, ap, subst, arith}
use Rattle.std.specs.Prelude.{ℤ, pos, ◌+ℤ◌, ◌*ℤ◌, ◌≤ℤ◌, ◌↔◌, unsigned_abs}
use Rattle.std.specs.Int.{int_min}
use Rattle.std.proofs.lemmas.Int.{ints, clamps}
use Rattle.mesh_plane.specs.Plane.{Point, Edge, minus, cross, dot, length_sq}
use Rattle.mesh_plane.proofs.Sizes.{dot_self}
use Rattle.mesh_inner.specs.Inner.{step, IsSectionWide}
use Rattle.mesh_inner.specs.Private.Walks.{IsLimit}
use Rattle.mesh_inner.specs.Room.{HasRoom}

pub room_is : (v w : Point) (f l b e m r : ℤ) → pos 0 ≤ℤ cross v w → f ≡ dot v v → l ≡ dot w w → b ≡ dot v w
    → e ≡ int_min (pos 2 *ℤ f) (pos 2 *ℤ l) → m ≡ int_min e (f +ℤ b) → r ≡ int_min m (l +ℤ b) → IsLimit r (λ t. HasRoom t v w)
room_is v w f l b e m r ahead ef el eb he hm hr t = (there, back)
  where
    own : dot v v ≡ pos (length_sq v)
    own = dot_self v

    other : dot w w ≡ pos (length_sq w)
    other = dot_self w

    there : pos t ≤ℤ r → HasRoom t v w
    there h =
        let all : ((pos t ≤ℤ (pos 2 *ℤ f)) × (pos t ≤ℤ (pos 2 *ℤ l))) × ((pos t ≤ℤ (f +ℤ b)) × (pos t ≤ℤ (l +ℤ b))) =
        ((omega (arith, ints, clamps, he, hm, hr, h), omega (arith, ints, clamps, he, hm, hr, h)), (omega (arith, ints, clamps, hm, hr, h), omega (arith, ints, clamps, hr, h))) in
        record {
          ahead = ahead;
          first = omega (arith, ints, all.0.0, ef, own);
          last = omega (arith, ints, all.0.1, el, other);
          by_first = omega (arith, ints, all.1.0, ef, eb, own);
          by_last = omega (arith, ints, all.1.1, el, eb, other);
        }

    back : HasRoom t v w → pos t ≤ℤ r
    back h =
        let first : pos t ≤ℤ (pos 2 *ℤ f) = omega (arith, ints, h.first, ef, own) in
        let last : pos t ≤ℤ (pos 2 *ℤ l) = omega (arith, ints, h.last, el, other) in
        let by_first : pos t ≤ℤ (f +ℤ b) = omega (arith, ints, h.by_first, ef, eb, own) in
        let by_last : pos t ≤ℤ (l +ℤ b) = omega (arith, ints, h.by_last, el, eb, other) in
        omega (arith, ints, clamps, he, hm, hr, first, last, by_first, by_last)

-- the square of a way's length, as the code has it
pub length_is : (v w : Point) (length : ℕ) → v ≡ w → length ≡ unsigned_abs (dot v v) → length ≡ length_sq w
length_is v w length e h = h ∙ ap unsigned_abs (dot_self v) ∙ ap length_sq e

-- how wide a section is
pub section_is : (unit : ℕ) (radius : ℤ) (e : Edge) (s v : Point) (length number quotient : ℕ) (r : ℤ) → s ≡ step unit radius e → v ≡ minus e.1 e.0
    → length ≡ length_sq (minus e.1 e.0) → number ≡ unsigned_abs (dot s v) → ((t : ℕ) → (t ≤ quotient) ↔ (t * length ≤ 2 * (number * number)))
    → r ≡ pos quotient → IsLimit r (λ t. IsSectionWide unit radius t e)
section_is unit radius e s v length number quotient r es ev el en q er t = (
  λ h. let k : t * length ≤ 2 * (number * number) = (q t).0 (omega (arith, ints, er, h)) in
      let m : t * length_sq (minus e.1 e.0) ≤ 2 * (number * number) = subst (λ (l : ℕ). t * l ≤ 2 * (number * number)) el k in
      subst (λ (n : ℕ). t * length_sq (minus e.1 e.0) ≤ 2 * (n * n)) same m,
  λ h. let m : t * length_sq (minus e.1 e.0) ≤ 2 * (number * number) = subst (λ (n : ℕ). t * length_sq (minus e.1 e.0) ≤ 2 * (n * n)) (sym same) h in
      let k : t ≤ quotient = (q t).1 (subst (λ (l : ℕ). t * l ≤ 2 * (number * number)) (sym el) m) in
      omega (arith, ints, er, k),
)
  where
    same : number ≡ unsigned_abs (dot (step unit radius e) (minus e.1 e.0))
    same = en ∙ (λ i. unsigned_abs (dot (es i) (ev i)))
