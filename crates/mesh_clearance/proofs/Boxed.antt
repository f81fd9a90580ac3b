-- Lemmas over boxes: how far edges in two of them are apart at least, and the runs of a list.
use Rattle.std.proofs.Common.{◌≡◌, ℕ, ◌+◌, ◌-◌, ◌<◌, ◌≤◌, List, length, get_or, drop, sym, ◌∙◌, ap, subst, arith}
use Rattle.std.specs.Prelude.{ℤ, pos, ◌-ℤ◌, ◌≤ℤ◌}
use Rattle.std.specs.List.{All, slice_range}
use Rattle.std.proofs.lemmas.List.{get_or-take, get_or-drop, length-take, length-drop}
use Rattle.mesh_plane.specs.Plane.{Point, Edge, minus, dot}
use Rattle.mesh_plane.proofs.Whole.{linear}
use Rattle.mesh_clearance.specs.Boxes.{Box, IsIn, IsGap, AreBoxesApart}
use Rattle.mesh_clearance.proofs.Ends.{apart_of_way}

-- ---- numbers that are kept as they are

pub lower : (k m p q : ℤ) → k ≡ m → m ≤ℤ q → q ≡ p → k ≤ℤ p
lower k m p q e h f = subst (λ (v : ℤ × ℤ). v.0 ≤ℤ v.1) (λ i. (sym e i, f i)) h

pub upper : (k m p q : ℤ) → k ≡ m → q ≤ℤ m → q ≡ p → p ≤ℤ k
upper k m p q e h f = subst (λ (v : ℤ × ℤ). v.1 ≤ℤ v.0) (λ i. (sym e i, f i)) h

pub below_through : (a b c : ℤ) → a ≤ℤ b → b ≤ℤ c → a ≤ℤ c
below_through a b c h l = omega (arith, linear)

pub gap_kept : (least most gap least' most' gap' : ℤ) → least' ≡ least → most' ≡ most → gap' ≡ gap → IsGap least' most' gap → IsGap least most gap'
gap_kept least most gap least' most' gap' e f g h = subst (λ (w : ℤ × ℤ × ℤ). IsGap w.0 w.1 w.2) (λ i. (e i, f i, sym g i)) h

-- ---- two boxes

pub boxes_apart : (b c : Box) (n : Point) (t : ℕ) → IsGap (minus c.0 b.1).0 (minus c.1 b.0).0 n.0 → IsGap (minus c.0 b.1).1 (minus c.1 b.0).1 n.1 →
    pos t ≡ dot n n → AreBoxesApart t b c
boxes_apart b c n t x y size e f first second =
    apart_of_way t n e f (omega (arith, linear, size)) (record {
      start_start = way e.0 f.0 first.start second.start;
      end_start = way e.1 f.0 first.end second.start;
      start_end = way e.0 f.1 first.start second.end;
      end_end = way e.1 f.1 first.end second.end;
    })
  where
    way : (p q : Point) → IsIn b p → IsIn c q → dot n n ≤ℤ dot n (minus q p)
    way p q h l =
        let west = h.west in
        let east = h.east in
        let south = h.south in
        let north = h.north in
        let west' = l.west in
        let east' = l.east in
        let south' = l.south in
        let north' = l.north in
        let along = x (q.0 -ℤ p.0) (omega (arith, linear, east, west')) (omega (arith, linear, west, east')) in
        let across = y (q.1 -ℤ p.1) (omega (arith, linear, north, south')) (omega (arith, linear, south, north')) in
        omega (arith, linear, along, across)

-- ---- the runs of a list

pub within_range : (P : Edge → Type 0) (es : List Edge) (first end i : ℕ) (e : Edge) → i < length es → first ≤ i → i < end → All P (slice_range es first end) → P (get_or es i e)
within_range P es first end i e low after before h =
    subst P
    (get_or-take (end - first) (drop first es) (i - first) e (omega arith)
    ∙ (get_or-drop first es (i - first) e
    ∙ ap (λ (k : ℕ). get_or es k e) same))
    (h (i - first) e (simp (length-take, length-drop) (omega arith)))
  where
    same : first + (i - first) ≡ i
    same = omega arith
