-- Lemmas over points: the windings at the ends of a segment and to its right follow from each other.
use Rattle.std.proofs.Common.{◌≡◌, ℕ, ◌<◌, ◌≢◌, ⊎_elim, Bool, true, false, cond, Option, None, Some, List, length, get_or, set, refl, sym, ◌∙◌, ap, subst, arith}
use Rattle.std.proofs.lemmas.Bool.Decides.{eqb_tells}
use Rattle.std.proofs.lemmas.List.{get_or-set_same, get_or-set_other}
use Rattle.std.specs.Prelude.{ℤ, nat_eq, neg_ℤ, ◌+ℤ◌, ◌-ℤ◌, IfSome, SomeIff}
use Rattle.mesh_plane.specs.Plane.{Edge}
use Rattle.mesh_plane.proofs.Whole.{linear}
use Rattle.mesh_lattice.specs.Boundary.{rises, winding_beside, left_winding, right_winding}
use Rattle.mesh_lattice.specs.Counted.{Counted, net}
use Rattle.mesh_lattice.specs.Split.{back, occurs}
use Rattle.mesh_lattice.proofs.Each.{proper_of}
use Rattle.mesh_lattice.proofs.Keys.{occurs_back, net_back}
use Rattle.mesh_regions.specs.SideLaws.{AreSplit}
use Rattle.mesh_regions.specs.Star.{net_before}
use Rattle.mesh_regions.proofs.StarSums.{ends_follow}
use Rattle.mesh_boundary.specs.Private.Flood.{IsLevel, IsRight, AreKnown}
use Rattle.mesh_boundary.specs.Private.Stars.{segment, leaving, IsSegment}
use Rattle.mesh_boundary.proofs.BoundaryCounted.{sides_turned}

-- ---- what may be

-- a number that is there where it fits
pub checked : (o : Option ℤ) (fits : Type 0) (v w : ℤ) (P : ℤ → Type 0) → SomeIff o fits v → v ≡ w → P w → IfSome o P
checked None fits v w P h e p = tt
checked (Some x) fits v w P h e p = subst P (sym (h.1 ∙ e)) p

-- ---- segments

-- the segment the other way about is one too
pub segment_back : (es : List Edge) (k : Counted) → IsSegment es k → IsSegment es (back k.0, neg_ℤ k.1)
segment_back es k s = record { stands = occurs_back k.0 es ∙ s.stands; net = net_back k.0 es ∙ ap neg_ℤ s.net }

left_more : (es : List Edge) (e : Edge) → left_winding es e ≡ right_winding es e +ℤ net e es
left_more es e = by (rises e) (winding_beside es e) (net e es)
  where
    by : (b : Bool) (w n : ℤ) → cond b (w +ℤ n) w ≡ cond b w (w -ℤ n) +ℤ n
    by true w n = refl
    by false w n = omega (arith, linear)

-- from the winding at a segment's start to that on its right
pub right_from : (es : List Edge) (e : Edge) (w n : ℤ) → AreSplit es → occurs e es ≡ true → IsLevel es (e.0, w) → n ≡ net_before e es → w +ℤ n ≡ right_winding es e
right_from es e w n split stands level before = omega (arith, linear, level, before, ends_follow es split e stands 2 (omega arith))

-- and from that on its right to that at its start
pub level_from : (es : List Edge) (e : Edge) (r n : ℤ) → AreSplit es → occurs e es ≡ true → IsRight es e r → n ≡ net_before e es → IsLevel es (e.0, r -ℤ n)
level_from es e r n split stands right before = omega (arith, linear, right, before, ends_follow es split e stands 2 (omega arith))

-- what lies to the right of a segment the other way about
pub right_back : (es : List Edge) (k : Counted) → AreSplit es → IsSegment es k → right_winding es (back k.0) ≡ right_winding es k.0 +ℤ k.1
right_back es k split s = omega (arith, linear, (sides_turned es k.0 (proper_of es split.proper k.0 s.stands)).1, s.net, left_more es k.0)

-- and what lies to its left
pub left_back : (es : List Edge) (k : Counted) → AreSplit es → IsSegment es k → left_winding es (back k.0) ≡ right_winding es k.0
left_back es k split s = (sides_turned es k.0 (proper_of es split.proper k.0 s.stands)).0

-- a segment directed away from its end is one too
pub segment_leaving : (es : List Edge) (ks : List Counted) (x : ℕ × Bool) → IsSegment es (segment ks x.0) → IsSegment es (leaving ks x)
segment_leaving es ks (k, true) s = s
segment_leaving es ks (k, false) s = segment_back es (segment ks k) s

-- ---- what is known

pub all_unknown : (es : List Edge) (ks : List Counted) (known : List (Option ℤ)) → ((k : ℕ) → get_or known k None ≡ None) → AreKnown es ks known
all_unknown es ks known none = record { each = λ k. subst (λ (o : Option ℤ). IfSome o (IsRight es (segment ks k).0)) (sym (none k)) tt }

pub known_set : (es : List Edge) (ks : List Counted) (known : List (Option ℤ)) (k : ℕ) (r : ℤ) → k < length known → IsRight es (segment ks k).0 r → AreKnown es ks known
    → AreKnown es ks (set known k (Some r))
known_set es ks known k r low own old = record { each = λ j. ⊎_elim (same j) (other j) (eqb_tells j k) }
  where
    Good : ℕ → Option ℤ → Type 0
    Good j o = IfSome o (IsRight es (segment ks j).0)

    same : (j : ℕ) → (nat_eq j k ≡ true) × (j ≡ k) → Good j (get_or (set known k (Some r)) j None)
    same j t = subst (λ (i : ℕ). Good i (get_or (set known k (Some r)) i None)) (sym t.1) (subst (Good k) (sym (get_or-set_same known k (Some r) None low)) own)

    other : (j : ℕ) → (nat_eq j k ≡ false) × (j ≢ k) → Good j (get_or (set known k (Some r)) j None)
    other j t = subst (Good j) (sym (get_or-set_other known k j (Some r) None t.1)) (old.each j)
