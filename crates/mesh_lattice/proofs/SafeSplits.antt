-- Lemmas over points and lists: legal splits of safe edges leave safe edges.
use Rattle.std.proofs.Common.{ℕ, arith, ◌≡◌, Bool, true, false, cond, List, [], ◌∷◌, refl, ⊎_elim, sym, subst}
use Rattle.std.specs.Prelude.{ℤ, ◌≤ℤ◌, ◌<ℤ◌}
use Rattle.std.proofs.lemmas.Int.{ints, by_lt_z}
use Rattle.mesh_plane.specs.Bounds.{IsSmall, IsSafe}
use Rattle.mesh_lattice.specs.Split.{IsBetween, IsInBox, same_ends, EdgeSplit, split_edge, split_by, after, IsLegal, back, occurs}
use Rattle.mesh_plane.specs.Plane.{Point, Edge}
use Rattle.std.specs.List.{All}
use Rattle.std.proofs.lemmas.List.Elements.{All-nil, All-cons, All-head, All-tail, All-append}
use Rattle.mesh_lattice.specs.Reach.{AreEdgesSafe}
use Rattle.mesh_lattice.proofs.KeptBySplits.{cut_box, Boxed}
use Rattle.mesh_lattice.proofs.SoundSplits.{legal_boxed}
use Rattle.std.proofs.lemmas.Bool.{false≢true, or_cases}
use Rattle.mesh_lattice.proofs.Ends.{decides_ends}

between_small : (h : ℕ) (a z b : ℤ) → IsSmall h a → IsSmall h b → IsBetween a z b → IsSmall h z
between_small h a z b k l w =
    by_lt_z b a
    (λ (o : b <ℤ a). let r = w.down (omega (arith, ints, o)) in record { low = omega (arith, ints, r.0, l.low); high = omega (arith, ints, r.1, k.high) })
    (λ (o : a ≤ℤ b). let r = w.up o in record { low = omega (arith, ints, r.0, k.low); high = omega (arith, ints, r.1, l.high) })

box_safe : (unit : ℕ) (e : Edge) (c : Point) → IsSafe unit e.0 × IsSafe unit e.1 → IsInBox e c → IsSafe unit c
box_safe unit e c h box = record {
  x = between_small unit e.0.0 c.0 e.1.0 h.0.x h.1.x box.by_x;
  y = between_small unit e.0.1 c.1 e.1.1 h.0.y h.1.y box.by_y;
}

abbrev pub IsSafeEdge : ℕ → Edge → Type 0
IsSafeEdge unit e = IsSafe unit e.0 × IsSafe unit e.1

cut_safe : (unit : ℕ) (k : EdgeSplit) → IsInBox k.ends k.at → (es : List Edge) → AreEdgesSafe unit es → AreEdgesSafe unit (split_by k es)
cut_safe unit k box [] h = h
cut_safe unit k box (e ∷ es) h =
    All-append (IsSafeEdge unit) (split_edge k e) (split_by k es) (by (same_ends e k.ends) refl) (cut_safe unit k box es (All-tail (IsSafeEdge unit) e es h))
  where
    own : IsSafeEdge unit e
    own = All-head (IsSafeEdge unit) e es h

    none : All (IsSafeEdge unit) []
    none = All-nil (IsSafeEdge unit)

    by : (b : Bool) → same_ends e k.ends ≡ b → All (IsSafeEdge unit) (cond b ((e.0, k.at) ∷ (k.at, e.1) ∷ []) (e ∷ []))
    by true t =
        let c = box_safe unit e k.at own (cut_box k e box t) in
        All-cons (IsSafeEdge unit) (e.0, k.at) ((k.at, e.1) ∷ []) (own.0, c) (All-cons (IsSafeEdge unit) (k.at, e.1) [] (c, own.1) none)
    by false t = All-cons (IsSafeEdge unit) e [] own none

after_safe : (unit : ℕ) (ks : List EdgeSplit) → Boxed ks → (es : List Edge) → AreEdgesSafe unit es → AreEdgesSafe unit (after ks es)
after_safe unit [] boxed es h = h
after_safe unit (k ∷ ks) boxed es h = cut_safe unit k boxed.0 (after ks es) (after_safe unit ks boxed.1 es h)

-- legal splits of safe edges leave safe edges
pub split_safe : (unit : ℕ) (es : List Edge) (ks : List EdgeSplit) → IsLegal es ks → AreEdgesSafe unit es → AreEdgesSafe unit (after ks es)
split_safe unit es ks legal h = after_safe unit ks (legal_boxed es ks legal) es h

pub occurs_safe : (unit : ℕ) (es : List Edge) → AreEdgesSafe unit es → (e : Edge) → occurs e es ≡ true → IsSafeEdge unit e
occurs_safe unit [] h e o = absurd (false≢true o)
occurs_safe unit (d ∷ es) h e o =
    ⊎_elim
    (λ (t : same_ends e d ≡ true).
    ⊎_elim (λ (x : e ≡ d). subst (IsSafeEdge unit) (sym x) own) (λ (x : e ≡ back d). subst (IsSafeEdge unit) (sym x) (own.1, own.0)) ((decides_ends e d).0 t))
    (λ (t : occurs e es ≡ true). occurs_safe unit es (All-tail (IsSafeEdge unit) d es h) e t)
    (or_cases (same_ends e d) (occurs e es) o)
  where
    own : IsSafeEdge unit d
    own = All-head (IsSafeEdge unit) d es h
