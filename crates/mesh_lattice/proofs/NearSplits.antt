-- Lemmas over points and lists: splits near given edges keep the winding far from these, and leave segments near them.
use Rattle.std.proofs.Common.{◌≡◌, ℕ, ◌<◌, ⊎_elim, Bool, true, false, cond, List, [], ◌∷◌, refl, sym, ◌∙◌, subst, arith}
use Rattle.std.specs.Prelude.{pos, ◌+ℤ◌}
use Rattle.std.specs.List.{All}
use Rattle.std.proofs.lemmas.Bool.{or_cases, false≢true}
use Rattle.std.proofs.lemmas.List.Elements.{All-nil, All-cons}
use Rattle.mesh_plane.specs.Plane.{Point, Edge}
use Rattle.mesh_plane.specs.Winding.{winding, crossing_on, boundary}
use Rattle.mesh_plane.proofs.Crossings.{crossing_on_odd}
use Rattle.mesh_plane.proofs.Sums.{total_append}
use Rattle.mesh_plane.proofs.Whole.{linear}
use Rattle.mesh_lattice.specs.Nearness.{IsNearTo, IsFarFrom, StaysNear, WitnessedSplit, splits_of, IsSplitNear, AreSplitsNear, IsNearness}
use Rattle.mesh_lattice.specs.Split.{back, same_ends, occurs, EdgeSplit, split_edge, split_by, after}
use Rattle.mesh_lattice.proofs.Each.{Each, each_append, each_of}
use Rattle.mesh_lattice.proofs.Ends.{decides_ends}
use Rattle.mesh_lattice.proofs.NearEdges.{closed_near, stays_near}
use Rattle.mesh_lattice.proofs.Nearness.{near_start, near_end}

-- ---- a split changes the winding at a point by the triangle's of the segment's ends and the split point

module _ (m : ℕ) (q : Point) (t : EdgeSplit) (flat : winding m q (boundary (t.ends.0 ∷ t.at ∷ t.ends.1 ∷ [])) ≡ pos 0) where
  over : crossing_on m q t.ends.0 t.at +ℤ crossing_on m q t.at t.ends.1 ≡ crossing_on m q t.ends.0 t.ends.1
  over = omega (arith, linear, flat, crossing_on_odd m q t.ends.0 t.ends.1)

  over_back : crossing_on m q t.ends.1 t.at +ℤ crossing_on m q t.at t.ends.0 ≡ crossing_on m q t.ends.1 t.ends.0
  over_back =
      omega (
        arith,
        linear,
        over,
        crossing_on_odd m q t.ends.0 t.ends.1,
        crossing_on_odd m q t.ends.0 t.at,
        crossing_on_odd m q t.at t.ends.1,
      )

  parts : (e : Edge) → same_ends e t.ends ≡ true → crossing_on m q e.0 t.at +ℤ crossing_on m q t.at e.1 ≡ crossing_on m q e.0 e.1
  parts e same =
      ⊎_elim
      (λ (x : e ≡ t.ends). subst (λ (f : Edge). crossing_on m q f.0 t.at +ℤ crossing_on m q t.at f.1 ≡ crossing_on m q f.0 f.1) (sym x) over)
      (λ (x : e ≡ back t.ends). subst (λ (f : Edge). crossing_on m q f.0 t.at +ℤ crossing_on m q t.at f.1 ≡ crossing_on m q f.0 f.1) (sym x) over_back)
      ((decides_ends e t.ends).0 same)

  split_winding : (es : List Edge) → winding m q (split_by t es) ≡ winding m q es
  split_winding [] = refl
  split_winding (e ∷ es) =
      total_append (crossing_on m q) (split_edge t e) (split_by t es)
      ∙ omega (arith, linear, split_winding es, by (same_ends e t.ends) refl)
    where
      by : (b : Bool) → same_ends e t.ends ≡ b → winding m q (cond b ((e.0, t.at) ∷ (t.at, e.1) ∷ []) (e ∷ [])) ≡ crossing_on m q e.0 e.1
      by true same = omega (arith, linear, parts e same)
      by false other = omega (arith, linear)

-- ---- splits near given edges

triangle_near : (given : List Edge) (earlier : List EdgeSplit) (k : ℕ) (t : WitnessedSplit) → IsSplitNear given earlier k t →
    All (IsNearTo k 1 t.witness) (t.split.ends.0 ∷ t.split.at ∷ t.split.ends.1 ∷ [])
triangle_near given earlier k t h =
    All-cons (IsNearTo k 1 t.witness) t.split.ends.0 (t.split.at ∷ t.split.ends.1 ∷ []) h.start
    (All-cons (IsNearTo k 1 t.witness) t.split.at (t.split.ends.1 ∷ []) h.at
    (All-cons (IsNearTo k 1 t.witness) t.split.ends.1 [] h.end (All-nil (IsNearTo k 1 t.witness))))

pub splits_wind : (given : List Edge) (k m : ℕ) → 0 < m → (q : Point) → IsFarFrom k m given q → (ts : List WitnessedSplit) → AreSplitsNear given k ts →
    winding m q (after (splits_of ts) given) ≡ winding m q given
splits_wind given k m some q far [] near = refl
splits_wind given k m some q far (t ∷ ts) near =
    let h : IsSplitNear given (splits_of ts) k t = near.0 in
    split_winding m q t.split
    (closed_near k m some t.witness q (far t.witness h.is_given) (t.split.ends.0 ∷ t.split.at ∷ t.split.ends.1 ∷ []) (triangle_near given (splits_of ts) k t h))
    (after (splits_of ts) given)
    ∙ splits_wind given k m some q far ts near.1

pub far_winding : (given : List Edge) (splits : List EdgeSplit) (k : ℕ) → IsNearness given splits k → (m : ℕ) → 0 < m → (q : Point) → IsFarFrom k m given q →
    winding m q (after splits given) ≡ winding m q given
far_winding given splits k h m some q far =
    subst (λ (ks : List EdgeSplit). winding m q (after ks given) ≡ winding m q given) h.same (splits_wind given k m some q far h.witnessed h.near)

-- ---- what the splits leave stays near a given edge

-- both ends lie near one given edge
record IsBoundNear (given : List Edge) (k : ℕ) (e : Edge) : Type 0 where
  witness : Edge
  is_given : occurs witness given ≡ true
  start : IsNearTo k 1 witness e.0
  end : IsNearTo k 1 witness e.1

bound_back : (given : List Edge) (k : ℕ) (e : Edge) → IsBoundNear given k e → IsBoundNear given k (back e)
bound_back given k e h = record { witness = h.witness; is_given = h.is_given; start = h.end; end = h.start }

split_bound : (given : List Edge) (earlier : List EdgeSplit) (k : ℕ) (t : WitnessedSplit) → IsSplitNear given earlier k t → (es : List Edge) →
    Each (IsBoundNear given k) es → Each (IsBoundNear given k) (split_by t.split es)
split_bound given earlier k t h [] bound = tt
split_bound given earlier k t h (e ∷ es) bound =
    each_append (IsBoundNear given k) (split_edge t.split e) (split_by t.split es) (by (same_ends e t.split.ends) refl) (split_bound given earlier k t h es bound.1)
  where
    near_ends : same_ends e t.split.ends ≡ true → IsNearTo k 1 t.witness e.0 × IsNearTo k 1 t.witness e.1
    near_ends same =
        ⊎_elim
        (λ (x : e ≡ t.split.ends). subst (λ (f : Edge). IsNearTo k 1 t.witness f.0 × IsNearTo k 1 t.witness f.1) (sym x) (h.start, h.end))
        (λ (x : e ≡ back t.split.ends). subst (λ (f : Edge). IsNearTo k 1 t.witness f.0 × IsNearTo k 1 t.witness f.1) (sym x) (h.end, h.start))
        ((decides_ends e t.split.ends).0 same)

    by : (b : Bool) → same_ends e t.split.ends ≡ b → Each (IsBoundNear given k) (cond b ((e.0, t.split.at) ∷ (t.split.at, e.1) ∷ []) (e ∷ []))
    by true same =
        let ends = near_ends same in (
          record { witness = t.witness; is_given = h.is_given; start = ends.0; end = h.at },
          (record { witness = t.witness; is_given = h.is_given; start = h.at; end = ends.1 }, tt),
        )
    by false other = (bound.0, tt)

splits_bound : (given : List Edge) (k : ℕ) (ts : List WitnessedSplit) → AreSplitsNear given k ts → Each (IsBoundNear given k) (after (splits_of ts) given)
splits_bound given k [] near =
    each_of (IsBoundNear given k) given
    (λ (e : Edge) (o : occurs e given ≡ true). record { witness = e; is_given = o; start = near_start k e; end = near_end k e })
splits_bound given k (t ∷ ts) near = split_bound given (splits_of ts) k t near.0 (after (splits_of ts) given) (splits_bound given k ts near.1)

bound_found : (given : List Edge) (k : ℕ) (es : List Edge) → Each (IsBoundNear given k) es → (e : Edge) → occurs e es ≡ true → IsBoundNear given k e
bound_found given k [] h e o = absurd (false≢true o)
bound_found given k (d ∷ es) h e o =
    ⊎_elim
    (λ (s : same_ends e d ≡ true).
    ⊎_elim (λ (x : e ≡ d). subst (IsBoundNear given k) (sym x) h.0) (λ (x : e ≡ back d). subst (IsBoundNear given k) (sym x) (bound_back given k d h.0))
    ((decides_ends e d).0 s))
    (λ (s : occurs e es ≡ true). bound_found given k es h.1 e s)
    (or_cases (same_ends e d) (occurs e es) o)

pub segments_near : (given : List Edge) (splits : List EdgeSplit) (k : ℕ) → IsNearness given splits k → (e : Edge) → occurs e (after splits given) ≡ true → StaysNear k given e
segments_near given splits k h e o =
    let b = bound_found given k (after splits given) (subst (λ (ks : List EdgeSplit). Each (IsBoundNear given k) (after ks given)) h.same (splits_bound given k h.witnessed h.near)) e o in
    stays_near k given b.witness e b.is_given b.start b.end
