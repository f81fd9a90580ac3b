-- Lemmas over edges and splits: a path that splits have made of an edge stops nowhere twice.
use Rattle.std.proofs.Common.{◌≡◌, ◌⊎◌, inl, inr, ⊎_elim, ℕ, zero, suc, ◌<◌, ◌≤◌, Bool, true, false, cond, List, [], ◌∷◌, ◌++◌, refl, sym, ap, subst, arith}
use Rattle.std.specs.Prelude.{ℤ, ◌≤ℤ◌, ◌<ℤ◌}
use Rattle.std.proofs.lemmas.Int.{ints, by_lt_z}
use Rattle.mesh_plane.specs.Plane.{Point, Edge}
use Rattle.mesh_lattice.specs.Split.{same_ends, split_by, split_edge, path, EdgeSplit, IsBetween, IsInBox}
use Rattle.mesh_lattice.proofs.Each.{Each, each_append}
use Rattle.mesh_lattice.proofs.KeptBySplits.{cut_box}
use Rattle.mesh_lattice.proofs.SoundSplits.{IsSound, ProperEnds, after_proper_each}
use Rattle.mesh_paths.specs.Private.Cutting.{AreSound, IsInjective}
use Rattle.mesh_paths.specs.Stops.{edges_along}
use Rattle.mesh_paths.proofs.Along.{later}

-- ---- never back

-- not down, or not up
abbrev GoesOn : Bool → ℤ → ℤ → Type 0
GoesOn true a b = a ≤ℤ b
GoesOn false a b = b ≤ℤ a

goes_between : (up : Bool) (a z b : ℤ) → GoesOn up a b → IsBetween a z b → GoesOn up a z × GoesOn up z b
goes_between true a z b h k = k.up h
goes_between false a z b h k = let p = k.down h in (p.1, p.0)

goes_far : (up : Bool) (a b c : ℤ) → GoesOn up a b → GoesOn up b c → GoesOn up a c
goes_far true a b c h k = omega (arith, ints)
goes_far false a b c h k = omega (arith, ints)

goes_stays : (up : Bool) (a : ℤ) → GoesOn up a a
goes_stays true a = omega (arith, ints)
goes_stays false a = omega (arith, ints)

goes_back : (up : Bool) (a b : ℤ) → GoesOn up a b → GoesOn up b a → a ≡ b
goes_back true a b h k = omega (arith, ints)
goes_back false a b h k = omega (arith, ints)

-- one point lies onward of another one
abbrev IsOnwardOf : Bool → Bool → Point → Point → Type 0
IsOnwardOf east north p q = GoesOn east p.0 q.0 × GoesOn north p.1 q.1

abbrev LeadsOn : Bool → Bool → Edge → Type 0
LeadsOn east north e = IsOnwardOf east north e.0 e.1

split_leads : (east north : Bool) (s : EdgeSplit) → IsInBox s.ends s.at → (es : List Edge) → Each (LeadsOn east north) es → Each (LeadsOn east north) (split_by s es)
split_leads east north s box [] h = tt
split_leads east north s box (e ∷ es) h =
    each_append (LeadsOn east north) (split_edge s e) (split_by s es) (by (same_ends e s.ends) refl) (split_leads east north s box es h.1)
  where
    by : (b : Bool) → same_ends e s.ends ≡ b → Each (LeadsOn east north) (cond b ((e.0, s.at) ∷ (s.at, e.1) ∷ []) (e ∷ []))
    by true t =
        let in_box : IsInBox e s.at = cut_box s e box t in
        let x = goes_between east e.0.0 s.at.0 e.1.0 h.0.0 in_box.by_x in
        let y = goes_between north e.0.1 s.at.1 e.1.1 h.0.1 in_box.by_y in
        ((x.0, y.0), ((x.1, y.1), tt))
    by false t = (h.0, tt)

path_leads : (east north : Bool) (splits : List EdgeSplit) → AreSound splits → (e : Edge) → LeadsOn east north e → Each (LeadsOn east north) (path splits e)
path_leads east north [] sound e h = (h, tt)
path_leads east north (s ∷ splits) sound e h = split_leads east north s sound.0 (path splits e) (path_leads east north splits sound.2 e h)

pub each_sound : (splits : List EdgeSplit) → AreSound splits → Each IsSound splits
each_sound [] h = tt
each_sound (s ∷ splits) h = (record { boxed = h.0; inner = h.1 }, each_sound splits h.2)

pub sound_each : (splits : List EdgeSplit) → Each IsSound splits → AreSound splits
sound_each [] h = tt
sound_each (s ∷ splits) h = (h.0.boxed, h.0.inner, sound_each splits h.1)

-- ---- points that go on are different

module _ (east north : Bool) where
  reaches : (a : ℕ → Point) (n i : ℕ) → Each (LeadsOn east north) (edges_along a n) → i ≤ n → IsOnwardOf east north (a 0) (a i)
  reaches a n zero h k = (goes_stays east (a 0).0, goes_stays north (a 0).1)
  reaches a zero (suc i) h k = absurd (omega arith)
  reaches a (suc n) (suc i) h k =
      let far = reaches (later a) n i h.1 (omega arith) in
      (goes_far east (a 0).0 (a 1).0 (a (suc i)).0 h.0.0 far.0, goes_far north (a 0).1 (a 1).1 (a (suc i)).1 h.0.1 far.1)

  first_once : (a : ℕ → Point) (n i : ℕ) → Each (LeadsOn east north) (edges_along a (suc n)) → Each ProperEnds (edges_along a (suc n)) → i ≤ n → a 0 ≡ a (suc i) → ⊥
  first_once a n i h proper k e =
      let far = reaches (later a) n i h.1 k in
      let back_x : GoesOn east (a 1).0 (a 0).0 = subst (λ (p : Point). GoesOn east (a 1).0 p.0) (sym e) far.0 in
      let back_y : GoesOn north (a 1).1 (a 0).1 = subst (λ (p : Point). GoesOn north (a 1).1 p.1) (sym e) far.1 in
      let x : (a 0).0 ≡ (a 1).0 = goes_back east (a 0).0 (a 1).0 h.0.0 back_x in
      let y : (a 0).1 ≡ (a 1).1 = goes_back north (a 0).1 (a 1).1 h.0.1 back_y in
      proper.0 (λ i. (x i, y i))

  once : (a : ℕ → Point) (n : ℕ) → Each (LeadsOn east north) (edges_along a n) → Each ProperEnds (edges_along a n) → IsInjective a n
  once a n h proper zero zero k l e = refl
  once a zero h proper (suc i) j k l e = absurd (omega arith)
  once a zero h proper i (suc j) k l e = absurd (omega arith)
  once a (suc n) h proper zero (suc j) k l e = absurd (first_once a n j h proper (omega arith) e)
  once a (suc n) h proper (suc i) zero k l e = absurd (first_once a n i h proper (omega arith) (sym e))
  once a (suc n) h proper (suc i) (suc j) k l e = ap suc (once (later a) n h.1 proper.1 i j (omega arith) (omega arith) e)

-- an edge leads somewhere
direction : (a b : ℤ) → (GoesOn true a b) ⊎ (GoesOn false a b)
direction a b = by_lt_z b a (λ (k : b <ℤ a). inr (less a b k)) (λ (k : a ≤ℤ b). inl k)
  where
    less : (a b : ℤ) → b <ℤ a → b ≤ℤ a
    less a b k = omega (arith, ints)

-- a path that splits have made of an edge stops nowhere twice
pub path_once : (splits : List EdgeSplit) → AreSound splits → (e : Edge) → ProperEnds e → (a : ℕ → Point) (n : ℕ) → edges_along a n ≡ path splits e → IsInjective a n
path_once splits sound e proper a n is =
    ⊎_elim (λ (x : GoesOn true e.0.0 e.1.0). by_y true x (direction e.0.1 e.1.1)) (λ (x : GoesOn false e.0.0 e.1.0). by_y false x (direction e.0.1 e.1.1)) (direction e.0.0 e.1.0)
  where
    all_proper : Each ProperEnds (edges_along a n)
    all_proper = subst (Each ProperEnds) (sym is) (after_proper_each splits (each_sound splits sound) (e ∷ []) (proper, tt))

    by : (east north : Bool) → LeadsOn east north e → IsInjective a n
    by east north h = once east north a n (subst (Each (LeadsOn east north)) (sym is) (path_leads east north splits sound e h)) all_proper

    by_y : (east : Bool) → GoesOn east e.0.0 e.1.0 → (GoesOn true e.0.1 e.1.1) ⊎ (GoesOn false e.0.1 e.1.1) → IsInjective a n
    by_y east x (inl y) = by east true (x, y)
    by_y east x (inr y) = by east false (x, y)

-- ---- a path has a piece

abbrev HasSome : List Edge → Type 0
HasSome [] = ⊥
HasSome (e ∷ es) = Unit {0}

split_some : (s : EdgeSplit) (es : List Edge) → HasSome es → HasSome (split_by s es)
split_some s [] h = h
split_some s (e ∷ es) h = by (same_ends e s.ends)
  where
    by : (b : Bool) → HasSome (cond b ((e.0, s.at) ∷ (s.at, e.1) ∷ []) (e ∷ []) ++ split_by s es)
    by true = tt
    by false = tt

path_some : (splits : List EdgeSplit) (e : Edge) → HasSome (path splits e)
path_some [] e = tt
path_some (s ∷ splits) e = split_some s (path splits e) (path_some splits e)

pub pieces_some : (splits : List EdgeSplit) (e : Edge) (a : ℕ → Point) (n : ℕ) → edges_along a n ≡ path splits e → 0 < n
pieces_some splits e a zero is = absurd (subst HasSome (sym is) (path_some splits e))
pieces_some splits e a (suc n) is = omega arith
