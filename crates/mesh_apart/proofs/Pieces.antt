-- Lemmas over points and lists: edges and points that lie in a box of some piece.
use Rattle.std.proofs.Common.{◌≡◌, ℕ, ◌<◌, ◌⊎◌, inl, inr, ⊎_elim, true, List, [], ◌∷◌, sym, subst}
use Rattle.std.specs.List.{All}
use Rattle.std.proofs.lemmas.Bool.{or_cases, false≢true}
use Rattle.std.proofs.lemmas.List.Elements.{All-head, All-tail}
use Rattle.mesh_plane.specs.Plane.{Point, Edge}
use Rattle.mesh_lattice.specs.Boundary.{middle}
use Rattle.mesh_lattice.specs.Clean.{IsOn, refined_edge}
use Rattle.mesh_lattice.specs.Split.{same_ends, occurs, back}
use Rattle.mesh_lattice.proofs.Each.{Each, each_more, each_append}
use Rattle.mesh_lattice.proofs.Ends.{decides_ends}
use Rattle.mesh_apart.specs.Apart.{Box, finer_box, IsWithin, AreBoxesApart, LiesInBox, Piece, IsBoxed, edges_in}
use Rattle.mesh_apart.proofs.Boxes.{within_between, not_both, lies_refined, apart_refined, middle_within, IsPast, past_apart}

pub each_from_all : {A : Type 0} (P : A → Type 0) (xs : List A) → All P xs → Each P xs
each_from_all P [] h = tt
each_from_all P (x ∷ xs) h = (All-head P x xs h, each_from_all P xs (All-tail P x xs h))

-- an edge lies in the box of one of the pieces
abbrev pub LiesIn : List Piece → Edge → Type 0
LiesIn [] e = ⊥
LiesIn (p ∷ ps) e = LiesInBox p.box e ⊎ LiesIn ps e

-- a point of the grid `m` lies in the box of one of the pieces
abbrev pub IsAmong : ℕ → List Piece → Point → Type 0
IsAmong m [] z = ⊥
IsAmong m (p ∷ ps) z = IsWithin (finer_box m p.box) z ⊎ IsAmong m ps z

-- boxes of one list are apart from those of another
abbrev pub AreApart : List Piece → List Piece → Type 0
AreApart ps qs = Each (λ (p : Piece). Each (λ (q : Piece). AreBoxesApart p.box q.box) qs) ps

pub apart_from_all : (ps qs : List Piece) → All (λ (p : Piece). All (λ (q : Piece). AreBoxesApart p.box q.box) qs) ps → AreApart ps qs
apart_from_all ps qs h =
    each_more (λ (p : Piece). All (λ (q : Piece). AreBoxesApart p.box q.box) qs) (λ (p : Piece). Each (λ (q : Piece). AreBoxesApart p.box q.box) qs)
    (λ (p : Piece) k. each_from_all (λ (q : Piece). AreBoxesApart p.box q.box) qs k) ps
    (each_from_all (λ (p : Piece). All (λ (q : Piece). AreBoxesApart p.box q.box) qs) ps h)

boxes_back : (b c : Box) → AreBoxesApart b c → AreBoxesApart c b
boxes_back b c (inl (inl h)) = inl (inr h)
boxes_back b c (inl (inr h)) = inl (inl h)
boxes_back b c (inr (inl h)) = inr (inr h)
boxes_back b c (inr (inr h)) = inr (inl h)

pub apart_back : (ps qs : List Piece) → AreApart ps qs → AreApart qs ps
apart_back ps [] h = tt
apart_back ps (q ∷ qs) h = (
  each_more (λ (p : Piece). Each (λ (r : Piece). AreBoxesApart p.box r.box) (q ∷ qs)) (λ (p : Piece). AreBoxesApart q.box p.box) (λ (p : Piece) k. boxes_back p.box q.box k.0) ps h,
  apart_back ps qs (each_more (λ (p : Piece). Each (λ (r : Piece). AreBoxesApart p.box r.box) (q ∷ qs)) (λ (p : Piece). Each (λ (r : Piece). AreBoxesApart p.box r.box) qs) (λ (p : Piece) k. k.1) ps h),
)

-- ---- edges

pub lies_back : (ps : List Piece) (e : Edge) → LiesIn ps e → LiesIn ps (back e)
lies_back [] e h = h
lies_back (p ∷ ps) e (inl h) = inl (h.1, h.0)
lies_back (p ∷ ps) e (inr h) = inr (lies_back ps e h)

pub lies_same : (ps : List Piece) (e f : Edge) → same_ends e f ≡ true → LiesIn ps f → LiesIn ps e
lies_same ps e f t h =
    ⊎_elim (λ (x : e ≡ f). subst (LiesIn ps) (sym x) h) (λ (x : e ≡ back f). subst (LiesIn ps) (sym x) (lies_back ps f h)) ((decides_ends e f).0 t)

pub lies_where_occurs : (ps : List Piece) (es : List Edge) → Each (LiesIn ps) es → (e : Edge) → occurs e es ≡ true → LiesIn ps e
lies_where_occurs ps [] h e o = absurd (false≢true o)
lies_where_occurs ps (d ∷ es) h e o =
    ⊎_elim (λ (t : same_ends e d ≡ true). lies_same ps e d t h.0) (λ (t : occurs e es ≡ true). lies_where_occurs ps es h.1 e t)
    (or_cases (same_ends e d) (occurs e es) o)

-- an edge lies in no box of both lists
pub lies_once : (ps qs : List Piece) → AreApart ps qs → (e : Edge) → LiesIn ps e → LiesIn qs e → ⊥
lies_once [] qs h e k l = absurd k
lies_once (p ∷ ps) qs h e (inl k) l = other qs h.0 l
  where
    other : (qs : List Piece) → Each (λ (q : Piece). AreBoxesApart p.box q.box) qs → LiesIn qs e → ⊥
    other [] h l = l
    other (q ∷ qs) h (inl l) = not_both p.box q.box e.0 h.0 k.0 l.0
    other (q ∷ qs) h (inr l) = other qs h.1 l
lies_once (p ∷ ps) qs h e (inr k) l = lies_once ps qs h.1 e k l

-- the edges of boxed pieces lie in their boxes
pub each_lies : (ps : List Piece) → Each IsBoxed ps → Each (LiesIn ps) (edges_in ps)
each_lies [] h = tt
each_lies (p ∷ ps) h =
    each_append (LiesIn (p ∷ ps)) p.edges (edges_in ps)
    (each_more (LiesInBox p.box) (LiesIn (p ∷ ps)) (λ (e : Edge) (k : LiesInBox p.box e). inl k) p.edges (each_from_all (LiesInBox p.box) p.edges h.0.within))
    (each_more (LiesIn ps) (LiesIn (p ∷ ps)) (λ (e : Edge) (k : LiesIn ps e). inr k) (edges_in ps) (each_lies ps h.1))

-- ---- points

pub among_on : (m : ℕ) (ps : List Piece) (e : Edge) (z : Point) → LiesIn ps e → IsOn (refined_edge m e) z → IsAmong m ps z
among_on m [] e z h on = h
among_on m (p ∷ ps) e z (inl h) on = inl (within_between (finer_box m p.box) (refined_edge m e) z (lies_refined m p.box e h) on.in_box)
among_on m (p ∷ ps) e z (inr h) on = inr (among_on m ps e z h on)

pub among_middle : (ps : List Piece) (e : Edge) → LiesIn ps e → IsAmong 2 ps (middle e)
among_middle [] e h = h
among_middle (p ∷ ps) e (inl h) = inl (middle_within p.box e h)
among_middle (p ∷ ps) e (inr h) = inr (among_middle ps e h)

-- a point of a box of the one list lies past each box of the other
pub past_each : (m : ℕ) → 0 < m → (ps qs : List Piece) → AreApart ps qs → (z : Point) → IsAmong m ps z → Each (λ (q : Piece). IsPast (finer_box m q.box) z) qs
past_each m some [] qs h z k = absurd k
past_each m some (p ∷ ps) qs h z (inl k) =
    each_more (λ (q : Piece). AreBoxesApart p.box q.box) (λ (q : Piece). IsPast (finer_box m q.box) z)
    (λ (q : Piece) a. past_apart (finer_box m p.box) (finer_box m q.box) z (apart_refined m some p.box q.box a) k) qs h.0
past_each m some (p ∷ ps) qs h z (inr k) = past_each m some ps qs h.1 z k

pub among_once : (m : ℕ) → 0 < m → (ps qs : List Piece) → AreApart ps qs → (z : Point) → IsAmong m ps z → IsAmong m qs z → ⊥
among_once m some [] qs h z k l = absurd k
among_once m some (p ∷ ps) qs h z (inl k) l = other qs h.0 l
  where
    other : (qs : List Piece) → Each (λ (q : Piece). AreBoxesApart p.box q.box) qs → IsAmong m qs z → ⊥
    other [] h l = l
    other (q ∷ qs) h (inl l) = not_both (finer_box m p.box) (finer_box m q.box) z (apart_refined m some p.box q.box h.0) k l
    other (q ∷ qs) h (inr l) = other qs h.1 l
among_once m some (p ∷ ps) qs h z (inr k) l = among_once m some ps qs h.1 z k l
