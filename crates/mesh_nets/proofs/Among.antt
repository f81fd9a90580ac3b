-- Lemmas over lists: the edges among which one stands.
use Rattle.std.proofs.Common.{◌≡◌, ℕ, ◌<◌, ◌⊎◌, inl, inr, ⊎_elim, refl, sym, ◌∙◌, subst, arith, List, [], ◌∷◌, ◌++◌, length, get_or, zero, suc}
use Rattle.std.specs.List.{All, Contains}
use Rattle.std.proofs.lemmas.List.{get_or_default}
use Rattle.mesh_plane.specs.Plane.{Edge}
use Rattle.mesh_lattice.proofs.Each.{Each}

-- an edge is one of a list
abbrev pub Among : Edge → List Edge → Type 0
Among e [] = ⊥
Among e (f ∷ fs) = (e ≡ f) ⊎ Among e fs

at_place : (es : List Edge) (k : ℕ) (e : Edge) → k < length es → get_or es k e ≡ e → Among e es
at_place [] k e low same = absurd (omega arith)
at_place (f ∷ fs) zero e low same = inl (sym same)
at_place (f ∷ fs) (suc k) e low same = inr (at_place fs k e (omega arith) same)

pub among_listed : (es : List Edge) (e : Edge) → Contains es e → Among e es
among_listed es e h = at_place es h.0 e h.1 h.2

pub listed_among : (es : List Edge) (e : Edge) → Among e es → Contains es e
listed_among [] e h = absurd h
listed_among (f ∷ fs) e (inl same) = (zero, omega arith, sym same)
listed_among (f ∷ fs) e (inr h) = let r = listed_among fs e h in (suc r.0, omega (arith, r.1), r.2)

pub among_index : (es : List Edge) (k : ℕ) (d : Edge) → k < length es → Among (get_or es k d) es
among_index es k d low = at_place es k (get_or es k d) low (get_or_same es k d low)
  where
    get_or_same : (es : List Edge) (k : ℕ) (d : Edge) → k < length es → get_or es k (get_or es k d) ≡ get_or es k d
    get_or_same es k d low = get_or_default es k (get_or es k d) d low

pub all_among : (P : Edge → Type 0) (es : List Edge) → All P es → (e : Edge) → Among e es → P e
all_among P es h e listed = let r = listed_among es e listed in subst P r.2 (h r.0 e r.1)

pub each_among : (P : Edge → Type 0) (es : List Edge) → ((e : Edge) → Among e es → P e) → Each P es
each_among P [] h = tt
each_among P (e ∷ es) h = (h e (inl refl), each_among P es (λ (f : Edge) (k : Among f es). h f (inr k)))

pub among_append : (es fs : List Edge) (e : Edge) → Among e (es ++ fs) → Among e es ⊎ Among e fs
among_append [] fs e h = inr h
among_append (f ∷ es) fs e (inl same) = inl (inl same)
among_append (f ∷ es) fs e (inr h) = ⊎_elim (λ (k : Among e es). inl (inr k)) (λ (k : Among e fs). inr k) (among_append es fs e h)

pub among_left : (es fs : List Edge) (e : Edge) → Among e es → Among e (es ++ fs)
among_left [] fs e h = absurd h
among_left (f ∷ es) fs e (inl same) = inl same
among_left (f ∷ es) fs e (inr h) = inr (among_left es fs e h)

pub among_right : (es fs : List Edge) (e : Edge) → Among e fs → Among e (es ++ fs)
among_right [] fs e h = h
among_right (f ∷ es) fs e h = inr (among_right es fs e h)

-- the others of a list in which an edge stands
pub record AreOthers (e : Edge) (gs : List Edge) : Type 0 where
  pub others : List Edge
  pub fewer : suc (length others) ≡ length gs
  pub kept : (x : Edge) → Among x gs → (x ≡ e) ⊎ Among x others

pub others_of : (gs : List Edge) (e : Edge) → Among e gs → AreOthers e gs
others_of [] e h = absurd h
others_of (g ∷ gs) e (inl same) = record {
  others = gs;
  fewer = omega arith;
  kept = λ x h. ⊎_elim (λ (k : x ≡ g). inl (k ∙ sym same)) (λ (k : Among x gs). inr k) h;
}
others_of (g ∷ gs) e (inr h) =
    let r = others_of gs e h in record {
      others = g ∷ r.others;
      fewer = let k = r.fewer in omega arith;
      kept = λ x l.
          ⊎_elim (λ (k : x ≡ g). inr (inl k))
          (λ (k : Among x gs). ⊎_elim (λ (a : x ≡ e). inl a) (λ (a : Among x r.others). inr (inr a)) (r.kept x k)) l;
    }
