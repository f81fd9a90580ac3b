-- Lemmas over lists: segments in groups, and pairs of them that were found to meet.
use Rattle.std.proofs.Common.{◌≡◌, ◌⊎◌, inl, inr, ⊎_elim, Bool, true, false, ◌||◌, ℕ, zero, suc, ◌+◌, ◌<◌, sym, ◌∙◌, ap, subst, refl, arith, List, [], ◌∷◌, ◌++◌, length, get_or, take, Result, Ok, Err, OnOk, IfOk}
use Rattle.std.specs.Prelude.{ℤ, pos, ◌≤ℤ◌, ◌<ℤ◌}
use Rattle.std.proofs.lemmas.Bool.{true≢false}
use Rattle.std.proofs.lemmas.Int.{ints}
use Rattle.std.proofs.lemmas.List.{take_more}
use Rattle.mesh_plane.specs.Plane.{Edge}
use Rattle.mesh_lattice.specs.Split.{AreClear}
use Rattle.mesh_rounds.specs.declared.groups.Search.{Search}
use Rattle.mesh_store.specs.BoundingBoxes.{are_beyond, is_beside, AreBounds}
use Rattle.mesh_store.specs.Cells.{KeepsThose, StandsIn}
use Rattle.mesh_rounds.specs.Private.Groups.{Pair, noted_in, AreWithin, AreFound, GoesOn, Searches}
use Rattle.mesh_store.proofs.Apart.{apart_clear}
use Rattle.mesh_store.proofs.Lists.{stands_first, stands_later, stands_after, either_part, both_parts, only_one}
use Rattle.mesh_store.proofs.Listing.{listed_more}
use Rattle.mesh_split.proofs.Settling.{clear_swapped, clear_self}

-- ---- boxes

pub wider_bounds : (a b e : Edge) → b.0.0 ≤ℤ a.0.0 → b.0.1 ≤ℤ a.0.1 → a.1.0 ≤ℤ b.1.0 → a.1.1 ≤ℤ b.1.1 → AreBounds a e → AreBounds b e
wider_bounds a b e west south east north h = record {
  west_of_start = omega (arith, ints, west, h.west_of_start);
  west_of_end = omega (arith, ints, west, h.west_of_end);
  south_of_start = omega (arith, ints, south, h.south_of_start);
  south_of_end = omega (arith, ints, south, h.south_of_end);
  east_of_start = omega (arith, ints, east, h.east_of_start);
  east_of_end = omega (arith, ints, east, h.east_of_end);
  north_of_start = omega (arith, ints, north, h.north_of_start);
  north_of_end = omega (arith, ints, north, h.north_of_end);
}

-- bounds that hold what others hold, and one segment more
pub within_more : (old new : Edge) (es : List Edge) (i : ℕ) (d : Edge) → i < length es → ((e : Edge) → AreBounds old e → AreBounds new e) → AreBounds new (get_or es i d)
    → AreWithin old (take i es) → AreWithin new (take (i + 1) es)
within_more old new es i d h wider here before =
    subst (λ (xs : List Edge). AreWithin new xs) (sym (take_more es i d h))
    (both_parts (AreBounds new) (take i es) (get_or es i d ∷ []) (λ x l. wider x (before x l)) (only_one (AreBounds new) (get_or es i d) here))

beyond_within : (l m a b p q : ℤ) → a ≤ℤ p → p ≤ℤ b → a ≤ℤ q → q ≤ℤ b → are_beyond l m a b ≡ true → are_beyond l m p q ≡ true
beyond_within l m a b p q h k i j t = grind (arith, ints)

-- a segment within bounds that lie beside a box lies beside it itself
beside_within : (box bounds e : Edge) → AreBounds bounds e → is_beside box bounds ≡ true → is_beside box e ≡ true
beside_within box bounds e h t =
    either _ _ _ _
    (beyond_within box.0.0 box.1.0 bounds.0.0 bounds.1.0 e.0.0 e.1.0 h.west_of_start h.east_of_start h.west_of_end h.east_of_end)
    (beyond_within box.0.1 box.1.1 bounds.0.1 bounds.1.1 e.0.1 e.1.1 h.south_of_start h.north_of_start h.south_of_end h.north_of_end)
    t
  where
    either : (p q r s : Bool) → (p ≡ true → r ≡ true) → (q ≡ true → s ≡ true) → (p || q) ≡ true → (r || s) ≡ true
    either true q r s f g t = ap (λ (b : Bool). b || s) (f refl)
    either false q true s f g t = refl
    either false q false s f g t = g t

-- segments within bounds that lie beside each other are clear of each other
beside_clear : (a b x y : Edge) → AreBounds a x → AreBounds b y → is_beside a b ≡ true → AreClear x y
beside_clear a b x y h k t = apart_clear a x y h (beside_within a b y k t)

-- ---- pairs

noted_append : (ps qs : List Pair) → noted_in (ps ++ qs) ≡ noted_in ps ++ noted_in qs
noted_append [] qs = refl
noted_append (k ∷ ks) qs = ap (λ (es : List Edge). k.0 ∷ k.1.0 ∷ es) (noted_append ks qs)

pub noted_kept : (x : Edge) (ps qs : List Pair) → StandsIn x (noted_in ps) → StandsIn x (noted_in (ps ++ qs))
noted_kept x ps qs l = subst (λ (es : List Edge). StandsIn x es) (sym (noted_append ps qs)) (listed_more x (noted_in ps) (noted_in qs) l)

pub noted_first : (ps : List Pair) (k : Pair) → StandsIn k.0 (noted_in (ps ++ k ∷ []))
noted_first ps k =
    subst (λ (es : List Edge). StandsIn k.0 es) (sym (noted_append ps (k ∷ []))) (stands_after k.0 (noted_in ps) (k.0 ∷ k.1.0 ∷ []) (stands_first k.0 (k.1.0 ∷ [])))

pub noted_second : (ps : List Pair) (k : Pair) → StandsIn k.1.0 (noted_in (ps ++ k ∷ []))
noted_second ps k =
    subst (λ (es : List Edge). StandsIn k.1.0 es) (sym (noted_append ps (k ∷ [])))
    (stands_after k.1.0 (noted_in ps) (k.0 ∷ k.1.0 ∷ []) (stands_later k.1.0 k.0 (k.1.0 ∷ []) (stands_first k.1.0 [])))

-- ---- searches that go on

pub goes_nowhere : (s : Search) → GoesOn s s
goes_nowhere s = record { kept = λ x l. l; over = λ e. e }

pub goes_further : (a b c : Search) → GoesOn a b → GoesOn b c → GoesOn a c
goes_further a b c g h = record { kept = λ x l. h.kept x (g.kept x l); over = λ e. g.over (h.over e) }

-- what was found before is found after
pub found_still : (xs ys : List Edge) (a b : Search) → GoesOn a b → AreFound xs ys a.pairs.items → AreFound xs ys b.pairs.items
found_still xs ys a b g f x y l m =
    ⊎_elim (λ (clear : AreClear x y). inl clear) (λ (both : StandsIn x (noted_in a.pairs.items) × StandsIn y (noted_in a.pairs.items)). inr (g.kept x both.0, g.kept y both.1)) (f x y l m)

pub found_swapped : (xs ys : List Edge) (ps : List Pair) → AreFound xs ys ps → AreFound ys xs ps
found_swapped xs ys ps f y x m l =
    ⊎_elim (λ (clear : AreClear x y). inl (clear_swapped x y clear)) (λ (both : StandsIn x (noted_in ps) × StandsIn y (noted_in ps)). inr (both.1, both.0)) (f x y l m)

pub found_first : (xs xs' ys : List Edge) (ps : List Pair) → AreFound xs ys ps → AreFound xs' ys ps → AreFound (xs ++ xs') ys ps
found_first xs xs' ys ps f g x y l m = ⊎_elim (λ (a : StandsIn x xs). f x y a m) (λ (b : StandsIn x xs'). g x y b m) (either_part x xs xs' l)

pub found_second : (xs ys ys' : List Edge) (ps : List Pair) → AreFound xs ys ps → AreFound xs ys' ps → AreFound xs (ys ++ ys') ps
found_second xs ys ys' ps f g x y l m = ⊎_elim (λ (a : StandsIn y ys). f x y l a) (λ (b : StandsIn y ys'). g x y l b) (either_part y ys ys' m)

-- those within each of two lists and between them are those within both together
pub found_both : (xs ys : List Edge) (ps : List Pair) → AreFound xs xs ps → AreFound ys ys ps → AreFound xs ys ps → AreFound (xs ++ ys) (xs ++ ys) ps
found_both xs ys ps f g between =
    found_first xs ys (xs ++ ys) ps (found_second xs xs ys ps f between) (found_second ys xs ys ps (found_swapped xs ys ps between) g)

found_itself : (x : Edge) (ps : List Pair) → AreFound (x ∷ []) (x ∷ []) ps
found_itself x ps a b l m = inl (only_one (λ (p : Edge). AreClear p b) x (only_one (λ (p : Edge). AreClear x p) x (clear_self x) b m) a l)

pub searches_over : (xs ys : List Edge) (old new : Search) → GoesOn old new → new.is_over ≡ true → Searches xs ys old new
searches_over xs ys old new g t = record { goes = g; found = λ e. absurd (true≢false (sym t ∙ e)) }

pub searches_clear : (xs ys : List Edge) (old new : Search) → GoesOn old new → ((x y : Edge) → StandsIn x xs → StandsIn y ys → AreClear x y) → Searches xs ys old new
searches_clear xs ys old new g clear = record { goes = g; found = λ e x y l m. inl (clear x y l m) }

-- one more step before
pub searches_after : (xs ys : List Edge) (a b c : Search) → GoesOn a b → Searches xs ys b c → Searches xs ys a c
searches_after xs ys a b c g s = record { goes = goes_further a b c g s.goes; found = s.found }

pub searches_first : (xs xs' ys : List Edge) (a b c : Search) → Searches xs ys a b → Searches xs' ys b c → Searches (xs ++ xs') ys a c
searches_first xs xs' ys a b c s t = record {
  goes = goes_further a b c s.goes t.goes;
  found = λ e. found_first xs xs' ys c.pairs.items (found_still xs ys b c t.goes (s.found (t.goes.over e))) (t.found e);
}

pub searches_second : (xs ys ys' : List Edge) (a b c : Search) → Searches xs ys a b → Searches xs ys' b c → Searches xs (ys ++ ys') a c
searches_second xs ys ys' a b c s t = record {
  goes = goes_further a b c s.goes t.goes;
  found = λ e. found_second xs ys ys' c.pairs.items (found_still xs ys b c t.goes (s.found (t.goes.over e))) (t.found e);
}

-- those within two halves, and then those between them
pub searches_halves : (xs ys : List Edge) (a b c d : Search) → Searches xs xs a b → Searches ys ys b c → Searches xs ys c d → Searches (xs ++ ys) (xs ++ ys) a d
searches_halves xs ys a b c d s t u = record {
  goes = goes_further a c d (goes_further a b c s.goes t.goes) u.goes;
  found = λ e.
      found_both xs ys d.pairs.items
      (found_still xs xs c d u.goes (found_still xs xs b c t.goes (s.found (t.goes.over (u.goes.over e)))))
      (found_still ys ys c d u.goes (t.found (u.goes.over e)))
      (u.found e);
}

-- those of each half of the first list and each half of the second
pub searches_quarters : (xs xs' ys ys' : List Edge) (a b c d e : Search) → Searches xs ys a b → Searches xs ys' b c → Searches xs' ys c d → Searches xs' ys' d e
    → Searches (xs ++ xs') (ys ++ ys') a e
searches_quarters xs xs' ys ys' a b c d e s t u v =
    searches_first xs xs' (ys ++ ys') a c e (searches_second xs ys ys' a b c s t) (searches_second xs' ys ys' c d e u v)

-- those of one segment and others, and then those of the others
pub searches_others : (x : Edge) (ys : List Edge) (a b c : Search) → Searches (x ∷ []) ys a b → Searches ys ys b c → Searches (x ∷ ys) (x ∷ ys) a c
searches_others x ys a b c s t = record {
  goes = goes_further a b c s.goes t.goes;
  found = λ e. found_both (x ∷ []) ys c.pairs.items (found_itself x c.pairs.items) (t.found e) (found_still (x ∷ []) ys b c t.goes (s.found (t.goes.over e)));
}

-- ---- searches of lists, one segment after another

pub one_of_first : (xs ys : List Edge) (i : ℕ) (d : Edge) (a b c : Search) → i < length xs → Searches (take i xs) ys a b → Searches (get_or xs i d ∷ []) ys b c → Searches (take (i + 1) xs) ys a c
one_of_first xs ys i d a b c h s t =
    subst (λ (zs : List Edge). Searches zs ys a c) (sym (take_more xs i d h)) (searches_first (take i xs) (get_or xs i d ∷ []) ys a b c s t)

pub one_of_second : (xs ys : List Edge) (i : ℕ) (d : Edge) (a b c : Search) → i < length ys → Searches xs (take i ys) a b → Searches xs (get_or ys i d ∷ []) b c → Searches xs (take (i + 1) ys) a c
one_of_second xs ys i d a b c h s t =
    subst (λ (zs : List Edge). Searches xs zs a c) (sym (take_more ys i d h)) (searches_second xs (take i ys) (get_or ys i d ∷ []) a b c s t)

-- two segments that are clear of each other
pub one_clear : (x y : Edge) (old new : Search) → GoesOn old new → AreClear x y → Searches (x ∷ []) (y ∷ []) old new
one_clear x y old new g clear =
    searches_clear (x ∷ []) (y ∷ []) old new g (λ a b l m. only_one (λ (p : Edge). AreClear p b) x (only_one (λ (p : Edge). AreClear x p) y clear b m) a l)

-- two segments that were noted
pub one_noted : (x y : Edge) (old new : Search) → GoesOn old new → StandsIn x (noted_in new.pairs.items) → StandsIn y (noted_in new.pairs.items) → Searches (x ∷ []) (y ∷ []) old new
one_noted x y old new g first second = record {
  goes = g;
  found = λ e a b l m.
      let listed : Edge → Type 0 = λ (p : Edge). StandsIn p (noted_in new.pairs.items) in
      inr (only_one listed x first a l, only_one listed y second b m);
}

-- a segment that lies beside bounds of others is clear of them
pub one_beside : (x : Edge) (ys : List Edge) (bounds : Edge) (s : Search) → AreWithin bounds ys → is_beside bounds x ≡ true → Searches (x ∷ []) ys s s
one_beside x ys bounds s within t =
    searches_clear (x ∷ []) ys s s (goes_nowhere s)
    (λ a b l m. only_one (λ (p : Edge). AreClear p b) x (clear_swapped b x (apart_clear bounds b x (within b m) t)) a l)

-- segments within bounds that lie beside each other
pub all_beside : (xs ys : List Edge) (a b : Edge) (old new : Search) → GoesOn old new → AreWithin a xs → AreWithin b ys → is_beside a b ≡ true → Searches xs ys old new
all_beside xs ys a b old new g h k t = searches_clear xs ys old new g (λ x y l m. beside_clear a b x y (h x l) (k y m) t)

-- of the second list those may be left out that lie beside bounds of the first
pub searches_near : (xs ys near : List Edge) (bounds : Edge) (a b c d : Search) → AreWithin bounds xs → KeepsThose (λ (y : Edge). is_beside bounds y ≡ false) ys near
    → GoesOn a b → Searches xs near b c → GoesOn c d → Searches xs ys a d
searches_near xs ys near bounds a b c d within keeps g s h = record {
  goes = goes_further a b d g (goes_further b c d s.goes h);
  found = λ over x y l m. by x y l m (is_beside bounds y) refl over;
}
  where
    by : (x y : Edge) → StandsIn x xs → StandsIn y ys → (e : Bool) → is_beside bounds y ≡ e → d.is_over ≡ false
        → AreClear x y ⊎ (StandsIn x (noted_in d.pairs.items) × StandsIn y (noted_in d.pairs.items))
    by x y l m true e over = inl (apart_clear bounds x y (within x l) e)
    by x y l m false e over = ⊎_elim (λ k. inl k) (λ k. inr (h.kept x k.0, h.kept y k.1)) (s.found (h.over over) x y l (keeps y e m))
