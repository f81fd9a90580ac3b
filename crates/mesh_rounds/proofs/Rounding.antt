-- Lemmas over lists: what is kept from one round to the next.
use Rattle.std.proofs.Common.{◌≡◌, ◌⊎◌, inl, inr, ⊎_elim, ℕ, zero, suc, ◌+◌, ◌<◌, ◌≤◌, Bool, true, false, sym, ◌∙◌, ap, subst, refl, arith, List, [], ◌∷◌, ◌++◌, length, take, get_or}
use Rattle.std.specs.Prelude.{pos, ◌≤ℤ◌, ◌<ℤ◌}
use Rattle.std.specs.List.Sorted.{IsPermutation}
use Rattle.std.proofs.lemmas.Bool.{cases_Bool}
use Rattle.std.proofs.lemmas.Int.{ints}
use Rattle.std.proofs.lemmas.List.{get_or_default, take_more, take_all}
use Rattle.mesh_plane.specs.Plane.{Edge}
use Rattle.mesh_plane.specs.Winding.{sum_of}
use Rattle.mesh_plane.proofs.Sums.{sum_of_permutation}
use Rattle.mesh_plane.proofs.Whole.{linear}
use Rattle.mesh_lattice.specs.Split.{same_edge, AreClear, EdgeSplit}
use Rattle.mesh_lattice.specs.Counted.{Counted, bit}
use Rattle.mesh_lattice.proofs.Counts.{bit_least}
use Rattle.mesh_lattice.proofs.Ends.{decides_edge}
use Rattle.mesh_rounds.specs.declared.groups.Group.{Group}
use Rattle.mesh_rounds.specs.declared.groups.Search.{Search}
use Rattle.mesh_store.specs.Cells.{StandsIn}
use Rattle.mesh_rounds.specs.Private.Groups.{Pair, all_in, edges_in, noted_in, AreBounded, IsBounded, GoesOn, KeepsWaiting, Searches}
use Rattle.mesh_split.specs.Growth.{Grows, Waits}
use Rattle.mesh_rounds.specs.Private.Rounds.{AreClearBeside, AreListed, Keeps, keyed_edges}
use Rattle.mesh_store.specs.Steps.{IsPile, IsSettled}
use Rattle.mesh_store.proofs.Listing.{listed_more}
use Rattle.mesh_split.proofs.Settling.{clear_swapped}
use Rattle.mesh_split.proofs.Waiting.{listed_behind}

-- ---- what stands in lists

either_later : (z x : Edge) (xs ys : List Edge) → (StandsIn x (xs ++ ys) → StandsIn x xs ⊎ StandsIn x ys) → (k : ℕ) → k < length ((z ∷ xs) ++ ys)
    → ((d : Edge) → get_or ((z ∷ xs) ++ ys) k d ≡ x) → StandsIn x (z ∷ xs) ⊎ StandsIn x ys
either_later z x xs ys rest zero h s = inl (record { at = 0; within = omega arith; same = s })
either_later z x xs ys rest (suc k) h s =
    ⊎_elim
    (λ (m : StandsIn x xs). inl (record { at = suc m.at; within = omega (arith, m.within); same = λ d. m.same d }))
    (λ (m : StandsIn x ys). inr m)
    (rest (record { at = k; within = omega (arith, h); same = s }))

pub stands_either : (x : Edge) (xs ys : List Edge) → StandsIn x (xs ++ ys) → StandsIn x xs ⊎ StandsIn x ys
stands_either x [] ys l = inr l
stands_either x (z ∷ xs) ys l = either_later z x xs ys (stands_either x xs ys) l.at l.within l.same

pub keeps_both : (from left more : List Edge) → Keeps from left → Keeps (from ++ more) (left ++ more)
keeps_both from left more k x l =
    ⊎_elim (λ (m : StandsIn x from). listed_more x left more (k x m)) (λ (m : StandsIn x more). listed_behind x left more m) (stands_either x from more l)

pub keeps_already : (from left : List Edge) (y : Edge) → StandsIn y left → Keeps from left → Keeps (from ++ y ∷ []) left
keeps_already from left y here k x l =
    ⊎_elim (k x) (λ (m : StandsIn x (y ∷ [])). subst (λ (z : Edge). StandsIn z left) (only m.at m.within (m.same y)) here) (stands_either x from (y ∷ []) l)
  where
    only : (n : ℕ) → n < 1 → get_or (y ∷ []) n y ≡ x → y ≡ x
    only zero h s = s
    only (suc n) h s = absurd (omega (arith, h))

pub keeps_then : (a b c : List Edge) → Keeps a b → Keeps b c → Keeps a c
keeps_then a b c k m x l = m x (k x l)

pub stands_at : (e : Edge) (es : List Edge) (i : ℕ) (d₀ : Edge) → i < length es → same_edge (get_or es i d₀) e ≡ true → StandsIn e es
stands_at e es i d₀ h t = record { at = i; within = h; same = λ d. get_or_default es i d d₀ h ∙ (decides_edge (get_or es i d₀) e).0 t }

four_more : (es : List Edge) (a b c d : Edge) → (((es ++ a ∷ []) ++ b ∷ []) ++ c ∷ []) ++ d ∷ [] ≡ es ++ a ∷ b ∷ c ∷ d ∷ []
four_more [] a b c d = refl
four_more (e ∷ es) a b c d = ap (λ (fs : List Edge). e ∷ fs) (four_more es a b c d)

pub keeps_four : (es : List Edge) (a b c d : Edge) → Keeps (a ∷ b ∷ c ∷ d ∷ []) ((((es ++ a ∷ []) ++ b ∷ []) ++ c ∷ []) ++ d ∷ [])
keeps_four es a b c d x l = subst (λ (fs : List Edge). StandsIn x fs) (sym (four_more es a b c d)) (listed_behind x es (a ∷ b ∷ c ∷ d ∷ []) l)

pub keeps_before : (es : List Edge) (a b c d : Edge) → Keeps es ((((es ++ a ∷ []) ++ b ∷ []) ++ c ∷ []) ++ d ∷ [])
keeps_before es a b c d x l = subst (λ (fs : List Edge). StandsIn x fs) (sym (four_more es a b c d)) (listed_more x es (a ∷ b ∷ c ∷ d ∷ []) l)

pub keyed_append : (ks ms : List (ℕ × Edge)) → keyed_edges (ks ++ ms) ≡ keyed_edges ks ++ keyed_edges ms
keyed_append [] ms = refl
keyed_append (k ∷ ks) ms = ap (λ (es : List Edge). k.1 ∷ es) (keyed_append ks ms)

pub noted_append : (ks ms : List Pair) → noted_in (ks ++ ms) ≡ noted_in ks ++ noted_in ms
noted_append [] ms = refl
noted_append (k ∷ ks) ms = ap (λ (es : List Edge). k.0 ∷ k.1.0 ∷ es) (noted_append ks ms)

-- one more segment, with its number
pub keeps_placed : (edges : List Edge) (i : ℕ) (d : Edge) (items : List (ℕ × Edge)) (n : ℕ) → i < length edges → Keeps (take i edges) (keyed_edges items)
    → Keeps (take (i + 1) edges) (keyed_edges (items ++ (n, get_or edges i d) ∷ []))
keeps_placed edges i d items n h k =
    subst (λ (es : List Edge). Keeps es (keyed_edges (items ++ (n, get_or edges i d) ∷ []))) (sym (take_more edges i d h))
    (subst (λ (es : List Edge). Keeps (take i edges ++ get_or edges i d ∷ []) es) (sym (keyed_append items ((n, get_or edges i d) ∷ [])))
    (keeps_both (take i edges) (keyed_edges items) (get_or edges i d ∷ []) k))

-- one more, without its number
pub keeps_alone : (placed : List (ℕ × Edge)) (i : ℕ) (d : ℕ × Edge) (items : List Edge) → i < length placed → Keeps (keyed_edges (take i placed)) items
    → Keeps (keyed_edges (take (i + 1) placed)) (items ++ (get_or placed i d).1 ∷ [])
keeps_alone placed i d items h k =
    subst (λ (ks : List (ℕ × Edge)). Keeps (keyed_edges ks) (items ++ (get_or placed i d).1 ∷ [])) (sym (take_more placed i d h))
    (subst (λ (es : List Edge). Keeps es (items ++ (get_or placed i d).1 ∷ [])) (sym (keyed_append (take i placed) (get_or placed i d ∷ [])))
    (keeps_both (keyed_edges (take i placed)) items ((get_or placed i d).1 ∷ []) k))

-- one more, which stands there already
pub keeps_left_out : (placed : List (ℕ × Edge)) (i : ℕ) (d : ℕ × Edge) (items : List Edge) → i < length placed → StandsIn (get_or placed i d).1 items → Keeps (keyed_edges (take i placed)) items
    → Keeps (keyed_edges (take (i + 1) placed)) items
keeps_left_out placed i d items h here k =
    subst (λ (ks : List (ℕ × Edge)). Keeps (keyed_edges ks) items) (sym (take_more placed i d h))
    (subst (λ (es : List Edge). Keeps es items) (sym (keyed_append (take i placed) (get_or placed i d ∷ [])))
    (keeps_already (keyed_edges (take i placed)) items (get_or placed i d).1 here k))

pub keeps_wider : (from left : List Edge) (y : Edge) → Keeps from left → Keeps from (left ++ y ∷ [])
keeps_wider from left y k x l = listed_more x left (y ∷ []) (k x l)

pub keeps_more : (edges : List Edge) (i : ℕ) (d : Edge) (items : List Edge) → i < length edges → Keeps (take i edges) items → Keeps (take (i + 1) edges) (items ++ get_or edges i d ∷ [])
keeps_more edges i d items h k =
    subst (λ (es : List Edge). Keeps es (items ++ get_or edges i d ∷ [])) (sym (take_more edges i d h)) (keeps_both (take i edges) items (get_or edges i d ∷ []) k)

-- both of one more pair
pub keeps_noted : (pairs : List Pair) (i : ℕ) (d : Pair) (items : List Edge) → i < length pairs → Keeps (noted_in (take i pairs)) items
    → Keeps (noted_in (take (i + 1) pairs)) ((items ++ (get_or pairs i d).0 ∷ []) ++ (get_or pairs i d).1.0 ∷ [])
keeps_noted pairs i d items h k =
    let p = get_or pairs i d in
    subst (λ (ks : List Pair). Keeps (noted_in ks) ((items ++ p.0 ∷ []) ++ p.1.0 ∷ [])) (sym (take_more pairs i d h))
    (subst (λ (es : List Edge). Keeps es ((items ++ p.0 ∷ []) ++ p.1.0 ∷ [])) (sym (noted_append (take i pairs) (p ∷ [])))
    (subst (λ (es : List Edge). Keeps (noted_in (take i pairs) ++ p.0 ∷ p.1.0 ∷ []) es) (sym (appended items p.0 p.1.0))
    (keeps_both (noted_in (take i pairs)) items (p.0 ∷ p.1.0 ∷ []) k)))
  where
    appended : (es : List Edge) (a b : Edge) → (es ++ a ∷ []) ++ b ∷ [] ≡ es ++ a ∷ b ∷ []
    appended [] a b = refl
    appended (e ∷ es) a b = ap (λ (fs : List Edge). e ∷ fs) (appended es a b)

pub keeps_taken : {A : Type 0} (f : List A → List Edge) (xs : List A) (n : ℕ) (left : List Edge) → length xs ≤ n → Keeps (f (take n xs)) left → Keeps (f xs) left
keeps_taken f xs n left h k = subst (λ (ys : List _). Keeps (f ys) left) (take_all n xs h) k

-- ---- an order of a list has what the list has

least_placed : (q : Edge) (ks : List (ℕ × Edge)) → pos 0 ≤ℤ sum_of (λ (k : ℕ × Edge). bit (same_edge q k.1)) ks
least_placed q [] = omega (arith, ints)
least_placed q (k ∷ ks) = omega (arith, linear, least_placed q ks, bit_least (same_edge q k.1))

counted_placed : (q : Edge) (ks : List (ℕ × Edge)) (n : ℕ) → n < length (keyed_edges ks) → ((d : Edge) → get_or (keyed_edges ks) n d ≡ q) → pos 0 <ℤ sum_of (λ (k : ℕ × Edge). bit (same_edge q k.1)) ks
counted_placed q [] n h s = absurd (omega (arith, h))
counted_placed q (k ∷ ks) zero h s = omega (arith, linear, ap bit ((decides_edge q k.1).1 (sym (s q))), least_placed q ks)
counted_placed q (k ∷ ks) (suc n) h s = omega (arith, linear, counted_placed q ks n (omega (arith, h)) s, bit_least (same_edge q k.1))

stands_placed : (q : Edge) (ks : List (ℕ × Edge)) → pos 0 <ℤ sum_of (λ (k : ℕ × Edge). bit (same_edge q k.1)) ks → StandsIn q (keyed_edges ks)
stands_placed q [] h = absurd (omega (arith, ints, h))
stands_placed q (k ∷ ks) h =
    ⊎_elim
    (λ (t : same_edge q k.1 ≡ true). record { at = 0; within = omega arith; same = λ d. sym ((decides_edge q k.1).0 t) })
    (λ (f : same_edge q k.1 ≡ false).
    let l = stands_placed q ks (omega (arith, linear, ap bit f, h)) in
    record { at = suc l.at; within = omega (arith, l.within); same = λ d. l.same d })
    (cases_Bool (same_edge q k.1))

pub keeps_ordered : (ks ms : List (ℕ × Edge)) → IsPermutation ks ms → Keeps (keyed_edges ks) (keyed_edges ms)
keeps_ordered ks ms p x l =
    stands_placed x ms (omega (arith, linear, counted_placed x ks l.at l.within l.same, sum_of_permutation (λ (k : ℕ × Edge). bit (same_edge x k.1)) ks ms p))

-- ---- the search in groups

pub goes_then : (a b c : Search) → GoesOn a b → GoesOn b c → GoesOn a c
goes_then a b c g h = record { kept = λ x l. h.kept x (g.kept x l); over = λ f. g.over (h.over f) }

pub searches_beside : (xs ys zs : List Edge) (a b c : Search) → Searches xs ys a b → Searches xs zs b c → Searches xs (ys ++ zs) a c
searches_beside xs ys zs a b c first second = record {
  goes = goes_then a b c first.goes second.goes;
  found = λ f x y l m.
      ⊎_elim
      (λ (n : StandsIn y ys).
      ⊎_elim
      (λ (o : AreClear x y). inl o)
      (λ (o : StandsIn x (noted_in b.pairs.items) × StandsIn y (noted_in b.pairs.items)). inr (second.goes.kept x o.0, second.goes.kept y o.1))
      (first.found (second.goes.over f) x y l n))
      (λ (n : StandsIn y zs). second.found f x y l n)
      (stands_either y ys zs m);
}

-- ---- groups

pub bounded_more : (gs : List Group) (g : Group) → AreBounded gs → IsBounded g → AreBounded (gs ++ g ∷ [])
bounded_more [] g h b = (b, tt)
bounded_more (f ∷ gs) g h b = (h.0, bounded_more gs g h.1 b)

all_append : (gs hs : List Group) → all_in (gs ++ hs) ≡ all_in gs ++ all_in hs
all_append [] hs = refl
all_append (g ∷ gs) hs = ap (λ (es : List Edge). edges_in g ++ es) (all_append gs hs) ∙ sym (assoc (edges_in g) (all_in gs) (all_in hs))
  where
    assoc : (xs ys zs : List Edge) → (xs ++ ys) ++ zs ≡ xs ++ (ys ++ zs)
    assoc [] ys zs = refl
    assoc (x ∷ xs) ys zs = ap (λ (es : List Edge). x ∷ es) (assoc xs ys zs)

stands_before : (x : Edge) (gs : List Group) (g : Group) → StandsIn x (all_in gs) → StandsIn x (all_in (gs ++ g ∷ []))
stands_before x gs g l = subst (λ (es : List Edge). StandsIn x es) (sym (all_append gs (g ∷ []))) (listed_more x (all_in gs) (all_in (g ∷ [])) l)

stands_last : (x : Edge) (gs : List Group) (g : Group) → StandsIn x (edges_in g) → StandsIn x (all_in (gs ++ g ∷ []))
stands_last x gs g l =
    subst (λ (es : List Edge). StandsIn x es) (sym (all_append gs (g ∷ []))) (listed_behind x (all_in gs) (all_in (g ∷ [])) (listed_more x (edges_in g) [] l))

pub bounded_before : (gs : List Group) (g : Group) → AreBounded (gs ++ g ∷ []) → AreBounded gs
bounded_before [] g b = tt
bounded_before (f ∷ gs) g b = (b.0, bounded_before gs g b.1)

pub bounded_last : (gs : List Group) (g : Group) → AreBounded (gs ++ g ∷ []) → IsBounded g
bounded_last [] g b = b.0
bounded_last (f ∷ gs) g b = bounded_last gs g b.1

-- of one more group those that wait are kept
pub pruned_both : (todo : List Counted) (gs kept : List Group) (old new : Group) → KeepsWaiting todo (all_in gs) (all_in kept) → KeepsWaiting todo (edges_in old) (edges_in new)
    → KeepsWaiting todo (all_in (gs ++ old ∷ [])) (all_in (kept ++ new ∷ []))
pruned_both todo gs kept old new before here x l w =
    ⊎_elim
    (λ (m : StandsIn x (all_in gs)). stands_before x kept new (before x m w))
    (λ (m : StandsIn x (edges_in old ++ [])).
    stands_last x kept new (here x (⊎_elim (λ (n : StandsIn x (edges_in old)). n) (λ (n : StandsIn x []). absurd (omega (arith, n.within))) (stands_either x (edges_in old) [] m)) w))
    (stands_either x (all_in gs) (edges_in old ++ []) (subst (λ (es : List Edge). StandsIn x es) (all_append gs (old ∷ [])) l))

pub pruned_more : (todo : List Counted) (gs : List Group) (i : ℕ) (d : Group) (kept : List Group) (g : Group) → i < length gs → KeepsWaiting todo (all_in (take i gs)) (all_in kept)
    → KeepsWaiting todo (edges_in (get_or gs i d)) (edges_in g) → KeepsWaiting todo (all_in (take (i + 1) gs)) (all_in (kept ++ g ∷ []))
pruned_more todo gs i d kept g h before here =
    subst (λ (hs : List Group). KeepsWaiting todo (all_in hs) (all_in (kept ++ g ∷ []))) (sym (take_more gs i d h)) (pruned_both todo (take i gs) kept (get_or gs i d) g before here)

pub pruned_listed : (todo : List Counted) (fresh : List Edge) (gs hs : List Group) → ((x : Edge) → StandsIn x (all_in gs) → Waits x todo → StandsIn x (all_in hs)) → AreListed todo fresh (all_in gs)
    → AreListed todo fresh (all_in hs)
pruned_listed todo fresh gs hs kept listed x w = ⊎_elim (λ (l : StandsIn x fresh). inl l) (λ (l : StandsIn x (all_in gs)). inr (kept x l w)) (listed x w)

-- ---- the next round

-- two waiting segments are clear of each other, or the first stands in a pair
pub found_clear : (todo : List Counted) (old held : List Edge) (gs : List Group) (a b c : Search) → AreListed todo old (all_in gs) → AreClearBeside todo old → Keeps old held
    → Searches held held a b → Searches held (all_in gs) b c → c.is_over ≡ false → AreClearBeside todo (noted_in c.pairs.items)
found_clear todo old held gs a b c listed clear keeps within beside f x y w v =
    ⊎_elim
    (λ (o : AreClear x y). inl o)
    (⊎_elim
    (λ (l : StandsIn x old). ⊎_elim (λ (o : AreClear x y). inl o) (λ (o : StandsIn x (noted_in c.pairs.items) × StandsIn y (noted_in c.pairs.items)). inr (inl o.0)) (found x y l v))
    (λ (l : StandsIn y old). ⊎_elim (λ (o : AreClear y x). inl (clear_swapped y x o)) (λ (o : StandsIn y (noted_in c.pairs.items) × StandsIn x (noted_in c.pairs.items)). inr (inl o.1)) (found y x l w)))
    (clear x y w v)
  where
    both : Searches held (held ++ all_in gs) a c
    both = searches_beside held held (all_in gs) a b c within beside

    found : (p q : Edge) → StandsIn p old → Waits q todo → AreClear p q ⊎ (StandsIn p (noted_in c.pairs.items) × StandsIn q (noted_in c.pairs.items))
    found p q l u =
        both.found f p q (keeps p l)
        (⊎_elim
        (λ (m : StandsIn q old). listed_more q held (all_in gs) (keeps q m))
        (λ (m : StandsIn q (all_in gs)). listed_behind q held (all_in gs) m)
        (listed q u))

pub next_clear : (old todo : List Counted) (noted born fresh : List Edge) → AreClearBeside old noted → Grows old todo born → ((x : Edge) → Waits x todo → StandsIn x born → StandsIn x fresh)
    → ((x : Edge) → Waits x todo → StandsIn x noted → StandsIn x fresh) → AreClearBeside todo fresh
next_clear old todo noted born fresh clear grows keeps also x y w v =
    ⊎_elim
    (λ (p : Waits x old).
    ⊎_elim
    (λ (q : Waits y old).
    ⊎_elim
    (λ (o : AreClear x y). inl o)
    (⊎_elim (λ (l : StandsIn x noted). inr (inl (also x w l))) (λ (l : StandsIn y noted). inr (inr (also y v l))))
    (clear x y p q))
    (λ (q : StandsIn y born). inr (inr (keeps y v q)))
    (grows y v))
    (λ (p : StandsIn x born). inr (inl (keeps x w p)))
    (grows x w)

pub next_listed : (old todo : List Counted) (before held born fresh : List Edge) (gs : List Group) (g : Group) → AreListed old before (all_in gs) → Keeps before held
    → ((x : Edge) → StandsIn x held → Waits x todo → StandsIn x (edges_in g)) → Grows old todo born → ((x : Edge) → Waits x todo → StandsIn x born → StandsIn x fresh)
    → AreListed todo fresh (all_in (gs ++ g ∷ []))
next_listed old todo before held born fresh gs g listed keeps left grows also x w =
    ⊎_elim
    (λ (p : Waits x old).
    ⊎_elim
    (λ (l : StandsIn x before). inr (stands_last x gs g (left x (keeps x l) w)))
    (λ (l : StandsIn x (all_in gs)). inr (stands_before x gs g l))
    (listed x p))
    (λ (p : StandsIn x born). inl (also x w p))
    (grows x w)

-- ---- the end

pub nothing_fresh : (es : List Edge) → length es ≡ 0 → es ≡ []
nothing_fresh [] h = refl
nothing_fresh (e ∷ es) h = absurd (omega (arith, h))

pub rounds_settled : (given : List Edge) (splits : List EdgeSplit) (todo live : List Counted) (fresh : List Edge) → live ≡ [] → fresh ≡ [] → IsPile given splits todo live → AreClearBeside todo fresh
    → IsSettled given splits todo
rounds_settled given splits todo live fresh none end pile clear = record {
  pile = turned (subst (λ (ks : List Counted). IsPile given splits todo ks) none pile);
  clear = λ x w y v.
      ⊎_elim
      (λ (o : AreClear x y). o)
      (⊎_elim (λ (l : StandsIn x fresh). absurd (nothing x l)) (λ (l : StandsIn y fresh). absurd (nothing y l)))
      (clear x y w v);
}
  where
    nothing : (x : Edge) → StandsIn x fresh → ⊥
    nothing x l = omega (arith, (subst (λ (es : List Edge). StandsIn x es) end l).within)

    turned : IsPile given splits todo [] → IsPile given splits [] todo
    turned q =
        let r = q.reached in
        record {
          reached = record { legal = r.legal; count = record { counts = λ e. omega (arith, linear, r.count.counts e); once = λ e. omega (arith, linear, r.count.once e) } };
          light = omega (arith, linear, q.light);
        }

-- what waits after one more split, where pieces are listed
pub grows_on : (lists : Bool) (first old new : List Counted) (es fs : List Edge) → (lists ≡ true → Grows first old es) → (lists ≡ true → Grows old new fs) → Keeps es fs
    → lists ≡ true → Grows first new fs
grows_on lists first old new es fs g h keeps t x w = ⊎_elim (λ v. ⊎_elim (λ u. inl u) (λ l. inr (keeps x l)) (g t x v)) (λ l. inr l) (h t x w)
