-- Lemmas over lists: the points of each ring move to one shape.
use Rattle.std.proofs.Common.{zero, suc, ◌≡◌, ◌≢◌, ℕ, ◌+◌, ◌<◌, ◌≤◌, Bool, true, false, cond, not, ◌&&◌, List, [], ◌∷◌, ◌++◌, map, length, take, drop, get_or, refl, sym, ◌∙◌, ap, subst, arith}
use Rattle.std.specs.Prelude.{pos, nat_eq, Vec}
use Rattle.std.specs.declared.alloc.Global.{Global}
use Rattle.std.specs.List.{All, AllPairs, filter, enumerate_from}
use Rattle.std.proofs.Math.ListN.{set}
use Rattle.std.proofs.lemmas.Bool.{both_ways, eqb-true, eq-eqb}
use Rattle.std.proofs.lemmas.List.{append-nil, map-append, map-set, length-map, length-take, take_more, get_or-set_other, get_or-take, get_or_default}
use Rattle.std.proofs.lemmas.List.Elements.{All-nil, All-head, All-tail, All-push}
use Rattle.std.proofs.lemmas.List.Quantifiers.{all_pairs_push}
use Rattle.mesh_plane.specs.Plane.{Point}
use Rattle.mesh_plane.proofs.ClosedLists.{all_left, all_right}
use Rattle.mesh_shapes.specs.Resolution.{Ring, Placed, is_head, shape_of, answered}
use Rattle.mesh_shapes.specs.Vectors.{RingVec, ring_of_vec, rings_of_vecs}
use Rattle.mesh_shapes.specs.Homes.{ring_at, placed, IsHome}
use Rattle.mesh_shapes.specs.Private.Grouping.{contour_at, contours_at, shape_at, headed, AreMembers, HaveMembers, Stays, OtherRingsStay, AreApart, HaveApart, homed}
use Rattle.mesh_shapes.proofs.Groups.{head_test}
use Rattle.mesh_shapes.proofs.Shapes.{filter_step, place_next, ShapesTo}

-- ---- the places of the rings that stand with another

-- those below `i` all differ from one another and from `h`, and `h` is the home of each
pub record AreApartTo (homes : List ℕ) (i h : ℕ) (places : List ℕ) : Type 0 where
  pub below : All (λ (j : ℕ). j < i) places
  pub apart : AreApart homes h places

pub apart_none : (homes : List ℕ) (h : ℕ) (places : List ℕ) → places ≡ [] → AreApartTo homes 0 h places
apart_none homes h places e = subst (λ (l : List ℕ). AreApartTo homes 0 h l) (sym e) (record {
  below = All-nil (λ (j : ℕ). j < 0);
  apart = record { differ = λ i j d less low. absurd (omega arith); homes_are = All-nil (λ (j : ℕ). get_or homes j 0 ≡ h) };
})

pub apart_more : (homes : List ℕ) (i h : ℕ) (old new : List ℕ) → AreApartTo homes i h old → new ≡ old ++ cond (nat_eq (get_or homes i 0) h && not (nat_eq i h)) (i ∷ []) [] → AreApartTo homes (i + 1) h new
apart_more homes i h old new before e = subst (λ (l : List ℕ). AreApartTo homes (i + 1) h l) (sym e) (by (nat_eq (get_or homes i 0) h) refl (nat_eq i h) refl)
  where
    still : All (λ (j : ℕ). j < i + 1) old
    still k d low = let b = before.below k d low in omega arith

    same : AreApartTo homes (i + 1) h (old ++ [])
    same = subst (λ (l : List ℕ). AreApartTo homes (i + 1) h l) (sym (append-nil old)) (record { below = still; apart = before.apart })

    pushed : get_or homes i 0 ≡ h → (i ≡ h → ⊥) → AreApartTo homes (i + 1) h (old ++ i ∷ [])
    pushed home differ = record {
      below = All-push (λ (j : ℕ). j < i + 1) old i still (omega arith);
      apart = record {
        differ = all_pairs_push (λ (a b : ℕ). a ≢ b) (h ∷ old) i before.apart.differ new_differs;
        homes_are = All-push (λ (j : ℕ). get_or homes j 0 ≡ h) old i before.apart.homes_are home;
      };
    }
      where
        new_differs : (k d : ℕ) → k < length (h ∷ old) → get_or (h ∷ old) k d ≢ i
        new_differs zero d low s = differ (sym s)
        new_differs (suc k) d low s = let b = before.below k d (omega arith) in absurd (omega arith)

    by : (s : Bool) → nat_eq (get_or homes i 0) h ≡ s → (t : Bool) → nat_eq i h ≡ t → AreApartTo homes (i + 1) h (old ++ cond (s && not t) (i ∷ []) [])
    by true p false q = pushed (eqb-true (get_or homes i 0) h p) (λ (s : i ≡ h). both_ways (nat_eq i h) q (eq-eqb i h s))
    by true p true q = same
    by false p t q = same

-- the place of a member is none of those before it
differs_from_earlier : (h : ℕ) (places : List ℕ) (i : ℕ) → AllPairs (λ (a b : ℕ). a ≢ b) (h ∷ places) → i < length places → All (λ (j : ℕ). get_or places i 0 ≢ j) (h ∷ take i places)
differs_from_earlier h places i apart low zero d some e = apart 0 (suc i) 0 (omega arith) (omega arith) (sym e)
differs_from_earlier h places i apart low (suc k) d some e =
    let n = length-take i places in
    let less : k < i = omega arith in
    apart (suc k) (suc i) 0 (omega arith) (omega arith) (sym (e ∙ (get_or-take i places k d less ∙ get_or_default places k d 0 (omega arith))))

-- ---- rings that stay as they are

pub others_set : (rs : List RingVec) (i : ℕ) (r : RingVec) → OtherRingsStay rs (set rs i r) (i ∷ [])
others_set rs i r k apart =
    ap (λ (l : List Ring). ring_at l k) (map-set ring_of_vec rs i r)
    ∙ ap (λ (x : Ring). (k, x)) (get_or-set_other (rings_of_vecs rs) i k (ring_of_vec r) ([], (pos 0, pos 0)) (apart 0 i (omega arith)))

others_more : (rs now after : List RingVec) (xs ys : List ℕ) → OtherRingsStay rs now xs → OtherRingsStay now after ys → OtherRingsStay rs after (xs ++ ys)
others_more rs now after xs ys first second k apart =
    second k (all_right (λ (i : ℕ). k ≢ i) xs ys apart) ∙ first k (all_left (λ (i : ℕ). k ≢ i) xs ys apart)

-- ---- the contours of one shape

-- those of the ring at `h` and of the rings at other places were moved, and all other rings stay
pub record IsMovedTo (rs now : List RingVec) (cw : Bool) (h : ℕ) (places : List ℕ) (done : List (List Point)) : Type 0 where
  pub contours : done ≡ contours_at (rings_of_vecs rs) cw h places
  pub others : OtherRingsStay rs now (h ∷ places)

pub moved_more : (rs now after : List RingVec) (cw : Bool) (h : ℕ) (places : List ℕ) (i : ℕ) (old new : List (List Point)) → AllPairs (λ (a b : ℕ). a ≢ b) (h ∷ places) → i < length places →
    IsMovedTo rs now cw h (take i places) old → new ≡ old ++ contour_at cw now (get_or places i 0) ∷ [] → OtherRingsStay now after (get_or places i 0 ∷ []) → IsMovedTo rs after cw h (take (i + 1) places) new
moved_more rs now after cw h places i old new apart low before e others =
    subst (λ (l : List ℕ). IsMovedTo rs after cw h l new) (sym (take_more places i 0 low)) (record {
      contours =
          e
          ∙ ((λ j. before.contours j ++ answered cw (stays j).1 ∷ [])
          ∙ sym (ap (λ (l : List (List Point)). contour_at cw rs h ∷ l) (map-append (contour_at cw rs) (take i places) (m ∷ []))));
      others = others_more rs now after (h ∷ take i places) (m ∷ []) before.others others;
    })
  where
    m : ℕ
    m = get_or places i 0

    stays : Stays rs now m
    stays = before.others m (differs_from_earlier h places i apart low)

-- ---- the shapes of rings

-- those that rings below `h` head are done, and the rings whose homes are not below `h` stay
pub record AreShapesTo (rs now : List RingVec) (homes : List ℕ) (cw : Bool) (h : ℕ) (done : List (List (List Point))) : Type 0 where
  pub shapes : ShapesTo (rings_of_vecs rs) cw h done
  pub others : (k : ℕ) → h ≤ get_or homes k 0 → Stays rs now k

contours_stay : (rs now : List RingVec) (cw : Bool) (places : List ℕ) → All (λ (i : ℕ). Stays rs now i) places → map (contour_at cw now) places ≡ map (contour_at cw rs) places
contours_stay rs now cw [] stay = refl
contours_stay rs now cw (i ∷ places) stay =
    let first = All-head (λ (i : ℕ). Stays rs now i) i places stay in
    let rest = contours_stay rs now cw places (All-tail (λ (i : ℕ). Stays rs now i) i places stay) in
    (λ j. answered cw (first j).1 ∷ rest j)

homed_headed : (rs now : List RingVec) (homes : List ℕ) (cw : Bool) (h : ℕ) (places : List ℕ) → IsHome (rings_of_vecs rs) h (get_or homes h 0) → AreMembers (rings_of_vecs rs) h places →
    AreApart homes h places → ((k : ℕ) → h ≤ get_or homes k 0 → Stays rs now k) → homed cw (rings_of_vecs now) homes h places ≡ headed cw (rings_of_vecs rs) h
homed_headed rs now homes cw h places home members apart stay =
    by (nat_eq (get_or homes h 0) h) refl ∙ sym (ap (λ (b : Bool). cond b (shape_at cw (rings_of_vecs rs) h ∷ []) []) (head_test (rings_of_vecs rs) h (get_or homes h 0) home))
  where
    by : (b : Bool) → nat_eq (get_or homes h 0) h ≡ b → cond b (contours_at (rings_of_vecs now) cw h places ∷ []) [] ≡ cond b (shape_at cw (rings_of_vecs rs) h ∷ []) []
    by false t = refl
    by true t =
        let own = eqb-true (get_or homes h 0) h t in
        let first : Stays rs now h = stay h (omega arith) in
        let rest = contours_stay rs now cw places (λ k d low. let p = apart.homes_are k d low in stay (get_or places k d) (omega arith)) in
        ap (λ (s : List (List Point)). s ∷ []) ((λ j. answered cw (first j).1 ∷ rest j) ∙ members.contours cw)

shapes_next : (rs : List Ring) (cw : Bool) (h : ℕ) (old new : List (List (List Point))) → h < length rs → ShapesTo rs cw h old → new ≡ old ++ headed cw rs h → ShapesTo rs cw (h + 1) new
shapes_next rs cw h old new low kept e =
    ap (λ (l : List (List (List Point))). l ++ lists (enumerate_from (h + 1) (drop (h + 1) rs))) e
    ∙ (sym (filter_step (map (answered cw)) (shape_of (placed rs)) (is_head (placed rs)) (ring_at rs h) (enumerate_from (h + 1) (drop (h + 1) rs)) old (is_head (placed rs) (ring_at rs h)) refl)
    ∙ (ap (λ (l : List Placed). old ++ lists l) (sym (place_next rs h low)) ∙ kept))
  where
    lists : List Placed → List (List (List Point))
    lists ps = map (map (answered cw)) (map (shape_of (placed rs)) (filter (is_head (placed rs)) ps))

pub shapes_more : (rs now after : List RingVec) (homes told : List ℕ) (cw : Bool) (h : ℕ) (places : List ℕ) (old new : List (List (List Point))) → told ≡ homes → h < length rs →
    AreShapesTo rs now homes cw h old → IsHome (rings_of_vecs rs) h (get_or homes h 0) → AreMembers (rings_of_vecs rs) h places → AreApart homes h places →
    new ≡ old ++ homed cw (rings_of_vecs now) told h places → ((k : ℕ) → get_or told k 0 ≢ h → Stays now after k) → AreShapesTo rs after homes cw (h + 1) new
shapes_more rs now after homes told cw h places old new same low before home members apart e others = record {
  shapes = shapes_next (rings_of_vecs rs) cw h old new (omega (arith, length-map rs ring_of_vec)) before.shapes
      (e ∙ (ap (λ (l : List ℕ). old ++ homed cw (rings_of_vecs now) l h places) same ∙ ap (λ (l : List (List (List Point))). old ++ l) (homed_headed rs now homes cw h places home members apart before.others)));
  others = λ k later. others k (λ (s : get_or told k 0 ≡ h). let t : get_or told k 0 ≡ get_or homes k 0 = ap (λ (l : List ℕ). get_or l k 0) same in absurd (omega arith)) ∙ before.others k (omega arith);
}

-- ---- the places that stand in a list of lists
pub members_of : (rs : List RingVec) (members : List (Vec ℕ Global)) (h : ℕ) (v : Vec ℕ Global) (places : List ℕ) → HaveMembers rs members → h < length rs → v ≡ get_or members h v → places ≡ v.items →
    AreMembers (rings_of_vecs rs) h places
members_of rs members h v places have low is e = subst (λ (l : List ℕ). AreMembers (rings_of_vecs rs) h l) (sym (e ∙ ap (λ (w : Vec ℕ Global). w.items) is)) (have h v low)

pub members_within : (rs now : List RingVec) (h : ℕ) (places : List ℕ) → length now ≡ length rs → AreMembers (rings_of_vecs rs) h places → All (λ (i : ℕ). i < length now) places
members_within rs now h places same members k d low = let w = members.within k d low in omega (arith, length-map rs ring_of_vec)

pub apart_of : (homes told : List ℕ) (members : List (Vec ℕ Global)) (h : ℕ) (v : Vec ℕ Global) (places : List ℕ) → HaveApart told members → h < length members → v ≡ get_or members h v → places ≡ v.items →
    told ≡ homes → AreApart homes h places
apart_of homes told members h v places have low is e same =
    subst (λ (x : List ℕ × List ℕ). AreApart x.0 h x.1) (λ i. (same i, sym (e ∙ ap (λ (w : Vec ℕ Global). w.items) is) i)) (have h v low)
