-- Lemmas over lists: how shapes come about, ring by ring.
use Rattle.std.proofs.Common.{zero, suc, ◌≡◌, ℕ, ◌+◌, ◌<◌, ◌≤◌, Bool, true, false, cond, not, ◌&&◌, List, [], ◌∷◌, ◌++◌, map, length, drop, get_or, below_more, refl, sym, ◌∙◌, ap, subst, arith, append_assoc}
use Rattle.std.specs.Prelude.{ℤ, pos, int_lt, nat_eq, Vec}
use Rattle.std.specs.List.{All, filter, enumerate_from}
use Rattle.std.proofs.Math.Seq.{drop-cons}
use Rattle.std.proofs.lemmas.List.Elements.{All-nil, All-push}
use Rattle.std.specs.declared.alloc.Global.{Global}
use Rattle.std.proofs.lemmas.Bool.{both_ways, eqb-true, eq-eqb}
use Rattle.std.proofs.lemmas.List.{append-nil, map-append, length-append, length-map, drop_all}
use Rattle.mesh_plane.specs.Plane.{Point}
use Rattle.mesh_shapes.specs.Homes.{NoneEncloses, IsHolder, ring_at, placed, IsHome}
use Rattle.mesh_shapes.specs.Resolution.{Ring, Placed, is_head, shape_of, rings_by_shape, answered}
use Rattle.mesh_shapes.specs.Vectors.{RingVec, ring_of_vec, rings_of_vecs, shape_points}
use Rattle.mesh_shapes.specs.Private.Grouping.{areas_of, contours_at, AreMembers, IsPutHome}
use Rattle.mesh_shapes.proofs.Groups.{view_at, positive_at, home_alone, home_held, is_member, member_test}

-- ---- one more element of a filtered list
pub filter_step : {A B C : Type 0} (g : B → C) (f : A → B) (p : A → Bool) (x : A) (rest : List A) (done : List C) (t : Bool) → p x ≡ t →
    done ++ map g (map f (filter p (x ∷ rest))) ≡ (done ++ cond t (g (f x) ∷ []) []) ++ map g (map f (filter p rest))
filter_step g f p x rest done true h =
    (λ i. done ++ map g (map f (cond (h i) (x ∷ filter p rest) (filter p rest)))) ∙ sym (append_assoc done (g (f x) ∷ []) (map g (map f (filter p rest))))
filter_step g f p x rest done false h =
    (λ i. done ++ map g (map f (cond (h i) (x ∷ filter p rest) (filter p rest)))) ∙ ap (λ l. l ++ map g (map f (filter p rest))) (sym (append-nil done))

-- the contours of placed rings
abbrev pub lists_of : Bool → List Placed → List (List Point)
lists_of cw ps = map (answered cw) (map (λ (r : Placed). r.1) ps)

-- what is left to add to the shape that the ring at `h` heads, from place `i` on
abbrev pub ShapeTo : List Ring → Bool → ℕ → ℕ → List (List Point) → Type 0
ShapeTo rs cw h i done =
    done ++ lists_of cw (filter (is_member rs h) (enumerate_from i (drop i rs))) ≡ map (answered cw) (shape_of (placed rs) (ring_at rs h))

-- what is left to add to the shapes, from place `h` on
abbrev pub ShapesTo : List Ring → Bool → ℕ → List (List (List Point)) → Type 0
ShapesTo rs cw h done =
    done ++ map (map (answered cw)) (map (shape_of (placed rs)) (filter (is_head (placed rs)) (enumerate_from h (drop h rs)))) ≡ map (map (answered cw)) (rings_by_shape (placed rs))

-- the place of a ring that no ring encloses, and of one that a ring encloses
pub home_none : (rs : List RingVec) (i : ℕ) (r : RingVec) → i < length rs → NoneEncloses (rings_of_vecs rs) (length (rings_of_vecs rs)) (get_or rs i r).1 → IsHome (rings_of_vecs rs) i i
home_none rs i r low h =
    home_alone (rings_of_vecs rs) i
    (subst (λ (q : Point). NoneEncloses (rings_of_vecs rs) (length (rings_of_vecs rs)) q) (λ j. (sym (view_at rs i r ([], (pos 0, pos 0)) low) j).1) h)

pub home_some : (rs : List RingVec) (areas : List ℤ) (i b : ℕ) (r : RingVec) → areas ≡ areas_of (rings_of_vecs rs) → i < length rs → int_lt (pos 0) (get_or areas i (pos 0)) ≡ false →
    IsHolder (rings_of_vecs rs) (length (rings_of_vecs rs)) (get_or rs i r).1 b → IsHome (rings_of_vecs rs) i b
home_some rs areas i b r known low flat h =
    home_held (rings_of_vecs rs) i b (sym (positive_at (rings_of_vecs rs) areas i known (omega (arith, length-map rs ring_of_vec, low))) ∙ flat)
    (subst (λ (q : Point). IsHolder (rings_of_vecs rs) (length (rings_of_vecs rs)) q b) (λ j. (sym (view_at rs i r ([], (pos 0, pos 0)) low) j).1) h)

-- what holds of each place and the number that is known of it
pub record KnownTo (P : ℕ → ℕ → Type 0) (i : ℕ) (known : List ℕ) : Type 0 where
  pub len : length known ≡ i
  pub holds : (j : ℕ) → j < i → P j (get_or known j 0)

-- the number of one more place is known
pub known_more : (P : ℕ → ℕ → Type 0) (i b : ℕ) (old new : List ℕ) → length old ≡ i → ((j : ℕ) → j < i → P j (get_or old j 0)) → P i b → new ≡ old ++ (b ∷ []) → KnownTo P (i + 1) new
known_more P i b old new len h here e = record {
  len = ap length e ∙ (omega (arith, length-append old (b ∷ []), len));
  holds = below_more (λ (j : ℕ). P j (get_or new j 0)) i
      (λ (j : ℕ) (l : j < i). subst (λ (n : ℕ). P j n) (sym (ap (λ (xs : List ℕ). get_or xs j 0) e ∙ get_before old (b ∷ []) j 0 (omega (arith, len)))) (h j l))
      (subst (λ (n : ℕ). P i n) (sym (ap (λ (xs : List ℕ). get_or xs i 0) e ∙ get_last old b i 0 len)) here);
}
  where
    get_before : (xs ys : List ℕ) (j d : ℕ) → j < length xs → get_or (xs ++ ys) j d ≡ get_or xs j d
    get_before [] ys j d l = absurd (omega arith)
    get_before (x ∷ xs) ys zero d l = refl
    get_before (x ∷ xs) ys (suc j) d l = get_before xs ys j d (omega arith)

    get_last : (xs : List ℕ) (x i d : ℕ) → length xs ≡ i → get_or (xs ++ (x ∷ [])) i d ≡ x
    get_last [] x zero d e = refl
    get_last [] x (suc i) d e = absurd (omega (arith, e))
    get_last (y ∷ xs) x zero d e = absurd (omega (arith, e))
    get_last (y ∷ xs) x (suc i) d e = get_last xs x i d (omega (arith, e))

-- ---- the rings that stand with another

pub place_next : (rs : List Ring) (i : ℕ) → i < length rs → enumerate_from i (drop i rs) ≡ ring_at rs i ∷ enumerate_from (i + 1) (drop (i + 1) rs)
place_next rs i low =
    ap (λ (l : List Ring). enumerate_from i l) (drop-cons rs i ([], (pos 0, pos 0)) low)
    ∙ (let e : suc i ≡ i + 1 = omega arith in ap (λ (n : ℕ). ring_at rs i ∷ enumerate_from (i + 1) (drop n rs)) e)

pub places_none : (rs : List Ring) (n : ℕ) → length rs ≤ n → enumerate_from n (drop n rs) ≡ []
places_none rs n h = ap (λ (l : List Ring). enumerate_from n l) (drop_all n rs h)

pub places_all : (rs : List Ring) → enumerate_from 0 (drop 0 rs) ≡ placed rs
places_all [] = refl
places_all (r ∷ rs) = refl

pub shape_init : (rs : List Ring) (cw : Bool) (h : ℕ) (done : List (List Point)) → done ≡ answered cw (ring_at rs h).1 ∷ [] → ShapeTo rs cw h 0 done
shape_init rs cw h done e =
    (λ i. e i ++ lists_of cw (filter (is_member rs h) (places_all rs i)))

pub shape_next : (rs : List Ring) (cw : Bool) (h i b : ℕ) (done new : List (List Point)) → IsHome rs i b → h < length rs → i < length rs → ShapeTo rs cw h i done →
    new ≡ done ++ cond (nat_eq b h && not (nat_eq i h)) (answered cw (ring_at rs i).1 ∷ []) [] → ShapeTo rs cw h (i + 1) new
shape_next rs cw h i b done new home lh li kept e =
    ap (λ (l : List (List Point)). l ++ lists_of cw (filter (is_member rs h) (enumerate_from (i + 1) (drop (i + 1) rs)))) e
    ∙ (sym (filter_step (answered cw) (λ (r : Placed). r.1) (is_member rs h) (ring_at rs i) (enumerate_from (i + 1) (drop (i + 1) rs)) done (nat_eq b h && not (nat_eq i h)) (member_test rs i b h home lh))
    ∙ (ap (λ (l : List Placed). done ++ lists_of cw (filter (is_member rs h) l)) (sym (place_next rs i li)) ∙ kept))

pub shape_end : (rs : List Ring) (cw : Bool) (h i : ℕ) (done : List (List Point)) → length rs ≤ i → ShapeTo rs cw h i done → done ≡ map (answered cw) (shape_of (placed rs) (ring_at rs h))
shape_end rs cw h i done l kept =
    sym (append-nil done) ∙ (ap (λ (r : List Placed). done ++ lists_of cw (filter (is_member rs h) r)) (sym (places_none rs i l)) ∙ kept)

-- the places of the rings below `i` that stand with the ring at `h`
pub record AreMembersTo (rs : List Ring) (i h : ℕ) (places : List ℕ) : Type 0 where
  pub within : All (λ (j : ℕ). j < length rs) places
  pub contours : (cw : Bool) → ShapeTo rs cw h i (contours_at rs cw h places)

pub members_none : (rs : List Ring) (h : ℕ) (places : List ℕ) → places ≡ [] → AreMembersTo rs 0 h places
members_none rs h places e = record {
  within = subst (λ (l : List ℕ). All (λ (j : ℕ). j < length rs) l) (sym e) (All-nil (λ (j : ℕ). j < length rs));
  contours = λ cw. shape_init rs cw h (contours_at rs cw h places) (ap (contours_at rs cw h) e);
}

pub members_more : (rs : List Ring) (i h b : ℕ) (old new : List ℕ) → IsHome rs i b → h < length rs → i < length rs → AreMembersTo rs i h old
    → new ≡ old ++ cond (nat_eq b h && not (nat_eq i h)) (i ∷ []) [] → AreMembersTo rs (i + 1) h new
members_more rs i h b old new home lh li before e = by (nat_eq b h && not (nat_eq i h)) refl
  where
    picture : Bool → List ℕ → List (List Point)
    picture cw l = map (λ (j : ℕ). answered cw (ring_at rs j).1) l

    by : (t : Bool) → (nat_eq b h && not (nat_eq i h)) ≡ t → AreMembersTo rs (i + 1) h new
    by true t = record {
      within =
          let is : new ≡ old ++ (i ∷ []) = e ∙ ap (λ (x : Bool). old ++ cond x (i ∷ []) []) t in
          subst (λ (l : List ℕ). All (λ (j : ℕ). j < length rs) l) (sym is) (All-push (λ (j : ℕ). j < length rs) old i before.within li);
      contours = λ cw.
          let is : new ≡ old ++ (i ∷ []) = e ∙ ap (λ (x : Bool). old ++ cond x (i ∷ []) []) t in
          shape_next rs cw h i b (contours_at rs cw h old) (contours_at rs cw h new) home lh li (before.contours cw)
          (ap (contours_at rs cw h) is
          ∙ (ap (λ (l : List (List Point)). answered cw (ring_at rs h).1 ∷ l) (map-append (λ (j : ℕ). answered cw (ring_at rs j).1) old (i ∷ []))
          ∙ ap (λ (x : Bool). contours_at rs cw h old ++ cond x (answered cw (ring_at rs i).1 ∷ []) []) (sym t)));
    }
    by false t = record {
      within =
          let is : new ≡ old = e ∙ (ap (λ (x : Bool). old ++ cond x (i ∷ []) []) t ∙ append-nil old) in
          subst (λ (l : List ℕ). All (λ (j : ℕ). j < length rs) l) (sym is) before.within;
      contours = λ cw.
          let is : new ≡ old = e ∙ (ap (λ (x : Bool). old ++ cond x (i ∷ []) []) t ∙ append-nil old) in
          shape_next rs cw h i b (contours_at rs cw h old) (contours_at rs cw h new) home lh li (before.contours cw)
          (ap (contours_at rs cw h) is
          ∙ (sym (append-nil (contours_at rs cw h old))
          ∙ ap (λ (x : Bool). contours_at rs cw h old ++ cond x (answered cw (ring_at rs i).1 ∷ []) []) (sym t)));
    }

pub members_all : (rs : List Ring) (i h : ℕ) (places : List ℕ) → length rs ≤ i → AreMembersTo rs i h places → AreMembers rs h places
members_all rs i h places l m = record { within = m.within; contours = λ cw. shape_end rs cw h i (contours_at rs cw h places) l (m.contours cw) }

-- a place is put to the list of its home alone
pub put_home : (old new : List (Vec ℕ Global)) (i b : ℕ) → (b ≡ i → ⊥) → length new ≡ length old
    → ((d : Vec ℕ Global) → (get_or new b d).items ≡ (get_or old b d).items ++ i ∷ [])
    → ((k : ℕ) (d : Vec ℕ Global) → (k ≡ b → ⊥) → get_or new k d ≡ get_or old k d) → IsPutHome old new i b
put_home old new i b apart len at others = record { len = len; put = λ h d l. by h d (nat_eq b h) refl (nat_eq i h) refl }
  where
    by : (h : ℕ) (d : Vec ℕ Global) (s : Bool) → nat_eq b h ≡ s → (t : Bool) → nat_eq i h ≡ t
        → (get_or new h d).items ≡ (get_or old h d).items ++ cond (nat_eq b h && not (nat_eq i h)) (i ∷ []) []
    by h d true p true q = absurd (apart (eqb-true b h p ∙ sym (eqb-true i h q)))
    by h d true p false q =
        subst (λ (k : ℕ). (get_or new k d).items ≡ (get_or old k d).items ++ i ∷ []) (eqb-true b h p) (at d)
        ∙ (λ j. (get_or old h d).items ++ cond (sym p j && not (sym q j)) (i ∷ []) [])
    by h d false p t q =
        ap (λ (v : Vec ℕ Global). v.items) (others h d (λ (e : h ≡ b). both_ways (nat_eq b h) p (eq-eqb b h (sym e))))
        ∙ (sym (append-nil (get_or old h d).items) ∙ (λ j. (get_or old h d).items ++ cond (sym p j && not (nat_eq i h)) (i ∷ []) []))

pub put_at_home : (lists : List (Vec ℕ Global)) (i b : ℕ) → b ≡ i → IsPutHome lists lists i b
put_at_home lists i b same = record { len = refl; put = λ h d l. by h d (nat_eq b h) refl }
  where
    by : (h : ℕ) (d : Vec ℕ Global) (s : Bool) → nat_eq b h ≡ s → (get_or lists h d).items ≡ (get_or lists h d).items ++ cond (nat_eq b h && not (nat_eq i h)) (i ∷ []) []
    by h d true p =
        sym (append-nil (get_or lists h d).items)
        ∙ (λ j. (get_or lists h d).items ++ cond (sym p j && not (sym (ap (λ (k : ℕ). nat_eq k h) (sym same) ∙ p) j)) (i ∷ []) [])
    by h d false p = sym (append-nil (get_or lists h d).items) ∙ (λ j. (get_or lists h d).items ++ cond (sym p j && not (nat_eq i h)) (i ∷ []) [])

-- a ring's contour is added to a shape
pub pushed_contour : (rs : List RingVec) (cw : Bool) (i : ℕ) (r : RingVec) (old : List (Vec Point Global)) (c : Vec Point Global) (new : List (Vec Point Global)) → i < length rs →
    c.items ≡ answered cw (ring_of_vec (get_or rs i r)) → new ≡ old ++ (c ∷ []) → shape_points new ≡ shape_points old ++ (answered cw (ring_at (rings_of_vecs rs) i).1 ∷ [])
pushed_contour rs cw i r old c new low a e =
    ap shape_points e
    ∙ (map-append (λ (v : Vec Point Global). v.items) old (c ∷ [])
    ∙ (λ j. shape_points old ++ ((a ∙ ap (answered cw) (sym (view_at rs i r ([], (pos 0, pos 0)) low))) j ∷ [])))
