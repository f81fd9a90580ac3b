-- Lemmas over lists of points: their order.
use Rattle.std.proofs.Common.{◌≡◌, ⊎_elim, Bool, true, false, ◌&&◌, ◌||◌, List, [], ◌∷◌, refl, sym, ◌∙◌, subst}
use Rattle.std.specs.Cmp.{IsStrictWeakOrder}
use Rattle.std.proofs.lemmas.Bool.{both_ways, or_cases, or_parts, and_parts, true≢false}
use Rattle.mesh_plane.specs.Plane.{Point}
use Rattle.mesh_plane.specs.Order.{point_lt}
use Rattle.mesh_plane.specs.Winding.{same_point}
use Rattle.mesh_plane.proofs.Comparing.{decides_point}
use Rattle.mesh_shapes.specs.Resolution.{points_lt}
use Rattle.mesh_shapes.proofs.Tracing.{Before, before_of, of_before, not_before, before_trans, from_after, neither_before, lt_self}

-- of a list that is not less than another, by the first points of both
not_less_parts : (p q : Point) (ps qs : List Point) → points_lt (p ∷ ps) (q ∷ qs) ≡ false → (point_lt p q ≡ false) × (p ≡ q → points_lt ps qs ≡ false)
not_less_parts p q ps qs h =
    let parts = or_parts (point_lt p q) (same_point p q && points_lt ps qs) h in
    (parts.0, (λ (e : p ≡ q). (λ i. sym ((decides_point p q).1 e) i && points_lt ps qs) ∙ parts.1))

not_less_from : (p q : Point) (ps qs : List Point) → point_lt p q ≡ false → (p ≡ q → points_lt ps qs ≡ false) → points_lt (p ∷ ps) (q ∷ qs) ≡ false
not_less_from p q ps qs h k = (λ i. h i || (same_point p q && points_lt ps qs)) ∙ by (same_point p q) refl
  where
    by : (b : Bool) → same_point p q ≡ b → (b && points_lt ps qs) ≡ false
    by true t = k ((decides_point p q).0 t)
    by false t = refl

after : (p q : Point) → point_lt p q ≡ true → point_lt q p ≡ false
after p q t = not_before q p (λ (x : Before q p). both_ways (point_lt p p) (lt_self p) (of_before p p (before_trans p q p (before_of p q t) x)))

lists_one_way : (ps qs : List Point) → points_lt ps qs ≡ true → points_lt qs ps ≡ false
lists_one_way [] [] h = refl
lists_one_way (p ∷ ps) [] h = absurd (true≢false (sym h))
lists_one_way [] (q ∷ qs) h = refl
lists_one_way (p ∷ ps) (q ∷ qs) h =
    ⊎_elim
    (λ (t : point_lt p q ≡ true).
    not_less_from q p qs ps (after p q t)
    (λ (e : q ≡ p). absurd (both_ways (point_lt p p) (lt_self p) (subst (λ (x : Point). point_lt p x ≡ true) e t))))
    (λ (t : (same_point p q && points_lt ps qs) ≡ true).
    let parts = and_parts (same_point p q) (points_lt ps qs) t in
    let e : p ≡ q = (decides_point p q).0 parts.0 in
    not_less_from q p qs ps (subst (λ (x : Point). point_lt x p ≡ false) e (lt_self p)) (λ (d : q ≡ p). lists_one_way ps qs parts.1))
    (or_cases (point_lt p q) (same_point p q && points_lt ps qs) h)

lists_chain : (ps qs rs : List Point) → points_lt ps qs ≡ false → points_lt qs rs ≡ false → points_lt ps rs ≡ false
lists_chain ps qs [] h k = refl
lists_chain ps [] (r ∷ rs) h k = absurd (true≢false k)
lists_chain [] (q ∷ qs) (r ∷ rs) h k = absurd (true≢false h)
lists_chain (p ∷ ps) (q ∷ qs) (r ∷ rs) h k =
    let a = not_less_parts p q ps qs h in
    let b = not_less_parts q r qs rs k in
    not_less_from p r ps rs (from_after q p r a.0 b.0)
    (λ (e : p ≡ r).
    let d : p ≡ q = neither_before p q a.0 (subst (λ (x : Point). point_lt q x ≡ false) (sym e) b.0) in
    lists_chain ps qs rs (a.1 d) (b.1 (sym d ∙ e)))

pub lists_order : IsStrictWeakOrder points_lt
lists_order = record { one_way = lists_one_way; chain = lists_chain }

pub order_by : {A B : Type 0} (lt : B → B → Bool) → IsStrictWeakOrder lt → (key : A → B) → IsStrictWeakOrder (λ (x y : A). lt (key x) (key y))
order_by lt o key = record { one_way = λ x y h. o.one_way (key x) (key y) h; chain = λ x y z h k. o.chain (key x) (key y) (key z) h k }

-- of two lists one is less, or they are one
pub lists_neither : (ps qs : List Point) → points_lt ps qs ≡ false → points_lt qs ps ≡ false → ps ≡ qs
lists_neither [] [] h k = refl
lists_neither (p ∷ ps) [] h k = absurd (true≢false k)
lists_neither [] (q ∷ qs) h k = absurd (true≢false h)
lists_neither (p ∷ ps) (q ∷ qs) h k =
    let a = not_less_parts p q ps qs h in
    let b = not_less_parts q p qs ps k in
    let e : p ≡ q = neither_before p q a.0 b.0 in
    λ i. e i ∷ lists_neither ps qs (a.1 e) (b.1 (sym e)) i
