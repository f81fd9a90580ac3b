-- Lemmas over points and lists: a sum over edges, grouped by the segments on which they stand.
use Rattle.std.proofs.Common.{◌≡◌, ◌⊎◌, inl, inr, ⊎_elim, Bool, true, false, cond, ◌&&◌, ◌||◌, List, [], ◌∷◌, refl, sym, ◌∙◌, ap, subst, arith}
use Rattle.std.specs.Prelude.{ℤ, pos, neg_ℤ, ◌+ℤ◌, ◌*ℤ◌, ◌≤ℤ◌, ◌<ℤ◌, int_lt}
use Rattle.std.specs.Ordering.{int_eq}
use Rattle.std.proofs.lemmas.Bool.{false≢true, cases_Bool, or_right, or_parts, or_cases, and_parts}
use Rattle.std.proofs.lemmas.Bool.Decides.{Decides-int_eq, Decides-like, same_from_decides}
use Rattle.std.proofs.lemmas.Int.{ints, by_lt_z}
use Rattle.mesh_plane.specs.Plane.{Point, Edge}
use Rattle.mesh_plane.specs.Winding.{sum_of, same_point}
use Rattle.mesh_plane.proofs.Whole.{linear, add_mul, zero_mul, one_mul}
use Rattle.mesh_lattice.specs.Clean.{IsProper}
use Rattle.mesh_lattice.specs.Split.{back, same_edge, same_ends, occurs}
use Rattle.mesh_lattice.specs.Counted.{bit, along, net}
use Rattle.mesh_lattice.proofs.Ends.{decides_edge, decides_ends, ends_self, ends_sym, ends_along, along_turned, along_self, not_along}
use Rattle.mesh_lattice.proofs.Each.{Each}
use Rattle.mesh_lattice.proofs.Each.{each_of, proper_of}
use Rattle.mesh_plane.proofs.Comparing.{decides_point, test_less, test_not_less}

-- upwards, or level and to the east
abbrev pub Leans : Edge → Type 0
Leans e = (e.0.1 <ℤ e.1.1) ⊎ ((e.0.1 ≡ e.1.1) × (e.0.0 <ℤ e.1.0))

-- no segment stands twice
abbrev pub Distinct : List Edge → Type 0
Distinct [] = Unit {0}
Distinct (r ∷ rs) = (occurs r rs ≡ false) × Distinct rs

-- the segments of a list, each once, each leaning
pub record IsKeys (es rs : List Edge) : Type 0 where
  pub same : (s : Edge) → occurs s rs ≡ occurs s es
  pub leaning : Each Leans rs
  pub distinct : Distinct rs

pub less_apart : (a b : ℤ) → a <ℤ b → a ≡ b → ⊥
less_apart a b h e = omega (arith, ints)

leans_apart : (s : Edge) → Leans s → same_point s.0 s.1 ≡ false
leans_apart s lean =
    ⊎_elim (λ (t : same_point s.0 s.1 ≡ true).
    let same : s.0 ≡ s.1 = (decides_point s.0 s.1).0 t in
    ⊎_elim (λ (h : s.0.1 <ℤ s.1.1). absurd (less_apart s.0.1 s.1.1 h (ap (λ (v : Point). v.1) same)))
    (λ (h : (s.0.1 ≡ s.1.1) × (s.0.0 <ℤ s.1.0)). absurd (less_apart s.0.0 s.1.0 h.1 (ap (λ (v : Point). v.0) same))) lean)
    (λ (f : same_point s.0 s.1 ≡ false). f)
    (cases_Bool (same_point s.0 s.1))

pub occurs_ends : (a b : Edge) (xs : List Edge) → same_ends a b ≡ true → occurs a xs ≡ occurs b xs
occurs_ends a b [] h = refl
occurs_ends a b (x ∷ xs) h = λ i. (ends_sym a x ∙ (ends_along x a b h ∙ ends_sym x b)) i || occurs_ends a b xs h i

pub occurs_back : (a : Edge) (xs : List Edge) → occurs (back a) xs ≡ occurs a xs
occurs_back a xs = occurs_ends (back a) a xs ((decides_ends (back a) a).1 (inr refl))

pub occurs_head : (e : Edge) (es : List Edge) → occurs e (e ∷ es) ≡ true
occurs_head e es = λ i. ends_self e i || occurs e es

pub edge_back : (s e : Edge) → same_edge (back s) e ≡ same_edge s (back e)
edge_back s e =
    same_from_decides (same_edge (back s) e) (same_edge s (back e)) (decides_edge (back s) e)
    (Decides-like (same_edge s (back e)) (λ (h : s ≡ back e). ap back h) (λ (h : back s ≡ e). ap back h) (decides_edge s (back e)))

pub along_back : (s e : Edge) → along (back s) e ≡ neg_ℤ (along s e)
unfolding along
along_back s e = omega (arith, ints, ap bit (edge_back s e), ap bit (edge_back s (back e)))

pub net_back : (s : Edge) (es : List Edge) → net (back s) es ≡ neg_ℤ (net s es)
net_back s [] = refl
net_back s (e ∷ es) = omega (arith, linear, along_back s e, net_back s es)

-- ---- grouping
-- no key but the edge's own counts along it
none_along : (f : Edge → ℤ) (e : Edge) (rs : List Edge) → occurs e rs ≡ false → sum_of (λ (s : Edge). along s e *ℤ f s) rs ≡ pos 0
none_along f e [] h = refl
none_along f e (s ∷ rs) h =
    let parts = or_parts (same_ends e s) (occurs e rs) h in
    let none : along s e *ℤ f s ≡ pos 0 *ℤ f s = ap (λ (z : ℤ). z *ℤ f s) (not_along s e (ends_sym s e ∙ parts.0)) in
    omega (arith, linear, none, zero_mul (f s), none_along f e rs parts.1)

-- an odd number of an edge, by its own key
own_key : (f : Edge → ℤ) → ((e : Edge) → f (back e) ≡ neg_ℤ (f e)) → (s e : Edge) → Leans s → same_ends e s ≡ true → along s e *ℤ f s ≡ f e
own_key f odd s e lean h =
    ⊎_elim
    (λ (x : e ≡ s). subst (λ (d : Edge). along s d *ℤ f s ≡ f d) (sym x)
    (ap (λ (z : ℤ). z *ℤ f s) (along_self s (leans_apart s lean)) ∙ one_mul (f s)))
    (λ (x : e ≡ back s). subst (λ (d : Edge). along s d *ℤ f s ≡ f d) (sym x)
    (ap (λ (z : ℤ). z *ℤ f s) (along_turned s s ∙ ap neg_ℤ (along_self s (leans_apart s lean))) ∙ (minus_one (f s) ∙ sym (odd s))))
    ((decides_ends e s).0 h)
  where
    minus_one : (x : ℤ) → neg_ℤ (pos 1) *ℤ x ≡ neg_ℤ x
    minus_one x = omega (arith, ints)

pub pick : (f : Edge → ℤ) → ((e : Edge) → f (back e) ≡ neg_ℤ (f e)) → (e : Edge) (rs : List Edge) → Each Leans rs → Distinct rs → occurs e rs ≡ true →
    sum_of (λ (s : Edge). along s e *ℤ f s) rs ≡ f e
pick f odd e [] lean distinct h = absurd (false≢true h)
pick f odd e (s ∷ rs) lean distinct h =
    ⊎_elim
    (λ (t : same_ends e s ≡ true).
    omega (arith, linear, own_key f odd s e lean.0 t, none_along f e rs (occurs_ends e s rs t ∙ distinct.0)))
    (λ (n : same_ends e s ≡ false).
    let rest : occurs e rs ≡ true = sym (ap (λ (b : Bool). b || occurs e rs) n) ∙ h in
    let none : along s e *ℤ f s ≡ pos 0 *ℤ f s = ap (λ (z : ℤ). z *ℤ f s) (not_along s e (ends_sym s e ∙ n)) in
    omega (arith, linear, none, zero_mul (f s), pick f odd e rs lean.1 distinct.1 rest))
    (cases_Bool (same_ends e s))

split_sum : (f : Edge → ℤ) (e : Edge) (es rs : List Edge) →
    sum_of (λ (s : Edge). net s (e ∷ es) *ℤ f s) rs ≡ sum_of (λ (s : Edge). along s e *ℤ f s) rs +ℤ sum_of (λ (s : Edge). net s es *ℤ f s) rs
split_sum f e es [] = refl
split_sum f e es (s ∷ rs) = omega (arith, linear, add_mul (along s e) (net s es) (f s), split_sum f e es rs)

pub no_sum : (f : Edge → ℤ) (rs : List Edge) → sum_of (λ (s : Edge). pos 0 *ℤ f s) rs ≡ pos 0
no_sum f [] = refl
no_sum f (s ∷ rs) = omega (arith, linear, zero_mul (f s), no_sum f rs)

-- a sum of an odd number of each edge is the sum over the keys of the net counts times that number
pub grouped : (f : Edge → ℤ) → ((e : Edge) → f (back e) ≡ neg_ℤ (f e)) → (rs : List Edge) → Each Leans rs → Distinct rs →
    (es : List Edge) → ((e : Edge) → occurs e es ≡ true → occurs e rs ≡ true) →
    sum_of f es ≡ sum_of (λ (s : Edge). net s es *ℤ f s) rs
grouped f odd rs lean distinct [] cover = sym (no_sum f rs)
grouped f odd rs lean distinct (e ∷ es) cover =
    omega (
      arith,
      linear,
      split_sum f e es rs,
      pick f odd e rs lean distinct (cover e (occurs_head e es)),
      grouped f odd rs lean distinct es (λ (d : Edge) (o : occurs d es ≡ true). cover d (or_right (same_ends d e) (occurs d es) o)),
    )

-- ---- the keys of a list
abbrev leaning_of : Bool → Edge → Edge
leaning_of true e = e
leaning_of false e = back e

-- whether an edge leans
abbrev leans : Edge → Bool
leans e = int_lt e.0.1 e.1.1 || (int_eq e.0.1 e.1.1 && int_lt e.0.0 e.1.0)

-- the segments of a list, each once, leaning
abbrev pub keys : List Edge → List Edge
keys [] = []
keys (e ∷ es) = cond (occurs e (keys es)) (keys es) (leaning_of (leans e) e ∷ keys es)

leaning_ends : (b : Bool) (e : Edge) → same_ends (leaning_of b e) e ≡ true
leaning_ends true e = ends_self e
leaning_ends false e = (decides_ends (back e) e).1 (inr refl)

-- heights and columns of an edge, bare
lean_yes : (a b c d : ℤ) → (int_lt b d || (int_eq b d && int_lt a c)) ≡ true → (b <ℤ d) ⊎ ((b ≡ d) × (a <ℤ c))
lean_yes a b c d h =
    ⊎_elim (λ (x : int_lt b d ≡ true). inl (grind (arith, ints)))
    (λ (x : (int_eq b d && int_lt a c) ≡ true).
    let parts = and_parts (int_eq b d) (int_lt a c) x in
    let same : b ≡ d = (Decides-int_eq b d).0 parts.0 in
    let less : a <ℤ c = test_less a c parts.1 in
    inr (same, less))
    (or_cases (int_lt b d) (int_eq b d && int_lt a c) h)

lean_not : (a b c d : ℤ) → ((a ≡ c) × (b ≡ d) → ⊥) → (int_lt b d || (int_eq b d && int_lt a c)) ≡ false → (d <ℤ b) ⊎ ((d ≡ b) × (c <ℤ a))
lean_not a b c d apart h =
    let parts = or_parts (int_lt b d) (int_eq b d && int_lt a c) h in
    let low : d ≤ℤ b = test_not_less b d parts.0 in
    by_lt_z d b (λ (x : d <ℤ b). inl x)
    (λ (x : b ≤ℤ d).
    let same : b ≡ d = omega (arith, ints) in
    let test : int_lt a c ≡ false = sym (ap (λ (t : Bool). t && int_lt a c) ((Decides-int_eq b d).1 same)) ∙ parts.1 in
    let left : c ≤ℤ a = test_not_less a c test in
    by_lt_z c a (λ (y : c <ℤ a). inr (sym same, y))
    (λ (y : a ≤ℤ c). let e : a ≡ c = omega (arith, ints) in absurd (apart (e, same))))

leaning_leans : (e : Edge) → (e.0 ≡ e.1 → ⊥) → Leans (leaning_of (leans e) e)
leaning_leans e apart =
    by (leans e) refl
  where
    by : (b : Bool) → leans e ≡ b → Leans (leaning_of b e)
    by true h = lean_yes e.0.0 e.0.1 e.1.0 e.1.1 h
    by false h = lean_not e.0.0 e.0.1 e.1.0 e.1.1 (λ (x : (e.0.0 ≡ e.1.0) × (e.0.1 ≡ e.1.1)). apart (λ i. (x.0 i, x.1 i))) h

-- an edge leans, or the edge back does
pub leaning_either : (e : Edge) → (e.0 ≡ e.1 → ⊥) → Leans e ⊎ Leans (back e)
leaning_either e apart = by (leans e) (leaning_leans e apart)
  where
    by : (b : Bool) → Leans (leaning_of b e) → Leans e ⊎ Leans (back e)
    by true h = inl h
    by false h = inr h

keys_step : (es : List Edge) → ((e : Edge) → occurs e es ≡ true → e.0 ≡ e.1 → ⊥) → IsKeys es (keys es)
keys_step [] apart = record { same = λ (s : Edge). refl; leaning = tt; distinct = tt }
keys_step (e ∷ es) apart =
    by (occurs e (keys es)) refl (keys_step es (λ (d : Edge) (o : occurs d es ≡ true). apart d (or_right (same_ends d e) (occurs d es) o)))
  where
    stands : (s : Edge) → occurs e (keys es) ≡ true → ((s : Edge) → occurs s (keys es) ≡ occurs s es) → occurs s (keys es) ≡ (same_ends s e || occurs s es)
    stands s old same =
        ⊎_elim
        (λ (t : same_ends s e ≡ true). occurs_ends s e (keys es) t ∙ old ∙ sym (ap (λ (b : Bool). b || occurs s es) t))
        (λ (n : same_ends s e ≡ false). same s ∙ sym (ap (λ (b : Bool). b || occurs s es) n))
        (cases_Bool (same_ends s e))

    by : (b : Bool) → occurs e (keys es) ≡ b → IsKeys es (keys es) → IsKeys (e ∷ es) (cond b (keys es) (leaning_of (leans e) e ∷ keys es))
    by true old k = record { same = λ (s : Edge). stands s old k.same; leaning = k.leaning; distinct = k.distinct }
    by false new k = record {
      same = λ (s : Edge). λ i. (ends_along s (leaning_of (leans e) e) e (leaning_ends (leans e) e)) i || k.same s i;
      leaning = (leaning_leans e (apart e (occurs_head e es)), k.leaning);
      distinct = (occurs_ends (leaning_of (leans e) e) e (keys es) (leaning_ends (leans e) e) ∙ new, k.distinct);
    }

pub keys_are : (es : List Edge) → IsProper es → IsKeys es (keys es)
keys_are es proper = keys_step es (λ (e : Edge) (o : occurs e es ≡ true). proper_of es proper e o)

-- what holds of each key that occurs
pub keys_each : (P : Edge → Type 0) (es rs : List Edge) → IsKeys es rs → ((s : Edge) → occurs s es ≡ true → P s) → Each P rs
keys_each P es rs k h = each_of P rs (λ (s : Edge) (o : occurs s rs ≡ true). h s (sym (k.same s) ∙ o))
