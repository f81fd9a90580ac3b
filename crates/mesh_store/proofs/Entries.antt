-- Lemmas over points and lists: the entries of a map of segments by their ends, sought, put in, set and taken out. The
-- order of the entries is any.
use Rattle.std.proofs.Common.{◌≡◌, ⊎_elim, ◌^◌, lit≤, Bool, true, false, cond, sym, ◌∙◌, ap, subst, refl, arith, List, [], ◌∷◌, Option, Some, None, Bor}
use Rattle.std.specs.Prelude.{ℤ, pos, ◌+ℤ◌, ◌≤ℤ◌, ◌<ℤ◌, IfSome, MatchOption}
use Rattle.std.specs.List.{All}
use Rattle.std.specs.List.Sorted.{IsPermutation}
use Rattle.std.specs.Map.{lookup, keys_of, remove_entry, set_value}
use Rattle.std.specs.Option.{option_map, option_copied}
use Rattle.std.proofs.lemmas.Bool.{both_ways, cases_Bool}
use Rattle.std.proofs.lemmas.Int.{ints}
use Rattle.std.proofs.lemmas.Option.{none-some}
use Rattle.std.proofs.lemmas.List.Elements.{All-cons, All-head, All-tail}
use Rattle.std.proofs.lemmas.Map.Views.{All-map-remove_entry, All-map-IsPermutation}
use mir.Syntax.{w128}
use mir.Val.{to_z, of_z, SFits}
use Rattle.mesh_plane.specs.Bounds.{IsSmall}
use Rattle.mesh_plane.specs.Order.{point_lt}
use Rattle.mesh_plane.specs.Plane.{Edge}
use Rattle.mesh_plane.specs.Winding.{sum_of}
use Rattle.mesh_plane.proofs.Sums.{sum_of_permutation}
use Rattle.mesh_plane.proofs.Whole.{linear}
use Rattle.mesh_lattice.specs.Split.{back, same_edge, same_ends}
use Rattle.mesh_lattice.specs.Counted.{Counted, bit, times}
use Rattle.mesh_store.specs.Steps.{exactly, IsForward, IsTaken, IsRaised, IsNew, HaveRoom}
use Rattle.mesh_store.specs.Witnesses.{edge_eq}
use Rattle.mesh_lattice.specs.Counted.{size}
use Rattle.mesh_lattice.proofs.Ends.{decides_edge, decides_ends}
use Rattle.mesh_lattice.proofs.Arithmetic.{small_kept, small_fits}
use Rattle.mesh_lattice.proofs.Counts.{bit_least}

opened : (e f : Edge) → same_edge e f ≡ edge_eq e f
unfolding same_edge
opened e f = refl

pub edge_equal : (e f : Edge) → edge_eq e f ≡ true → e ≡ f
edge_equal e f h = (decides_edge e f).0 (opened e f ∙ h)

pub equal_self : (e : Edge) → edge_eq e e ≡ true
equal_self e = sym (opened e e) ∙ (decides_edge e e).1 refl

-- ---- edges with the lesser end first

pub asymmetric : (a b x y : ℤ) → point_lt (a, b) (x, y) ≡ true → point_lt (x, y) (a, b) ≡ true → ⊥
asymmetric a b x y h k = grind (arith, ints)

pub one_forward : (e f : Edge) → IsForward e → IsForward f → same_ends e f ≡ true → e ≡ f
one_forward e f h k t =
    ⊎_elim
    (λ (p : e ≡ f). p)
    (λ (p : e ≡ back f). absurd (asymmetric f.0.0 f.0.1 f.1.0 f.1.1 k (ap (λ (v : Edge). point_lt v.0 v.1) (sym p) ∙ h)))
    ((decides_ends e f).0 t)

-- ---- the entry of a key

abbrev found : Edge → List Counted → Option ℤ
found k es = lookup (edge_eq k) es

pub exactly_least : (q : Edge) (ks : List Counted) → pos 0 ≤ℤ exactly q ks
exactly_least q [] = omega (arith, ints)
exactly_least q (k ∷ ks) = omega (arith, linear, bit_least (same_edge q k.0), exactly_least q ks)

pub size_least : (ks : List Counted) → pos 0 ≤ℤ sum_of size ks
size_least [] = omega (arith, ints)
size_least (k ∷ ks) = omega (arith, ints, size_least ks)

-- a fact that holds of lists whose first entry has the key, and of longer lists
by_found : (P : List Counted → Type 0) (k : Edge) (m : ℤ) → ((es : List Counted) → P ((k, m) ∷ es)) → ((e : Counted) (es : List Counted) → P es → P (e ∷ es))
    → (es : List Counted) → found k es ≡ Some m → P es
by_found P k m here there [] h = absurd (none-some m h)
by_found P k m here there (e ∷ es) h =
    ⊎_elim
    (λ (t : edge_eq k e.0 ≡ true).
    let value : Some e.1 ≡ Some m = ap (λ (b : Bool). cond b (Some e.1) (found k es)) (sym t) ∙ h in
    let count : e.1 ≡ m = cc in
    let ends : k ≡ e.0 = edge_equal k e.0 t in
    subst (λ (x : Counted). P (x ∷ es)) (λ i. (ends i, sym count i)) (here es))
    (λ (f : edge_eq k e.0 ≡ false).
    there e es (by_found P k m here there es (ap (λ (b : Bool). cond b (Some e.1) (found k es)) (sym f) ∙ h)))
    (cases_Bool (edge_eq k e.0))

pub found_stands : (k : Edge) (m : ℤ) (es : List Counted) → lookup (edge_eq k) es ≡ Some m → pos 0 <ℤ exactly k es
found_stands k m es h =
    by_found (λ (es : List Counted). pos 0 <ℤ exactly k es) k m
    (λ (es : List Counted). let one = ap bit ((decides_edge k k).1 refl) in omega (arith, linear, one, exactly_least k es))
    (λ (e : Counted) (es : List Counted) (p : pos 0 <ℤ exactly k es). omega (arith, linear, bit_least (same_edge k e.0)))
    es h

pub found_size : (k : Edge) (m : ℤ) (es : List Counted) → lookup (edge_eq k) es ≡ Some m → size (k, m) ≤ℤ sum_of size es
found_size k m es h =
    by_found (λ (es : List Counted). size (k, m) ≤ℤ sum_of size es) k m
    (λ (es : List Counted). omega (arith, ints, size_least es))
    (λ (e : Counted) (es : List Counted) (p : size (k, m) ≤ℤ sum_of size es). omega (arith, ints))
    es h

pub absent : (k : Edge) (es : List Counted) → IsForward k → All IsForward (keys_of es) → found k es ≡ None → times k es ≡ pos 0
absent k [] f all h = refl
absent k (e ∷ es) f all h =
    ⊎_elim
    (λ (t : edge_eq k e.0 ≡ true).
    let value : Some e.1 ≡ None = ap (λ (b : Bool). cond b (Some e.1) (found k es)) (sym t) ∙ h in
    absurd (none-some e.1 (sym value)))
    (λ (n : edge_eq k e.0 ≡ false).
    let other : same_ends k e.0 ≡ false =
    ⊎_elim
    (λ (t : same_ends k e.0 ≡ true).
    let same = one_forward k e.0 f (All-head IsForward e.0 (keys_of es) all) t in
    absurd (both_ways (edge_eq k e.0) n (ap (λ (x : Edge). edge_eq k x) (sym same) ∙ equal_self k)))
    (λ (o : same_ends k e.0 ≡ false). o)
    (cases_Bool (same_ends k e.0)) in
    omega (arith, linear, ap bit other, absent k es f (All-tail IsForward e.0 (keys_of es) all) (ap (λ (b : Bool). cond b (Some e.1) (found k es)) (sym n) ∙ h)))
    (cases_Bool (edge_eq k e.0))

-- ---- an insert

-- what a call of `insert` says of the entries, where the key was there and where it was not
pub set_where_found : (o : Option ℤ) (m : ℤ) (P : Type 0) (Q : ℤ → Type 0) → o ≡ Some m → MatchOption o P Q → Q m
set_where_found o m P Q e h = subst (λ (x : Option ℤ). MatchOption x P Q) e h

pub put_where_absent : (o : Option ℤ) (P : Type 0) (Q : ℤ → Type 0) → o ≡ None → MatchOption o P Q → P
put_where_absent o P Q e h = subst (λ (x : Option ℤ). MatchOption x P Q) e h

pub insert_put : (k : Counted) (es left : List Counted) → IsPermutation (k ∷ es) left → (g : Counted → ℤ) → sum_of g left ≡ sum_of g es +ℤ g k
insert_put k es left h g = omega (arith, linear, sum_of_permutation g (k ∷ es) left h)

pub inserted_new : (k : Counted) (es left : List Counted) → IsForward k.0 → All IsForward (keys_of es) → found k.0 es ≡ None
    → IsPermutation (k ∷ es) left → IsNew es left k
inserted_new k es left f all h p = record { absent = absent k.0 es f all h; totals = insert_put k es left p }

pub forward_put : (k : Counted) (es left : List Counted) → IsForward k.0 → All IsForward (keys_of es) → IsPermutation (k ∷ es) left → All IsForward (keys_of left)
forward_put k es left f all p = All-map-IsPermutation (λ (e : Counted). e.0) IsForward (k ∷ es) left p (All-cons IsForward k.0 (keys_of es) f all)

value_set : (q : Edge) (m v : ℤ) (es : List Counted) (g : Counted → ℤ) → found q es ≡ Some m
    → sum_of g (set_value (edge_eq q) es v) +ℤ g (q, m) ≡ sum_of g es +ℤ g (q, v)
value_set q m v [] g h = absurd (none-some m h)
value_set q m v (e ∷ es) g h =
    ⊎_elim
    (λ (t : edge_eq q e.0 ≡ true).
    let value : Some e.1 ≡ Some m = ap (λ (b : Bool). cond b (Some e.1) (found q es)) (sym t) ∙ h in
    let count : e.1 ≡ m = cc in
    let ends : q ≡ e.0 = edge_equal q e.0 t in
    let first : g e ≡ g (q, m) = λ i. g (sym ends i, count i) in
    let second : g (e.0, v) ≡ g (q, v) = λ i. g (sym ends i, v) in
    let set : sum_of g (cond (edge_eq q e.0) ((e.0, v) ∷ es) (e ∷ set_value (edge_eq q) es v)) ≡ g (e.0, v) +ℤ sum_of g es =
    ap (λ (b : Bool). sum_of g (cond b ((e.0, v) ∷ es) (e ∷ set_value (edge_eq q) es v))) t in
    omega (arith, linear, first, second, set))
    (λ (n : edge_eq q e.0 ≡ false).
    let rest = value_set q m v es g (ap (λ (b : Bool). cond b (Some e.1) (found q es)) (sym n) ∙ h) in
    let set : sum_of g (cond (edge_eq q e.0) ((e.0, v) ∷ es) (e ∷ set_value (edge_eq q) es v)) ≡ g e +ℤ sum_of g (set_value (edge_eq q) es v) =
    ap (λ (b : Bool). sum_of g (cond b ((e.0, v) ∷ es) (e ∷ set_value (edge_eq q) es v))) n in
    omega (arith, linear, rest, set))
    (cases_Bool (edge_eq q e.0))

pub inserted_raised : (k : Counted) (m v : ℤ) (es left : List Counted) → found k.0 es ≡ Some m → v ≡ m +ℤ k.1
    → left ≡ set_value (edge_eq k.0) es v → IsRaised es left k
inserted_raised k m v es left h e set = record {
  was = m;
  stood = found_stands k.0 m es h;
  totals = λ g.
      ap (λ (ks : List Counted). sum_of g ks +ℤ g (k.0, m)) set
      ∙ value_set k.0 m v es g h
      ∙ ap (λ (n : ℤ). sum_of g es +ℤ g (k.0, n)) e;
}

-- what was set is found
pub found_set : (k : Edge) (m v : ℤ) (es : List Counted) → lookup (edge_eq k) es ≡ Some m → lookup (edge_eq k) (set_value (edge_eq k) es v) ≡ Some v
found_set k m v es h =
    by_found (λ (es : List Counted). found k (set_value (edge_eq k) es v) ≡ Some v) k m
    (λ (es : List Counted). first (k, m) es (equal_self k))
    (λ (e : Counted) (es : List Counted) (p : found k (set_value (edge_eq k) es v) ≡ Some v).
    ⊎_elim
    (λ (t : edge_eq k e.0 ≡ true). first e es t)
    (λ (n : edge_eq k e.0 ≡ false).
    ap (λ (b : Bool). found k (cond b ((e.0, v) ∷ es) (e ∷ set_value (edge_eq k) es v))) n
    ∙ ap (λ (b : Bool). cond b (Some e.1) (found k (set_value (edge_eq k) es v))) n
    ∙ p)
    (cases_Bool (edge_eq k e.0)))
    es h
  where
    first : (e : Counted) (es : List Counted) → edge_eq k e.0 ≡ true → found k (set_value (edge_eq k) (e ∷ es) v) ≡ Some v
    first e es t =
        ap (λ (b : Bool). found k (cond b ((e.0, v) ∷ es) (e ∷ set_value (edge_eq k) es v))) t ∙ ap (λ (b : Bool). cond b (Some v) (found k es)) t

-- a count is set, and then raised by what it was
pub inserted_twice : (k : Counted) (m v w : ℤ) (es between left : List Counted) → found k.0 es ≡ Some m → w ≡ m +ℤ k.1
    → between ≡ set_value (edge_eq k.0) es v → left ≡ set_value (edge_eq k.0) between w → IsRaised es left k
inserted_twice k m v w es between left h e set again = record {
  was = m;
  stood = found_stands k.0 m es h;
  totals = λ g.
      let stands : found k.0 between ≡ Some v = ap (found k.0) set ∙ found_set k.0 m v es h in
      let first = ap (sum_of g) set in
      let second = ap (sum_of g) again in
      let sum : g (k.0, w) ≡ g (k.0, m +ℤ k.1) = ap (λ (n : ℤ). g (k.0, n)) e in
      omega (arith, linear, first, second, sum, value_set k.0 m v es g h, value_set k.0 v w between g stands);
}

set_keys : (q : Edge) (v : ℤ) (es : List Counted) → keys_of (set_value (edge_eq q) es v) ≡ keys_of es
set_keys q v [] = refl
set_keys q v (e ∷ es) = step (edge_eq q e.0) (set_keys q v es)
  where
    step : (b : Bool) → keys_of (set_value (edge_eq q) es v) ≡ keys_of es → keys_of (cond b ((e.0, v) ∷ es) (e ∷ set_value (edge_eq q) es v)) ≡ keys_of (e ∷ es)
    step true h = refl
    step false h = ap (λ (ks : List Edge). e.0 ∷ ks) h

pub forward_set : (q : Edge) (v : ℤ) (es left : List Counted) → left ≡ set_value (edge_eq q) es v → All IsForward (keys_of es) → All IsForward (keys_of left)
forward_set q v es left set all = subst (All IsForward) (sym (ap (λ (ks : List Counted). keys_of ks) set ∙ set_keys q v es)) all

-- ---- a sum of two counts

-- what the program adds to a count that stands
pub record HasRoom (m n : ℤ) : Type 0 where
  pub fits : SFits w128 (to_z w128 (of_z w128 m) +ℤ to_z w128 (of_z w128 n))
  pub kept : to_z w128 (of_z w128 (to_z w128 (of_z w128 m) +ℤ to_z w128 (of_z w128 n))) ≡ m +ℤ n

pub has_room : (ks : List Counted) (k : Counted) (m : ℤ) → HaveRoom ks k → size (k.0, m) ≤ℤ sum_of size ks → HasRoom m k.1
has_room ks k m room stands =
    let a : IsSmall (2 ^ 121) m = record { low = omega (arith, ints, room, size_least ks); high = omega (arith, ints, room, size_least ks) } in
    let b : IsSmall (2 ^ 121) k.1 = record { low = omega (arith, ints, room, size_least ks); high = omega (arith, ints, room, size_least ks) } in
    let c : IsSmall (2 ^ 121) (m +ℤ k.1) = record { low = omega (arith, ints, room); high = omega (arith, ints, room) } in
    let p = small_kept (2 ^ 121) m (lit≤ tt) a in
    let q = small_kept (2 ^ 121) k.1 (lit≤ tt) b in
    record {
      fits = simp (p, q) (small_fits (2 ^ 121) (m +ℤ k.1) (lit≤ tt) c);
      kept = simp (p, q) (small_kept (2 ^ 121) (m +ℤ k.1) (lit≤ tt) c);
    }

pub count_kept : (ks : List Counted) (k : Counted) → HaveRoom ks k → to_z w128 (of_z w128 k.1) ≡ k.1
count_kept ks k room =
    let b : IsSmall (2 ^ 121) k.1 = record { low = omega (arith, ints, room, size_least ks); high = omega (arith, ints, room, size_least ks) } in
    small_kept (2 ^ 121) k.1 (lit≤ tt) b

-- ---- an entry taken out

entry_taken : (k : Edge) (m : ℤ) (es : List Counted) → found k es ≡ Some m → IsTaken es (remove_entry (edge_eq k) es) (k, m)
entry_taken k m [] h g = absurd (none-some m h)
entry_taken k m (e ∷ es) h g =
    ⊎_elim
    (λ (t : edge_eq k e.0 ≡ true).
    let value : Some e.1 ≡ Some m = ap (λ (b : Bool). cond b (Some e.1) (found k es)) (sym t) ∙ h in
    let count : e.1 ≡ m = cc in
    let ends : k ≡ e.0 = edge_equal k e.0 t in
    let same : g e ≡ g (k, m) = λ i. g (sym ends i, count i) in
    let left : sum_of g (cond (edge_eq k e.0) es (e ∷ remove_entry (edge_eq k) es)) ≡ sum_of g es = ap (λ (b : Bool). sum_of g (cond b es (e ∷ remove_entry (edge_eq k) es))) t in
    omega (arith, linear, same, left))
    (λ (f : edge_eq k e.0 ≡ false).
    let rest = entry_taken k m es (ap (λ (b : Bool). cond b (Some e.1) (found k es)) (sym f) ∙ h) g in
    let left : sum_of g (cond (edge_eq k e.0) es (e ∷ remove_entry (edge_eq k) es)) ≡ g e +ℤ sum_of g (remove_entry (edge_eq k) es) =
    ap (λ (b : Bool). sum_of g (cond b es (e ∷ remove_entry (edge_eq k) es))) f in
    omega (arith, linear, rest, left))
    (cases_Bool (edge_eq k e.0))

-- the entry that was removed is that of the ends asked for
same_ends_asked : (k : Edge) (s : Counted) → edge_eq k s.0 ≡ true → s ≡ (k, s.1)
same_ends_asked k s e = let ends : k ≡ s.0 = edge_equal k s.0 e in λ i. (sym ends i, s.1)

pub removed_taken : (k : Edge) (was es left : List Counted) (s : Counted) → es ≡ was → IsPermutation (remove_entry (edge_eq k) es) left → edge_eq k s.0 ≡ true → Some s.1 ≡ found k es →
    IsTaken was left s
removed_taken k was es left s same removed key value =
    subst (λ (x : List Counted × Counted). IsTaken x.0 left x.1) (λ i. (same i, sym (same_ends_asked k s key) i))
    (λ g. omega (arith, linear, entry_taken k s.1 es (sym value) g, sum_of_permutation g (remove_entry (edge_eq k) es) left removed))

pub removed_left : (k : Edge) (was es left : List Counted) → es ≡ was → IsPermutation (remove_entry (edge_eq k) es) left → All IsForward (keys_of was) → All IsForward (keys_of left)
removed_left k was es left same removed all =
    All-map-IsPermutation (λ (e : Counted). e.0) IsForward (remove_entry (edge_eq k) es) left removed
    (All-map-remove_entry (edge_eq k) (λ (e : Counted). e.0) IsForward es (subst (λ (ks : List Counted). All IsForward (keys_of ks)) (sym same) all))

pub removed_forward : (k : Edge) (was es : List Counted) (s : Counted) → es ≡ was → edge_eq k s.0 ≡ true → Some s.1 ≡ found k es → All IsForward (keys_of was) → IsForward s.0
removed_forward k was es s same key value all =
    subst IsForward (edge_equal k s.0 key)
    (by_found (λ (es : List Counted). All IsForward (keys_of es) → IsForward k) k s.1
    (λ (es : List Counted) (a : All IsForward (keys_of ((k, s.1) ∷ es))). All-head IsForward k (keys_of es) a)
    (λ (e : Counted) (es : List Counted) (p : All IsForward (keys_of es) → IsForward k) (a : All IsForward (keys_of (e ∷ es))). p (All-tail IsForward e.0 (keys_of es) a))
    es (sym value) (subst (λ (ks : List Counted). All IsForward (keys_of ks)) (sym same) all))

-- ---- some entry taken out

-- the first item of an iterator over keys
pub first_key : (ks rest : List Edge) (o : Option (Bor Edge)) (k : Edge) → MatchOption o ((ks ≡ []) × (rest ≡ [])) (λ x. ks ≡ x.now ∷ rest) → option_copied o ≡ Some k → ks ≡ k ∷ rest
first_key ks rest None k h e = absurd (none_of e)
  where
    none_of : {k : Edge} → None ≡ Some k → ⊥
    none_of h = cc
first_key ks rest (Some x) k h e = h ∙ ap (λ (p : Edge). p ∷ rest) (known e)
  where
    known : Some x.now ≡ Some k → x.now ≡ k
    known e = cc

-- the first key is found
pub first_found : (k : Edge) (ks : List Edge) (es : List Counted) → keys_of es ≡ k ∷ ks → found k es ≡ None → ⊥
first_found k ks [] h n = none_of h
  where
    none_of : {k : Edge} {ks : List Edge} → [] ≡ k ∷ ks → ⊥
    none_of h = cc
first_found k ks (e ∷ es) h n =
    let same : e.0 ≡ k = cc in
    let equal : edge_eq k e.0 ≡ true = ap (edge_eq k) same ∙ equal_self k in
    none-some e.1 (sym (sym (ap (λ (b : Bool). cond b (Some e.1) (found k es)) equal) ∙ n))

pub some_taken : (k : Edge) (was es left : List Counted) (o : Option Counted) → es ≡ was → (found k es ≡ None → ⊥) → IsPermutation (remove_entry (edge_eq k) es) left
    → IfSome o (λ s. edge_eq k s.0 ≡ true) → option_map (λ (s : Counted). s.1) o ≡ found k es → MatchOption o ((was ≡ []) × (left ≡ [])) (λ s. IsTaken was left s)
some_taken k was es left None same stands removed key value = absurd (stands (sym value))
some_taken k was es left (Some s) same stands removed key value = removed_taken k was es left s same removed key value

pub some_forward : (k : Edge) (was es : List Counted) (o : Option Counted) → es ≡ was → IfSome o (λ s. edge_eq k s.0 ≡ true) → option_map (λ (s : Counted). s.1) o ≡ found k es
    → All IsForward (keys_of was) → IfSome o (λ s. IsForward s.0)
some_forward k was es None same key value all = tt
some_forward k was es (Some s) same key value all = removed_forward k was es s same key value all
