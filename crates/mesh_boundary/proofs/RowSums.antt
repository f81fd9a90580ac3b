-- Lemmas over lists: sums over the row of a point.
use Rattle.std.proofs.Common.{◌≡◌, Bool, true, false, cond, List, [], ◌∷◌, get_or, refl, sym, ◌∙◌, ap, subst, arith}
use Rattle.std.specs.Prelude.{ℤ, pos, ◌*ℤ◌, ◌≤ℤ◌, Vec}
use Rattle.std.specs.declared.alloc.Global.{Global}
use Rattle.std.specs.List.{filter}
use Rattle.std.proofs.lemmas.Int.{ints}
use Rattle.mesh_plane.specs.Plane.{Point}
use Rattle.mesh_plane.specs.Winding.{sum_of, crossing_on}
use Rattle.mesh_plane.proofs.Whole.{linear, mul_zero}
use Rattle.mesh_lattice.specs.declared.places.Mark.{Mark}
use Rattle.mesh_lattice.specs.Counted.{Counted, size}
use Rattle.mesh_lattice.specs.Marks.{place}
use Rattle.mesh_lattice.specs.Rows.{reaches_row, AreRows}
use Rattle.mesh_lattice.proofs.RowLists.{row_is, row_total}
use Rattle.mesh_boundary.specs.Private.CountedSides.{counted_winding}
use Rattle.mesh_boundary.proofs.SidesCode.{size_least}

-- a sum over some of a list is at most that over all
pub filtered_sum : {A : Type 0} (f : A → ℤ) → ((x : A) → pos 0 ≤ℤ f x) → (t : A → Bool) (xs : List A) → sum_of f (filter t xs) ≤ℤ sum_of f xs
filtered_sum f least t [] = omega (arith, ints)
filtered_sum f least t (x ∷ xs) = by (filtered_sum f least t xs) (t x) refl
  where
    by : sum_of f (filter t xs) ≤ℤ sum_of f xs → (b : Bool) → t x ≡ b → sum_of f (cond b (x ∷ filter t xs) (filter t xs)) ≤ℤ sum_of f (x ∷ xs)
    by rest true h = omega (arith, linear)
    by rest false h = omega (arith, linear, least x)

pub row_sum : (ms : List Mark) (lists : List (Vec Counted Global)) (ks row : List Counted) (q : Point) → AreRows ms lists ks
    → ((d : Vec Counted Global) → row ≡ (get_or lists (place ms q.1) d).items) → counted_winding q row ≡ counted_winding q ks
row_sum ms lists ks row q rows is =
    row_total ms ks row q (λ (k : Counted). k.1 *ℤ crossing_on 2 q k.0.0 k.0.1) (row_is ms lists ks row q rows is) (λ k h. ap (λ (z : ℤ). k.1 *ℤ z) h ∙ mul_zero k.1)

pub row_size : (ms : List Mark) (lists : List (Vec Counted Global)) (ks row : List Counted) (q : Point) → AreRows ms lists ks
    → ((d : Vec Counted Global) → row ≡ (get_or lists (place ms q.1) d).items) → sum_of size row ≤ℤ sum_of size ks
row_size ms lists ks row q rows is =
    subst (λ (l : List Counted). sum_of size l ≤ℤ sum_of size ks) (sym (row_is ms lists ks row q rows is)) (filtered_sum size size_least (reaches_row ms (place ms q.1)) ks)
