-- Lemmas over lists: the winding of one edge more, on the grid that is twice as fine.
use Rattle.std.proofs.Common.{◌≡◌, ℕ, ◌+◌, ◌^◌, ◌<◌, ◌≤◌, lit≤, sym, ◌∙◌, ap, subst, arith, List, [], ◌∷◌, length, get_or, take, take_all}
use Rattle.std.specs.Prelude.{ℤ, ◌+ℤ◌, unsigned_abs}
use mir.Syntax.{w128}
use mir.Val.{SFits, to_z, of_z}
use Rattle.std.proofs.lemmas.List.{take_more}
use Rattle.mesh_plane.specs.Bounds.{IsSmall}
use Rattle.mesh_plane.specs.Plane.{Point, Edge}
use Rattle.mesh_plane.specs.Winding.{crossing_on, refined, winding}
use Rattle.mesh_plane.proofs.Sizes.{small_size, sum_size}
use Rattle.mesh_plane.proofs.Sums.{total_append}
use Rattle.mesh_plane.proofs.Whole.{linear}
use Rattle.mesh_lattice.proofs.Arithmetic.{small_fits, small_kept, small_of_size}
use Rattle.mesh_nets.proofs.Meeting.{winding_finer}

pub winding_more : (m : ℕ) (q : Point) (es : List Edge) (i : ℕ) (d : Edge) → i < length es →
    winding m q (take (i + 1) es) ≡ winding m q (take i es) +ℤ crossing_on m q (get_or es i d).0 (get_or es i d).1
winding_more m q es i d low =
    ap (winding m q) (take_more es i d low)
    ∙ (total_append (crossing_on m q) (take i es) (get_or es i d ∷ [])
    ∙ omega (arith, linear))

pub winding_all : (p : Point) (es : List Edge) (i : ℕ) → length es ≤ i → winding 2 (refined 2 p) (take i es) ≡ winding 1 p es
winding_all p es i past = ap (winding 2 (refined 2 p)) (take_all i es past) ∙ winding_finer 2 1 p es (omega arith)

-- the next sum fits, is kept, and grows by at most 1
pub record IsNextSum (i : ℕ) (a b : ℤ) : Type 0 where
  pub fits : SFits w128 (a +ℤ to_z w128 (of_z w128 b))
  pub kept : to_z w128 (of_z w128 (a +ℤ to_z w128 (of_z w128 b))) ≡ a +ℤ b
  pub size : unsigned_abs (a +ℤ b) ≤ i + 1

pub next_sum : (i : ℕ) (a b : ℤ) → unsigned_abs a ≤ i → i < 2 ^ 64 → IsSmall 2 b → IsNextSum i a b
next_sum i a b h low s = record {
  fits = subst (λ (z : ℤ). SFits w128 (a +ℤ z)) (sym same) (small_fits (2 ^ 65) (a +ℤ b) (lit≤ tt) small);
  kept = ap (λ (z : ℤ). to_z w128 (of_z w128 (a +ℤ z))) same ∙ small_kept (2 ^ 65) (a +ℤ b) (lit≤ tt) small;
  size = grown;
}
  where
    same : to_z w128 (of_z w128 b) ≡ b
    same = small_kept 2 b (lit≤ tt) s

    grown : unsigned_abs (a +ℤ b) ≤ i + 1
    grown = sum_size a b i 1 h (let l = small_size 2 b s in omega (arith, l))

    small : IsSmall (2 ^ 65) (a +ℤ b)
    small = small_of_size (2 ^ 65) (a +ℤ b) (omega (arith, grown, low))
