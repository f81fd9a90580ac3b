-- Lemmas over answers: what holds of the direction of a vector that a call returns, if it returns one.
use Rattle.std.proofs.Common.{◌≡◌, ℕ, ◌≤◌}
use Rattle.std.specs.Prelude.{MatchOption, IfSome}
use Rattle.std.specs.declared.option.Option.{Option}
use Rattle.std.specs.declared.option.Option.TheVariants.{None, Some}
use Rattle.mesh_plane.specs.Plane.{Point, length_sq}
use Rattle.mesh_num.specs.Direction.{IsDirection, IsFresh, KeepsOpposites, SameWay, KeepsTurns}
use Rattle.mesh_num.proofs.Parts.{direction_fresh, direction_odd}
use Rattle.mesh_num.proofs.Turns.{direction_same_way, direction_keeps_turns}

-- what follows of the value of an option, if it has one
if_some : {A : Type 0} (r : Option A) (P : Type 0) (Q R : A → Type 0) → ((x : A) → Q x → R x) → MatchOption r P Q → IfSome r R
if_some None P Q R f h = tt
if_some (Some x) P Q R f h = f x h

pub keeps_turns_of : (unit : ℕ) (v : Point) (r : Option Point) → MatchOption r (length_sq v ≡ 0) (λ n. IsDirection unit v n) → IfSome r (λ n. KeepsTurns unit v n)
keeps_turns_of unit v r h = if_some r (length_sq v ≡ 0) (λ n. IsDirection unit v n) (λ n. KeepsTurns unit v n) (λ n d. direction_keeps_turns d) h

pub same_way_of : (unit : ℕ) (v : Point) (r : Option Point) → MatchOption r (length_sq v ≡ 0) (λ n. IsDirection unit v n) → IfSome r (λ n. SameWay unit v n)
same_way_of unit v r h = if_some r (length_sq v ≡ 0) (λ n. IsDirection unit v n) (λ n. SameWay unit v n) (λ n d. direction_same_way d) h

pub odd_of : (unit : ℕ) (v : Point) (r : Option Point) → MatchOption r (length_sq v ≡ 0) (λ n. IsDirection unit v n) → IfSome r (λ n. KeepsOpposites unit v n)
odd_of unit v r h = if_some r (length_sq v ≡ 0) (λ n. IsDirection unit v n) (λ n. KeepsOpposites unit v n) (λ n d. direction_odd d) h

pub fresh_of : (unit : ℕ) (v : Point) (r : Option Point) → 2 ≤ unit → MatchOption r (length_sq v ≡ 0) (λ n. IsDirection unit v n) → IfSome r (λ n. IsFresh unit n)
fresh_of unit v r l h = if_some r (length_sq v ≡ 0) (λ n. IsDirection unit v n) (λ n. IsFresh unit n) (λ n d. direction_fresh l d) h
