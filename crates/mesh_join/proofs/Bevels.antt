-- Lemmas over points: what the theory of outlines needs of bevels.
use Rattle.std.proofs.Common.{◌≡◌, ℕ, Bool, true, false, refl, ap, arith, []}
use Rattle.std.specs.Prelude.{pos, ◌*ℤ◌, ◌≤ℤ◌, cond, List}
use Rattle.std.proofs.lemmas.Int.{ints}
use Rattle.std.proofs.lemmas.List.Elements.{All-nil, All-cons}
use Rattle.mesh_plane.specs.Plane.{Point, Edge, turn}
use Rattle.mesh_plane.specs.Winding.{route, same_point}
use Rattle.mesh_join.proofs.JoinLaws.{KeepsJoint, KeepsJoints}
use Rattle.mesh_join.specs.Bevels.{bevel_padding}
use Rattle.mesh_join.specs.Joins.{between, through}
use Rattle.mesh_arc.specs.Arcs.{sense_of}
use Rattle.mesh_join.specs.Joints.{Joint, IsTurn, IsWithinPadding}
use Rattle.mesh_join.specs.Styles.{JoinStyle}
use Rattle.mesh_join.specs.declared.style.IntLineJoin.TheVariants.{Bevel}

pub nothing_between : (a b : Point) → between a [] b ≡ []
nothing_between a b = by (same_point a b)
  where
    by : (t : Bool) → ◌≡◌ {A = List Point} (cond t [] []) []
    by true = refl
    by false = refl

-- a bevel is one edge
pub one_edge : (a b : Point) → through a [] b ≡ route a [] b
one_edge a b = ap (λ (points : List Point). route a points b) (nothing_between a b)

-- the style of bevels
abbrev bevels : ℕ → JoinStyle
bevels min_turn = record { kind = Bevel; min_turn = min_turn }

bevel_keeps_joint : (unit min_turn : ℕ) (j : Joint) → IsTurn unit j → KeepsJoint unit (bevels min_turn) j
bevel_keeps_joint unit min_turn j h = record {
  never_turns_back =
      rw (one_edge j.first j.last)
      (All-cons Ahead (j.first, j.last) [] h.no_turn_back (All-nil Ahead));
  near = rw (nothing_between j.first j.last) (All-nil (IsWithinPadding (bevel_padding j.radius) j.center));
  few = λ _. rw (one_edge j.first j.last) (omega arith);
}
  where
    Ahead : Edge → Type 0
    Ahead e = pos 0 ≤ℤ (sense_of j.sense *ℤ turn j.center e.0 e.1)

-- what holds of bevels
pub bevel_keeps : (unit min_turn : ℕ) → KeepsJoints unit (bevels min_turn)
bevel_keeps unit min_turn = record {
  covers = λ radius. omega (arith, ints);
  sized = λ radius. refl;
  joint = λ j _ _ h. bevel_keeps_joint unit min_turn j h;
}
