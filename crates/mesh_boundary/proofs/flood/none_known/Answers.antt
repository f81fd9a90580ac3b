use Rattle.std.proofs.Common.{◌≡◌, ℕ, Option, None, List, get_or, refl, sym, subst}
use Rattle.std.specs.Prelude.{ℤ}
use Rattle.mesh_boundary.proofs.Levels.{all_unknown}
use Rattle.mesh_boundary.proofs.StarLists.{each_more}
use Rattle.mesh_boundary.proofs.flood.none_known.Goals as goal

pub loop-made-preserved : goal.loop-made-preserved
loop-made-preserved c =
    subst (λ (l : List (Option ℤ)). (k : ℕ) → get_or l k None ≡ None) (sym c.in_ok-push.ensures.items)
    (each_more (λ (o : Option ℤ). o ≡ None) None None c.loop-made.known.items c.loop-made.invariant refl)

pub returns : goal.returns
returns c = λ es ks. all_unknown es ks c.loop-made.known.items c.loop-made.invariant
