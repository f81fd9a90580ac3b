use Rattle.std.proofs.Common.{subst, sym}
use Rattle.std.specs.Prelude.{List, pos}
use Rattle.std.specs.List.{All}
use Rattle.std.proofs.lemmas.List.Sorted.{All-permutation}
use Rattle.mesh_plane.specs.Plane.{Point}
use Rattle.mesh_in_line.specs.Private.Lines.{turned, IsEndOfSome}
use Rattle.mesh_in_line.proofs.Placed.{added_all}
use Rattle.mesh_in_line.proofs.places.places.Goals as goal

pub loop-p-preserved : goal.loop-p-preserved
loop-p-preserved c =
    let sorted = All-permutation (λ p. IsEndOfSome c.args.edges.now (turned c.args.level p)) _ _ c.sort_unstable.ensures.permutation c.in_ok-ends.ensures in
    let all = subst (λ (ps : List Point). All (λ p. IsEndOfSome c.args.edges.now (turned c.args.level p)) ps) (sym c.deref-p-items.ensures.value) sorted in (
      c.in_ok-push_rising.ensures.rising,
      added_all (λ p. IsEndOfSome c.args.edges.now (turned c.args.level p)) c.loop-p.places.items c.push_rising.new.places.items _ c.in_ok-push_rising.ensures.added c.loop-p.invariant.1 (all c.loop-p.p-index (pos 0, pos 0) c.loop-p-test.true),
    )
