use Rattle.std.proofs.Common.{◌≡◌, [], map, MatchOption}
use Rattle.mesh_num.specs.Rectangle.{IsBounds}
use Rattle.mesh_num.proofs.num.rect.IntRect.with_iter.Given as goal

abbrev pub invariant-loop-point : goal.invariant-loop-point
invariant-loop-point g l = MatchOption l.bounds (l.yielded ≡ []) (λ r. IsBounds r (map (λ p. p.now) l.yielded))
