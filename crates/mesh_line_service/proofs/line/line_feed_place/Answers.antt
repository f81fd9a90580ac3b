-- The byte that was looked at is no line feed.
use Rattle.std.proofs.Common.{◌≢◌, rules}
use Rattle.std.proofs.lemmas.List.Elements.{All-more}
use Rattle.mesh_line_service.proofs.line.line_feed_place.Goals as goal

pub loop-i-preserved : goal.loop-i-preserved
loop-i-preserved c = (search rules, All-more (λ byte. byte ≢ 10) _ _ 0 (search rules) c.loop-i.invariant.1 (search rules))
