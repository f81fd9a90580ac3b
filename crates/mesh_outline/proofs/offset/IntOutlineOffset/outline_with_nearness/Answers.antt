-- What is counted is exact beyond the nearness.
use Rattle.std.proofs.Common.{ℕ, List}
use Rattle.std.proofs.lemmas.Result.{IfOk-weaker}
use Rattle.mesh_plane.specs.Plane.{Point}
use Rattle.mesh_shapes.specs.Resolution.{Choices}
use Rattle.mesh_split.specs.declared.count.SplitCount.{SplitCount}
use Rattle.mesh_join.specs.Styles.{OutlineStyle}
use Rattle.mesh_outline.specs.Nearness.{AreCountedOutlineRegions, AreOutlineRegionsBeyond}
use Rattle.mesh_outline.proofs.ReachOfAnswers.{outline_answers_reach}
use Rattle.mesh_outline.proofs.offset.IntOutlineOffset.outline_with_nearness.Goals as goal

exact : {k unit : ℕ} {style : OutlineStyle} {choices : Choices} {contours : List (List Point)} {answer : List (List (List Point))} {old new : SplitCount} →
    AreCountedOutlineRegions k unit style choices contours answer old new → AreOutlineRegionsBeyond k unit style choices contours answer
exact counted = counted.0

pub returns-clause-regions : goal.returns-clause-regions
returns-clause-regions g c = IfOk-weaker c.near_outline.result _ _ (λ near counted. exact counted) c.near_outline.ensures.standing

pub returns-clause-reach : goal.returns-clause-reach
returns-clause-reach g c =
    IfOk-weaker c.near_outline.result _ _
    (λ near counted. outline_answers_reach g.I.IntNumber.unit g.met.I.IntNumber.least_law _ _ _ _ _ (exact counted))
    c.near_outline.ensures.standing
