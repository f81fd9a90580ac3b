-- Lemmas over edges: those of a convex polygon stay as they are, and no split of them is counted.
use Rattle.std.proofs.Common.{◌≡◌, List, [], refl, arith}
use Rattle.mesh_plane.specs.Plane.{Edge}
use Rattle.mesh_lattice.specs.Clean.{IsProper}
use Rattle.mesh_lattice.specs.Counted.{Counted, IsCountOf}
use Rattle.mesh_lattice.specs.Split.{no_cut}
use Rattle.mesh_split.specs.Counting.{counted, CountsAmong}
use Rattle.mesh_split.specs.declared.count.SplitCount.{SplitCount}
use Rattle.mesh_split.proofs.Counts.{counts_one}
use Rattle.mesh_convex.specs.Convex.{IsConvexLoop}
use Rattle.mesh_convex.proofs.Clear.{loop_clean}
use Rattle.mesh_ahead.specs.Ahead.{IsMadeAmong}
use Rattle.mesh_ahead.proofs.ClearPaths.{made_by}

no_split : (es : List Edge) (old new : SplitCount) → new ≡ counted old 0 → CountsAmong 1 es old new []
no_split es old new sum = counts_one es old new [] no_cut sum

pub loop_made : (es : List Edge) (ks : List Counted) (old new : SplitCount) → IsConvexLoop es → IsProper es → IsCountOf es ks → new ≡ counted old 0 → IsMadeAmong 1 es old new ks 0
loop_made es ks old new c proper count sum =
    made_by 1 es [] ks 0 old new proper
    (record { reached = record { legal = no_cut; count = count }; clean = loop_clean es c proper })
    (record { witnessed = []; same = refl; near = tt; reached = λ l h. absurd (omega (arith, h)) })
    (no_split es old new sum)
