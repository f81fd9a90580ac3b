-- Lemmas over lists: what is known of each element.
use Rattle.std.proofs.Common.{◌≡◌, List, get_or, map, sym, ◌∙◌, subst}
use Rattle.std.specs.List.{All}
use Rattle.std.proofs.lemmas.List.Elements.{All-get_or}
use Rattle.mesh_plane.specs.Plane.{Edge}
use Rattle.mesh_lattice.specs.Counted.{IsCountOf}
use Rattle.mesh_points.specs.declared.edges.NumberedEdge.{NumberedEdge}
use Rattle.mesh_points.specs.Edges.{counted, no_edge}
use Rattle.mesh_pairs.specs.declared.pairs.Pairs.{Pairs}
use Rattle.mesh_pairs.specs.Pairs.{AreFound, AreSmall}
use Rattle.mesh_paths.specs.declared.paths.Paths.{Paths}
use Rattle.mesh_paths.specs.Paths.{ArePaths}
use Rattle.mesh_attempt.specs.Attempts.{AreCut, IsSmall}

pub small_at : (es : List NumberedEdge) → All IsSmall es → AreSmall es
small_at es h k l =
    let s : IsSmall (get_or es k no_edge) = All-get_or IsSmall es k no_edge l h in
    (s.start, s.end)

-- paths, and the pairs of the edges that they began as
pub cut_known : (given : List Edge) (es fs : List NumberedEdge) (paths : Paths) (pairs : Pairs) → ArePaths paths → paths.edges.items ≡ es → IsCountOf given (map counted es)
    → AreFound fs pairs → AreSmall fs → fs ≡ es → AreCut given (record { paths = paths; pairs = pairs })
cut_known given es fs paths pairs are edges count found small same = record {
  paths = are;
  count = subst (λ (l : List NumberedEdge). IsCountOf given (map counted l)) (sym edges) count;
  small = subst AreSmall (sym (edges ∙ sym same)) small;
  found = subst (λ (l : List NumberedEdge). AreFound l pairs) (same ∙ sym edges) found;
}
