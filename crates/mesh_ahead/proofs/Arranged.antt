-- Lemmas over lists: edges in another order stand for the same.
use Rattle.std.proofs.Common.{◌≡◌, ◌||◌, Bool, ℕ, ◌+◌, ◌<◌, List, [], ◌∷◌, ◌++◌, length, map, take, get_or, refl, sym, ◌∙◌, ap}
use Rattle.std.specs.List.{list_any}
use Rattle.std.specs.List.Sorted.{IsPermutation}
use Rattle.std.proofs.lemmas.List.{map-append, take_more}
use Rattle.std.proofs.lemmas.List.Sorted.{list_any-IsPermutation}
use Rattle.mesh_plane.specs.Plane.{Edge}
use Rattle.mesh_plane.proofs.Sums.{sum_of_permutation}
use Rattle.mesh_lattice.specs.Clean.{IsProper}
use Rattle.mesh_lattice.specs.Counted.{along, bit, Counted, IsCountOf}
use Rattle.mesh_lattice.specs.Split.{occurs, same_ends}
use Rattle.mesh_attempt.specs.Attempts.{AreCut}
use Rattle.mesh_attempt.specs.declared.attempt.CutEdges.{CutEdges}

occurs_any : (e : Edge) (es : List Edge) → occurs e es ≡ list_any (same_ends e) es
occurs_any e [] = refl
occurs_any e (d ∷ es) = ap (λ (b : Bool). same_ends e d || b) (occurs_any e es)

occurs_alike : (es fs : List Edge) → IsPermutation es fs → (e : Edge) → occurs e es ≡ occurs e fs
occurs_alike es fs same e = occurs_any e es ∙ (list_any-IsPermutation (same_ends e) es fs same ∙ sym (occurs_any e fs))

pub proper_arranged : (es fs : List Edge) → IsPermutation es fs → IsProper es → IsProper fs
proper_arranged es fs same proper e o = proper e (occurs_alike es fs same e ∙ o)

count_arranged : (es fs : List Edge) (ks : List Counted) → IsPermutation es fs → IsCountOf fs ks → IsCountOf es ks
count_arranged es fs ks same count = record {
  once = λ q. count.once q ∙ ap bit (sym (occurs_alike es fs same q));
  counts = λ q. count.counts q ∙ sum_of_permutation (along q) es fs same;
}

pub cut_arranged : (es fs : List Edge) (c : CutEdges) → IsPermutation es fs → AreCut fs c → AreCut es c
cut_arranged es fs c same cut = record { paths = cut.paths; count = count_arranged es fs _ same cut.count; small = cut.small; found = cut.found }
