-- Lemmas over points and lists: the edges of segments, none of which ends where it starts.
use Rattle.std.proofs.Common.{◌≡◌, ℕ, ◌+◌, ◌<◌, ◌≤◌, Bool, true, false, cond, List, [], ◌∷◌, ◌++◌, length, take, get_or, sym, subst}
use Rattle.std.specs.Prelude.{pos, int_lt}
use Rattle.std.specs.List.{All}
use Rattle.std.proofs.lemmas.Bool.{both_ways, false≢true}
use Rattle.std.proofs.lemmas.List.{take_more, take_all}
use Rattle.std.proofs.lemmas.List.Elements.{All-head, All-tail}
use Rattle.mesh_plane.specs.Plane.{Edge}
use Rattle.mesh_num.specs.Segments.{SignedEdge, IsSubject, edge_of, edges_of}
use Rattle.mesh_plane.specs.Winding.{same_point}
use Rattle.mesh_lattice.specs.Clean.{IsProper}
use Rattle.mesh_lattice.proofs.SoundSplits.{ProperEnds, each_proper, proper_each}
use Rattle.mesh_lattice.proofs.Ends.{forward_proper}
use Rattle.mesh_lattice.proofs.Each.{Each, each_append}
use Rattle.mesh_plane.proofs.Comparing.{decides_point}

subject_ends : (s : SignedEdge) → IsSubject s → ProperEnds (edge_of s)
subject_ends s h = by (int_lt (pos 0) s.1)
  where
    differ : s.0.0 ≡ s.0.1 → ⊥
    differ e = both_ways (same_point s.0.0 s.0.1) (forward_proper s.0 h.ordered) ((decides_point s.0.0 s.0.1).1 e)

    by : (b : Bool) → ProperEnds (cond b s.0 (s.0.1, s.0.0))
    by true = differ
    by false = λ e. differ (sym e)

subjects_each : (ss : List SignedEdge) → All IsSubject ss → Each ProperEnds (edges_of ss)
subjects_each [] h = tt
subjects_each (s ∷ ss) h = (subject_ends s (All-head IsSubject s ss h), subjects_each ss (All-tail IsSubject s ss h))

pub subjects_proper : (ss : List SignedEdge) → All IsSubject ss → IsProper (edges_of ss)
subjects_proper ss h = each_proper (edges_of ss) (subjects_each ss h)

-- ---- edges gone through one by one

pub proper_none : IsProper []
proper_none e o = absurd (false≢true o)

pub proper_more : (es : List Edge) (i : ℕ) (d : Edge) → i < length es → same_point (get_or es i d).0 (get_or es i d).1 ≡ false → IsProper (take i es) → IsProper (take (i + 1) es)
proper_more es i d h proper before =
    subst (λ (x : List Edge). IsProper x) (sym (take_more es i d h))
    (each_proper (take i es ++ get_or es i d ∷ []) (each_append ProperEnds (take i es) (get_or es i d ∷ []) (proper_each (take i es) before) (ends, tt)))
  where
    ends : ProperEnds (get_or es i d)
    ends e = both_ways _ proper ((decides_point (get_or es i d).0 (get_or es i d).1).1 e)

pub proper_whole : (es : List Edge) (i : ℕ) → length es ≤ i → IsProper (take i es) → IsProper es
proper_whole es i h proper = subst (λ (x : List Edge). IsProper x) (take_all i es h) proper
