-- Lemmas over lists: the edges that are drawn of many paths, one after another, can be resolved together, into regions.
use Rattle.std.proofs.Common.{◌≡◌, ℕ, ◌+◌, ◌<◌, List, [], ◌∷◌, ◌++◌, length, take, get_or, refl, sym, subst, ◌∙◌, ap}
use Rattle.std.specs.List.{All, flat_map}
use Rattle.std.specs.List.Sorted.{IsPermutation}
use Rattle.std.proofs.lemmas.List.{take_more, take-append-drop, append-nil}
use Rattle.std.proofs.lemmas.List.Concat.{flat_map-append}
use Rattle.std.proofs.lemmas.List.Elements.{All-nil, All-head, All-tail, All-append}
use Rattle.std.proofs.lemmas.List.Sorted.{IsPermutation-refl, IsPermutation-sym, IsPermutation-append, All-permutation}
use Rattle.mesh_plane.specs.Plane.{Point, Edge}
use Rattle.mesh_plane.specs.Winding.{IsBalanced}
use Rattle.mesh_plane.proofs.Balance.{balanced_append, balanced_permutation}
use Rattle.mesh_plane.proofs.ClosedLists.{all_flat_map}
use Rattle.mesh_num.specs.Segments.{SignedEdge, edges_of, IsSubject}
use Rattle.mesh_num.proofs.SegmentLists.{edges_of-append}
use Rattle.mesh_lattice.specs.Clean.{IsProper}
use Rattle.mesh_lattice.specs.FillRules.{filled}
use Rattle.mesh_lattice.specs.Reach.{AreEdgesSafe}
use Rattle.mesh_lattice.specs.declared.fill.FillRule.{FillRule}
use Rattle.mesh_lattice.proofs.SafeSplits.{IsSafeEdge}
use Rattle.mesh_lattice.proofs.SoundSplits.{ProperEnds}
use Rattle.mesh_shapes.specs.Resolution.{Choices, IsResolution}
use Rattle.mesh_below.specs.Asked.{AreResolvable}
use Rattle.mesh_below.specs.Laws.{AreRegions}
use Rattle.mesh_below.proofs.AnswerRegions.{regions_made, filled_none}
use Rattle.mesh_offset.specs.Adding.{Keeps, added, added_edges}
use Rattle.mesh_offset.specs.Built.{AreBuilt}
use Rattle.mesh_offset.specs.Staying.{IsSafeResolving}
use Rattle.mesh_offset.proofs.ProperEdges.{all_proper, proper_if_all, proper_permutation}
use Rattle.mesh_offset.proofs.Staying.{safe_resolving}

-- `draw` gives the edges of each path
module _ {P : Type 0} (draw : P → List Edge) where
  -- no path has an edge
  pub built_none : AreBuilt draw [] []
  built_none = record { same = IsPermutation-refl []; form = All-nil IsSubject }

  -- the edges of one path more
  drawn_more : (paths : List P) (i : ℕ) (d : P) → i < length paths
      → flat_map draw (take (i + 1) paths) ≡ flat_map draw (take i paths) ++ draw (get_or paths i d)
  drawn_more paths i d l =
      ap (flat_map draw) (take_more paths i d l)
      ∙ (flat_map-append draw (take i paths) (get_or paths i d ∷ [])
      ∙ ap (λ es. flat_map draw (take i paths) ++ es) (append-nil (draw (get_or paths i d))))

  -- and the segments that stand for them
  pub built_more : (paths : List P) (i : ℕ) (d : P) (old new : List SignedEdge) → i < length paths
      → AreBuilt draw (take i paths) old → Keeps old new
      → IsPermutation (added_edges old new) (draw (get_or paths i d)) → All IsSubject (added old new)
      → AreBuilt draw (take (i + 1) paths) new
  built_more paths i d old new l h kept edges form =
      let whole : new ≡ old ++ added old new =
      sym (take-append-drop (length old) new) ∙ ap (λ (ss : List SignedEdge). ss ++ added old new) kept in
      let from : edges_of new ≡ edges_of old ++ added_edges old new =
      ap edges_of whole ∙ edges_of-append old (added old new) in
      record {
        same =
            subst (λ es. IsPermutation (edges_of new) es) (sym (drawn_more paths i d l))
            (subst (λ es. IsPermutation es (flat_map draw (take i paths) ++ draw (get_or paths i d))) (sym from)
            (IsPermutation-append (edges_of old) (flat_map draw (take i paths)) (added_edges old new)
            (draw (get_or paths i d)) h.same edges));
        form = subst (All IsSubject) (sym whole) (All-append IsSubject old (added old new) h.form form);
      }

  all_balanced : (paths : List P) → All (λ (path : P). IsBalanced (draw path)) paths
      → IsBalanced (flat_map draw paths)
  all_balanced [] h = λ p. refl
  all_balanced (path ∷ paths) h =
      balanced_append (draw path) (flat_map draw paths) (All-head (λ (p : P). IsBalanced (draw p)) path paths h)
      (all_balanced paths (All-tail (λ (p : P). IsBalanced (draw p)) path paths h))

  module _ (unit : ℕ) (paths : List P) (safe : All (λ (path : P). AreEdgesSafe unit (draw path)) paths) where
    -- in whatever order they were built
    built_safe : (built : List Edge) → IsPermutation built (flat_map draw paths) → AreEdgesSafe unit built
    built_safe built same =
        All-permutation (IsSafeEdge unit) (flat_map draw paths) built
        (IsPermutation-sym built (flat_map draw paths) same) (all_flat_map (IsSafeEdge unit) draw paths safe)

    -- what is resolved of safe edges stays safe
    pub built_stays_safe : (built : List Edge) → IsPermutation built (flat_map draw paths)
        → IsSafeResolving unit built
    built_stays_safe built same = safe_resolving unit built (built_safe built same)

    -- what was built of balanced and safe edges can be resolved
    pub built_resolvable : All (λ (path : P). IsBalanced (draw path)) paths → (ss held : List SignedEdge)
        → held ≡ ss → AreBuilt draw paths ss → AreResolvable unit held
    built_resolvable balanced ss held e h = record {
      subject = rw e h.form;
      balanced =
          rw e (balanced_permutation (flat_map draw paths) (edges_of ss)
          (IsPermutation-sym (edges_of ss) (flat_map draw paths) h.same) (all_balanced paths balanced));
      safe = rw e (built_safe (edges_of ss) h.same);
    }

  -- where the edges of each path are proper and balanced, so are those of all, in whatever order they were built
  module _ (proper : (path : P) → IsProper (draw path)) (balanced : (path : P) → IsBalanced (draw path)) where
    pub built_closed : (paths : List P) (built : List Edge) → IsPermutation built (flat_map draw paths)
        → IsProper built × IsBalanced built
    built_closed paths built same =
        let back : IsPermutation (flat_map draw paths) built = IsPermutation-sym built (flat_map draw paths) same in
        let each : All ProperEnds (flat_map draw paths) =
        all_flat_map ProperEnds draw paths
        (λ k d h. all_proper (draw (get_or paths k d)) (proper (get_or paths k d))) in (
          proper_permutation (flat_map draw paths) built back (proper_if_all (flat_map draw paths) each),
          balanced_permutation (flat_map draw paths) built back
              (all_balanced paths (λ k d h. balanced (get_or paths k d))),
        )

    -- and their resolution is made of regions
    pub built_regions : (fill : FillRule) (choices : Choices) (paths : List P) (answer : List (List (List Point)))
        (built : List Edge) → IsPermutation built (flat_map draw paths)
        → (resolution : IsResolution built (filled fill) choices answer)
        → (made : AreRegions built (filled fill) choices answer) × (made.resolution ≡ resolution)
    built_regions fill choices paths answer built same resolution =
        let closed = built_closed paths built same in
        regions_made built (filled fill) choices answer closed.0 closed.1 (filled_none fill) resolution
