-- Lemmas over paths: those that share an end.
use Rattle.std.proofs.Common.{◌≡◌, inl, inr, ⊎_elim, ℕ, ◌<◌, length, sym, ◌∙◌, subst, arith}
use Rattle.mesh_points.specs.Chains.{IsSearched}
use Rattle.mesh_points.specs.Edges.{edge_at}
use Rattle.mesh_pairs.specs.Pairs.{ShareEnd, at_both_ends, at_both_starts, from_end_to_start, from_start_to_end}
use Rattle.mesh_paths.specs.declared.paths.Paths.{Paths}
use Rattle.mesh_paths.specs.Filed.{id_in, pass_of, IsPassed}
use Rattle.mesh_paths.specs.Stops.{pieces_of, stop_of}
use Rattle.mesh_clear.specs.Private.Looking.{AreClearIfCut, AreFit, AreWhole, EndsAt, IsClearAt, IsClearAtEnds, IsPathFit}

-- the pass of a place is of a later path that ends there, and not known to be clear
pub record IsDoubtful (p : Paths) (j id k : ℕ) : Type 0 where
  pub later : j < (pass_of p.through k).path
  pub ends : EndsAt p (pass_of p.through k).path id
  pub doubt : AreClearIfCut p j (pass_of p.through k).path → ⊥

pub all_searched : (p : Paths) (j id : ℕ) → AreFit p → IsSearched (IsDoubtful p j id) (length p.through.passes.items) (id_in p.through.passes.items) id 0 → IsClearAt p j id
all_searched p j id fit searched k later within ends cut a b a_is b_is a_path b_path c meets =
    ⊎_elim
    (λ (e : (edge_at p.edges.items k).from ≡ id). by ((fit.each k within).start ∙ e) (fit.paths.filed.passed k 0 within (omega arith)))
    (λ (e : (edge_at p.edges.items k).to ≡ id). by ((fit.each k within).end ∙ e) (fit.paths.filed.passed k (pieces_of p.stops k) within (omega arith)))
    ends
  where
    by : {number : ℕ} → number ≡ id → IsPassed p.through k number → ⊥
    by same pass =
        searched.passed pass.at (omega arith) pass.within (pass.its_id ∙ same) (record {
          later = subst (λ (m : ℕ). j < m) (sym pass.its_path) later;
          ends = subst (λ (m : ℕ). EndsAt p m id) (sym pass.its_path) ends;
          doubt = λ clear. clear (λ whole. cut (subst (λ (m : ℕ). AreWhole p j m) pass.its_path whole)) a b a_is b_is a_path (b_path ∙ sym pass.its_path) c meets;
        })

-- paths that share an end end at an end of the first one
pub clear_at_both : (p : Paths) (j first last : ℕ) → IsPathFit p j → first ≡ (stop_of p.stops j 0).id → last ≡ (stop_of p.stops j (pieces_of p.stops j)).id
    → IsClearAt p j first → IsClearAt p j last → IsClearAtEnds p j
clear_at_both p j first last fit first_is last_is at_first at_last k later within shared = by shared
  where
    start : (edge_at p.edges.items j).from ≡ first
    start = sym (first_is ∙ fit.start)

    end : (edge_at p.edges.items j).to ≡ last
    end = sym (last_is ∙ fit.end)

    by : ShareEnd (edge_at p.edges.items j) (edge_at p.edges.items k) → AreClearIfCut p j k
    by (at_both_starts h) = at_first k later within (inl (sym h ∙ start))
    by (from_start_to_end h) = at_first k later within (inr (sym h ∙ start))
    by (from_end_to_start h) = at_last k later within (inl (sym h ∙ end))
    by (at_both_ends h) = at_last k later within (inr (sym h ∙ end))
