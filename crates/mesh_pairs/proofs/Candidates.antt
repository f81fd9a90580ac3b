-- Lemmas over trees of boxes: pairs of edges whose boxes meet.
use Rattle.std.proofs.Common.{◌≡◌, ℕ, ◌+◌, ◌*◌, ◌/◌, ◌%◌, ◌<◌, ◌≤◌, ◌⊎◌, inl, inr, ⊎_elim, List, length, get_or, sym, ◌∙◌, ap, subst, arith}
use Rattle.std.specs.Prelude.{◌↔◌}
use Rattle.std.proofs.lemmas.List.{get_or_read}
use Rattle.mesh_points.specs.declared.edges.NumberedEdge.{NumberedEdge}
use Rattle.mesh_pairs.specs.declared.boxes.Bounds.{Bounds}
use Rattle.mesh_pairs.specs.declared.boxes.EightBounds.{EightBounds}
use Rattle.mesh_pairs.specs.declared.boxes.TheConstants.{NONE}
use Rattle.mesh_pairs.specs.declared.tree.Tree.{Tree}
use Rattle.mesh_pairs.specs.Boxes.{lane, Covers, DoMeet, IsIn}
use Rattle.mesh_pairs.specs.Pairs.{AreBoxesApart, ends_at}
use Rattle.mesh_pairs.specs.Private.Trees.{AreBoxesOf, IsTree, box_at, no_lanes, small_bounds}
use Rattle.mesh_pairs.proofs.Rectangles.{meet_or_not}
use Rattle.mesh_pairs.proofs.Strips.{apart_by_boxes}
use Rattle.mesh_pairs.proofs.Trees.{covers_itself, covers_meet, none_meets}

pub meet_or_apart : (es : List NumberedEdge) (boxes : List Bounds) (i j : ℕ) → AreBoxesOf es boxes → i < length es → j < length es
    → DoMeet (box_at boxes i) (box_at boxes j) ⊎ AreBoxesApart (ends_at es i) (ends_at es j)
meet_or_apart es boxes i j of h l = ⊎_elim
    (λ (m : DoMeet (box_at boxes i) (box_at boxes j)). inl m)
    (λ (n : DoMeet (box_at boxes i) (box_at boxes j) → ⊥). inr (apart_by_boxes (box_at boxes i) (box_at boxes j) (ends_at es i) (ends_at es j) (of.starts i h) (of.ends i h) (of.starts j l) (of.ends j l) n))
    (meet_or_not (box_at boxes i) (box_at boxes j))

pub meet_turned : (b c : Bounds) → DoMeet b c → DoMeet c b
meet_turned b c h = record { west = h.east; east = h.west; south = h.north; north = h.south }

-- the runs of two edges whose boxes meet do too
pub runs_meet : (t : Tree) (i j : ℕ) → IsTree t → i < length t.boxes.items → j < length t.boxes.items → DoMeet (box_at t.boxes.items i) (box_at t.boxes.items j)
    → DoMeet (box_at t.bounds.items (j / 8)) (box_at t.bounds.items (i / 8))
runs_meet t i j tree h l meet =
    covers_meet (box_at t.bounds.items (j / 8)) (box_at t.boxes.items j) (box_at t.bounds.items (i / 8)) (box_at t.boxes.items i)
    (tree.runs.covers j l (omega (arith, tree.many))) (tree.runs.covers i h (omega (arith, tree.many)))
    (meet_turned (box_at t.boxes.items i) (box_at t.boxes.items j) meet)

-- so the run of the second has a box that meets the first
pub run_meets : (t : Tree) (i j : ℕ) → IsTree t → j < length t.boxes.items → DoMeet (box_at t.boxes.items i) (box_at t.boxes.items j)
    → DoMeet (box_at t.bounds.items (j / 8)) (box_at t.boxes.items i)
run_meets t i j tree l meet =
    covers_meet (box_at t.bounds.items (j / 8)) (box_at t.boxes.items j) (box_at t.boxes.items i) (box_at t.boxes.items i)
    (tree.runs.covers j l (omega (arith, tree.many))) (covers_itself (box_at t.boxes.items i))
    (meet_turned (box_at t.boxes.items i) (box_at t.boxes.items j) meet)

-- and so has its place there
pub place_meets : (t : Tree) (i j : ℕ) → IsTree t → j < length t.boxes.items → DoMeet (box_at t.boxes.items i) (box_at t.boxes.items j)
    → DoMeet (lane (get_or t.blocks.items (j / 8) no_lanes) (j % 8)) (box_at t.boxes.items i)
place_meets t i j tree l meet = by (tree.runs.lanes (j / 8) (omega (arith, tree.many)) (j % 8) (omega arith))
  where
    whole : 8 * (j / 8) + j % 8 ≡ j
    whole = omega arith

    by : ((8 * (j / 8) + j % 8 < length t.boxes.items) × (lane (get_or t.blocks.items (j / 8) no_lanes) (j % 8) ≡ box_at t.boxes.items (8 * (j / 8) + j % 8)))
        ⊎ ((length t.boxes.items ≤ 8 * (j / 8) + j % 8) × (lane (get_or t.blocks.items (j / 8) no_lanes) (j % 8) ≡ NONE))
        → DoMeet (lane (get_or t.blocks.items (j / 8) no_lanes) (j % 8)) (box_at t.boxes.items i)
    by (inl h) = subst (λ (b : Bounds). DoMeet b (box_at t.boxes.items i)) (sym (h.1 ∙ ap (box_at t.boxes.items) whole)) (meet_turned (box_at t.boxes.items i) (box_at t.boxes.items j) meet)
    by (inr h) = absurd (omega (arith, h.0, whole))

-- a place that meets a small rectangle is that of an edge
pub place_of_edge : (t : Tree) (run k : ℕ) (b : Bounds) → IsTree t → run < t.runs → k < 8 → Covers small_bounds b → DoMeet (lane (get_or t.blocks.items run no_lanes) k) b → 8 * run + k < length t.boxes.items
place_of_edge t run k b tree within place small meet = by (tree.runs.lanes run within k place)
  where
    by : ((8 * run + k < length t.boxes.items) × (lane (get_or t.blocks.items run no_lanes) k ≡ box_at t.boxes.items (8 * run + k)))
        ⊎ ((length t.boxes.items ≤ 8 * run + k) × (lane (get_or t.blocks.items run no_lanes) k ≡ NONE))
        → 8 * run + k < length t.boxes.items
    by (inl h) = h.0
    by (inr h) = absurd (none_meets (lane (get_or t.blocks.items run no_lanes) k) b h.1 small meet)

-- ---- as the code computes the places of a run that meet

pub record IsSought (t : Tree) (i run places : ℕ) (b : Bounds) (e : EightBounds) : Type 0 where
  pub box : b ≡ box_at t.boxes.items i
  pub block : e ≡ get_or t.blocks.items run no_lanes
  pub exact : (k : ℕ) → k < 8 → IsIn places k ↔ DoMeet (lane e k) b

pub sought_made : (t : Tree) (i run places : ℕ) (b : Bounds) (e : EightBounds) → IsTree t → i < length t.boxes.items → run < t.runs → b ≡ get_or t.boxes.items i b → e ≡ get_or t.blocks.items run e
    → ((k : ℕ) → k < 8 → IsIn places k ↔ DoMeet (lane e k) b) → IsSought t i run places b e
sought_made t i run places b e tree within is_run box block exact = record {
  box = get_or_read t.boxes.items i b within box NONE;
  block = get_or_read t.blocks.items run e (omega (arith, tree.runs.within)) block no_lanes;
  exact = exact;
}

pub edge_in_places : (t : Tree) (i run places : ℕ) (b : Bounds) (e : EightBounds) → IsTree t → i < length t.boxes.items → run < t.runs → IsSought t i run places b e
    → (k : ℕ) → k < 8 → IsIn places k → 8 * run + k < length t.boxes.items
edge_in_places t i run places b e tree within is_run sought k place listed =
    place_of_edge t run k b tree is_run place (subst (Covers small_bounds) (sym sought.box) (tree.small i NONE within))
    (subst (λ (x : EightBounds). DoMeet (lane x k) b) sought.block ((sought.exact k place).0 listed))

pub in_places : (t : Tree) (i run places : ℕ) (b : Bounds) (e : EightBounds) → IsTree t → IsSought t i run places b e → (es : List NumberedEdge) (j : ℕ) → AreBoxesOf es t.boxes.items → j / 8 ≡ run → i < j → j < length es
    → IsIn places (j % 8) ⊎ AreBoxesApart (ends_at es i) (ends_at es j)
in_places t i run places b e tree sought es j of at order within = ⊎_elim
    (λ (m : DoMeet (box_at t.boxes.items i) (box_at t.boxes.items j)). inl ((sought.exact (j % 8) (omega arith)).1 (meets m)))
    (λ (n : AreBoxesApart (ends_at es i) (ends_at es j)). inr n)
    (meet_or_apart es t.boxes.items i j of (omega arith) within)
  where
    meets : DoMeet (box_at t.boxes.items i) (box_at t.boxes.items j) → DoMeet (lane e (j % 8)) b
    meets m =
        subst (λ (x : EightBounds). DoMeet (lane x (j % 8)) b) (sym sought.block)
        (subst (DoMeet (lane (get_or t.blocks.items run no_lanes) (j % 8))) (sym sought.box)
        (subst (λ (r : ℕ). DoMeet (lane (get_or t.blocks.items r no_lanes) (j % 8)) (box_at t.boxes.items i)) at (place_meets t i j tree (omega (arith, of.many)) m)))

-- a run whose box does not meet an edge's has no such place
pub apart_from_run : (t : Tree) (i run : ℕ) (b c : Bounds) → IsTree t → b ≡ box_at t.boxes.items i → c ≡ box_at t.bounds.items run → (DoMeet c b → ⊥) → (es : List NumberedEdge) (j : ℕ) → AreBoxesOf es t.boxes.items → j / 8 ≡ run
    → i < j → j < length es → AreBoxesApart (ends_at es i) (ends_at es j)
apart_from_run t i run b c tree box bounds apart es j of at order within = ⊎_elim
    (λ (m : DoMeet (box_at t.boxes.items i) (box_at t.boxes.items j)).
    absurd (apart (subst (DoMeet c) (sym box) (subst (λ (x : Bounds). DoMeet x (box_at t.boxes.items i)) (sym bounds)
    (subst (λ (r : ℕ). DoMeet (box_at t.bounds.items r) (box_at t.boxes.items i)) at (run_meets t i j tree (omega (arith, of.many)) m))))))
    (λ (n : AreBoxesApart (ends_at es i) (ends_at es j)). n)
    (meet_or_apart es t.boxes.items i j of (omega arith) within)
