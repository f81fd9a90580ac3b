-- Lemmas over trees of boxes: blocks that are added, and runs that stand under a block.
use Rattle.std.proofs.Common.{◌≡◌, ℕ, ◌+◌, ◌-◌, ◌*◌, ◌/◌, ◌<◌, ◌≤◌, ◌⊎◌, inl, inr, ⊎_elim, List, [], ◌∷◌, ◌++◌, length, get_or, refl, sym, ◌∙◌, ap, subst, arith}
use Rattle.std.proofs.Math.ListN.{length-append, get_or-append}
use Rattle.std.proofs.Math.Seq.{get_or-append_seam}
use Rattle.std.proofs.lemmas.Int.{ints}
use Rattle.mesh_pairs.specs.declared.boxes.Bounds.{Bounds}
use Rattle.mesh_pairs.specs.declared.boxes.EightBounds.{EightBounds}
use Rattle.mesh_pairs.specs.declared.tree.Below.{Below}
use Rattle.mesh_pairs.specs.declared.tree.Block.{Block}
use Rattle.mesh_pairs.specs.declared.tree.Tree.{Tree}
use Rattle.mesh_pairs.specs.declared.boxes.TheConstants.{NONE}
use Rattle.mesh_pairs.specs.Boxes.{lane, Covers, DoMeet}
use Rattle.mesh_pairs.specs.Private.Trees.{AreBlocks, AreLanes, AreRuns, IsChild, IsPushed, IsUnder, itself, below}
use Rattle.mesh_pairs.specs.Private.Trees.{below_at, box_at, lane_at, no_lanes, small_bounds}

-- ---- rectangles

pub covers_all : (b c d : Bounds) → Covers b c → Covers c d → Covers b d
covers_all b c d p q = record { west = omega (arith, ints, p.west, q.west); east = omega (arith, ints, p.east, q.east); south = omega (arith, ints, p.south, q.south); north = omega (arith, ints, p.north, q.north) }

pub covers_itself : (b : Bounds) → Covers b b
covers_itself b = record { west = omega (arith, ints); east = omega (arith, ints); south = omega (arith, ints); north = omega (arith, ints) }

pub covers_meet : (b c d e : Bounds) → Covers b c → Covers d e → DoMeet c e → DoMeet b d
covers_meet b c d e p q h = record {
  west = omega (arith, ints, p.west, q.east, h.west);
  east = omega (arith, ints, p.east, q.west, h.east);
  south = omega (arith, ints, p.south, q.north, h.south);
  north = omega (arith, ints, p.north, q.south, h.north);
}

pub none_meets : (b c : Bounds) → b ≡ NONE → Covers small_bounds c → DoMeet b c → ⊥
none_meets b c is small h = omega (arith, ints, ap (λ (x : Bounds). x.west) is, small.east, h.west)

-- ---- a block more

below_or_at : (k n : ℕ) → k < n + 1 → (k < n) ⊎ (k ≡ n)
below_or_at k n h = grind arith

pub pushed_many : (t t' : Tree) (b : Block) (x : Below) → IsPushed t t' b x → length t'.blocks.items ≡ length t.blocks.items + 1
pushed_many t t' b x g = ap length g.blocks ∙ length-append t.blocks.items (b.lanes ∷ [])

old_box : (t t' : Tree) (b : Block) (x : Below) (p : ℕ) → AreBlocks t → IsPushed t t' b x → p < length t.blocks.items → box_at t'.bounds.items p ≡ box_at t.bounds.items p
old_box t t' b x p h g l = ap (λ (bs : List Bounds). box_at bs p) g.bounds ∙ get_or-append t.bounds.items (b.bounds ∷ []) NONE p (omega (arith, h.boxes))

new_box : (t t' : Tree) (b : Block) (x : Below) → AreBlocks t → IsPushed t t' b x → box_at t'.bounds.items (length t.blocks.items) ≡ b.bounds
new_box t t' b x h g = ap (λ (bs : List Bounds). box_at bs (length t.blocks.items)) g.bounds ∙ (ap (box_at (t.bounds.items ++ b.bounds ∷ [])) (sym h.boxes) ∙ get_or-append_seam t.bounds.items b.bounds [] NONE)

old_below : (t t' : Tree) (b : Block) (x : Below) (p : ℕ) → AreBlocks t → IsPushed t t' b x → p < length t.blocks.items → below_at t'.below.items p ≡ below_at t.below.items p
old_below t t' b x p h g l = ap (λ (bs : List Below). below_at bs p) g.below ∙ get_or-append t.below.items (x ∷ []) (record { first = 0; last = 0 }) p (omega (arith, h.belows))

new_below : (t t' : Tree) (b : Block) (x : Below) → AreBlocks t → IsPushed t t' b x → below_at t'.below.items (length t.blocks.items) ≡ x
new_below t t' b x h g = ap (λ (bs : List Below). below_at bs (length t.blocks.items)) g.below ∙ (ap (below_at (t.below.items ++ x ∷ [])) (sym h.belows) ∙ get_or-append_seam t.below.items x [] (record { first = 0; last = 0 }))

old_block : (t t' : Tree) (b : Block) (x : Below) (p : ℕ) → IsPushed t t' b x → p < length t.blocks.items → get_or t'.blocks.items p no_lanes ≡ get_or t.blocks.items p no_lanes
old_block t t' b x p g l = ap (λ (bs : List EightBounds). get_or bs p no_lanes) g.blocks ∙ get_or-append t.blocks.items (b.lanes ∷ []) no_lanes p l

new_block : (t t' : Tree) (b : Block) (x : Below) → IsPushed t t' b x → get_or t'.blocks.items (length t.blocks.items) no_lanes ≡ b.lanes
new_block t t' b x g = ap (λ (bs : List EightBounds). get_or bs (length t.blocks.items) no_lanes) g.blocks ∙ get_or-append_seam t.blocks.items b.lanes [] no_lanes

pub child_kept : (t t' : Tree) (b : Block) (x : Below) (p k c : ℕ) → AreBlocks t → IsPushed t t' b x → IsChild t p k c → IsChild t' p k c
child_kept t t' b x p k c h g child =
    let under : c < length t.blocks.items = omega (arith, child.before, child.within) in
    record {
      inner = omega (arith, g.runs, child.inner);
      within = omega (arith, pushed_many t t' b x g, child.within);
      place = child.place;
      at = child.at ∙ ap (λ (y : Below). y.first + k) (sym (old_below t t' b x p h g child.within));
      before = child.before;
      lane = ap (λ (l : EightBounds). lane l k) (old_block t t' b x p g child.within) ∙ (child.lane ∙ sym (old_box t t' b x c h g under));
      covers =
          subst (λ (y : Bounds). Covers y (box_at t'.bounds.items c)) (sym (old_box t t' b x p h g child.within))
          (subst (Covers (box_at t.bounds.items p)) (sym (old_box t t' b x c h g under)) child.covers);
      last = omega (arith, child.last, ap (λ (y : Below). y.last) (old_below t t' b x p h g child.within), ap (λ (y : Below). y.last) (old_below t t' b x c h g under));
    }

pub under_kept : (t t' : Tree) (b : Block) (x : Below) → AreBlocks t → IsPushed t t' b x → {p d : ℕ} → IsUnder t p d → IsUnder t' p d
under_kept t t' b x h g itself = itself
under_kept t t' b x h g (below {p} {k} {c} {d} child u) = below (child_kept t t' b x p k c h g child) (under_kept t t' b x h g u)

pub runs_kept : (t t' : Tree) (b : Block) (x : Below) (runs : ℕ) → AreBlocks t → IsPushed t t' b x → AreRuns t runs → AreRuns t' runs
runs_kept t t' b x runs h g r = record {
  within = omega (arith, r.within, pushed_many t t' b x g);
  lanes = λ k l.
      subst (λ (bs : List Bounds). AreLanes (get_or t'.blocks.items k no_lanes) bs (8 * k) (length bs)) (sym same)
      (subst (λ (y : EightBounds). AreLanes y t.boxes.items (8 * k) (length t.boxes.items)) (sym (old_block t t' b x k g (omega (arith, r.within)))) (r.lanes k l));
  covers = λ i l m.
      subst (λ (bs : List Bounds). Covers (box_at t'.bounds.items (i / 8)) (box_at bs i)) (sym same)
      (subst (λ (y : Bounds). Covers y (box_at t.boxes.items i)) (sym (old_box t t' b x (i / 8) h g (omega (arith, r.within))))
      (r.covers i (omega (arith, ap length same)) m));
  last = λ k l. ap (λ (y : Below). y.last) (old_below t t' b x k h g (omega (arith, r.within))) ∙ r.last k l;
}
  where
    same : t'.boxes.items ≡ t.boxes.items
    same = ap (λ y. y.items) g.boxes

-- ---- a block over others

-- what a block is made of
pub record IsOver (t : Tree) (b : Block) (x : Below) (from to : ℕ) : Type 0 where
  pub lanes : AreLanes b.lanes t.bounds.items from to
  pub within : to ≤ length t.blocks.items
  pub above : t.runs ≤ length t.blocks.items
  pub first : x.first ≡ from
  pub covers : (k : ℕ) → from ≤ k → k < to → Covers b.bounds (box_at t.bounds.items k)
  pub small : Covers small_bounds b.bounds
  pub last : (k : ℕ) → from ≤ k → k < to → (below_at t.below.items k).last ≤ x.last

pub child_pushed : (t t' : Tree) (b : Block) (x : Below) (from to k : ℕ) → AreBlocks t → IsPushed t t' b x → IsOver t b x from to → k < 8 → from + k < to
    → lane b.lanes k ≡ box_at t.bounds.items (from + k) → IsChild t' (length t.blocks.items) k (from + k)
child_pushed t t' b x from to k h g over place l is =
    let under : from + k < length t.blocks.items = omega (arith, over.within) in
    let box = old_box t t' b x (from + k) h g under in
    record {
      inner = omega (arith, g.runs, over.above);
      within = omega (arith, pushed_many t t' b x g);
      place = place;
      at = ap (λ (n : ℕ). n + k) (sym (ap (λ (y : Below). y.first) (new_below t t' b x h g) ∙ over.first));
      before = under;
      lane = ap (λ (y : EightBounds). lane y k) (new_block t t' b x g) ∙ (is ∙ sym box);
      covers =
          subst (λ (y : Bounds). Covers y (box_at t'.bounds.items (from + k))) (sym (new_box t t' b x h g))
          (subst (Covers b.bounds) (sym box) (over.covers (from + k) (omega arith) l));
      last = omega (arith, over.last (from + k) (omega arith) l, ap (λ (y : Below). y.last) (new_below t t' b x h g), ap (λ (y : Below). y.last) (old_below t t' b x (from + k) h g under));
    }

pub blocks_pushed : (t t' : Tree) (b : Block) (x : Below) (from to : ℕ) → AreBlocks t → IsPushed t t' b x → IsOver t b x from to → AreBlocks t'
blocks_pushed t t' b x from to h g over = record {
  boxes = ap length g.bounds ∙ (length-append t.bounds.items (b.bounds ∷ []) ∙ (ap (λ (n : ℕ). n + 1) h.boxes ∙ sym (pushed_many t t' b x g)));
  belows = ap length g.below ∙ (length-append t.below.items (x ∷ []) ∙ (ap (λ (n : ℕ). n + 1) h.belows ∙ sym (pushed_many t t' b x g)));
  small = λ p l. small p (below_or_at p (length t.blocks.items) (omega (arith, pushed_many t t' b x g)));
  inner = λ p k i l place. inner p k (omega (arith, g.runs)) place (below_or_at p (length t.blocks.items) (omega (arith, pushed_many t t' b x g)));
}
  where
    small : (p : ℕ) → (p < length t.blocks.items) ⊎ (p ≡ length t.blocks.items) → Covers small_bounds (box_at t'.bounds.items p)
    small p (inl l) = subst (Covers small_bounds) (sym (old_box t t' b x p h g l)) (h.small p l)
    small p (inr e) = subst (Covers small_bounds) (sym (ap (box_at t'.bounds.items) e ∙ new_box t t' b x h g)) over.small

    old : (p k : ℕ) → p < length t.blocks.items → IsChild t p k ((below_at t.below.items p).first + k) ⊎ (lane_at t.blocks.items p k ≡ NONE)
        → IsChild t' p k ((below_at t'.below.items p).first + k) ⊎ (lane_at t'.blocks.items p k ≡ NONE)
    old p k l (inl child) =
        inl (subst (λ (n : ℕ). IsChild t' p k (n + k)) (sym (ap (λ (y : Below). y.first) (old_below t t' b x p h g l)))
        (child_kept t t' b x p k ((below_at t.below.items p).first + k) h g child))
    old p k l (inr none) = inr (ap (λ (y : EightBounds). lane y k) (old_block t t' b x p g l) ∙ none)

    new : (k : ℕ) → k < 8 → ((from + k < to) × (lane b.lanes k ≡ box_at t.bounds.items (from + k))) ⊎ ((to ≤ from + k) × (lane b.lanes k ≡ NONE))
        → IsChild t' (length t.blocks.items) k ((below_at t'.below.items (length t.blocks.items)).first + k) ⊎ (lane_at t'.blocks.items (length t.blocks.items) k ≡ NONE)
    new k place (inl is) =
        inl (subst (λ (n : ℕ). IsChild t' (length t.blocks.items) k (n + k)) (sym (ap (λ (y : Below). y.first) (new_below t t' b x h g) ∙ over.first))
        (child_pushed t t' b x from to k h g over place is.0 is.1))
    new k place (inr none) = inr (ap (λ (y : EightBounds). lane y k) (new_block t t' b x g) ∙ none.1)

    inner : (p k : ℕ) → t.runs ≤ p → k < 8 → (p < length t.blocks.items) ⊎ (p ≡ length t.blocks.items)
        → IsChild t' p k ((below_at t'.below.items p).first + k) ⊎ (lane_at t'.blocks.items p k ≡ NONE)
    inner p k i place (inl l) = old p k l (h.inner p k i l place)
    inner p k i place (inr e) = subst (λ (q : ℕ). IsChild t' q k ((below_at t'.below.items q).first + k) ⊎ (lane_at t'.blocks.items q k ≡ NONE)) (sym e) (new k place (over.lanes k place))

-- ---- a run

-- while there are runs only
pub blocks_of_runs : (t : Tree) → length t.bounds.items ≡ length t.blocks.items → length t.below.items ≡ length t.blocks.items → length t.blocks.items ≤ t.runs
    → ((p : ℕ) → p < length t.blocks.items → Covers small_bounds (box_at t.bounds.items p)) → AreBlocks t
blocks_of_runs t boxes belows few small = record { boxes = boxes; belows = belows; small = small; inner = λ p k i l place. absurd (omega arith) }

-- what the block of a run is made of
pub record IsRun (t : Tree) (b : Block) (x : Below) (to : ℕ) : Type 0 where
  pub some : length t.blocks.items < t.runs
  pub lanes : AreLanes b.lanes t.boxes.items (8 * length t.blocks.items) to
  pub to_all : (k : ℕ) → k < 8 → 8 * length t.blocks.items + k < length t.boxes.items → 8 * length t.blocks.items + k < to
  pub to_within : to ≤ length t.boxes.items
  pub covers : (k : ℕ) → 8 * length t.blocks.items ≤ k → k < to → Covers b.bounds (box_at t.boxes.items k)
  pub small : Covers small_bounds b.bounds
  pub last : x.last ≡ length t.blocks.items

pub run_blocks_pushed : (t t' : Tree) (b : Block) (x : Below) (to : ℕ) → AreBlocks t → IsPushed t t' b x → IsRun t b x to → AreBlocks t'
run_blocks_pushed t t' b x to h g run =
    blocks_of_runs t'
    (ap length g.bounds ∙ (length-append t.bounds.items (b.bounds ∷ []) ∙ (ap (λ (n : ℕ). n + 1) h.boxes ∙ sym (pushed_many t t' b x g))))
    (ap length g.below ∙ (length-append t.below.items (x ∷ []) ∙ (ap (λ (n : ℕ). n + 1) h.belows ∙ sym (pushed_many t t' b x g))))
    (omega (arith, pushed_many t t' b x g, run.some, g.runs))
    (λ p l. small p (below_or_at p (length t.blocks.items) (omega (arith, pushed_many t t' b x g))))
  where
    small : (p : ℕ) → (p < length t.blocks.items) ⊎ (p ≡ length t.blocks.items) → Covers small_bounds (box_at t'.bounds.items p)
    small p (inl l) = subst (Covers small_bounds) (sym (old_box t t' b x p h g l)) (h.small p l)
    small p (inr e) = subst (Covers small_bounds) (sym (ap (box_at t'.bounds.items) e ∙ new_box t t' b x h g)) run.small

pub run_pushed : (t t' : Tree) (b : Block) (x : Below) (to : ℕ) → AreBlocks t → IsPushed t t' b x → IsRun t b x to → AreRuns t (length t.blocks.items) → AreRuns t' (length t.blocks.items + 1)
run_pushed t t' b x to h g run r = record {
  within = omega (arith, pushed_many t t' b x g);
  lanes = λ k l. lanes k (below_or_at k n l);
  covers = λ i l m. covers i (omega (arith, ap length same)) (below_or_at (i / 8) n m);
  last = λ k l. last k (below_or_at k n l);
}
  where
    n : ℕ
    n = length t.blocks.items

    same : t'.boxes.items ≡ t.boxes.items
    same = ap (λ y. y.items) g.boxes

    kept : AreRuns t' n
    kept = runs_kept t t' b x n h g r

    new_lanes : AreLanes b.lanes t.boxes.items (8 * n) (length t.boxes.items)
    new_lanes k place = ⊎_elim
        (λ (y : (8 * n + k < to) × (lane b.lanes k ≡ box_at t.boxes.items (8 * n + k))). inl (omega (arith, run.to_within, y.0), y.1))
        (λ (y : (to ≤ 8 * n + k) × (lane b.lanes k ≡ NONE)). inr (past k place y.0, y.1))
        (run.lanes k place)
      where
        either : (k : ℕ) → (8 * n + k < length t.boxes.items) ⊎ (length t.boxes.items ≤ 8 * n + k)
        either k = grind arith

        past : (k : ℕ) → k < 8 → to ≤ 8 * n + k → length t.boxes.items ≤ 8 * n + k
        past k place l = ⊎_elim (λ (m : 8 * n + k < length t.boxes.items). absurd (omega (arith, run.to_all k place m))) (λ (m : length t.boxes.items ≤ 8 * n + k). m) (either k)

    lanes : (k : ℕ) → (k < n) ⊎ (k ≡ n) → AreLanes (get_or t'.blocks.items k no_lanes) t'.boxes.items (8 * k) (length t'.boxes.items)
    lanes k (inl l) = kept.lanes k l
    lanes k (inr e) =
        subst (λ (q : ℕ). AreLanes (get_or t'.blocks.items q no_lanes) t'.boxes.items (8 * q) (length t'.boxes.items)) (sym e)
        (subst (λ (bs : List Bounds). AreLanes (get_or t'.blocks.items n no_lanes) bs (8 * n) (length bs)) (sym same)
        (subst (λ (y : EightBounds). AreLanes y t.boxes.items (8 * n) (length t.boxes.items)) (sym (new_block t t' b x g)) new_lanes))

    covers : (i : ℕ) → i < length t.boxes.items → (i / 8 < n) ⊎ (i / 8 ≡ n) → Covers (box_at t'.bounds.items (i / 8)) (box_at t'.boxes.items i)
    covers i l (inl m) = kept.covers i (omega (arith, ap length same)) m
    covers i l (inr e) =
        subst (λ (bs : List Bounds). Covers (box_at t'.bounds.items (i / 8)) (box_at bs i)) (sym same)
        (subst (λ (y : Bounds). Covers y (box_at t.boxes.items i)) (sym (ap (box_at t'.bounds.items) e ∙ new_box t t' b x h g))
        (run.covers i (omega arith)
        (subst (λ (q : ℕ). q < to) whole (run.to_all (i - 8 * n) (omega arith) (subst (λ (q : ℕ). q < length t.boxes.items) (sym whole) l)))))
      where
        whole : 8 * n + (i - 8 * n) ≡ i
        whole = omega arith

    last : (k : ℕ) → (k < n) ⊎ (k ≡ n) → (below_at t'.below.items k).last ≡ k
    last k (inl l) = kept.last k l
    last k (inr e) = ap (λ (q : ℕ). (below_at t'.below.items q).last) e ∙ (ap (λ (y : Below). y.last) (new_below t t' b x h g) ∙ (run.last ∙ sym e))

-- ---- what stands under a block

pub under_covers : (t : Tree) → {p d : ℕ} → IsUnder t p d → Covers (box_at t.bounds.items p) (box_at t.bounds.items d)
under_covers t (itself {p}) = covers_itself (box_at t.bounds.items p)
under_covers t (below {p} {k} {c} {d} child u) = covers_all (box_at t.bounds.items p) (box_at t.bounds.items c) (box_at t.bounds.items d) child.covers (under_covers t u)

pub under_last : (t : Tree) → AreRuns t t.runs → {p d : ℕ} → IsUnder t p d → d < t.runs → d ≤ (below_at t.below.items p).last
under_last t r (itself {p}) h = omega (arith, r.last p h)
under_last t r (below {p} {k} {c} {d} child u) h = omega (arith, under_last t r u h, child.last)

pub run_under : (t : Tree) → {p d : ℕ} → IsUnder t p d → p < t.runs → p ≡ d
run_under t itself h = refl
run_under t (below child u) h = absurd (omega (arith, child.inner))

-- a run under a block stands under one of those below
pub record IsUnderChild (t : Tree) (p d : ℕ) : Type 0 where
  pub place : ℕ
  pub child : IsChild t p place ((below_at t.below.items p).first + place)
  pub under : IsUnder t ((below_at t.below.items p).first + place) d

pub under_child : (t : Tree) → {p d : ℕ} → IsUnder t p d → t.runs ≤ p → d < t.runs → IsUnderChild t p d
under_child t itself h l = absurd (omega arith)
under_child t (below {p} {k} {c} {d} child u) h l = record {
  place = k;
  child = subst (IsChild t p k) child.at child;
  under = subst (λ (q : ℕ). IsUnder t q d) child.at u;
}

-- ---- as the code makes blocks

pub run_made : (t : Tree) (b : Block) (x : Below) (boxes : List Bounds) (from to : ℕ) → boxes ≡ t.boxes.items → from ≡ 8 * length t.blocks.items → length t.blocks.items < t.runs
    → to ≤ length boxes → ((k : ℕ) → k < 8 → from + k < length boxes → from + k < to) → AreLanes b.lanes boxes from to
    → ((k : ℕ) → from ≤ k → k < to → Covers b.bounds (box_at boxes k)) → Covers small_bounds b.bounds → x.last ≡ length t.blocks.items → IsRun t b x to
run_made t b x boxes from to same is some within all lanes covers small last = record {
  some = some;
  lanes = subst (λ (f : ℕ). AreLanes b.lanes t.boxes.items f to) is (subst (λ (bs : List Bounds). AreLanes b.lanes bs from to) same lanes);
  to_all = λ k p l. omega (arith, is, all k p (omega (arith, is, ap length same)));
  to_within = omega (arith, ap length same);
  covers = λ k l m. subst (λ (bs : List Bounds). Covers b.bounds (box_at bs k)) same (covers k (omega (arith, is)) m);
  small = small;
  last = last;
}

pub over_made : (t : Tree) (b : Block) (x : Below) (bounds : List Bounds) (belows : List Below) (from to : ℕ) → AreBlocks t → bounds ≡ t.bounds.items → belows ≡ t.below.items → to ≤ length t.blocks.items
    → t.runs ≤ length t.blocks.items → x.first ≡ from → AreLanes b.lanes bounds from to → ((k : ℕ) → from ≤ k → k < to → Covers b.bounds (box_at bounds k))
    → (((k : ℕ) → from ≤ k → k < to → Covers small_bounds (box_at bounds k)) → Covers small_bounds b.bounds)
    → ((k : ℕ) → from ≤ k → k < to → (below_at belows k).last ≤ x.last) → IsOver t b x from to
over_made t b x bounds belows from to h same same_below within above first lanes covers small last = record {
  lanes = subst (λ (bs : List Bounds). AreLanes b.lanes bs from to) same lanes;
  within = within;
  above = above;
  first = first;
  covers = λ k l m. subst (λ (bs : List Bounds). Covers b.bounds (box_at bs k)) same (covers k l m);
  small = small (λ k l m. subst (λ (bs : List Bounds). Covers small_bounds (box_at bs k)) (sym same) (h.small k (omega arith)));
  last = λ k l m. subst (λ (bs : List Below). (below_at bs k).last ≤ x.last) same_below (last k l m);
}
