-- Lemmas over trees of boxes: a level of blocks over the one before.
use Rattle.std.proofs.Common.{◌≡◌, ℕ, ◌+◌, ◌-◌, ◌*◌, ◌<◌, ◌≤◌, ◌⊎◌, inl, inr, ⊎_elim, length, ◌∙◌, subst, arith}
use Rattle.mesh_pairs.specs.declared.tree.Below.{Below}
use Rattle.mesh_pairs.specs.declared.tree.Block.{Block}
use Rattle.mesh_pairs.specs.declared.tree.Tree.{Tree}
use Rattle.mesh_pairs.specs.declared.boxes.TheConstants.{NONE}
use Rattle.mesh_pairs.specs.Boxes.{lane}
use Rattle.mesh_pairs.specs.Private.Trees.{AreBlocks, AreRuns, IsChild, IsPushed, IsUnder, below, IsUnderSome, box_at}
use Rattle.mesh_pairs.proofs.Trees.{IsOver, blocks_pushed, child_kept, child_pushed, pushed_many, runs_kept, under_kept}

-- a block of the level below has one above
pub record HasParent (t : Tree) (end c : ℕ) : Type 0 where
  pub block : ℕ
  pub from : end ≤ block
  pub within : block < length t.blocks.items
  pub place : ℕ
  pub child : IsChild t block place c

-- a run stands under one of the blocks of the level below
pub record IsUnderLow (t : Tree) (start end d : ℕ) : Type 0 where
  pub block : ℕ
  pub from : start ≤ block
  pub before : block < end
  pub under : IsUnder t block d

-- so many blocks stand over those from `start` on and before `end`
pub record IsRaised (old t : Tree) (start end count : ℕ) : Type 0 where
  pub boxes : t.boxes ≡ old.boxes
  pub same : t.runs ≡ old.runs
  pub many : length t.blocks.items ≡ end + count
  pub runs : AreRuns t old.runs
  pub blocks : AreBlocks t
  pub low : (d : ℕ) → d < old.runs → IsUnderLow t start end d
  pub parents : (c : ℕ) → start ≤ c → c < end → c < start + 8 * count → HasParent t end c

pub raised_none : (t : Tree) (start end : ℕ) → end ≡ length t.blocks.items → AreRuns t t.runs → AreBlocks t → ((d : ℕ) → d < t.runs → IsUnderSome t start d) → IsRaised t t start end 0
raised_none t start end is runs blocks under = record {
  boxes = λ _. t.boxes;
  same = λ _. t.runs;
  many = omega arith;
  runs = runs;
  blocks = blocks;
  low = λ d h. let u = under d h in record { block = u.block; from = u.from; before = omega (arith, u.within); under = u.under };
  parents = λ c h l m. absurd (omega arith);
}

pub raised_more : (old t t' : Tree) (b : Block) (x : Below) (start end count to : ℕ) → old.runs ≤ end → IsRaised old t start end count → IsPushed t t' b x → IsOver t b x (start + count * 8) to
    → ((k : ℕ) → k < 8 → start + count * 8 + k < end → start + count * 8 + k < to) → IsRaised old t' start end (count + 1)
raised_more old t t' b x start end count to above raised g over all = record {
  boxes = g.boxes ∙ raised.boxes;
  same = g.runs ∙ raised.same;
  many = omega (arith, pushed_many t t' b x g, raised.many);
  runs = runs_kept t t' b x old.runs raised.blocks g raised.runs;
  blocks = blocks_pushed t t' b x (start + count * 8) to raised.blocks g over;
  low = λ d h. let u = raised.low d h in record { block = u.block; from = u.from; before = u.before; under = under_kept t t' b x raised.blocks g u.under };
  parents = λ c h l m. parent c h l m (either c);
}
  where
    either : (c : ℕ) → (c < start + 8 * count) ⊎ (start + count * 8 ≤ c)
    either c = grind arith

    fresh : (c : ℕ) → start + count * 8 ≤ c → c < end → c - (start + count * 8) < 8 → HasParent t' end c
    fresh c h l place =
        let k : ℕ = c - (start + count * 8) in
        let whole : start + count * 8 + k ≡ c = omega arith in
        let inside : start + count * 8 + k < to = all k place (omega arith) in
        ⊎_elim
        (λ (y : (start + count * 8 + k < to) × (lane b.lanes k ≡ box_at t.bounds.items (start + count * 8 + k))). record {
          block = length t.blocks.items;
          from = omega (arith, raised.many);
          within = omega (arith, pushed_many t t' b x g);
          place = k;
          child = subst (IsChild t' (length t.blocks.items) k) whole (child_pushed t t' b x (start + count * 8) to k raised.blocks g over place inside y.1);
        })
        (λ (y : (to ≤ start + count * 8 + k) × (lane b.lanes k ≡ NONE)). absurd (omega (arith, y.0, inside)))
        (over.lanes k place)

    parent : (c : ℕ) → start ≤ c → c < end → c < start + 8 * (count + 1) → (c < start + 8 * count) ⊎ (start + count * 8 ≤ c) → HasParent t' end c
    parent c h l m (inl low) =
        let p = raised.parents c h l low in
        record {
          block = p.block;
          from = p.from;
          within = omega (arith, p.within, pushed_many t t' b x g);
          place = p.place;
          child = child_kept t t' b x p.block p.place c raised.blocks g p.child;
        }
    parent c h l m (inr high) = fresh c high l (omega arith)

-- so a run stands under one of the new blocks
pub raised_all : (old t : Tree) (start end count : ℕ) → IsRaised old t start end count → end ≤ start + 8 * count → (d : ℕ) → d < old.runs → IsUnderSome t end d
raised_all old t start end count raised enough d h =
    let u = raised.low d h in
    let p = raised.parents u.block u.from u.before (omega (arith, u.before)) in
    record { block = p.block; from = p.from; within = p.within; under = below p.child u.under }
