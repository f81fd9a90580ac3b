use Rattle.std.proofs.Common.{◌≡◌, ℕ, ◌+◌, ◌<◌, ◌↔◌, inl, inr, ⊎_elim, List, length, get_or, sym, subst, arith}
use Rattle.std.specs.List.{Contains}
use Rattle.std.proofs.lemmas.List.{get_or_read}
use Rattle.std.proofs.lemmas.List.Elements.{Contains-push}
use Rattle.mesh_pairs.specs.declared.boxes.EightBounds.{EightBounds}
use Rattle.mesh_pairs.specs.declared.tree.Below.{Below}
use Rattle.mesh_pairs.specs.declared.tree.Tree.{Tree}
use Rattle.mesh_pairs.specs.Boxes.{lane, DoMeet, IsIn}
use Rattle.mesh_pairs.specs.Private.Trees.{IsChild, IsUnder, below_at, no_lanes}
use Rattle.mesh_pairs.proofs.Descents.{child_of_meeting, left_first, left_next, same_or_not, IsLeft}
use Rattle.mesh_pairs.proofs.Trees.{run_under, under_last}
use Rattle.mesh_pairs.proofs.tree.Tree.+seek.Goals as goal

pub returns-then-block-self-clause-all : goal.returns-then-block-self-clause-all
returns-then-block-self-clause-all t c = λ d run order under meets.
    subst (Contains c.push.new.self.items) (run_under c.args.self.now under c.if-block-self.true)
    (subst (λ (xs : List ℕ). Contains xs c.args.block) (sym c.in_ok-push.ensures.items) (Contains-push c.args.found.now.items c.args.block))

pub loop-places-init : goal.loop-places-init
loop-places-init t c =
    let tree : Tree = c.args.self.now in
    let belows : c.args.block < length tree.below.items = omega (arith, c.requires.within, c.requires.blocks.belows) in
    let is : c.index.result.now ≡ below_at tree.below.items c.args.block = get_or_read tree.below.items c.args.block c.index.result.now belows c.index.ensures (record { first = 0; last = 0 }) in
    let block : c.index-2.result.now ≡ get_or tree.blocks.items c.args.block no_lanes = get_or_read tree.blocks.items c.args.block c.index-2.result.now c.requires.within c.index-2.ensures no_lanes in
    let exact = subst (λ (e : EightBounds). (k : ℕ) → k < 8 → IsIn c.meeting-places.result k ↔ DoMeet (lane e k) c.args.bounds) block c.meeting-places.ensures.places in
    record {
      few = c.meeting-places.ensures.few;
      children = λ k place listed.
          subst (λ (b : Below). IsChild tree c.args.block k (b.first + k)) (sym is)
          (child_of_meeting tree c.args.block k c.args.bounds c.requires.blocks c.requires.small c.if-block-self.false c.requires.within place ((exact k place).0 listed));
      found = c.requires.found;
      kept = λ d h. h;
      left = λ d run order under meets.
          inl (subst (λ (b : Below). IsLeft tree b.first c.meeting-places.result d) (sym is)
          (left_first tree c.args.block d c.args.bounds c.meeting-places.result exact c.if-block-self.false run under meets));
    }

still : (places places' k j : ℕ) → IsIn places k → ((i : ℕ) → i < 8 → (i ≡ k → ⊥) → IsIn places' i ↔ IsIn places i) → j < 8 → IsIn places' j → IsIn places j
still places places' k j was others place listed = ⊎_elim
    (λ (e : j ≡ k). subst (IsIn places) (sym e) was)
    (λ (n : j ≡ k → ⊥). (others j place n).0 listed)
    (same_or_not j k)

pub loop-places-preserved-in-Continue-branch-2 : goal.loop-places-preserved-in-Continue-branch-2
loop-places-preserved-in-Continue-branch-2 t c =
    let tree : Tree = c.args.self.now in
    let first : ℕ = c.index.result.now.first in
    let v = c.loop-places.invariant in
    let taken = c.take_first.ensures in
    let more = c.in_ok-seek.ensures in
    record {
      few = omega (arith, v.few, taken.less);
      children = λ k place listed. v.children k place (still c.loop-places.places c.take_first.new.places c.take_first.result k taken.was taken.others place listed);
      found = more.found;
      kept = λ d h. more.kept d (v.kept d h);
      left = λ d run order under meets. ⊎_elim
          (λ (l : IsLeft tree first c.loop-places.places d). ⊎_elim
          (λ (n : IsLeft tree first c.take_first.new.places d). inl n)
          (λ (u : IsUnder tree (first + c.take_first.result) d). inr (more.all d run order u meets))
          (left_next tree first c.loop-places.places c.take_first.new.places c.take_first.result d taken.others l))
          (λ (h : Contains c.loop-places.found.items d). inr (more.kept d h))
          (v.left d run order under meets);
    }

pub loop-places-preserved : goal.loop-places-preserved
loop-places-preserved t c =
    let tree : Tree = c.args.self.now in
    let first : ℕ = c.index.result.now.first in
    let v = c.loop-places.invariant in
    let taken = c.take_first.ensures in
    let child : ℕ = first + c.take_first.result in
    let is_child : IsChild tree c.args.block c.take_first.result child = v.children c.take_first.result taken.within taken.was in
    let within : child < length tree.below.items = omega (arith, is_child.before, c.requires.within, c.requires.blocks.belows) in
    let is : c.index-in-loop-places.result.now ≡ below_at tree.below.items child = get_or_read tree.below.items child c.index-in-loop-places.result.now within c.index-in-loop-places.ensures (record { first = 0; last = 0 }) in
    let before : (below_at tree.below.items child).last < c.args.from = subst (λ (b : Below). b.last < c.args.from) is c.if-index-from.false in
    record {
      few = omega (arith, v.few, taken.less);
      children = λ k place listed. v.children k place (still c.loop-places.places c.take_first.new.places c.take_first.result k taken.was taken.others place listed);
      found = v.found;
      kept = v.kept;
      left = λ d run order under meets. ⊎_elim
          (λ (l : IsLeft tree first c.loop-places.places d). ⊎_elim
          (λ (n : IsLeft tree first c.take_first.new.places d). inl n)
          (λ (u : IsUnder tree child d). absurd (omega (arith, before, order, under_last tree c.requires.runs u run)))
          (left_next tree first c.loop-places.places c.take_first.new.places c.take_first.result d taken.others l))
          (λ (h : Contains c.loop-places.found.items d). inr h)
          (v.left d run order under meets);
    }
