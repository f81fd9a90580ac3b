use Rattle.std.proofs.Common.{◌≡◌, ℕ, ◌-◌, ◌/◌, ◌<◌, ◌≤◌, inl, inr, ⊎_elim, length, sym, ap, ◌∙◌, subst, arith}
use Rattle.std.proofs.lemmas.List.{get_or_read}
use Rattle.mesh_pairs.specs.declared.boxes.TheConstants.{NONE}
use Rattle.mesh_pairs.specs.declared.tree.Tree.{Tree}
use Rattle.mesh_pairs.specs.Boxes.{DoMeet}
use Rattle.mesh_pairs.specs.Pairs.{AreBoxesApart, ends_at}
use Rattle.mesh_pairs.specs.Private.Trees.{IsUnder, below_at, box_at}
use Rattle.mesh_pairs.proofs.Candidates.{meet_or_apart, runs_meet}
use Rattle.mesh_pairs.proofs.Trees.{under_last}
use Rattle.mesh_pairs.proofs.tree.Tree.candidates.Goals as goal

pub seek-requires-clause-last : goal.seek-requires-clause-last
seek-requires-clause-last c =
    let t : Tree = c.args.self.now in
    let top : length t.blocks.items ≡ c.len-top.result = omega (arith, c.len-top.ensures) in
    subst (λ (n : ℕ). c.args.run ≤ (below_at t.below.items (n - 1)).last) top (under_last t c.requires.tree.runs (c.requires.tree.root c.args.run c.requires.within) c.requires.within)

pub returns-clause-all : goal.returns-clause-all
returns-clause-all c = λ es i j of at order within.
    let t : Tree = c.args.self.now in
    let here : c.args.run < length t.bounds.items = omega (arith, c.requires.tree.runs.within, c.requires.within, c.requires.tree.blocks.boxes) in
    let bounds : c.index.result.now ≡ box_at t.bounds.items (i / 8) = get_or_read t.bounds.items c.args.run c.index.result.now here c.index.ensures NONE ∙ ap (box_at t.bounds.items) (sym at) in
    let top : length t.blocks.items ≡ c.len-top.result = omega (arith, c.len-top.ensures) in
    let under : IsUnder t (c.len-top.result - 1) (j / 8) = subst (λ (n : ℕ). IsUnder t (n - 1) (j / 8)) top (c.requires.tree.root (j / 8) (omega (arith, of.many, c.requires.tree.many))) in
    ⊎_elim
    (λ (m : DoMeet (box_at t.boxes.items i) (box_at t.boxes.items j)).
    inl (c.in_ok-seek.ensures.all (j / 8) (omega (arith, of.many, c.requires.tree.many)) (omega (arith, at, order)) under
    (subst (DoMeet (box_at t.bounds.items (j / 8))) (sym bounds) (runs_meet t i j c.requires.tree (omega (arith, of.many)) (omega (arith, of.many)) m))))
    (λ (n : AreBoxesApart (ends_at es i) (ends_at es j)). inr n)
    (meet_or_apart es t.boxes.items i j of (omega arith) within)
