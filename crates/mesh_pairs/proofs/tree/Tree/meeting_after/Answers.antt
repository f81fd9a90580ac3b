use Rattle.std.proofs.Common.{◌%◌, ◌<◌, inl, inr, ⊎_elim, length, sym, ◌∙◌, arith}
use Rattle.std.proofs.lemmas.Bool.{false≢true}
use Rattle.std.proofs.lemmas.List.{get_or_read}
use Rattle.mesh_pairs.specs.declared.boxes.TheConstants.{NONE}
use Rattle.mesh_pairs.specs.declared.tree.Tree.{Tree}
use Rattle.mesh_pairs.specs.Boxes.{IsIn}
use Rattle.mesh_pairs.specs.Pairs.{AreBoxesApart, ends_at}
use Rattle.mesh_pairs.proofs.Candidates.{apart_from_run, edge_in_places, in_places, sought_made}
use Rattle.mesh_pairs.proofs.tree.Tree.meeting_after.Goals as goal

pub returns-then-are_apart-clause-all : goal.returns-then-are_apart-clause-all
returns-then-are_apart-clause-all c = λ es j of at order within.
    let t : Tree = c.args.self.now in
    let here : c.args.run < length t.bounds.items = omega (arith, c.requires.tree.runs.within, c.requires.within, c.requires.tree.blocks.boxes) in
    inr (apart_from_run t c.args.i c.args.run c.index-bounds.result.now c.index.result.now c.requires.tree
    (get_or_read t.boxes.items c.args.i c.index-bounds.result.now c.requires.edge c.index-bounds.ensures NONE)
    (get_or_read t.bounds.items c.args.run c.index.result.now here c.index.ensures NONE)
    (λ m. false≢true (sym (c.are_apart.ensures.1 m) ∙ c.if-are_apart.true)) es j of at order within)

pub returns-then-run-i-clause-all : goal.returns-then-run-i-clause-all
returns-then-run-i-clause-all c = λ es j of at order within. ⊎_elim
    (λ (h : IsIn c.meeting-places.result (j % 8)). inl (c.after.ensures.kept (j % 8) (omega (arith, at, order, c.if-run-i.true)) (omega arith) h))
    (λ (h : AreBoxesApart (ends_at es c.args.i) (ends_at es j)). inr h)
    (in_places c.args.self.now c.args.i c.args.run c.meeting-places.result c.index-bounds.result.now c.index-2.result.now c.requires.tree (sought_made c.args.self.now c.args.i c.args.run c.meeting-places.result c.index-bounds.result.now c.index-2.result.now c.requires.tree c.requires.edge c.requires.within c.index-bounds.ensures c.index-2.ensures c.meeting-places.ensures.places) es j of at order within)

pub returns-then-run-i-clause-later : goal.returns-then-run-i-clause-later
returns-then-run-i-clause-later c = λ k place listed.
    let order : c.args.i % 8 < k = c.after.ensures.left_out k place listed in (
      omega (arith, order, c.if-run-i.true),
      edge_in_places c.args.self.now c.args.i c.args.run c.meeting-places.result c.index-bounds.result.now c.index-2.result.now c.requires.tree c.requires.edge c.requires.within (sought_made c.args.self.now c.args.i c.args.run c.meeting-places.result c.index-bounds.result.now c.index-2.result.now c.requires.tree c.requires.edge c.requires.within c.index-bounds.ensures c.index-2.ensures c.meeting-places.ensures.places) k place (c.after.ensures.was k place listed),
    )

pub returns-else-run-i-clause-later : goal.returns-else-run-i-clause-later
returns-else-run-i-clause-later c = λ k place listed. (
  grind (arith, c.requires.later, c.if-run-i.false),
  edge_in_places c.args.self.now c.args.i c.args.run c.meeting-places.result c.index-bounds.result.now c.index-2.result.now c.requires.tree c.requires.edge c.requires.within (sought_made c.args.self.now c.args.i c.args.run c.meeting-places.result c.index-bounds.result.now c.index-2.result.now c.requires.tree c.requires.edge c.requires.within c.index-bounds.ensures c.index-2.ensures c.meeting-places.ensures.places) k place listed,
)

pub returns-else-run-i-clause-all : goal.returns-else-run-i-clause-all
returns-else-run-i-clause-all c = λ es j of at order within.
    in_places c.args.self.now c.args.i c.args.run c.meeting-places.result c.index-bounds.result.now c.index-2.result.now c.requires.tree (sought_made c.args.self.now c.args.i c.args.run c.meeting-places.result c.index-bounds.result.now c.index-2.result.now c.requires.tree c.requires.edge c.requires.within c.index-bounds.ensures c.index-2.ensures c.meeting-places.ensures.places) es j of at order within
