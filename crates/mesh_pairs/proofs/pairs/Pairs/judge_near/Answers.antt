use Rattle.std.proofs.Common.{sym, ◌∙◌, subst}
use Rattle.std.proofs.lemmas.Bool.{false≢true}
use Rattle.mesh_plane.specs.Plane.{Edge}
use Rattle.mesh_lattice.specs.Split.{IsCrossing}
use Rattle.mesh_pairs.specs.Pairs.{ends_at}
use Rattle.mesh_pairs.specs.Private.Lines.{AreSidesOf}
use Rattle.mesh_pairs.proofs.pairs.Pairs.judge_near.Goals as goal

pub note_crossing-requires-clause-cross : goal.note_crossing-requires-clause-cross
note_crossing-requires-clause-cross c =
    subst (λ (x : Edge). IsCrossing x (ends_at c.args.edges.now c.args.j)) c.requires.first
    (subst (IsCrossing c.args.e) c.requires.second (c.do_cross.ensures.0 c.if-do_cross.true))

pub judge_ends-requires-clause-sides : goal.judge_ends-requires-clause-sides
judge_ends-requires-clause-sides c =
    subst (λ (x : Edge). AreSidesOf x (ends_at c.args.edges.now c.args.j) c.args.sides) c.requires.first
    (subst (λ (x : Edge). AreSidesOf c.args.e x c.args.sides) c.requires.second c.requires.sides)

pub judge_ends-requires-clause-apart : goal.judge_ends-requires-clause-apart
judge_ends-requires-clause-apart c = λ h.
    false≢true (sym c.if-do_cross.false ∙ c.do_cross.ensures.1
    (subst (λ (x : Edge). IsCrossing x c.args.f) (sym c.requires.first) (subst (IsCrossing (ends_at c.args.edges.now c.args.i)) (sym c.requires.second) h)))
