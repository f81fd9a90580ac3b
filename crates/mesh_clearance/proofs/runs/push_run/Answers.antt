use Rattle.std.proofs.Common.{sym, subst, List}
use Rattle.std.specs.List.{All}
use Rattle.std.proofs.lemmas.List.Elements.{All-push}
use Rattle.mesh_clearance.specs.declared.runs.Run.{Run}
use Rattle.mesh_clearance.specs.Boxes.{IsRun}
use Rattle.mesh_clearance.proofs.runs.push_run.Goals as goal

pub returns : goal.returns
returns c =
    subst (λ (runs : List Run). All (IsRun c.args.edges.now) runs) (sym c.in_ok-push.ensures.items)
    (All-push (IsRun c.args.edges.now) c.args.list.now.items c.run_of.result c.requires.runs c.run_of.ensures)
