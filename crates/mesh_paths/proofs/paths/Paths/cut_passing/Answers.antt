use Rattle.std.proofs.Common.{◌≡◌, ℕ, false, refl, sym, ◌∙◌, subst}
use Rattle.mesh_lattice.specs.Split.{occurs}
use Rattle.mesh_paths.specs.declared.paths.Paths.{Paths}
use Rattle.mesh_paths.specs.Private.Cutting.{cut_of}
use Rattle.mesh_paths.specs.Stops.{path_of}
use Rattle.mesh_paths.proofs.Cuts.{cut_absent, cut_beside}
use Rattle.mesh_paths.proofs.paths.Paths.cut_passing.Goals as goal

pub returns-then-path-near-clause-cut : goal.returns-then-path-near-clause-cut
returns-then-path-near-clause-cut c =
    cut_absent c.args.self.now c.args.path (cut_of c.args.a c.args.b c.args.stop)
    (subst (λ (k : ℕ). occurs (c.args.a.at, c.args.b.at) (path_of c.args.self.now.stops k) ≡ false) (sym c.if-path-near.true) (c.requires.cut c.if-is_cut.true))

pub returns-then-not-leads-clause-cut : goal.returns-then-not-leads-clause-cut
returns-then-not-leads-clause-cut c =
    cut_beside c.args.self.now c.args.path c.args.a c.args.b c.args.stop c.requires.filed c.requires.within c.requires.end (c.if-not-leads.ensures refl)
