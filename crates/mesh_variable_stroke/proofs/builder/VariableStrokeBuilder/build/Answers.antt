-- What holds of the edges that the walk added.
use Rattle.std.proofs.Common.{List, sym, subst, ◌∙◌}
use Rattle.std.specs.List.{All}
use Rattle.mesh_num.specs.Segments.{SignedEdge, IsSubject}
use Rattle.mesh_arc.specs.declared.arc.ArcOptions.{ArcOptions}
use Rattle.mesh_offset.specs.Built.{Adds}
use Rattle.mesh_offset.proofs.Adding.{added_is, adds_edges}
use Rattle.mesh_variable_stroke.specs.VariableStrokes.{variable_stroke_edges}
use Rattle.mesh_variable_stroke.proofs.Promised.{adds_stroked}
use Rattle.mesh_variable_stroke.proofs.ReachOfPieces.{pieces_wind_within}
use Rattle.mesh_variable_stroke.proofs.Thin.{thin_adds}
use Rattle.mesh_variable_stroke.proofs.builder.VariableStrokeBuilder.build.Given as given
use Rattle.mesh_variable_stroke.proofs.builder.VariableStrokeBuilder.build.Goals as goal

-- the walk adds the stroke with the builder's arcs
abbrev adds : (g : given.Over) (c : goal.In_default g) → Adds c.args.segments.now.items c.draw.new.segments.items (variable_stroke_edges g.I.IntNumber.unit c.args.self.now c.args.path.now)
adds g c =
    subst (λ (options : ArcOptions). Adds c.args.segments.now.items c.draw.new.segments.items (variable_stroke_edges g.I.IntNumber.unit options c.args.path.now))
    c.self.view_is c.in_default.ensures.ok

pub returns-clause-edges : goal.returns-clause-edges
returns-clause-edges g c =
    adds_edges c.args.segments.now.items c.draw.new.segments.items
    (variable_stroke_edges g.I.IntNumber.unit c.args.self.now c.args.path.now) (adds g c)

pub returns-clause-form : goal.returns-clause-form
returns-clause-form g c =
    let h = adds g c in
    subst (λ (l : List SignedEdge). All IsSubject l) (sym (added_is c.args.segments.now.items c.draw.new.segments.items h.0 h.1)) h.3

pub returns-clause-nothing : goal.returns-clause-nothing
returns-clause-nothing g c thin =
    thin_adds g.I.IntNumber.unit c.args.self.now c.args.path.now c.args.segments.now.items c.draw.new.segments.items
    thin (adds g c)

pub returns-clause-balanced : goal.returns-clause-balanced
returns-clause-balanced g c =
    (adds_stroked g.I.IntNumber.unit g.met.I.IntNumber.least_law c.args.self.now c.args.path.now _ _ c.requires (adds g c)).balanced

pub returns-clause-near : goal.returns-clause-near
returns-clause-near g c =
    (adds_stroked g.I.IntNumber.unit g.met.I.IntNumber.least_law c.args.self.now c.args.path.now _ _ c.requires (adds g c)).near

pub returns-clause-safe : goal.returns-clause-safe
returns-clause-safe g c =
    (adds_stroked g.I.IntNumber.unit g.met.I.IntNumber.least_law c.args.self.now c.args.path.now _ _ c.requires (adds g c)).safe

pub returns-clause-reach : goal.returns-clause-reach
returns-clause-reach g c =
    pieces_wind_within g.I.IntNumber.unit g.met.I.IntNumber.least_law c.args.self.now c.args.path.now _
    (adds_stroked g.I.IntNumber.unit g.met.I.IntNumber.least_law c.args.self.now c.args.path.now _ _ c.requires (adds g c)).sum

pub returns-clause-sum : goal.returns-clause-sum
returns-clause-sum g c =
    (adds_stroked g.I.IntNumber.unit g.met.I.IntNumber.least_law c.args.self.now c.args.path.now _ _ c.requires (adds g c)).sum

pub returns-in-Err-clause-refused : goal.returns-in-Err-clause-refused
returns-in-Err-clause-refused g c =
    (rw (c.len-length.ensures, c.args.segments.now.ok.0) at c.truncate.ensures.items) ∙ c.draw.ensures.kept
