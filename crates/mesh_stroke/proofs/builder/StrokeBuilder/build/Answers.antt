-- What holds of the edges that the walk added.
use Rattle.std.proofs.Common.{◌≡◌, ℕ, ◌+◌, ◌≤◌, ◌^◌, List, length, take, sym, subst, ap, ◌∙◌, arith}
use Rattle.std.specs.Prelude.{vec_capacity, pos, ◌≤ℤ◌}
use Rattle.std.specs.List.{All}
use Rattle.std.proofs.lemmas.Bool.{false≢true}
use Rattle.mesh_num.specs.Segments.{SignedEdge, IsSubject}
use Rattle.mesh_join.specs.Joins.{HasFew}
use Rattle.mesh_offset.specs.Built.{Adds}
use Rattle.mesh_offset.proofs.Adding.{added_is, adds_edges}
use Rattle.mesh_stroke.specs.Building.{HasDirectCaps}
use Rattle.mesh_stroke.specs.Strokes.{stroke_edges}
use Rattle.mesh_stroke.specs.Styles.{StrokeStyle}
use Rattle.mesh_stroke.proofs.Halves.{halves_make_the_whole, makes_the_whole}
use Rattle.mesh_stroke.proofs.Reversal.{adds_reversed}
use Rattle.mesh_stroke.proofs.Promised.{are_stroked, adds_stroked}
use Rattle.mesh_stroke.proofs.ReachOfPieces.{pieces_wind_within}
use Rattle.mesh_stroke.proofs.StrokeFew.{adds_few, few_are_direct, stroke_length}
use Rattle.mesh_stroke.proofs.builder.StrokeBuilder.build.Given as given
use Rattle.mesh_stroke.proofs.builder.StrokeBuilder.build.Goals as goal

-- the walk adds the stroke of the builder's style
abbrev adds : (g : given.Over) (c : goal.In_default g) → Adds c.args.segments.now.items c.draw.new.segments.items (stroke_edges g.I.IntNumber.unit c.args.self.now c.args.closed c.args.path.now)
adds g c =
    subst (λ (style : StrokeStyle). Adds c.args.segments.now.items c.draw.new.segments.items (stroke_edges g.I.IntNumber.unit style c.args.closed c.args.path.now)) c.self.view_is c.in_default.ensures.ok

-- after a refusal what was added is cut off
pub returns-in-Err-clause-refused : goal.returns-in-Err-clause-refused
returns-in-Err-clause-refused g c =
    let kept : take (length c.args.segments.now.items) c.draw.new.segments.items ≡ c.args.segments.now.items =
    c.in-Err.ensures.kept in
    let n : c.len-length.result ≡ length c.args.segments.now.items = c.len-length.ensures ∙ c.args.segments.now.ok.0 in
    c.truncate.ensures.items ∙ ap (λ (k : ℕ). take k c.draw.new.segments.items) n ∙ kept

-- where nothing is drawn there is no refusal
pub returns-in-Err-clause-thin : goal.returns-in-Err-clause-thin
returns-in-Err-clause-thin g c low =
    absurd (false≢true (c.in-Err.ensures.thin
    (subst (λ (style : StrokeStyle). style.radius ≤ℤ pos 1) (sym c.self.view_is) low)).0)

pub returns-in-Err-clause-no_section : goal.returns-in-Err-clause-no_section
returns-in-Err-clause-no_section g c none = absurd (false≢true (c.in-Err.ensures.no_section none).0)

pub returns-clause-form : goal.returns-clause-form
returns-clause-form g c =
    let h = adds g c in
    subst (λ (l : List SignedEdge). All IsSubject l) (sym (added_is c.args.segments.now.items c.draw.new.segments.items h.0 h.1)) h.3

pub returns-in-Err-clause-pieces : goal.returns-in-Err-clause-pieces
returns-in-Err-clause-pieces g c = (are_stroked g.I.IntNumber.unit g.met.I.IntNumber.least_law c.args.self.now c.args.closed c.args.path.now c.requires).pieces

pub returns-clause-balanced : goal.returns-clause-balanced
returns-clause-balanced g c = (adds_stroked g.I.IntNumber.unit g.met.I.IntNumber.least_law c.args.self.now c.args.closed c.args.path.now _ _ c.requires (adds g c)).balanced

pub returns-clause-near : goal.returns-clause-near
returns-clause-near g c = (adds_stroked g.I.IntNumber.unit g.met.I.IntNumber.least_law c.args.self.now c.args.closed c.args.path.now _ _ c.requires (adds g c)).near

pub returns-clause-safe : goal.returns-clause-safe
returns-clause-safe g c = (adds_stroked g.I.IntNumber.unit g.met.I.IntNumber.least_law c.args.self.now c.args.closed c.args.path.now _ _ c.requires (adds g c)).safe

pub returns-clause-reach : goal.returns-clause-reach
returns-clause-reach g c =
    pieces_wind_within g.I.IntNumber.unit g.met.I.IntNumber.least_law c.args.self.now c.args.closed c.args.path.now _
    (adds_stroked g.I.IntNumber.unit g.met.I.IntNumber.least_law c.args.self.now c.args.closed c.args.path.now _ _ c.requires (adds g c)).sum

pub returns-clause-sum : goal.returns-clause-sum
returns-clause-sum g c = (adds_stroked g.I.IntNumber.unit g.met.I.IntNumber.least_law c.args.self.now c.args.closed c.args.path.now _ _ c.requires (adds g c)).sum

pub returns-clause-pieces : goal.returns-clause-pieces
returns-clause-pieces g c = (are_stroked g.I.IntNumber.unit g.met.I.IntNumber.least_law c.args.self.now c.args.closed c.args.path.now c.requires).pieces

pub returns-clause-count : goal.returns-clause-count
returns-clause-count g c stock = (adds_stroked g.I.IntNumber.unit g.met.I.IntNumber.least_law c.args.self.now c.args.closed c.args.path.now _ _ c.requires (adds g c)).count stock

pub returns-clause-few : goal.returns-clause-few
returns-clause-few g c few short =
    adds_few g.I.IntNumber.unit g.met.I.IntNumber.least_law c.args.self.now few c.args.closed short c.args.path.now _ _ (adds g c)

pub returns-in-Err-clause-room_for_seven : goal.returns-in-Err-clause-room_for_seven
returns-in-Err-clause-room_for_seven g c few short room =
    let n = length c.args.segments.now.items in
    let capacity = vec_capacity c.args.segments.now in
    let most = stroke_length g.I.IntNumber.unit g.met.I.IntNumber.least_law c.args.self.now few c.args.closed short c.args.path.now in
    let fits : n + length (stroke_edges g.I.IntNumber.unit c.args.self.now c.args.closed c.args.path.now) ≤ capacity =
    omega (arith, room, most) in
    c.in-Err.ensures.room
    (subst (λ (style : StrokeStyle). HasFew style.join) (sym c.self.view_is) few)
    (subst (λ (style : StrokeStyle). HasDirectCaps style c.args.closed) (sym c.self.view_is) (few_are_direct c.args.self.now c.args.closed short))
    (subst (λ (style : StrokeStyle). n + length (stroke_edges g.I.IntNumber.unit style c.args.closed c.args.path.now) ≤ capacity) (sym c.self.view_is) fits)

pub returns-clause-reversal : goal.returns-clause-reversal
returns-clause-reversal g c whole =
    adds_reversed g.I.IntNumber.unit g.met.I.IntNumber.least_law c.args.self.now whole c.args.closed c.args.path.now _ _ (adds g c)

-- both halves make the whole
pub returns-in-Err-clause-halves : goal.returns-in-Err-clause-halves
returns-in-Err-clause-halves g c =
    halves_make_the_whole g.I.IntNumber.unit g.met.I.IntNumber.least_law c.args.self.now c.args.closed c.args.path.now

pub returns-clause-halves : goal.returns-clause-halves
returns-clause-halves g c =
    halves_make_the_whole g.I.IntNumber.unit g.met.I.IntNumber.least_law c.args.self.now c.args.closed c.args.path.now

pub returns-clause-whole : goal.returns-clause-whole
returns-clause-whole g c =
    let least : 2 ^ 14 ≤ g.I.IntNumber.unit = g.met.I.IntNumber.least_law in
    makes_the_whole g.I.IntNumber.unit (omega arith) c.args.self.now c.args.closed c.args.path.now _
    (adds_edges c.args.segments.now.items c.draw.new.segments.items _ (adds g c))
