use Rattle.std.proofs.Common.{◌≡◌, ◌^◌, lit≤, sym, ◌∙◌, ap, subst, rules}
use Rattle.std.specs.Prelude.{ℤ, ◌+ℤ◌, ◌-ℤ◌}
use Rattle.std.proofs.lemmas.Int.{to_z-of_z}
use mir.Syntax.{w32, w64}
use mir.Val.{SFits, to_z, of_z}
use Rattle.mesh_lattice.specs.Split.{crossing_at}
use Rattle.mesh_lattice.proofs.Arithmetic.{between_fits}
use Rattle.mesh_lattice.proofs.Boxes.{crossing_between}
use Rattle.mesh_meeting.proofs.Kept.{difference_is, small_kept, sum_is}
use Rattle.mesh_meeting.proofs.Nearest.{near_kept, nearest_crossing}
use Rattle.mesh_meeting.proofs.meeting.crossing_at.Goals as goal
use Rattle.mesh_meeting.proofs.meeting.crossing_at.Goals.{Then-is_nearest}

found : (c : Then-is_nearest) → crossing_at c.args.a c.args.b c.args.s.0 (c.args.s.0 -ℤ c.args.s.1) ≡ c.args.a +ℤ c.saturating_f64_to_i32-guess.result
found c =
    let guess : SFits w32 c.saturating_f64_to_i32-guess.result = record { sfits = c.saturating_f64_to_i32-guess.type_inv } in
    let last : SFits w64 c.args.s.1 = search rules in
    let near = c.is_nearest.ensures c.if-is_nearest.true in
    let way = difference_is c.args.a c.args.b c.ranges.a c.ranges.b in
    let height = small_kept (2 ^ 63) c.args.s.0 (lit≤ tt) c.requires.height in
    let parts : to_z w64 (of_z w64 c.args.s.0) -ℤ to_z w64 (of_z w64 c.args.s.1) ≡ c.args.s.0 -ℤ c.args.s.1 = λ i. height i -ℤ to_z-of_z w64 c.args.s.1 last i in
    let whole = ap (λ (z : ℤ). to_z w64 (of_z w64 z)) parts ∙ small_kept (2 ^ 63) (c.args.s.0 -ℤ c.args.s.1) (lit≤ tt) c.requires.whole in
    let at = to_z-of_z w32 c.saturating_f64_to_i32-guess.result guess in
    nearest_crossing c.args.a c.args.b c.args.s.0 (c.args.s.0 -ℤ c.args.s.1) c.saturating_f64_to_i32-guess.result
    (near_kept _ (c.args.b -ℤ c.args.a) _ c.args.s.0 _ c.saturating_f64_to_i32-guess.result _ (c.args.s.0 -ℤ c.args.s.1) way height at whole near)

pub overflow_cast-result-then-is_nearest-2 : goal.overflow_cast-result-then-is_nearest-2
overflow_cast-result-then-is_nearest-2 c =
    let guess : SFits w32 c.saturating_f64_to_i32-guess.result = record { sfits = c.saturating_f64_to_i32-guess.type_inv } in
    let fits = between_fits c.args.a (crossing_at c.args.a c.args.b c.args.s.0 (c.args.s.0 -ℤ c.args.s.1)) c.args.b c.ranges.a c.ranges.b (crossing_between c.args.a c.args.b c.args.s.0 c.args.s.1 c.requires.parted) in
    subst (SFits w32) (found c ∙ sym (sum_is c.args.a c.saturating_f64_to_i32-guess.result c.ranges.a guess)) fits

pub returns-then-is_nearest : goal.returns-then-is_nearest
returns-then-is_nearest c =
    let guess : SFits w32 c.saturating_f64_to_i32-guess.result = record { sfits = c.saturating_f64_to_i32-guess.type_inv } in
    to_z-of_z w32 _ (overflow_cast-result-then-is_nearest-2 c) ∙ (sum_is c.args.a c.saturating_f64_to_i32-guess.result c.ranges.a guess ∙ sym (found c))
