use Rattle.std.proofs.Common.{◌≡◌, ℕ, ◌-◌, ◌≤◌, ◌^◌, ◌∙◌, refl, sym, ap, subst, lit≤}
use Rattle.std.specs.Prelude.{ℤ, pos, unsigned_abs, ◌<ℤ◌, ◌≤ℤ◌}
use Rattle.std.proofs.lemmas.Bool.{false≢true}
use Rattle.std.proofs.lemmas.Int.{by_lt_z}
use Rattle.mesh_plane.specs.Plane.{dot, minus}
use Rattle.mesh_lattice.proofs.Arithmetic.{small_kept}
use Rattle.mesh_clearance.proofs.Points.{start_separation, foot_separation}
use Rattle.mesh_clearance.proofs.distance.from_start.Goals as goal

pub returns-then-not-is_less : goal.returns-then-not-is_less
returns-then-not-is_less c =
    let keep = small_kept (2 ^ 65) c.dot-along.result (lit≤ tt) c.dot-along.ensures.size in
    let e : c.dot-along.result ≡ dot (minus c.args.e.1 c.args.e.0) (minus c.args.p c.args.e.0) = c.dot-along.ensures.value ∙ (λ i. dot (c.minus-line.ensures.value i) (c.minus-way.ensures.value i)) in
    start_separation c.args.p c.args.e c.square.result
    (by_lt_z (pos 0) (dot (minus c.args.e.1 c.args.e.0) (minus c.args.p c.args.e.0))
    (λ (h : pos 0 <ℤ dot (minus c.args.e.1 c.args.e.0) (minus c.args.p c.args.e.0)). absurd (false≢true (c.if-not-is_less.ensures.1 (subst (λ (z : ℤ). pos 0 <ℤ z) (sym (keep ∙ e)) h))))
    (λ (h : dot (minus c.args.e.1 c.args.e.0) (minus c.args.p c.args.e.0) ≤ℤ pos 0). h))
    (c.square.ensures.value ∙ (λ i. dot (c.minus-way.ensures.value i) (c.minus-way.ensures.value i)))

pub overflow_sub-result : goal.overflow_sub-result
overflow_sub-result c =
    let keep = small_kept (2 ^ 65) c.dot-along.result (lit≤ tt) c.dot-along.ensures.size in
    let e : c.dot-along.result ≡ dot (minus c.args.e.1 c.args.e.0) (minus c.args.p c.args.e.0) = c.dot-along.ensures.value ∙ (λ i. dot (c.minus-line.ensures.value i) (c.minus-way.ensures.value i)) in
    let t = c.if-not-is_less.ensures.0 refl in
    let far : pos c.square-2.result ≡ dot (minus c.args.p c.args.e.0) (minus c.args.p c.args.e.0) = c.square-2.ensures.value ∙ (λ i. dot (c.minus-way.ensures.value i) (c.minus-way.ensures.value i)) in
    let along : c.unsigned_abs.result ≡ unsigned_abs (dot (minus c.args.e.1 c.args.e.0) (minus c.args.p c.args.e.0)) = c.unsigned_abs.ensures.value ∙ ap unsigned_abs (keep ∙ e) in
    let length : pos c.square-3.result ≡ dot (minus c.args.e.1 c.args.e.0) (minus c.args.e.1 c.args.e.0) = c.square-3.ensures.value ∙ (λ i. dot (c.minus-line.ensures.value i) (c.minus-line.ensures.value i)) in
    let r = foot_separation c.args.p c.args.e c.square-2.result c.unsigned_abs.result c.square-3.result c.square_by.result (subst (λ (z : ℤ). pos 0 <ℤ z) (keep ∙ e) t) c.requires far along length c.square_by.ensures.least c.square_by.ensures.most in
    r.0

pub returns : goal.returns
returns c =
    let keep = small_kept (2 ^ 65) c.dot-along.result (lit≤ tt) c.dot-along.ensures.size in
    let e : c.dot-along.result ≡ dot (minus c.args.e.1 c.args.e.0) (minus c.args.p c.args.e.0) = c.dot-along.ensures.value ∙ (λ i. dot (c.minus-line.ensures.value i) (c.minus-way.ensures.value i)) in
    let t = c.if-not-is_less.ensures.0 refl in
    let far : pos c.square-2.result ≡ dot (minus c.args.p c.args.e.0) (minus c.args.p c.args.e.0) = c.square-2.ensures.value ∙ (λ i. dot (c.minus-way.ensures.value i) (c.minus-way.ensures.value i)) in
    let along : c.unsigned_abs.result ≡ unsigned_abs (dot (minus c.args.e.1 c.args.e.0) (minus c.args.p c.args.e.0)) = c.unsigned_abs.ensures.value ∙ ap unsigned_abs (keep ∙ e) in
    let length : pos c.square-3.result ≡ dot (minus c.args.e.1 c.args.e.0) (minus c.args.e.1 c.args.e.0) = c.square-3.ensures.value ∙ (λ i. dot (c.minus-line.ensures.value i) (c.minus-line.ensures.value i)) in
    let r = foot_separation c.args.p c.args.e c.square-2.result c.unsigned_abs.result c.square-3.result c.square_by.result (subst (λ (z : ℤ). pos 0 <ℤ z) (keep ∙ e) t) c.requires far along length c.square_by.ensures.least c.square_by.ensures.most in
    r.1
