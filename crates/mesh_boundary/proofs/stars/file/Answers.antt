use Rattle.std.proofs.Common.{◌≡◌, ℕ, ◌+◌, ◌<◌, ◌≤◌, Bool, false, length, get_or, set, sym, ◌∙◌, subst, arith}
use Rattle.std.proofs.lemmas.List.{get_or_default}
use Rattle.mesh_boundary.specs.Private.Stars.{part, IsParted, IsFiled}
use Rattle.mesh_boundary.proofs.StarLists.{filed_is, parted_still}
use Rattle.mesh_boundary.proofs.stars.file.Goals as goal

pub returns-clause-parted : goal.returns-clause-parted
returns-clause-parted c =
    let parts = c.args.parts.now.items in
    let members = c.args.members.now.items in
    let i = c.args.i in
    let q : ℕ × ℕ = c.index-part.result.now in
    let low : i < length parts = omega (arith, c.if-i-len.false, c.len.ensures) in
    let room : q.0 + q.1 < length members = omega (arith, c.if-at-len.false, c.len-2.ensures) in
    let own : q ≡ part parts i = c.index-part.ensures ∙ get_or_default parts i q (0, 0) low in
    let entry = c.index.ensures ∙ get_or_default members (q.0 + q.1) c.index.result.now (0, false) room in
    let is_free = subst (λ (y : ℕ × Bool). c.args.free ≤ y.0) entry c.if-index-free.false in
    subst (λ (n : ℕ). IsParted (set parts i (q.0, n)) (set members (q.0 + q.1) c.args.x) c.args.free) (sym c.in-Some.ensures.1)
    (subst (λ (p : ℕ × ℕ). IsParted (set parts i (p.0, p.1 + 1)) (set members (p.0 + p.1) c.args.x) c.args.free) (sym own)
    (parted_still parts members c.args.free i c.args.x c.requires.parted low (subst (λ (p : ℕ × ℕ). p.0 + p.1 < length members) own room)
    (subst (λ (p : ℕ × ℕ). c.args.free ≤ (get_or members (p.0 + p.1) (0, false)).0) own is_free) c.requires.in_range))

pub returns-clause-filed : goal.returns-clause-filed
returns-clause-filed c = λ t.
    let parts = c.args.parts.now.items in
    let members = c.args.members.now.items in
    let i = c.args.i in
    let q : ℕ × ℕ = c.index-part.result.now in
    let low : i < length parts = omega (arith, c.if-i-len.false, c.len.ensures) in
    let room : q.0 + q.1 < length members = omega (arith, c.if-at-len.false, c.len-2.ensures) in
    let own : q ≡ part parts i = c.index-part.ensures ∙ get_or_default parts i q (0, 0) low in
    let entry = c.index.ensures ∙ get_or_default members (q.0 + q.1) c.index.result.now (0, false) room in
    let is_free = subst (λ (y : ℕ × Bool). c.args.free ≤ y.0) entry c.if-index-free.false in
    subst (λ (n : ℕ). IsFiled parts members (set parts i (q.0, n)) (set members (q.0 + q.1) c.args.x) i c.args.x) (sym c.in-Some.ensures.1)
    (subst (λ (p : ℕ × ℕ). IsFiled parts members (set parts i (p.0, p.1 + 1)) (set members (p.0 + p.1) c.args.x) i c.args.x) (sym own)
    (filed_is parts members c.args.free i c.args.x c.requires.parted low (subst (λ (p : ℕ × ℕ). p.0 + p.1 < length members) own room)
    (subst (λ (p : ℕ × ℕ). c.args.free ≤ (get_or members (p.0 + p.1) (0, false)).0) own is_free)))
