use Rattle.std.proofs.Common.{◌≡◌, ℕ, ◌+◌, ◌-◌, ◌<◌, ◌≤◌, Bool, List, length, take, drop, sym, ◌∙◌, ap, subst, arith}
use Rattle.std.specs.List.{All}
use Rattle.std.proofs.lemmas.List.{get_or_default}
use Rattle.mesh_boundary.specs.Private.Stars.{part, run}
use Rattle.mesh_boundary.proofs.StarLists.{star_none, run_short, run_slice, run_all}
use Rattle.mesh_boundary.proofs.stars.Stars.star.Goals as goal

pub returns-then-i-len-clause-star : goal.returns-then-i-len-clause-star
returns-then-i-len-clause-star c = λ n parted. star_none c.args.self.now.parts.items c.args.self.now.members.items c.args.i (omega (arith, c.if-i-len.true, c.len.ensures))

pub returns-then-end-len-clause-star : goal.returns-then-end-len-clause-star
returns-then-end-len-clause-star c = λ n parted.
    let parts = c.args.self.now.parts.items in
    let members = c.args.self.now.members.items in
    let q : ℕ × ℕ = c.index-part.result.now in
    let own : q ≡ part parts c.args.i = c.index-part.ensures ∙ get_or_default parts c.args.i q (0, 0) (omega (arith, c.if-i-len.false, c.len.ensures)) in
    let long : length members < q.0 + q.1 = omega (arith, c.if-end-len.true, c.len-2.ensures) in
    run_short members (part parts c.args.i).0 (part parts c.args.i).1 (parted.room c.args.i) (subst (λ (p : ℕ × ℕ). length members < p.0 + p.1) own long)

pub returns-clause-within : goal.returns-clause-within
returns-clause-within c = λ n parted.
    let parts = c.args.self.now.parts.items in
    let members = c.args.self.now.members.items in
    let q : ℕ × ℕ = c.index-part.result.now in
    let own : q ≡ part parts c.args.i = c.index-part.ensures ∙ get_or_default parts c.args.i q (0, 0) (omega (arith, c.if-i-len.false, c.len.ensures)) in
    let room : q.0 + q.1 ≤ length members = omega (arith, c.if-end-len.false, c.len-2.ensures) in
    let is = ap (λ (l : List (ℕ × Bool)). take (q.0 + q.1 - q.0) (drop q.0 l)) c.deref-2.ensures.value ∙ (run_slice members q.0 q.1 room ∙ ap (λ (p : ℕ × ℕ). run members p.0 p.1) own) in
    subst (All (λ (x : ℕ × Bool). x.0 < n)) (sym is) (run_all (λ (x : ℕ × Bool). x.0 < n) members (part parts c.args.i).0 (part parts c.args.i).1 (parted.within c.args.i))

pub returns-clause-star : goal.returns-clause-star
returns-clause-star c = λ n parted.
    let parts = c.args.self.now.parts.items in
    let members = c.args.self.now.members.items in
    let q : ℕ × ℕ = c.index-part.result.now in
    let own : q ≡ part parts c.args.i = c.index-part.ensures ∙ get_or_default parts c.args.i q (0, 0) (omega (arith, c.if-i-len.false, c.len.ensures)) in
    let room : q.0 + q.1 ≤ length members = omega (arith, c.if-end-len.false, c.len-2.ensures) in
    ap (λ (l : List (ℕ × Bool)). take (q.0 + q.1 - q.0) (drop q.0 l)) c.deref-2.ensures.value ∙ (run_slice members q.0 q.1 room ∙ ap (λ (p : ℕ × ℕ). run members p.0 p.1) own)
