use Rattle.std.proofs.Common.{◌≡◌, ℕ, Bool, cond, List, length, sym, ◌∙◌, ap, subst, arith}
use Rattle.std.proofs.lemmas.List.{length-map}
use Rattle.mesh_lattice.specs.Counted.{Counted}
use Rattle.mesh_boundary.specs.Private.Stars.{ends_at, star_at, leaving, fan_of, AreAllAt, IsStar}
use Rattle.mesh_boundary.proofs.StarLists.{ends_of_one, place_leaving}
use Rattle.mesh_boundary.proofs.stars.Stars.star_of.Goals as goal

pub returns-clause-all : goal.returns-clause-all
returns-clause-all c = λ es ks have parted.
    let x : ℕ × Bool = c.args.x in
    let self = c.args.self.now in
    let count : length self.ends.items ≡ length ks = ap length have.places ∙ length-map ks (λ (j : Counted). ends_at have.at j.0) in
    let own = ends_of_one have.at self.ends.items ks x.0 c.index.result.now have.places (omega (arith, count, c.requires)) in
    let at = c.place_of.ensures ∙ (ap (λ (e : ℕ × ℕ). cond x.1 e.0 e.1) (c.index.ensures ∙ own) ∙ place_leaving have.at ks x) in
    subst (AreAllAt es ks (leaving ks x).0.0) (sym (c.star.ensures.star (length ks) parted ∙ ap (star_at self.parts.items self.members.items) at)) (have.all (leaving ks x).0.0)

pub returns-clause-star : goal.returns-clause-star
returns-clause-star c = λ es ks have parted.
    let x : ℕ × Bool = c.args.x in
    let self = c.args.self.now in
    let count : length self.ends.items ≡ length ks = ap length have.places ∙ length-map ks (λ (j : Counted). ends_at have.at j.0) in
    let own = ends_of_one have.at self.ends.items ks x.0 c.index.result.now have.places (omega (arith, count, c.requires)) in
    let at = c.place_of.ensures ∙ (ap (λ (e : ℕ × ℕ). cond x.1 e.0 e.1) (c.index.ensures ∙ own) ∙ place_leaving have.at ks x) in
    subst (λ (l : List (ℕ × Bool)). IsStar es (leaving ks x).0.0 (fan_of ks l)) (sym (c.star.ensures.star (length ks) parted ∙ ap (star_at self.parts.items self.members.items) at)) (have.stars (leaving ks x).0.0)
