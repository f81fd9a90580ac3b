use Rattle.std.proofs.Common.{◌≡◌, ◌∙◌, Bool, not, ap, refl, rules}
use Rattle.mesh_num.specs.Paths.{paths_of}
use Rattle.mesh_slivers.specs.Slivers.{is_sliver}
use Rattle.mesh_slivers.proofs.Kept.{first_kept, holes_kept}
use Rattle.mesh_slivers.proofs.slivers.drop_sliver_holes.Goals as goal

pub returns : goal.returns
returns g c =
    ap paths_of
    (first_kept _ (λ v. not (is_sliver c.args.width v.items)) (λ (s : Bool) p. (p.0 ≡ s) × (p.1 ≡ c.args.width)) (λ s p x b q i k. search rules)
    _ (refl, refl) c.args.shape.now.items c.retain.new.self.items c.retain.ensures.filtered)
    ∙ holes_kept c.args.width (λ v. v.items) c.args.shape.now.items
