use Rattle.std.proofs.Common.{◌≡◌, ℕ, ◌+◌, min, max, ◌∙◌, ap, subst}
use Rattle.std.specs.Prelude.{OnOk}
use Rattle.mesh_lattice.specs.Marks.{place, IsPutTo}
use Rattle.mesh_lattice.specs.Rows.{first_row, last_row}
use Rattle.mesh_lattice.proofs.rows.file.Goals as goal

pub returns : goal.returns
returns g c =
    let a = c.place-a.ensures.value ∙ ap (place c.args.marks.now) c.height.ensures in
    let b = c.place-b.ensures.value ∙ ap (place c.args.marks.now) c.height-2.ensures in
    let first : c.min.result ≡ first_row c.args.marks.now c.args.e = c.min.ensures ∙ λ i. min (a i) (b i) in
    let last : c.max.result ≡ last_row c.args.marks.now c.args.e = c.max.ensures ∙ λ i. max (a i) (b i) in
    subst (λ (r : ℕ × ℕ). OnOk c.put_to.result (IsPutTo c.args.lists.now.items c.put_to.new.lists.items r.0 (r.1 + 1) c.args.e)) (λ i. (first i, last i)) c.put_to.ensures.ok
