use Rattle.std.proofs.Common.{◌≡◌, ℕ, ◌<◌, List, length, get_or, set, refl, sym, ◌∙◌, ap, arith}
use Rattle.std.proofs.Math.Seq.{map-set_same}
use Rattle.mesh_points.specs.declared.points.Entry.{Entry}
use Rattle.mesh_points.specs.Private.Filed.{list_of, no_entry}
use Rattle.mesh_points.proofs.Numbers.{filed_next}
use Rattle.mesh_points.proofs.points.file_all.Goals as goal

pub loop-k-preserved : goal.loop-k-preserved
loop-k-preserved c =
    let es : List Entry = c.loop-k.entries in
    let last : List ℕ = c.loop-k.last in
    let k : ℕ = c.loop-k.k in
    let e : Entry = record { at = (get_or es k no_entry).at; before = get_or last c.list_of-list.result 0 } in
    let here : k < length es = omega arith in
    let many : length last ≡ length c.args.last.now = omega arith in
    let list : c.list_of-list.result ≡ list_of (get_or es k no_entry).at (length last) = c.list_of-list.ensures.value ∙ ap (list_of (get_or es k no_entry).at) (sym many) in
    record {
      same = map-set_same (λ (x : Entry). x.at) es k e no_entry refl ∙ c.loop-k.invariant.same;
      chained = filed_next last es k c.list_of-list.result here (omega (arith, c.list_of-list.ensures.within, many)) list c.loop-k.invariant.chained (set es k e) refl;
    }
