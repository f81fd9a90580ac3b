use Rattle.std.proofs.Common.{◌≡◌, ℕ, List, get_or, take, sym, ◌∙◌, ap, subst, arith}
use Rattle.std.specs.Prelude.{pos, Vec}
use Rattle.std.specs.declared.alloc.Global.{Global}
use Rattle.mesh_plane.specs.Plane.{Point, Edge}
use Rattle.mesh_points.specs.declared.edges.NumberedEdge.{NumberedEdge}
use Rattle.mesh_points.specs.Points.{IsNumberOf}
use Rattle.mesh_points.specs.Merged.{AreOf}
use Rattle.mesh_points.proofs.Merging.{counts_small, given_more, given_proper}
use Rattle.mesh_points.proofs.edges.number_edges.Goals as goal

pub forward-requires : goal.forward-requires
forward-requires c = given_proper c.args.given.now c.loop-e.e-index _ c.loop-e-test.true c.requires

pub add-requires-clause-numbered : goal.add-requires-clause-numbered
add-requires-clause-numbered c =
    c.forward.ensures.numbered c.number-in-loop-e.new.self.points (c.in_ok-number-2.ensures.kept _ _ c.in_ok-from.ensures.number) c.in_ok-number-2.ensures.number

pub add-requires-clause-counts : goal.add-requires-clause-counts
add-requires-clause-counts c =
    let same : c.number-in-loop-e.new.self.list ≡ c.loop-e.merger.list = c.number-in-loop-e.ensures.same ∙ c.number_after.ensures.same in
    counts_small c.args.given.now c.loop-e.e-index c.loop-e.merger.list.items c.number-in-loop-e.new.self.list.items c.loop-e-test.true (omega arith)
    (ap (λ (v : Vec NumberedEdge Global). v.items) same) c.loop-e.invariant.merged.1

pub loop-e-preserved : goal.loop-e-preserved
loop-e-preserved c =
    let given : List Edge = c.args.given.now in
    let i : ℕ = c.loop-e.e-index in
    let same : c.number-in-loop-e.new.self.list ≡ c.loop-e.merger.list = c.number-in-loop-e.ensures.same ∙ c.number_after.ensures.same in
    let of : AreOf (take i given) c.number-in-loop-e.new.self.list.items = subst (λ (v : Vec NumberedEdge Global). AreOf (take i given) v.items) (sym same) c.loop-e.invariant.merged.1 in
    record {
      merged =
          given_more given i _ c.add.new.self c.loop-e-test.true
          (c.in_ok-add.ensures.merged (take i given) _ (c.in_ok-number-2.ensures.merged, of) c.forward.ensures.counted);
      numbered = subst (λ (ps : List Point). IsNumberOf ps (get_or given i ((pos 0, pos 0), (pos 0, pos 0))).1 c.in_ok-number-2.number) (sym c.add.ensures.points) c.in_ok-number-2.ensures.number;
    }
