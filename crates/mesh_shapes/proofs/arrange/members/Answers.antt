use Rattle.std.proofs.Common.{◌∙◌, arith}
use Rattle.std.proofs.lemmas.List.{length-map}
use Rattle.mesh_shapes.specs.Vectors.{ring_of_vec, rings_of_vecs}
use Rattle.mesh_shapes.proofs.Shapes.{members_none, members_more, members_all}
use Rattle.mesh_shapes.proofs.Taking.{apart_none, apart_more}
use Rattle.mesh_shapes.proofs.arrange.members.Goals as goal

pub loop-i-init : goal.loop-i-init
loop-i-init c = record { len = c.in_ok-members.ensures.len; members = λ h d l. members_none (rings_of_vecs c.args.rings.now) h _ (c.in_ok-members.ensures.empty h d l); apart = λ h d l. apart_none c.args.homes.now h _ (c.in_ok-members.ensures.empty h d l) }

pub loop-i-preserved : goal.loop-i-preserved
loop-i-preserved c =
    let put = c.in_ok-push_home.ensures in
    let same = length-map c.args.rings.now ring_of_vec in
    record {
      len = put.len ∙ c.loop-i.invariant.len;
      members = λ h d l.
          members_more (rings_of_vecs c.args.rings.now) c.loop-i.i h _ _ _ (c.requires.homes_are c.loop-i.i c.loop-i-test.true) (omega (arith, same, l)) (omega (arith, same, c.loop-i-test.true))
          (c.loop-i.invariant.members h d l) (put.put h d (omega (arith, c.loop-i.invariant.len, l)));
      apart = λ h d l. apart_more c.args.homes.now c.loop-i.i h _ _ (c.loop-i.invariant.apart h d l) (put.put h d (omega (arith, c.loop-i.invariant.len, l)));
    }

pub returns-clause-members : goal.returns-clause-members
returns-clause-members c =
    λ h d l. members_all (rings_of_vecs c.args.rings.now) c.loop-i.i h _ (omega (arith, length-map c.args.rings.now ring_of_vec, c.loop-i-test.false)) (c.loop-i.invariant.members h d l)

pub returns-clause-apart : goal.returns-clause-apart
returns-clause-apart c = λ h d l. (c.loop-i.invariant.apart h d (omega (arith, c.loop-i.invariant.len, l))).apart
