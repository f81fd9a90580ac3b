use Rattle.std.proofs.Common.{◌≡◌, ℕ, ◌<◌, length, get_or, ◌∙◌, ap, subst, arith, ◌≤◌}
use Rattle.std.proofs.lemmas.List.{length-map}
use Rattle.mesh_lattice.specs.Counted.{Counted}
use Rattle.mesh_boundary.specs.Private.Stars.{ends_at, AreListed}
use Rattle.mesh_boundary.proofs.StarLists.{parted_none, listed_none, listed_more, ends_of_one}
use Rattle.mesh_boundary.proofs.stars.fill.Goals as goal

pub loop-k-init : goal.loop-k-init
loop-k-init c = record {
  parted = parted_none c.args.parts.now.items c.args.members.now.items c.args.free c.requires.empty;
  listed = λ at ks is. listed_none at c.args.parts.now.items c.args.members.now.items ks c.requires.empty;
}

pub loop-k-preserved : goal.loop-k-preserved
loop-k-preserved c = record {
  parted = c.file_both.ensures.parted;
  listed = λ at ks is.
      let k = c.loop-k.k in
      let count : length c.args.ends.now ≡ length ks = ap length is ∙ length-map ks (λ (j : Counted). ends_at at j.0) in
      let low : k < length ks = omega (arith, count, c.requires.len, c.loop-k-test.true) in
      listed_more at c.loop-k.parts.items c.file_both.new.parts.items c.loop-k.members.items c.file_both.new.members.items ks (get_or c.args.ends.now k (0, 0)) k
      (c.loop-k.invariant.listed at ks is) (ends_of_one at c.args.ends.now ks k (0, 0) is low) (c.file_both.ensures.filed c.if-not-file_both.false);
}

pub returns : goal.returns
returns c = record {
  parted = c.loop-k.invariant.parted;
  listed = λ t at ks is.
      subst (AreListed at c.loop-k.parts.items c.loop-k.members.items ks) (same c.loop-k.k c.args.free c.loop-k.auto.k-end c.loop-k-test.false) (c.loop-k.invariant.listed at ks is);
}
  where
    same : (a b : ℕ) → a ≤ b → b ≤ a → a ≡ b
    same a b h k = omega (arith, h, k)
