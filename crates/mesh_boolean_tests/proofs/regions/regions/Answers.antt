-- One zone after another.
use Rattle.std.proofs.Common.{◌≡◌, List, [], ◌∷◌, ◌++◌, map}
use Rattle.std.specs.List.{All}
use Rattle.std.proofs.lemmas.List.{map-append}
use Rattle.std.proofs.lemmas.List.Elements.{All-nil, All-push}
use Rattle.mesh_num.specs.Paths.{shapes_of}
use Rattle.mesh_lattice.specs.Reach.{ArePointsSafe}
use Rattle.mesh_boolean.specs.Zones.{WindOnce}
use Rattle.mesh_boolean_tests.proofs.regions.regions.Goals as goal

-- one more that is as all before it
pushed : {X : Type 0} (old new : List X) (x : X) (P : X → Type 0) → new ≡ old ++ x ∷ [] → All P old → P x → All P new
pushed old new x P is all one = rw is (All-push P old x all one)

-- one zone more
one_more : {X Y : Type 0} (old new : List X) (x : X) (f : X → Y) (P : Y → Type 0) → new ≡ old ++ x ∷ [] → All P (map f old) → P (f x) → All P (map f new)
one_more old new x f P is all one = rw (is, map-append f old (x ∷ [])) (All-push P (map f old) (f x) all one)

pub loop-source-init : goal.loop-source-init
loop-source-init g c = rw c.new-zones.ensures.items (record {
  safe = All-nil _;
  all_safe = All-nil (ArePointsSafe g.I.IntNumber.unit);
  once = All-nil WindOnce;
})

pub loop-source-preserved : goal.loop-source-preserved
loop-source-preserved g c = record {
  safe = pushed _ _ _ (λ z. ArePointsSafe g.I.IntNumber.unit (shapes_of z.items)) c.in_ok-push.ensures.items c.loop-source.invariant.safe c.in_ok-region.ensures.safe;
  all_safe = one_more _ _ _ (λ z. shapes_of z.items) (ArePointsSafe g.I.IntNumber.unit) c.in_ok-push.ensures.items c.loop-source.invariant.all_safe c.in_ok-region.ensures.safe;
  once = one_more _ _ _ (λ z. shapes_of z.items) WindOnce c.in_ok-push.ensures.items c.loop-source.invariant.once c.in_ok-region.ensures.once;
}
