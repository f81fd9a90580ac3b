-- Lemmas over points: what the code hands to joins and caps is what their definitions say.
use Rattle.std.proofs.Common.{◌≡◌, ◌≢◌, ℕ, ◌≤◌, ◌^◌, List, [], ◌++◌, sym, ◌∙◌, ap, subst}
use Rattle.std.specs.Prelude.{ℤ, pos, ◌≤ℤ◌}
use Rattle.mesh_plane.specs.Plane.{Point, Edge, plus, minus, opposite, right_quarter}
use Rattle.mesh_num.specs.Direction.{scaled_direction}
use Rattle.mesh_num.specs.Rectangle.{IsSafeWidened}
use Rattle.mesh_num.specs.Segments.{SignedEdge, edges_of, proper_edges}
use Rattle.mesh_num.proofs.Parts.{direction_short}
use Rattle.mesh_lattice.specs.Split.{back}
use Rattle.mesh_arc.specs.declared.arc.ArcDirection.TheVariants.{Counterclockwise}
use Rattle.mesh_join.specs.Joins.{join_edges, join_padding, IsJoint}
use Rattle.mesh_join.specs.Joints.{Joint, HaveLength, joint}
use Rattle.mesh_join.specs.Styles.{JoinStyle}
use Rattle.mesh_stroke.specs.Ends.{half_turn}
use Rattle.mesh_stroke.specs.Strokes.{EdgePair, heading, joint_right, outer_edges}
use Rattle.mesh_stroke.proofs.Corners.{turn_right, left_turn, apart_back}
use Rattle.mesh_stroke.proofs.Ends.{opposite_short}
use Rattle.mesh_stroke.proofs.Sides.{heading_is}
use Rattle.mesh_inner.specs.Private.Walks.{IsFitCorner, IsFitEdge}

module _ (unit : ℕ) (radius : ℤ) where
  -- the joint of a corner
  pub joint_is : (b a : Edge) (center start p q n m s t : Point) → center ≡ b.1 → start ≡ a.0 → n ≡ heading unit b → m ≡ heading unit a
      → s ≡ scaled_direction unit radius n → t ≡ scaled_direction unit radius m → p ≡ plus center (right_quarter s) → q ≡ plus start (right_quarter t)
      → joint center p q n m radius Counterclockwise ≡ joint_right unit radius (b, a)
  joint_is b a center start p q n m s t ec ea en em es et ep eq =
      let sn : s ≡ scaled_direction unit radius (heading unit b) = es ∙ ap (scaled_direction unit radius) en in
      let tn : t ≡ scaled_direction unit radius (heading unit a) = et ∙ ap (scaled_direction unit radius) em in
      let first : p ≡ plus b.1 (right_quarter (scaled_direction unit radius (heading unit b))) = ep ∙ (λ i. plus (ec i) (right_quarter (sn i))) in
      let last : q ≡ plus a.0 (right_quarter (scaled_direction unit radius (heading unit a))) = eq ∙ (λ i. plus (ea i) (right_quarter (tn i))) in
      λ i. joint (ec i) (first i) (last i) (en i) (em i) radius Counterclockwise

  pub joint_met : (join : JoinStyle) (c : EdgePair) (j : Joint) → 2 ^ 14 ≤ unit → IsFitCorner unit radius join c → pos 0 ≤ℤ left_turn c → j ≡ joint_right unit radius c → IsJoint unit join j
  joint_met join c j least h left e =
      subst (IsJoint unit join) (sym e)
      (record { turn = turn_right unit least radius h.sign c (record { first = h.before.differ; second = h.after.differ; met = h.met }) left; safe = h.movable })

  -- what was added to an empty list
  pub join_drawn : (join : JoinStyle) (c : EdgePair) (j : Joint) (old new : List SignedEdge) → old ≡ [] → j ≡ joint_right unit radius c
      → edges_of new ≡ edges_of old ++ proper_edges (join_edges unit join j) → edges_of new ≡ proper_edges (outer_edges unit radius join c)
  join_drawn join c j old new none e h =
      h ∙ ap (λ (l : List SignedEdge). edges_of l ++ proper_edges (join_edges unit join j)) none ∙ ap (λ (k : Joint). proper_edges (join_edges unit join k)) e

  -- the half turn round an end
  pub end_is : (e : Edge) (center p q n m s : Point) → center ≡ e.1 → n ≡ heading unit e → m ≡ opposite n → s ≡ scaled_direction unit radius n
      → p ≡ plus center (right_quarter s) → q ≡ minus center (right_quarter s) → joint center p q n m radius Counterclockwise ≡ half_turn unit radius e.1 (heading unit e)
  end_is e center p q n m s ec en em es ep eq =
      let sn : s ≡ scaled_direction unit radius (heading unit e) = es ∙ ap (scaled_direction unit radius) en in
      let first : p ≡ plus e.1 (right_quarter (scaled_direction unit radius (heading unit e))) = ep ∙ (λ i. plus (ec i) (right_quarter (sn i))) in
      let last : q ≡ minus e.1 (right_quarter (scaled_direction unit radius (heading unit e))) = eq ∙ (λ i. minus (ec i) (right_quarter (sn i))) in
      let on : m ≡ opposite (heading unit e) = em ∙ ap opposite en in
      λ i. joint (ec i) (first i) (last i) (en i) (on i) radius Counterclockwise

  pub end_short : (e : Edge) (n m : Point) → e.0 ≢ e.1 → n ≡ heading unit e → m ≡ opposite n → HaveLength unit n m
  end_short e n m apart en em =
      let short = direction_short (heading_is unit e apart) in
      subst (λ (d : Point). HaveLength unit n d) (sym (em ∙ ap opposite en))
      (subst (λ (d : Point). HaveLength unit d (opposite (heading unit e))) (sym en)
      (record { incoming_short = short; outgoing_short = opposite_short unit (heading unit e) short }))

  pub fit_back : (e : Edge) → IsFitEdge unit radius e → IsFitEdge unit radius (back e)
  fit_back e h = record { differ = apart_back e h.differ; safe_start = h.safe_end; safe_end = h.safe_start }

  pub corner_back : (join : JoinStyle) (b a : Edge) → IsFitCorner unit radius join (b, a) → IsFitCorner unit radius join (back a, back b)
  corner_back join b a h = record {
    before = fit_back a h.after;
    after = fit_back b h.before;
    met = sym h.met;
    sign = h.sign;
    movable = subst (IsSafeWidened unit (join_padding join.kind radius)) h.met h.movable;
  }
