-- Lemmas over points and lists: how large the nearness of what is drawn is at most.
use Rattle.std.proofs.Common.{◌≡◌, ⊎_elim, ℕ, ◌+◌, ◌*◌, ◌^◌, ◌<◌, ◌≤◌, Bool, true, false, cond, List, [], ◌∷◌, map, sym, subst, arith}
use Rattle.std.specs.Prelude.{ℤ, pos, ◌≤ℤ◌, ◌<ℤ◌, ◌-ℤ◌, ◌*ℤ◌, unsigned_abs}
use Rattle.std.specs.List.{All, AllZip, Contains}
use Rattle.std.specs.List.Sorted.{IsPermutation}
use Rattle.std.proofs.lemmas.Int.{ints, by_lt_z}
use Rattle.std.proofs.lemmas.List.Elements.{All-cons, All-contains, All-head, All-nil, All-tail}
use Rattle.std.proofs.lemmas.List.Sorted.{IsPermutation-sym, All-permutation}
use Rattle.mesh_plane.specs.Bounds.{IsSafe, IsSmall}
use Rattle.mesh_plane.specs.Plane.{Point, Edge}
use Rattle.mesh_plane.proofs.Whole.{one_mul}
use Rattle.mesh_num.specs.Rectangle.{IsSafeWidened}
use Rattle.mesh_num.specs.Segments.{proper_edges}
use Rattle.mesh_plane.specs.Winding.{refined}
use Rattle.mesh_lattice.specs.Clean.{IsOn}
use Rattle.mesh_lattice.specs.Nearness.{AreSplitsNear, IsNearness, IsNearTo, ReachesPast, WitnessedSplit, splits_of}
use Rattle.mesh_lattice.specs.Reach.{AreEdgesSafe}
use Rattle.mesh_lattice.specs.Split.{EdgeSplit, IsBetween, IsInBox, IsLegal, add_split, after, is_end, occurs}
use Rattle.mesh_lattice.proofs.Boxes.{meets_box, start_box, turn_start}
use Rattle.mesh_lattice.proofs.Each.{Each}
use Rattle.mesh_lattice.proofs.SafeSplits.{IsSafeEdge, occurs_safe, split_safe}
use Rattle.mesh_shapes.specs.Contours.{double_area}
use Rattle.mesh_shapes.specs.Resolution.{Choices}
use Rattle.mesh_below.specs.Nearness.{AreRegionsBeyond}
use Rattle.mesh_below.specs.Options.{plain}
use Rattle.mesh_arc.specs.declared.arc.ArcOptions.{ArcOptions}
use Rattle.mesh_join.specs.Cleaned.{cleaned_sections}
use Rattle.mesh_join.specs.Joins.{outline_padding}
use Rattle.mesh_join.specs.Styles.{OffsetJoin, OutlineStyle}
use Rattle.mesh_join.specs.VariableStyles.{Vertex}
use Rattle.mesh_offset.specs.Padding.{ArePathsSafe}
use Rattle.mesh_outline.specs.Building.{IsMovable}
use Rattle.mesh_outline.specs.Kinds.{contour_kind}
use Rattle.mesh_outline.specs.Nearness.{AreOutlineRegionsBeyond, GivesNear, IsGreatest, ToldGive}
use Rattle.mesh_outline.specs.Outline.{outline_edges}
use Rattle.mesh_outline.proofs.Padding.{outline_safe, path_movable}
use Rattle.mesh_outline.proofs.Promised.{cleaned_listed, cleaned_ring}
use Rattle.mesh_outline.proofs.Staying.{stays_safe as outline_stays_safe}
use Rattle.mesh_stroke.specs.Regions.{AreStrokeRegionsBeyond}
use Rattle.mesh_stroke.specs.Styles.{StrokeStyle, stroke_padding}
use Rattle.mesh_stroke.proofs.Resolving.{stays_safe as stroke_stays_safe}
use Rattle.mesh_variable_stroke.specs.Regions.{AreVariableStrokeRegionsBeyond}
use Rattle.mesh_variable_stroke.specs.Strokable.{ArePathsStrokable}
use Rattle.mesh_variable_stroke.proofs.Resolving.{stays_safe as variable_stays_safe}

-- ---- each point that is split at is safe

between_small : (h : ℕ) (a z b : ℤ) → IsSmall h a → IsSmall h b → IsBetween a z b → IsSmall h z
between_small h a z b k l w =
    by_lt_z b a
    (λ (o : b <ℤ a). let r = w.down (omega (arith, ints, o)) in record { low = omega (arith, ints, r.0, l.low); high = omega (arith, ints, r.1, k.high) })
    (λ (o : a ≤ℤ b). let r = w.up o in record { low = omega (arith, ints, r.0, k.low); high = omega (arith, ints, r.1, l.high) })

box_safe : (unit : ℕ) (e : Edge) (c : Point) → IsSafeEdge unit e → IsInBox e c → IsSafe unit c
box_safe unit e c h box = record {
  x = between_small unit e.0.0 c.0 e.1.0 h.0.x h.1.x box.by_x;
  y = between_small unit e.0.1 c.1 e.1.1 h.0.y h.1.y box.by_y;
}

added_safe : (unit : ℕ) (e : Edge) (c : Point) (ks : List EdgeSplit) → IsSafe unit c → Each (λ (k : EdgeSplit). IsSafe unit k.at) ks → Each (λ (k : EdgeSplit). IsSafe unit k.at) (add_split e c ks)
added_safe unit e c ks safe h = by (is_end c e)
  where
    by : (b : Bool) → Each (λ (k : EdgeSplit). IsSafe unit k.at) (cond b ks ((record { ends = e; at = c }) ∷ ks))
    by true = h
    by false = (safe, h)

splits_safe : (unit : ℕ) (es : List Edge) (ks : List EdgeSplit) → AreEdgesSafe unit es → IsLegal es ks → Each (λ (k : EdgeSplit). IsSafe unit k.at) ks
splits_safe unit es ks safe legal = by legal safe
  where
    by : {es : List Edge} {ks : List EdgeSplit} → IsLegal es ks → AreEdgesSafe unit es → Each (λ (k : EdgeSplit). IsSafe unit k.at) ks
    by IsLegal.no_cut safe = tt
    by (IsLegal.split {given} {ks} {e} {f} {c} l x y m) safe =
        let at : IsSafe unit c = box_safe unit e c (occurs_safe unit (after ks given) (split_safe unit given ks l safe) e x) (meets_box m).0 in
        added_safe unit f c (add_split e c ks) at (added_safe unit e c ks at (by l safe))

at_safe : (unit : ℕ) (ts : List WitnessedSplit) → Each (λ (k : EdgeSplit). IsSafe unit k.at) (splits_of ts) → All (λ (t : WitnessedSplit). IsSafe unit t.split.at) ts
at_safe unit [] h = All-nil (λ (t : WitnessedSplit). IsSafe unit t.split.at)
at_safe unit (t ∷ ts) h = All-cons (λ (t : WitnessedSplit). IsSafe unit t.split.at) t ts h.0 (at_safe unit ts h.1)

all_given : (given : List Edge) (k : ℕ) (ts : List WitnessedSplit) → AreSplitsNear given k ts → All (λ (t : WitnessedSplit). occurs t.witness given ≡ true) ts
all_given given k [] h = All-nil (λ (t : WitnessedSplit). occurs t.witness given ≡ true)
all_given given k (t ∷ ts) h = All-cons (λ (t : WitnessedSplit). occurs t.witness given ≡ true) t ts h.0.is_given (all_given given k ts h.1)

-- ---- no two safe points are farther apart

apart : (unit : ℕ) (x y : ℤ) → unit ≤ 2 ^ 30 → IsSmall unit x → IsSmall unit y → 64 * unsigned_abs ((pos 1 *ℤ x) -ℤ y) ≤ 2 ^ 38 * (1 * 1)
apart unit x y most h k = omega (arith, ints, most, h.low, h.high, k.low, k.high)

refined_once : (p : Point) → p ≡ refined 1 p
refined_once p = λ i. (sym (one_mul p.0) i, sym (one_mul p.1) i)

near_far : (unit : ℕ) (e : Edge) (p : Point) → unit ≤ 2 ^ 30 → IsSafeEdge unit e → IsSafe unit p → IsNearTo (2 ^ 38) 1 e p
near_far unit e p most h safe = record {
  grid = 1;
  positive = omega arith;
  nearest = e.0;
  on_edge = subst (λ (f : Edge). IsOn f e.0) (λ i. (refined_once e.0 i, refined_once e.1 i)) (record { on_line = turn_start e.0 e.1; in_box = start_box e });
  by_x = apart unit p.0 e.0.0 most safe.x h.0.x;
  by_y = apart unit p.1 e.0.1 most safe.y h.0.y;
}

nearness_small : (unit : ℕ) (given : List Edge) (splits : List EdgeSplit) (k : ℕ) → unit ≤ 2 ^ 30 → AreEdgesSafe unit given → IsLegal given splits → IsNearness given splits k → k ≤ 2 ^ 38
nearness_small unit given splits k most safe legal near =
    by_lt_z (pos (2 ^ 38)) (pos k)
    (λ (o : pos (2 ^ 38) <ℤ pos k). absurd (farther (near.reached (2 ^ 38) (omega (arith, ints, o)))))
    (λ (o : pos k ≤ℤ pos (2 ^ 38)). omega (arith, ints, o))
  where
    farther : ReachesPast (2 ^ 38) near.witnessed → ⊥
    farther r =
        let own = subst (λ ks. Each (λ (k : EdgeSplit). IsSafe unit k.at) ks) (sym near.same) (splits_safe unit given splits safe legal) in
        r.farther (near_far unit r.split.witness r.split.split.at most
        (occurs_safe unit given safe r.split.witness (All-contains (λ (t : WitnessedSplit). occurs t.witness given ≡ true) near.witnessed r.split (all_given given k near.witnessed near.near) r.listed))
        (All-contains (λ (t : WitnessedSplit). IsSafe unit t.split.at) near.witnessed r.split (at_safe unit near.witnessed own) r.listed))

pub beyond_small : (unit k : ℕ) (edges : List Edge) (fill : ℤ → Bool) (choices : Choices) (answer : List (List (List Point))) → unit ≤ 2 ^ 30 → AreEdgesSafe unit edges →
    AreRegionsBeyond k edges fill choices answer → k ≤ 2 ^ 38
beyond_small unit k edges fill choices answer most safe beyond =
    nearness_small unit edges beyond.regions.resolution.splits k most safe beyond.regions.resolution.legal beyond.nearness

-- ---- strokes

pub stroke_small : (k unit : ℕ) (style : StrokeStyle) (closed : Bool) (choices : Choices) (paths : List (List Point)) (answer : List (List (List Point))) → 2 ^ 14 ≤ unit → unit ≤ 2 ^ 30 →
    ArePathsSafe unit (stroke_padding style) paths → AreStrokeRegionsBeyond k unit style closed choices paths answer → k ≤ 2 ^ 39
stroke_small k unit style closed choices paths answer least most safe near =
    let own = (stroke_stays_safe unit style closed paths least safe near.stroke.built near.stroke.same).edges_safe in
    let small = beyond_small unit k near.stroke.built _ choices answer most own near.beyond in omega (arith, small)

pub variable_small : (k unit : ℕ) (options : ArcOptions) (choices : Choices) (paths : List (List Vertex)) (answer : List (List (List Point))) → 2 ^ 14 ≤ unit → unit ≤ 2 ^ 30 →
    ArePathsStrokable unit paths → AreVariableStrokeRegionsBeyond k unit options choices paths answer → k ≤ 2 ^ 39
variable_small k unit options choices paths answer least most safe near =
    let own = (variable_stays_safe unit options paths least safe near.stroke.built near.stroke.same).edges_safe in
    let small = beyond_small unit k near.stroke.built _ choices answer most own near.beyond in omega (arith, small)

-- ---- outlines

module _ (unit : ℕ) (style : OutlineStyle) (least : 2 ^ 14 ≤ unit) (most : unit ≤ 2 ^ 30) where
  built_safe : (way : OffsetJoin) (contour : List Point) → All (IsMovable unit way) contour → (built : List Edge) → IsPermutation built (outline_edges unit way contour) → AreEdgesSafe unit built
  built_safe way contour movable built same =
      All-permutation (IsSafeEdge unit) (outline_edges unit way contour) built (IsPermutation-sym built (outline_edges unit way contour) same)
      (outline_safe unit way contour (cleaned_sections contour) least (cleaned_ring contour) (cleaned_listed contour) movable)

  gives_small : (contour : List Point) (edges : List Edge) (k n : ℕ) → All (IsSafeWidened unit (outline_padding style)) contour → GivesNear unit style contour edges k n → k ≤ 2 ^ 38
  gives_small contour _ _ _ safe (GivesNear.moved {way = way} {answer = answer} {k = k} moves built same beyond) =
      beyond_small unit k built _ plain answer most (built_safe way contour (path_movable unit style (contour_kind contour) way contour moves safe) built same) beyond
  gives_small contour _ _ _ safe (GivesNear.ignored none) = omega arith

  all_small : (contours : List (List Point)) (told : List ToldGive) → ArePathsSafe unit (outline_padding style) contours →
      AllZip (λ (contour : List Point) (t : ToldGive). GivesNear unit style contour t.edges t.nearness t.splits) contours told → All (λ (l : ℕ). l ≤ 2 ^ 38) (map (λ (t : ToldGive). t.nearness) told)
  all_small contours [] safe each = All-nil (λ (l : ℕ). l ≤ 2 ^ 38)
  all_small [] (t ∷ told) safe each = absurd each
  all_small (contour ∷ contours) (t ∷ told) safe each =
      All-cons (λ (l : ℕ). l ≤ 2 ^ 38) t.nearness (map (λ (t : ToldGive). t.nearness) told)
      (gives_small contour t.edges t.nearness t.splits (All-head (λ (c : List Point). All (IsSafeWidened unit (outline_padding style)) c) contour contours safe) each.0)
      (all_small contours told (All-tail (λ (c : List Point). All (IsSafeWidened unit (outline_padding style)) c) contour contours safe) each.1)

greatest_small : (k m : ℕ) (ks : List ℕ) → IsGreatest k ks → All (λ (l : ℕ). l ≤ m) ks → k ≤ m
greatest_small k m ks greatest all =
    ⊎_elim (λ (z : k ≡ 0). omega (arith, z)) (λ (c : Contains ks k). All-contains (λ (l : ℕ). l ≤ m) ks k all c) greatest.reached

pub outline_small : (k unit : ℕ) (style : OutlineStyle) (choices : Choices) (contours : List (List Point)) (answer : List (List (List Point))) → 2 ^ 14 ≤ unit → unit ≤ 2 ^ 30 →
    ArePathsSafe unit (outline_padding style) contours → AreOutlineRegionsBeyond k unit style choices contours answer → k ≤ 2 ^ 39
outline_small k unit style choices contours answer least most safe near =
    let own = ((outline_stays_safe unit style contours least safe).together near.outline.given near.outline.give).edges_safe in
    let first = greatest_small near.first (2 ^ 38) _ near.give.greatest (all_small unit style least most contours near.give.told safe near.give.each) in
    let last = beyond_small unit near.last (proper_edges near.outline.given) _ choices answer most own near.beyond in
    let added = near.added in omega (arith, first, last, added)
