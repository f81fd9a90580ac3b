-- Lemmas over numbers and lists: what is told of strokes, from the limits of their reach.
use Rattle.std.proofs.Common.{◌≡◌, ◌≢◌, ℕ, suc, ◌+◌, ◌*◌, ◌^◌, ◌<◌, ◌≤◌, List, [], ◌∷◌, ◌++◌, Bool, true, false, Option, Some, None, refl, sym, ◌∙◌, subst, arith}
use Rattle.std.specs.Prelude.{ℤ, pos, ◌<ℤ◌, unsigned_abs, int_le, IfSome}
use Rattle.std.specs.List.{All}
use Rattle.std.proofs.Math.Nat.{mul-le-mul}
use Rattle.std.proofs.lemmas.Bool.{true≢false}
use Rattle.std.proofs.lemmas.Int.{ints, clamps}
use Rattle.std.proofs.lemmas.List.Elements.{All-nil, All-cons, All-head, All-weaker, All-append}
use Rattle.mesh_plane.specs.Plane.{Point, Edge, minus, length_sq}
use Rattle.mesh_plane.proofs.ClosedLists.{all_left, all_right}
use Rattle.mesh_num.proofs.Parts.{direction_short}
use Rattle.mesh_num.proofs.Scaling.{scaled_direction_bounded}
use Rattle.mesh_offset.proofs.Apart.{apart_long}
use Rattle.mesh_join.specs.declared.style.StrokeSide.TheVariants.{Both}
use Rattle.mesh_stroke.specs.Paths.{neighbours, path_edges}
use Rattle.mesh_stroke.specs.Strokes.{heading}
use Rattle.mesh_stroke.specs.Styles.{StrokeStyle}
use Rattle.mesh_stroke.proofs.Sides.{heading_is}
use Rattle.mesh_inner.specs.Inner.{step, IsSectionWide, HasJoinRoom, HaveEndsRoom, HasInnerReach, HoldsWithin}
use Rattle.mesh_inner.specs.Private.Limits.{IsLimitOfAll, IsPathLimit, IsReachOf, lesser}
use Rattle.mesh_inner.specs.Private.Walks.{IsLimit}
use Rattle.mesh_inner.specs.Told.{CanBeTold, IsInnerReach}
use Rattle.mesh_inner.proofs.Limits.{min_limit}
use Rattle.mesh_inner.proofs.Proper.{as_far}
use Rattle.mesh_inner.proofs.Strokes.{strokes_hold}

module _ (unit : ℕ) (style : StrokeStyle) where
  -- no section is so wide as the type's greatest number
  step_short : (e : Edge) → 0 < unit → e.0 ≢ e.1 → unsigned_abs style.radius ≤ 2 ^ 28 → length_sq (step unit style.radius e) ≤ 2 ^ 57
  step_short e some apart small =
      let b = scaled_direction_bounded unit style.radius (heading unit e) some (direction_short (heading_is unit e apart)) in
      let p : unsigned_abs (step unit style.radius e).0 ≤ 2 ^ 28 = omega (arith, b.0, small) in
      let q : unsigned_abs (step unit style.radius e).1 ≤ 2 ^ 28 = omega (arith, b.1, small) in
      let x = mul-le-mul p p in
      let y = mul-le-mul q q in
      omega (arith, x, y)

  pub reach_fits : (closed : Bool) (es : List Edge) (first : Edge) (others : List Edge) (all : ℤ) → es ≡ first ∷ others → first.0 ≢ first.1 → 0 < unit → unit ≤ 2 ^ 30
      → 4 * unsigned_abs style.radius ≤ unit → IsLimit all (λ t. HasInnerReach unit style closed t es) → all <ℤ pos (2 ^ 64)
  reach_fits closed es first others all whole apart some most small h = by (int_le (pos (2 ^ 64)) all) refl
    where
      by : (b : Bool) → int_le (pos (2 ^ 64)) all ≡ b → all <ℤ pos (2 ^ 64)
      by true e =
          let wide : All (IsSectionWide unit style.radius (2 ^ 64)) (first ∷ others) =
          subst (All (IsSectionWide unit style.radius (2 ^ 64))) whole ((h (2 ^ 64)).0 (omega (arith, ints, e))).sections in
          let far = as_far (2 ^ 64) (step unit style.radius first) (minus first.1 first.0) (apart_long first apart)
          (All-head (IsSectionWide unit style.radius (2 ^ 64)) first others wide) in
          let short = step_short first some apart (omega (arith, most, small)) in
          absurd (omega (arith, far, short))
      by false e = omega (arith, ints, e)

  -- ---- several paths

  abbrev Reaches : Bool → ℕ → List Point → Type 0
  Reaches closed t points = HasInnerReach unit style closed t (path_edges closed points)

  -- a path without a section leaves any room
  empty_reaches : (closed : Bool) (t : ℕ) (points : List Point) → path_edges closed points ≡ [] → Reaches closed t points
  unfolding HaveEndsRoom
  empty_reaches closed t points none =
      subst (HasInnerReach unit style closed t) (sym none)
      (record { sections = All-nil (IsSectionWide unit style.radius t); joins = joins closed; ends = ends closed })
    where
      joins : (b : Bool) → All (HasJoinRoom unit style t) (neighbours b [])
      joins true = All-nil (HasJoinRoom unit style t)
      joins false = All-nil (HasJoinRoom unit style t)

      ends : (b : Bool) → HaveEndsRoom unit style b t []
      ends true = tt
      ends false = tt

  pub limit_of_none : (closed : Bool) → IsLimitOfAll unit style closed [] None
  limit_of_none closed = All-nil (λ (points : List Point). path_edges closed points ≡ [])

  -- one more path
  pub limit_of_more : (closed : Bool) (paths more : List (List Point)) (points : List Point) (a b : Option ℤ) → more ≡ paths ++ points ∷ []
      → IsLimitOfAll unit style closed paths a → IsPathLimit unit style closed points b → IsLimitOfAll unit style closed more (lesser a b)
  limit_of_more closed paths more points a b e h k = subst (λ (l : List (List Point)). IsLimitOfAll unit style closed l (lesser a b)) (sym e) (by a b h k)
    where
      has_none : List Point → Type 0
      has_none p = path_edges closed p ≡ []

      all_reach : (t : ℕ) → All has_none paths → All (Reaches closed t) paths
      all_reach t none = All-weaker has_none (Reaches closed t) (empty_reaches closed t) paths none

      pushed : (t : ℕ) → All (Reaches closed t) paths → Reaches closed t points → All (Reaches closed t) (paths ++ points ∷ [])
      pushed t xs x = All-append (Reaches closed t) paths (points ∷ []) xs (All-cons (Reaches closed t) points [] x (All-nil (Reaches closed t)))

      first : (t : ℕ) → All (Reaches closed t) (paths ++ points ∷ []) → All (Reaches closed t) paths
      first t all = all_left (Reaches closed t) paths (points ∷ []) all

      last : (t : ℕ) → All (Reaches closed t) (paths ++ points ∷ []) → Reaches closed t points
      last t all = All-head (Reaches closed t) points [] (all_right (Reaches closed t) paths (points ∷ []) all)

      by : (a b : Option ℤ) → IsLimitOfAll unit style closed paths a → IsPathLimit unit style closed points b
          → IsLimitOfAll unit style closed (paths ++ points ∷ []) (lesser a b)
      by None None h k = All-append has_none paths (points ∷ []) h (All-cons has_none points [] k (All-nil has_none))
      by None (Some l) h k =
          (λ t. (λ at. pushed t (all_reach t h) ((k.0 t).0 at), λ all. (k.0 t).1 (last t all)), k.1)
      by (Some l) None h k =
          (λ t. (λ at. pushed t ((h.0 t).0 at) (empty_reaches closed t points k), λ all. (h.0 t).1 (first t all)), h.1)
      by (Some l) (Some n) h k = (
        λ t.
            let m = min_limit l n t in (
              λ at. let both = m.0 at in pushed t ((h.0 t).0 both.0) ((k.0 t).0 both.1),
              λ all. m.1 ((h.0 t).1 (first t all), (k.0 t).1 (last t all)),
            ),
        omega (arith, ints, clamps, h.1, k.1),
      )

  -- ---- what is told

  pub told_is : (closed : Bool) (paths : List (List Point)) (limit : Option ℤ) (told : Option ℕ) → CanBeTold unit style
      → IsLimitOfAll unit style closed paths limit → IsReachOf limit told → IsInnerReach unit style closed paths told
  told_is closed paths None told can h m =
      subst (IsInnerReach unit style closed paths) (sym m) (λ s g. absurd (omega (arith, g.greatest (suc s) (any (2 * suc s + 3)))))
    where
      any : (t : ℕ) → All (Reaches closed t) paths
      any t = All-weaker (λ (p : List Point). path_edges closed p ≡ []) (Reaches closed t) (empty_reaches closed t) paths h
  told_is closed paths (Some l) None can h m = λ s g. let at = (h.0 (2 * s + 3)).1 g.room in absurd (omega (arith, ints, m, at))
  told_is closed paths (Some l) (Some s) can h m = record {
    can = can;
    room = (h.0 (2 * s + 3)).0 m.0;
    greatest = λ u r. let at = (h.0 (2 * u + 3)).1 r in omega (arith, ints, m.1, at);
  }

  pub told_holds : (closed : Bool) (paths : List (List Point)) (told : Option ℕ) → 0 < unit → IsInnerReach unit style closed paths told
      → IfSome told (λ s. All (HoldsWithin unit style closed s) paths)
  told_holds closed paths None some h = tt
  told_holds closed paths (Some s) some h =
      All-weaker (Reaches closed (2 * s + 3)) (HoldsWithin unit style closed s)
      (λ points r. λ m e q.
      strokes_hold unit style closed (2 * s + 3) points some h.can.wide h.can.small h.can.both r (2 * s) m e q (omega arith))
      paths h.room

  pub can_be_told : (radius : ℤ) → radius ≡ style.radius
      → (style.side ≡ Both) × (pos 1 <ℤ radius) × (4 * unsigned_abs radius ≤ unit) → CanBeTold unit style
  can_be_told radius er h = record {
    both = h.0;
    wide = subst (λ (r : ℤ). pos 1 <ℤ r) er h.1;
    small = subst (λ (r : ℤ). 4 * unsigned_abs r ≤ unit) er h.2;
  }

  pub cannot_be_told : (closed : Bool) (paths : List (List Point)) (radius : ℤ) (r : Bool) → radius ≡ style.radius
      → ((style.side ≡ Both) × (pos 1 <ℤ radius) × (4 * unsigned_abs radius ≤ unit) → r ≡ true) → r ≡ false → IsInnerReach unit style closed paths None
  cannot_be_told closed paths radius r er can refused =
      λ s g. absurd (true≢false (sym (can (
        g.can.both,
        subst (λ (z : ℤ). pos 1 <ℤ z) (sym er) g.can.wide,
        subst (λ (z : ℤ). 4 * unsigned_abs z ≤ unit) (sym er) g.can.small,
      )) ∙ refused))
