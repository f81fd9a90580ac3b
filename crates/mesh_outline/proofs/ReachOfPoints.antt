-- Lemmas over points and lists: how far what is drawn along the sections of a contour lies from their ends.
use Rattle.std.proofs.Common.{◌≡◌, ◌≢◌, ℕ, ◌<◌, ◌≤◌, ◌^◌, ⊎_elim, inr, List, true, false, refl, sym, ◌∙◌, ap, subst}
use Rattle.std.proofs.Common.{arith}
use Rattle.std.specs.Prelude.{ℤ, pos, unsigned_abs, map, max}
use Rattle.std.specs.List.{All, Contains}
use Rattle.std.proofs.lemmas.Bool.{true≢false, cases_lt}
use Rattle.std.proofs.lemmas.List.Elements.{All-weaker, All-contains_itself}
use Rattle.mesh_plane.specs.Plane.{Point, Edge, minus, length_sq}
use Rattle.mesh_plane.specs.Winding.{boundary, same_point}
use Rattle.mesh_plane.proofs.Comparing.{decides_point}
use Rattle.mesh_plane.proofs.ClosedLists.{all_both, boundary_all}
use Rattle.mesh_num.specs.Directed.{direction_of}
use Rattle.mesh_num.proofs.Directed.{direction_of_is}
use Rattle.mesh_num.proofs.Parts.{direction_fresh, direction_short}
use Rattle.mesh_arc.specs.declared.arc.ArcDirection.TheVariants.{Counterclockwise}
use Rattle.mesh_join.specs.Joints.{contact}
use Rattle.mesh_join.specs.Styles.{OffsetJoin}
use Rattle.mesh_join.specs.declared.style.IntLineJoin.{IntLineJoin}
use Rattle.mesh_join.specs.declared.style.IntLineJoin.TheVariants.{Bevel, Miter, Round}
use Rattle.mesh_join.proofs.JoinLaws.{KeepsJoint}
use Rattle.mesh_join.proofs.Joins.{join_keeps}
use Rattle.mesh_reach.specs.Joins.{rounded_reach, diagonal_reach, join_reach}
use Rattle.mesh_reach.proofs.JoinPoints.{IsBy, by_more, contact_by, contact_leads, join_by, none_by, radius_covered}
use Rattle.mesh_reach.proofs.Pieces.{IsEndOf}
use Rattle.mesh_offset.proofs.Apart.{apart_long}
use Rattle.mesh_outline.specs.Outline.{SectionPair, outer_edges, section_of}
use Rattle.mesh_outline.specs.Outline.{parts, joint_at, joined}
use Rattle.mesh_outline.specs.Reach.{outline_reach}
use Rattle.mesh_outline.proofs.Corners.{IsClosedProper, corners, corners_keep}

-- the reach of a join is that of the radius' size
join_reach_sized : (unit : ℕ) → 2 ^ 14 ≤ unit →
    (kind : IntLineJoin) (radius : ℤ) → join_reach kind (pos (unsigned_abs radius)) ≡ join_reach kind radius
join_reach_sized unit least Bevel radius = refl
join_reach_sized unit least (Miter angle) radius =
    ap (λ (padding : ℤ). max (rounded_reach (unsigned_abs radius)) (diagonal_reach (unsigned_abs padding)))
    ((join_keeps unit (record { kind = Miter angle; min_turn = 0 }) least).sized radius)
join_reach_sized unit least (Round options) radius = refl

module _ (unit : ℕ) (least : 2 ^ 14 ≤ unit) (style : OffsetJoin) (contour : List Edge)
    (ring : IsClosedProper contour) where
  moved_by_offset : (e : Edge) (v : Point) → e.0 ≢ e.1 →
      IsBy (rounded_reach (unsigned_abs style.offset)) v
      (contact unit style.offset Counterclockwise v (direction_of unit (minus e.1 e.0)))
  moved_by_offset e v apart =
      contact_by unit style.offset Counterclockwise v (direction_of unit (minus e.1 e.0)) (omega arith)
      (direction_short (direction_of_is unit (minus e.1 e.0) (apart_long e apart)))

  -- where an end of a section is moved to
  pub beside : (e : Edge) (v : Point) → e.0 ≢ e.1 →
      IsBy (outline_reach style) v (contact unit style.offset Counterclockwise v (direction_of unit (minus e.1 e.0)))
  beside e v apart =
      by_more (rounded_reach (unsigned_abs style.offset)) (outline_reach style) v
      (radius_covered style.join.kind style.offset)
      (contact unit style.offset Counterclockwise v (direction_of unit (minus e.1 e.0))) (moved_by_offset e v apart)

  -- a corner at an end of a section, with the moved ends near it
  pub record IsCornerOf (c : SectionPair) : Type 0 where
    pub end : IsEndOf contour c.0.b
    pub met : c.0.b ≡ c.1.a
    pub leads : same_point c.0.b_top c.1.a_top ≡ false → 0 < length_sq (minus c.0.b_top c.0.b)
    pub first : IsBy (rounded_reach (unsigned_abs style.offset)) c.0.b c.0.b_top
    pub last : IsBy (rounded_reach (unsigned_abs style.offset)) c.0.b c.1.a_top

  -- an offset of 0 moves both to the corner
  moved_apart : (v p r : Point) → IsBy (rounded_reach (unsigned_abs style.offset)) v p →
      IsBy (rounded_reach (unsigned_abs style.offset)) v r →
      same_point p r ≡ false → 1 ≤ unsigned_abs style.offset
  moved_apart v p r first last apart =
      ⊎_elim (λ (h : 0 < unsigned_abs style.offset). h)
      (λ (h : unsigned_abs style.offset ≤ 0).
      let none : unsigned_abs style.offset ≡ 0 = omega arith in
      let p_is : p ≡ v = none_by v p (subst (λ (n : ℕ). IsBy (rounded_reach n) v p) none first) in
      let r_is : r ≡ v = none_by v r (subst (λ (n : ℕ). IsBy (rounded_reach n) v r) none last) in
      absurd (true≢false (sym ((decides_point p r).1 (p_is ∙ sym r_is)) ∙ apart)))
      (cases_lt 0 (unsigned_abs style.offset))

  corner_of : (e g : Edge) → e.0 ≢ e.1 → g.0 ≢ g.1 → e.1 ≡ g.0 → Contains contour e →
      IsCornerOf (section_of unit style.offset e, section_of unit style.offset g)
  corner_of e g pe pg met listed = record {
    end = record { edge = e; listed = listed; end = inr refl };
    met = met;
    leads = λ apart. contact_leads unit style.offset Counterclockwise e.1 (direction_of unit (minus e.1 e.0)) least
        (moved_apart e.1 (section_of unit style.offset e).b_top (section_of unit style.offset g).a_top first last apart)
        (direction_fresh (omega arith) (direction_of_is unit (minus e.1 e.0) (apart_long e pe)));
    first = first;
    last = last;
  }
    where
      first : IsBy (rounded_reach (unsigned_abs style.offset)) e.1 (section_of unit style.offset e).b_top
      first = moved_by_offset e e.1 pe

      last : IsBy (rounded_reach (unsigned_abs style.offset)) e.1 (section_of unit style.offset g).a_top
      last =
          subst (λ (v : Point). IsBy (rounded_reach (unsigned_abs style.offset)) v
          (contact unit style.offset Counterclockwise g.0 (direction_of unit (minus g.1 g.0))))
          (sym met) (moved_by_offset g g.0 pg)

  abbrev pub Keeps : SectionPair → Type 0
  Keeps c = parts style.offset c ≡ true → KeepsJoint unit style.join (joint_at style.offset c)

  -- the edges of the join of an outer corner have their ends near it
  pub join_at : (c : SectionPair) → IsCornerOf c → Keeps c → parts style.offset c ≡ true →
      All (λ (e : Edge). IsBy (outline_reach style) c.0.b e.0 × IsBy (outline_reach style) c.0.b e.1)
      (outer_edges (joined unit style) c)
  join_at c h keeps outer =
      subst (λ (n : ℕ). All (λ (e : Edge). IsBy n c.0.b e.0 × IsBy n c.0.b e.1) (outer_edges (joined unit style) c))
      (join_reach_sized unit least style.join.kind style.offset)
      (join_by unit least (joint_at style.offset c) h.leads style.join (keeps outer) h.first h.last)

  -- the sections have different ends
  pub sections_listed : All (λ (e : Edge). (e.0 ≢ e.1) × Contains contour e) contour
  sections_listed =
      all_both (λ (e : Edge). e.0 ≢ e.1) (Contains contour) contour ring.proper (All-contains_itself contour)

  corners_of : All IsCornerOf (boundary (map (section_of unit style.offset) contour))
  corners_of =
      corners unit style.offset IsCornerOf contour
      (All-weaker (λ (c : Edge × Edge). (((c.0.0 ≢ c.0.1) × Contains contour c.0) ×
      ((c.1.0 ≢ c.1.1) × Contains contour c.1)) × (c.0.1 ≡ c.1.0))
      (λ (c : Edge × Edge). IsCornerOf (section_of unit style.offset c.0, section_of unit style.offset c.1))
      (λ c h. corner_of c.0 c.1 h.0.0.0 h.0.1.0 h.1 h.0.0.1) (boundary contour)
      (all_both (λ (c : Edge × Edge). ((c.0.0 ≢ c.0.1) × Contains contour c.0) ×
      ((c.1.0 ≢ c.1.1) × Contains contour c.1)) (λ (c : Edge × Edge). c.0.1 ≡ c.1.0) (boundary contour)
      (boundary_all (λ (e : Edge). (e.0 ≢ e.1) × Contains contour e) contour sections_listed)
      ring.closed))

  -- all corners are such, and their joins keep what joins keep
  pub corners_met : All (λ (c : SectionPair). IsCornerOf c × Keeps c)
      (boundary (map (section_of unit style.offset) contour))
  corners_met =
      all_both IsCornerOf Keeps (boundary (map (section_of unit style.offset) contour)) corners_of
      (corners_keep unit style least contour ring)
