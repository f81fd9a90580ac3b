-- Lemmas over points and lists: of what is added in steps, each step has room where all of it has.
use Rattle.std.proofs.Common.{◌≡◌, ℕ, ◌+◌, ◌≤◌, List, [], ◌∷◌, ◌++◌, length, sym, subst, ap, ◌∙◌, arith, length-append}
use Rattle.std.proofs.Common.{append_assoc, append-nil}
use Rattle.std.specs.Prelude.{ℤ, pos, ◌≤ℤ◌, ◌<ℤ◌}
use Rattle.mesh_plane.specs.Plane.{Point, Edge}
use Rattle.mesh_num.specs.Segments.{SignedEdge, segment_between, segments_of}
use Rattle.mesh_num.proofs.SegmentLists.{segments_of-append}
use Rattle.mesh_lattice.specs.Split.{back}
use Rattle.mesh_join.specs.Styles.{JoinStyle}
use Rattle.mesh_join.specs.declared.style.StrokeSide.{StrokeSide}
use Rattle.mesh_join.specs.declared.style.StrokeSide.TheVariants.{Both}
use Rattle.mesh_stroke.specs.Caps.{CapKind, cap_edges}
use Rattle.mesh_stroke.specs.Ends.{half_turn}
use Rattle.mesh_stroke.specs.Private.Sections.{Section, own_edge, faced_edges, opposite_side}
use Rattle.mesh_stroke.specs.Strokes.{heading, corner_edges, cap_at, open_ends}
use Rattle.mesh_stroke.proofs.Corners.{left_turn, corner_here, corner_there}

-- ---- the segments of edges

pub first_edges_fit : (es gs : List Edge) (n capacity : ℕ) → n + length (segments_of (es ++ gs)) ≤ capacity
    → n + length (segments_of es) ≤ capacity
first_edges_fit es gs n capacity fits =
    omega (arith, fits, ap length (segments_of-append es gs), length-append (segments_of es) (segments_of gs))

pub other_edges_fit : (es gs : List Edge) (old mid : List SignedEdge) (capacity grown : ℕ)
    → mid ≡ old ++ segments_of es → capacity ≤ grown → length old + length (segments_of (es ++ gs)) ≤ capacity
    → length mid + length (segments_of gs) ≤ grown
other_edges_fit es gs old mid capacity grown m more fits =
    omega (
      arith,
      fits,
      more,
      ap length m,
      length-append old (segments_of es),
      ap length (segments_of-append es gs),
      length-append (segments_of es) (segments_of gs),
    )

-- ---- two edges that are pushed one after the other

module _ (p q r t : Point) where
  abbrev two : List Edge
  two = (p, q) ∷ (r, t) ∷ []

  pub two_added : (old one new : List SignedEdge) → one ≡ old ++ segment_between p q → new ≡ one ++ segment_between r t
      → new ≡ old ++ segments_of two
  two_added old one new a b =
      b ∙ ap (λ l. l ++ segment_between r t) a ∙ append_assoc old (segment_between p q) (segment_between r t)
      ∙ ap (λ l. old ++ (segment_between p q ++ l)) (sym (append-nil (segment_between r t)))

  pub two_second : (old one : List SignedEdge) (capacity grown : ℕ) → one ≡ old ++ segment_between p q
      → capacity ≤ grown → length old + length (segments_of two) ≤ capacity
      → length one + length (segment_between r t) ≤ grown
  two_second old one capacity grown a more fits =
      omega (
        arith,
        fits,
        more,
        ap length a,
        length-append old (segment_between p q),
        length-append (segment_between p q) (segment_between r t ++ []),
        length-append (segment_between r t) [],
      )

-- ---- corners

pub room_there : (unit : ℕ) (radius : ℤ) (side : StrokeSide) (join : JoinStyle) (p n before after : Edge)
    (count capacity : ℕ) → left_turn (p, n) <ℤ pos 0 → before ≡ back n → after ≡ back p
    → count + length (segments_of (corner_edges unit radius side join (p, n))) ≤ capacity
    → count + length (segments_of (faced_edges unit radius (opposite_side side) join (before, after))) ≤ capacity
room_there unit radius side join p n before after count capacity turned b a fits =
    subst (λ (es : List Edge). count + length (segments_of es) ≤ capacity)
    (corner_there unit radius side join p n before after turned b a) fits

pub room_here : (unit : ℕ) (radius : ℤ) (side : StrokeSide) (join : JoinStyle) (p n : Section) (count capacity : ℕ)
    → pos 0 ≤ℤ left_turn (own_edge p, own_edge n)
    → count + length (segments_of (corner_edges unit radius side join (own_edge p, own_edge n))) ≤ capacity
    → count + length (segments_of (faced_edges unit radius side join (own_edge p, own_edge n))) ≤ capacity
room_here unit radius side join p n count capacity left fits =
    subst (λ (es : List Edge). count + length (segments_of es) ≤ capacity)
    (corner_here unit radius side join (own_edge p, own_edge n) left) fits

-- ---- caps

pub room_for_start : (unit : ℕ) (radius : ℤ) (start end : CapKind) (first last before : Edge) (count capacity : ℕ)
    → before ≡ back first
    → count + length (segments_of (open_ends unit radius Both start end first last)) ≤ capacity
    → count + length (segments_of (cap_edges start unit (half_turn unit radius before.1 (heading unit before))))
    ≤ capacity
room_for_start unit radius start end first last before count capacity e fits =
    subst (λ (g : Edge). count + length (segments_of (cap_at unit radius start g)) ≤ capacity) (sym e)
    (first_edges_fit (cap_at unit radius start (back first)) (cap_at unit radius end last) count capacity fits)

pub room_for_end : (unit : ℕ) (radius : ℤ) (start end : CapKind) (first last before : Edge)
    (old mid : List SignedEdge) (capacity grown : ℕ) → before ≡ back first
    → mid ≡ old ++ segments_of (cap_edges start unit (half_turn unit radius before.1 (heading unit before)))
    → capacity ≤ grown
    → length old + length (segments_of (open_ends unit radius Both start end first last)) ≤ capacity
    → length mid + length (segments_of (cap_edges end unit (half_turn unit radius last.1 (heading unit last)))) ≤ grown
room_for_end unit radius start end first last before old mid capacity grown e m more fits =
    other_edges_fit (cap_at unit radius start (back first)) (cap_at unit radius end last) old mid capacity grown
    (m ∙ ap (λ (g : Edge). old ++ segments_of (cap_at unit radius start g)) e) more fits
