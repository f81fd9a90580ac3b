-- Lemmas over paths: where no radius is above 1 nothing is drawn.
use Rattle.std.proofs.Common.{◌≡◌, ℕ, List, [], ◌∷◌, ◌++◌, refl, sym, subst, ◌∙◌, ap, append-nil, length, arith}
use Rattle.std.specs.Prelude.{Bool, true, false, cond, ◌||◌, ◌&&◌, if◌then◌else◌, Option, Some, None}
use Rattle.std.specs.Prelude.{ℤ, pos, ◌≤ℤ◌, int_le}
use Rattle.std.specs.Int.{int_max}
use Rattle.std.specs.List.{All}
use Rattle.std.proofs.lemmas.Int.{ints, clamps}
use Rattle.std.proofs.lemmas.List.{nil_from_length, length-map}
use Rattle.std.proofs.lemmas.List.Elements.{All-nil, All-cons, All-head, All-tail}
use Rattle.std.proofs.lemmas.List.Sorted.{length_permutation}
use Rattle.mesh_plane.specs.Plane.{Edge}
use Rattle.mesh_plane.specs.Winding.{same_point}
use Rattle.mesh_num.specs.Segments.{SignedEdge, segments_of, edges_of, edge_of}
use Rattle.mesh_arc.specs.declared.arc.ArcOptions.{ArcOptions}
use Rattle.mesh_join.specs.VariableStyles.{Vertex}
use Rattle.mesh_offset.specs.Built.{Adds}
use Rattle.mesh_offset.specs.Radii.{radius_of}
use Rattle.mesh_offset.proofs.Drawn.{added_length}
use Rattle.mesh_circle.specs.Sweeps.{circle_edges}
use Rattle.mesh_circle.proofs.Cases.{no_circle}
use Rattle.mesh_circle.specs.Sections.{Circle, Section, section_of, with_contacts, is_nested}
use Rattle.mesh_variable_stroke.specs.Chains.{Step, is_break, is_cover, end_before, circle_of}
use Rattle.mesh_variable_stroke.specs.Drawn.{greatest_radius}
use Rattle.mesh_variable_stroke.specs.Private.Walks.{Open, Walk, opened, last_with, walk_from, step_to, walked, walked_edges}
use Rattle.mesh_variable_stroke.specs.Private.Walks.{step_edges, closing_edges, finish_edges, IsThinOpen, IsThinWalk}
use Rattle.mesh_variable_stroke.specs.VariableStrokes.{are_butt, variable_stroke_edges}
use Rattle.mesh_variable_stroke.specs.declared.chain_end.ChainEnd.{ChainEnd}
use Rattle.mesh_variable_stroke.specs.declared.chain_end.ChainEnd.TheVariants.{Butt, Round}
use Rattle.mesh_variable_stroke.proofs.Walking.{coming, coming_step, coming_starts, path_stream, todo_ends, walk_adds}

-- ---- vertices

abbrev pub IsThinVertex : Vertex → Type 0
IsThinVertex v = radius_of v.width ≤ℤ pos 1

thin_vertices : (vs : List Vertex) → greatest_radius vs ≤ℤ pos 1 → All IsThinVertex vs
unfolding greatest_radius
thin_vertices [] most = All-nil IsThinVertex
thin_vertices (v ∷ vs) most =
    let own : radius_of v.width ≤ℤ int_max (radius_of v.width) (greatest_radius vs) = omega (arith, ints, clamps) in
    let others : greatest_radius vs ≤ℤ int_max (radius_of v.width) (greatest_radius vs) = omega (arith, ints, clamps) in
    All-cons IsThinVertex v vs (omega (arith, ints, own, most)) (thin_vertices vs (omega (arith, ints, others, most)))

-- ---- sections and chains

at_most_one : (r : ℤ) → r ≤ℤ pos 1 → int_le r (pos 1) ≡ true
at_most_one r h = grind (arith, ints)

-- two such circles have no section
pub thin_section : (unit : ℕ) (a b : Circle) → a.radius ≤ℤ pos 1 → b.radius ≤ℤ pos 1 → section_of unit a b ≡ None
thin_section unit a b ha hb = by (same_point a.center b.center)
  where
    by : (same : Bool) → cond (same || ((int_le a.radius (pos 1) && int_le b.radius (pos 1)) || is_nested a b)) None (Some (with_contacts unit a b)) ≡ None
    by true = refl
    by false = rw (at_most_one a.radius ha, at_most_one b.radius hb) refl

-- `v` is how the code sees the walk `w`
pub thin_chain_seen : (w v : Walk) → v ≡ w → IsThinWalk w → IsThinOpen v.chain
thin_chain_seen w v e h = subst (λ (k : Walk). IsThinOpen k.chain) (sym e) h.chain

pub none_seen : (unit : ℕ) (w v : Walk) (b : Circle) (o : Option Section) → v ≡ w → o ≡ section_of unit v.at b → IsThinWalk w → b.radius ≤ℤ pos 1 → o ≡ None
none_seen unit w v b o e is h small =
    is ∙ thin_section unit v.at b (subst (λ (k : Walk). k.at.radius ≤ℤ pos 1) (sym e) h.at) small

-- a thin walk stays thin, and adds nothing
pub thin_walked : (w : Walk) (s : Step) → s.section ≡ None → s.a.radius ≤ℤ pos 1 → s.b.radius ≤ℤ pos 1 → IsThinOpen w.chain → IsThinWalk (walked w s)
thin_walked w s none ha hb h = by (is_break s) (is_cover s) refl refl
  where
    by : (b k : Bool) → is_break s ≡ b → is_cover s ≡ k → IsThinWalk (walked w s)
    by true k e f = rw e (record { chain = record { start = hb; last = refl }; at = hb })
    by false true e f = rw (e, f) (record { chain = record { start = ha; last = ap (last_with None) none }; at = hb })
    by false false e f = rw (e, f) (record { chain = record { start = h.start; last = ap (last_with w.chain.last) none ∙ h.last }; at = hb })

nothing_either_way : (b : Bool) (es : List Edge) → es ≡ [] → (if b then [] else es) ≡ []
nothing_either_way true es h = refl
nothing_either_way false es h = h

module _ (unit : ℕ) (options : ArcOptions) where
  thin_finish : (c : Open) (end : ChainEnd) → IsThinOpen c → finish_edges unit options c end ≡ []
  thin_finish c end h =
      ap (closing_edges unit options c end) h.last
      ∙ nothing_either_way (c.has_step || are_butt c.start_end end) (circle_edges unit options c.start.center c.start.radius)
      (no_circle unit options c.start.center c.start.radius h.start)

  thin_edges : (w : Walk) (s : Step) → s.section ≡ None → IsThinOpen w.chain → walked_edges unit options w s ≡ []
  thin_edges w s none h = by (is_break s) (is_cover s) refl refl
    where
      by : (b k : Bool) → is_break s ≡ b → is_cover s ≡ k → walked_edges unit options w s ≡ []
      by true k e f = rw e (thin_finish w.chain (end_before s.a s.b) h)
      by false true e f =
          rw (e, f)
          (ap (λ (es : List Edge). es ++ step_edges unit options (opened s.a Butt) s.section) (thin_finish w.chain Round h)
          ∙ ap (step_edges unit options (opened s.a Butt)) none)
      by false false e f = rw (e, f) (ap (step_edges unit options w.chain) none)

-- ---- walks along paths

-- a walk is thin, and so are the vertices before it
pub record IsThin (w : Walk) (rest : List Vertex) : Type 0 where
  pub walk : IsThinWalk w
  pub left : All IsThinVertex rest

pub thin_starts : (path : List Vertex) (v : Vertex) (rest : List Vertex) (c : Circle) (w : Walk) → path ≡ v ∷ rest → c ≡ circle_of v → w ≡ walk_from c →
    greatest_radius path ≤ℤ pos 1 → IsThin w rest
thin_starts path v rest c w p e b h =
    let all : All IsThinVertex (v ∷ rest) = rw p at (thin_vertices path h) in
    let start : w ≡ walk_from (circle_of v) = b ∙ ap walk_from e in
    let own : (circle_of v).radius ≤ℤ pos 1 = All-head IsThinVertex v rest all in
    record {
      walk = rw start (record { chain = record { start = own; last = refl }; at = own });
      left = All-tail IsThinVertex v rest all;
    }

pub thin_next : (w : Walk) (v : Vertex) (left : List Vertex) (c : Circle) → c ≡ circle_of v → IsThin w (v ∷ left) → c.radius ≤ℤ pos 1
thin_next w v left c e h = subst (λ (k : Circle). k.radius ≤ℤ pos 1) (sym e) (All-head IsThinVertex v left h.left)

pub thin_steps : (unit : ℕ) (w : Walk) (v : Vertex) (left : List Vertex) (c : Circle) (next : Walk) → c ≡ circle_of v → IsThin w (v ∷ left) →
    next ≡ walked w (step_to unit w c) → IsThin next left
thin_steps unit w v left c next e h goes =
    let small : c.radius ≤ℤ pos 1 = thin_next w v left c e h in
    record {
      walk =
          subst IsThinWalk (sym goes)
          (thin_walked w (step_to unit w c) (thin_section unit w.at c h.walk.at small) h.walk.at small h.walk.chain);
      left = All-tail IsThinVertex v left h.left;
    }

module _ (unit : ℕ) (options : ArcOptions) where
  thin_coming : (w : Walk) (left : List Vertex) → IsThin w left → coming unit options w left ≡ []
  thin_coming w [] h = todo_ends unit options w ∙ thin_finish unit options w.chain w.end h.walk.chain
  thin_coming w (v ∷ left) h =
      let s = step_to unit w (circle_of v) in
      let none : s.section ≡ None = thin_section unit w.at (circle_of v) h.walk.at (All-head IsThinVertex v left h.left) in
      coming_step unit options w v left
      ∙ (ap (λ (es : List Edge). es ++ coming unit options (walked w s) left) (thin_edges unit options w s none h.walk.chain)
      ∙ thin_coming (walked w s) left (thin_steps unit w v left (circle_of v) (walked w s) refl h refl))

  thin_stream : (path : List Vertex) → greatest_radius path ≤ℤ pos 1 → path_stream unit options path ≡ []
  thin_stream [] h = refl
  thin_stream (v ∷ rest) h =
      coming_starts unit options v rest
      ∙ thin_coming (walk_from (circle_of v)) rest (thin_starts (v ∷ rest) v rest (circle_of v) (walk_from (circle_of v)) refl refl refl h)

  thin_stroke : (path : List Vertex) → greatest_radius path ≤ℤ pos 1 → length (variable_stroke_edges unit options path) ≡ 0
  thin_stroke path h =
      let none : Adds [] [] (variable_stroke_edges unit options path) = walk_adds unit options path [] [] (ap segments_of (sym (thin_stream path h))) in
      sym (added_length [] [] (variable_stroke_edges unit options path) none)

  -- what such a path's stroke adds is nothing
  pub thin_adds : (path : List Vertex) (old new : List SignedEdge) → greatest_radius path ≤ℤ pos 1 → Adds old new (variable_stroke_edges unit options path) →
      new ≡ old
  thin_adds path old new thin h =
      let es = variable_stroke_edges unit options path in
      let count : length h.0 ≡ 0 = omega (arith, length_permutation (edges_of h.0) es h.2, length-map h.0 edge_of, thin_stroke path thin) in
      h.1 ∙ (ap (λ l. old ++ l) (nil_from_length h.0 count) ∙ append-nil old)
