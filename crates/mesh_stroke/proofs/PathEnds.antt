-- Lemmas over points: the ends of an open path are asked for as caps ask.
use Rattle.std.proofs.Common.{◌≡◌, ◌≢◌, ℕ, ◌≤◌, ◌^◌, List, ◌++◌, refl, sym, subst, ◌∙◌, ap, append_assoc, arith}
use Rattle.std.specs.Prelude.{ℤ, pos, ◌≤ℤ◌}
use Rattle.mesh_plane.specs.Plane.{Edge, opposite}
use Rattle.mesh_num.specs.Rectangle.{IsSafeWidened}
use Rattle.mesh_num.specs.Segments.{SignedEdge, segments_of}
use Rattle.mesh_num.specs.Direction.{IsShort}
use Rattle.mesh_num.proofs.Parts.{direction_fresh, direction_short}
use Rattle.mesh_join.specs.Joints.{HaveLength}
use Rattle.mesh_num.proofs.SegmentLists.{segments_of-append}
use Rattle.mesh_lattice.specs.Split.{back}
use Rattle.mesh_arc.specs.declared.arc.ArcDirection.TheVariants.{Counterclockwise}
use Rattle.mesh_join.specs.Joints.{joint}
use Rattle.mesh_join.specs.declared.style.StrokeSide.TheVariants.{Both}
use Rattle.mesh_stroke.specs.Caps.{CapKind, cap_edges, cap_padding, IsCapped}
use Rattle.mesh_stroke.specs.Ends.{half_turn}
use Rattle.mesh_stroke.specs.Private.Sections.{Section, own_edge, IsMade}
use Rattle.mesh_stroke.specs.Strokes.{heading, cap_at, open_ends}
use Rattle.mesh_stroke.proofs.Corners.{apart_back}
use Rattle.mesh_stroke.proofs.Ends.{opposite_short}
use Rattle.mesh_stroke.proofs.Sides.{heading_is}

-- what the code hands to a cap is the half turn round the end of the section
pub end_is : (unit : ℕ) (radius : ℤ) (s : Section) → IsMade unit radius s
    → joint s.b s.b_right s.b_left s.direction (opposite s.direction) radius Counterclockwise
    ≡ half_turn unit radius s.b (heading unit (own_edge s))
end_is unit radius s h = λ i.
    joint s.b (h.made i).b_right (h.made i).b_left (h.made i).direction (opposite (h.made i).direction) radius
    Counterclockwise

-- a half turn round the end of an edge can be capped
pub end_capped : (unit : ℕ) (radius : ℤ) (kind : CapKind) (e : Edge) → 2 ^ 14 ≤ unit → e.0 ≢ e.1 → pos 0 ≤ℤ radius → IsSafeWidened unit (cap_padding kind radius) e.1 →
    IsCapped unit kind (half_turn unit radius e.1 (heading unit e))
end_capped unit radius kind e least apart sign safe = record {
  end = record { made = refl; fresh = direction_fresh (omega arith) (heading_is unit e apart) };
  radius_sign = sign;
  safe = safe;
}

-- both caps were drawn
pub caps_drawn : (unit : ℕ) (radius : ℤ) (start end : CapKind) (first last before : Edge) (old mid new : List SignedEdge)
    → before ≡ back first
    → mid ≡ old ++ segments_of (cap_edges start unit (half_turn unit radius before.1 (heading unit before)))
    → new ≡ mid ++ segments_of (cap_edges end unit (half_turn unit radius last.1 (heading unit last)))
    → new ≡ old ++ segments_of (open_ends unit radius Both start end first last)
caps_drawn unit radius start end first last before old mid new e m h =
    let n : mid ≡ old ++ segments_of (cap_at unit radius start (back first)) =
    m ∙ ap (λ (g : Edge). old ++ segments_of (cap_at unit radius start g)) e in
    rw (h, n, segments_of-append (cap_at unit radius start (back first)) (cap_at unit radius end last))
    (append_assoc old (segments_of (cap_at unit radius start (back first))) (segments_of (cap_at unit radius end last)))

-- both directions are no longer than directions are
pub end_short : (unit : ℕ) (radius : ℤ) (s : Section) → IsMade unit radius s
    → HaveLength unit s.direction (opposite s.direction)
end_short unit radius s h = record { incoming_short = short; outgoing_short = opposite_short unit s.direction short }
  where
    short : IsShort unit s.direction
    short =
        subst (λ (t : Section). IsShort unit t.direction) (sym h.made)
        (direction_short (heading_is unit (own_edge s) h.differ))

-- the start of a path, as the end of its first edge read backwards
pub start_capped : (unit : ℕ) (radius : ℤ) (kind : CapKind) (e before : Edge) → 2 ^ 14 ≤ unit → e.0 ≢ e.1
    → before ≡ back e → pos 0 ≤ℤ radius → IsSafeWidened unit (cap_padding kind radius) e.0
    → IsCapped unit kind (half_turn unit radius before.1 (heading unit before))
start_capped unit radius kind e before least apart same sign safe =
    subst (λ (g : Edge). IsCapped unit kind (half_turn unit radius g.1 (heading unit g))) (sym same)
    (end_capped unit radius kind (back e) least (apart_back e apart) sign safe)
