-- Lemmas over points and lists: where the builder's walk stands, and how it goes on.
use Rattle.std.proofs.Common.{◌≡◌, ℕ, List, [], ◌∷◌, ◌++◌, sym, subst, ◌∙◌, ap}
use Rattle.std.specs.Prelude.{Bool, true, false, ℤ, pos, ◌≤ℤ◌}
use Rattle.std.specs.List.{All}
use Rattle.mesh_plane.specs.Plane.{Point, Edge}
use Rattle.mesh_num.specs.Segments.{SignedEdge, segments_of}
use Rattle.mesh_offset.specs.Built.{Adds}
use Rattle.mesh_stroke.specs.Building.{IsStrokable}
use Rattle.mesh_stroke.specs.Caps.{drawn_cap}
use Rattle.mesh_stroke.specs.Private.Sections.{Section, section_of, own_edge, IsCorner, AreEnds}
use Rattle.mesh_stroke.specs.Paths.{path_edges}
use Rattle.mesh_stroke.specs.Styles.{StrokeStyle}
use Rattle.mesh_stroke.specs.Strokes.{side_edges, corner_edges, path_ends, drawn_edges}
use Rattle.mesh_stroke.proofs.BuilderWalk.{ends_by, to_come, walk_edges, walk_starts, walk_goes_on, walk_ends, IsFit, Continues, path_begins, fit_corner, fit_ends}

-- the walk stands at the section `p`, with the edges `left` to come, and began with the section `first`
pub record Stands (unit : ℕ) (style : StrokeStyle) (closed : Bool) (all : List Edge) (old now : List SignedEdge) (first p : Section) (left : List Edge) : Type 0 where
  pub todo : now ++ segments_of (to_come unit style closed (own_edge p) left (own_edge first)) ≡ old ++ segments_of (walk_edges unit style closed all)
  pub first_made : first ≡ section_of unit style.radius (own_edge first)
  pub first_fit : IsFit unit style (own_edge first)
  pub made : p ≡ section_of unit style.radius (own_edge p)
  pub fit : IsFit unit style (own_edge p)
  pub going : Continues unit style closed (own_edge p) left (own_edge first)

-- the edge of a section that was made of it
own_is : (unit : ℕ) (radius : ℤ) (s : Section) (e : Edge) → s ≡ section_of unit radius e → own_edge s ≡ e
own_is unit radius s e h = ap own_edge h

made_again : (unit : ℕ) (radius : ℤ) (s : Section) (e : Edge) → s ≡ section_of unit radius e → s ≡ section_of unit radius (own_edge s)
made_again unit radius s e h = h ∙ ap (section_of unit radius) (sym (own_is unit radius s e h))

module _ (unit : ℕ) (style : StrokeStyle) (closed : Bool) (points : List Point) where
  abbrev all : List Edge
  all = path_edges closed points

  -- the first edge of a path is fit
  pub first_fits : (e : Edge) (es : List Edge) → All (IsStrokable unit style) points → path_edges closed points ≡ e ∷ es → IsFit unit style e
  first_fits e es safe c = (path_begins unit style closed points e es safe c).0

  -- after the sides of the first section
  pub stands_first : (e : Edge) (es : List Edge) (first : Section) (old new : List SignedEdge) → All (IsStrokable unit style) points → path_edges closed points ≡ e ∷ es →
      first ≡ section_of unit style.radius e → new ≡ old ++ segments_of (side_edges unit style.radius style.side (own_edge first)) →
      Stands unit style closed (path_edges closed points) old new first first es
  stands_first e es first old new safe c h added =
      let own : own_edge first ≡ e = own_is unit style.radius first e h in
      let begins = path_begins unit style closed points e es safe c in
      let fit : IsFit unit style (own_edge first) = subst (IsFit unit style) (sym own) begins.0 in
      record {
        todo =
            subst (λ (g : Edge). new ++ segments_of (to_come unit style closed g es g) ≡ old ++ segments_of (walk_edges unit style closed all)) (sym own)
            (walk_starts unit style closed all e es old new c (added ∙ ap (λ (g : Edge). old ++ segments_of (side_edges unit style.radius style.side g)) own));
        first_made = made_again unit style.radius first e h;
        first_fit = fit;
        made = made_again unit style.radius first e h;
        fit = fit;
        going = subst (λ (g : Edge). Continues unit style closed g es g) (sym own) begins.1;
      }

  module _ (old now : List SignedEdge) (first p : Section) (left : List Edge) (h : Stands unit style closed all old now first p left) where
    -- the next edge
    pub next_fits : (n : Edge) (rest : List Edge) → left ≡ n ∷ rest → IsFit unit style n
    next_fits n rest l = (rw l at h.going).0

    pub next_corner : pos 0 ≤ℤ style.radius → (n : Edge) (rest : List Edge) (next : Section) → left ≡ n ∷ rest → next ≡ section_of unit style.radius n →
        IsCorner unit style.radius style.join (p, next)
    next_corner sign n rest next l m =
        let goes = rw l at h.going in
        fit_corner unit style sign p next (own_edge p) n h.made m h.fit goes.0 goes.1

    pub stands_next : (n : Edge) (rest : List Edge) (next : Section) (new : List SignedEdge) → left ≡ n ∷ rest → next ≡ section_of unit style.radius n →
        new ≡ now ++ segments_of (corner_edges unit style.radius style.side style.join (own_edge p, own_edge next) ++ side_edges unit style.radius style.side (own_edge next)) →
        Stands unit style closed all old new first next rest
    stands_next n rest next new l m added =
        let own : own_edge next ≡ n = own_is unit style.radius next n m in
        let goes = rw l at h.going in
        record {
          todo =
              subst (λ (g : Edge). new ++ segments_of (to_come unit style closed g rest (own_edge first)) ≡ old ++ segments_of (walk_edges unit style closed all)) (sym own)
              (walk_goes_on unit style closed (own_edge p) n left rest (own_edge first) now new (old ++ segments_of (walk_edges unit style closed all)) l
              (added ∙ ap (λ (g : Edge). now ++ segments_of (corner_edges unit style.radius style.side style.join (own_edge p, g) ++ side_edges unit style.radius style.side g)) own) h.todo);
          first_made = h.first_made;
          first_fit = h.first_fit;
          made = made_again unit style.radius next n m;
          fit = subst (IsFit unit style) (sym own) goes.0;
          going = subst (λ (g : Edge). Continues unit style closed g rest (own_edge first)) (sym own) goes.2;
        }

    -- the last corner of a closed path
    pub last_corner : pos 0 ≤ℤ style.radius → left ≡ [] → closed ≡ true → IsCorner unit style.radius style.join (p, first)
    last_corner sign none is_closed =
        let back : (own_edge p).1 ≡ (own_edge first).0 = (rw none at h.going) is_closed in
        fit_corner unit style sign p first (own_edge p) (own_edge first) h.made h.first_made h.fit h.first_fit back

    -- the ends of an open one
    pub both_ends : pos 0 ≤ℤ style.radius → AreEnds unit style.radius (drawn_cap style.side style.start) (drawn_cap style.side style.end) first p
    both_ends sign = fit_ends unit style sign first p (own_edge first) (own_edge p) h.first_made h.made h.first_fit h.fit

    pub ends_closed : (e : Edge) (es : List Edge) (new : List SignedEdge) → all ≡ e ∷ es → left ≡ [] → closed ≡ true →
        new ≡ now ++ segments_of (corner_edges unit style.radius style.side style.join (own_edge p, own_edge first)) → Adds old new (drawn_edges unit style closed all)
    ends_closed e es new c none is_closed added = by closed is_closed added (walk_ends unit style closed all e es left (own_edge p) (own_edge first) old now new c none h.todo)
      where
        by : (b : Bool) → b ≡ true → new ≡ now ++ segments_of (corner_edges unit style.radius style.side style.join (own_edge p, own_edge first)) →
            (new ≡ now ++ segments_of (ends_by unit style closed b (own_edge p, own_edge first)) → Adds old new (drawn_edges unit style closed all)) →
            Adds old new (drawn_edges unit style closed all)
        by true same at then = then at
        by false same at then = let k : false ≡ true = same in cc

    pub ends_open : (e : Edge) (es : List Edge) (new : List SignedEdge) → all ≡ e ∷ es → left ≡ [] → closed ≡ false →
        new ≡ now ++ segments_of (path_ends unit style.radius style.side style.start style.end false (own_edge first) (own_edge p)) → Adds old new (drawn_edges unit style closed all)
    ends_open e es new c none is_open added = by closed is_open added (walk_ends unit style closed all e es left (own_edge p) (own_edge first) old now new c none h.todo)
      where
        by : (b : Bool) → b ≡ false → new ≡ now ++ segments_of (path_ends unit style.radius style.side style.start style.end false (own_edge first) (own_edge p)) →
            (new ≡ now ++ segments_of (ends_by unit style closed b (own_edge p, own_edge first)) → Adds old new (drawn_edges unit style closed all)) →
            Adds old new (drawn_edges unit style closed all)
        by true same at then = let k : true ≡ false = same in cc
        by false same at then = then at
