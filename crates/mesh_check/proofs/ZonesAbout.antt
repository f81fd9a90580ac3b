-- Lemmas over paths with a common stop: beyond the zones about it lines part them.
use Rattle.std.proofs.Common.{◌≡◌, ◌⊎◌, inl, inr, ⊎_elim, ℕ, suc, ◌+◌, ◌<◌, ◌≤◌, sym, subst, arith}
use Rattle.mesh_plane.specs.Plane.{Point, Edge}
use Rattle.mesh_lattice.specs.Split.{AreClear}
use Rattle.mesh_paths.specs.declared.paths.Paths.{Paths}
use Rattle.mesh_paths.specs.declared.paths.Piece.{Piece}
use Rattle.mesh_paths.specs.Paths.{ArePaths}
use Rattle.mesh_paths.specs.Stops.{count_of, pieces_of, point_of, stop_of}
use Rattle.mesh_check.specs.declared.comparing.Stretch.{Stretch}
use Rattle.mesh_check.specs.Bent.{line_of, AreClearPaths, IsBentBy}
use Rattle.mesh_check.specs.Clear.{AreClearStretches}
use Rattle.mesh_check.specs.Heights.{IsNearLine, IsPathAlong}
use Rattle.mesh_check.specs.Zones.{IsZone, IsZoneAbout, PathsWithClearZonesAreClear}
use Rattle.mesh_check.proofs.AlongPaths.{clear_by_places, paths_along}
use Rattle.mesh_check.proofs.ByPieces.{clear_as_pieces}
use Rattle.mesh_check.proofs.LeadingApart.{after_clear, before_clear, clear_swapped}
use Rattle.mesh_check.proofs.Sizes.{same_stop}

-- a place lies outside a zone, or in it
where_is : (p start end : ℕ) → ((end ≤ p) ⊎ (suc p ≤ start)) ⊎ ((start ≤ p) × (p < end))
where_is p start end = grind arith

-- a line parts a piece outside a zone from all that is near the line
outside_clear : (k l : ℕ) (e f : Edge) (a : ℕ → Point) (n i start end : ℕ) → IsPathAlong k e a n → IsZone (l + (k + k)) f a n i start end → IsNearLine l f (a i)
    → (p : ℕ) → p < n → (end ≤ p) ⊎ (suc p ≤ start) → (g : Edge) → IsNearLine l f g.0 → IsNearLine l f g.1 → AreClear (a p, a (suc p)) g
outside_clear k l e f a n i start end path zone inside p low (inl h) g first last =
    after_clear k l e f a n path i end zone.ends.after zone.ends.within inside (zone.ends.far (omega (arith, low, h))) p low h g first last
outside_clear k l e f a n i start end path zone inside p low (inr h) g first last =
    before_clear k l e f a n path start i zone.starts.before (omega (arith, zone.ends.after, zone.ends.within)) inside (zone.starts.far (omega (arith, h))) p h g first last

pub zones_clear : PathsWithClearZonesAreClear
zones_clear k l e f a b n o i j a_start a_end b_start b_end first second same zone other clear p q p_low q_low =
    ⊎_elim
    (λ (h : (a_end ≤ p) ⊎ (suc p ≤ a_start)).
    outside_clear k l e f a n i a_start a_end first zone (subst (IsNearLine l f) (sym same) (second.near j (omega (arith, other.ends.after, other.ends.within)))) p p_low h Q
    (second.near q (omega arith)) (second.near (suc q) (omega arith)))
    (λ (at_p : (a_start ≤ p) × (p < a_end)).
    ⊎_elim
    (λ (h : (b_end ≤ q) ⊎ (suc q ≤ b_start)).
    clear_swapped Q P
    (outside_clear l k f e b o j b_start b_end second other (subst (IsNearLine k e) same (first.near i (omega (arith, zone.ends.after, zone.ends.within)))) q q_low h P
    (first.near p (omega arith)) (first.near (suc p) (omega arith))))
    (λ (at_q : (b_start ≤ q) × (q < b_end)). clear p q at_p.0 at_p.1 at_q.0 at_q.1)
    (where_is q b_start b_end))
    (where_is p a_start a_end)
  where
    P : Edge
    P = (a p, a (suc p))

    Q : Edge
    Q = (b q, b (suc q))

-- two paths with a stop of one number, as the code looks at them
pub clear_by_zones : (p : Paths) (a b : Piece) (k l : ℕ) (e f : Edge) (zone other : Stretch) → ArePaths p → a.path < count_of p.stops → b.path < count_of p.stops
    → a.place ≤ pieces_of p.stops a.path → b.place ≤ pieces_of p.stops b.path → IsBentBy p a.path k → IsBentBy p b.path l → e ≡ line_of p a.path → f ≡ line_of p b.path
    → (stop_of p.stops a.path a.place).id ≡ (stop_of p.stops b.path b.place).id
    → IsZoneAbout p (l + (k + k)) f a zone → IsZoneAbout p (k + (l + l)) e b other → AreClearStretches p zone other → AreClearPaths p a.path b.path
clear_by_zones p a b k l e f zone other paths a_within b_within a_place b_place a_bent b_bent e_is f_is same first second clear =
    clear_by_places p a.path b.path
    (zones_clear k l (line_of p a.path) (line_of p b.path) (point_of p.stops a.path) (point_of p.stops b.path) (pieces_of p.stops a.path) (pieces_of p.stops b.path)
    a.place b.place zone.start zone.end other.start other.end
    (paths_along p a.path k paths a_within a_bent) (paths_along p b.path l paths b_within b_bent)
    (same_stop p a.path b.path a.place b.place paths a_within b_within a_place b_place same)
    (subst (λ (g : Edge). IsZone (l + (k + k)) g (point_of p.stops a.path) (pieces_of p.stops a.path) a.place zone.start zone.end) f_is first.is_zone)
    (subst (λ (g : Edge). IsZone (k + (l + l)) g (point_of p.stops b.path) (pieces_of p.stops b.path) b.place other.start other.end) e_is second.is_zone)
    (λ i m i_from i_to m_from m_to. clear_as_pieces p zone.path other.path a.path b.path i m first.path second.path (clear i i_from i_to m m_from m_to)))
