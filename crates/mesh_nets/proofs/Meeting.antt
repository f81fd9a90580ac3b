-- Lemmas over points and lists: where edges wind differently round two points, the way between these meets an edge.
use Rattle.std.proofs.Common.{◌≡◌, ℕ, ◌*◌, ◌<◌, ◌⊎◌, inl, inr, ⊎_elim, refl, sym, ◌∙◌, ap, subst, arith, List, [], ◌∷◌}
use Rattle.std.specs.Prelude.{pos}
use Rattle.std.proofs.lemmas.Int.{ints}
use Rattle.mesh_plane.specs.Plane.{Point, Edge}
use Rattle.mesh_plane.specs.Winding.{refined, winding, IsBalanced}
use Rattle.mesh_lattice.specs.Clean.{IsOn, refined_edge}
use Rattle.mesh_lattice.proofs.Each.{Each}
use Rattle.mesh_regions.proofs.FinerGrids.{winds_finer, scale_twice}
use Rattle.mesh_regions.proofs.SidesConstant.{way_same}
use Rattle.mesh_regions.proofs.SidesPotential.{Parted}
use Rattle.mesh_clearance.proofs.CommonPoints.{HaveCommon, parted_or_common}
use Rattle.mesh_clearance.proofs.Ways.{product_some}
use Rattle.mesh_nets.proofs.Among.{Among}
use Rattle.mesh_nets.proofs.Between.{on_between, on_finer, refined_twice, start_on}

-- the way from `q` to `u`, on the grid `m`, meets an edge
abbrev pub Meets : ℕ → Edge → Point → Point → Type 0
Meets m e q u = HaveCommon q u (refined m e.0) (refined m e.1)

-- it meets one of a list
pub record MeetsOne (m : ℕ) (es : List Edge) (q u : Point) : Type 0 where
  pub edge : Edge
  pub listed : Among edge es
  pub common : Meets m edge q u

parted_or_met : (m : ℕ) (q u : Point) (es : List Edge) → Each (λ (e : Edge). Parted q u (refined m e.0) (refined m e.1)) es ⊎ MeetsOne m es q u
parted_or_met m q u [] = inl tt
parted_or_met m q u (e ∷ es) =
    ⊎_elim
    (λ (h : Parted q u (refined m e.0) (refined m e.1)).
    ⊎_elim (λ (k : Each (λ (e : Edge). Parted q u (refined m e.0) (refined m e.1)) es). inl (h, k))
    (λ (k : MeetsOne m es q u). inr (record { edge = k.edge; listed = inr k.listed; common = k.common }))
    (parted_or_met m q u es))
    (λ (h : HaveCommon q u (refined m e.0) (refined m e.1)). inr (record { edge = e; listed = inl refl; common = h }))
    (parted_or_common q u (refined m e.0) (refined m e.1))

pub met_between : (m : ℕ) (q u : Point) (es : List Edge) → IsBalanced es → (winding m q es ≡ winding m u es → ⊥) → MeetsOne m es q u
met_between m q u es balanced differ =
    ⊎_elim (λ (h : Each (λ (e : Edge). Parted q u (refined m e.0) (refined m e.1)) es). absurd (differ (way_same (pos m) q u es balanced h)))
    (λ (h : MeetsOne m es q u). h)
    (parted_or_met m q u es)

pub winding_finer : (k m : ℕ) (q : Point) (es : List Edge) → 0 < k → winding (k * m) (refined k q) es ≡ winding m q es
winding_finer k m q es some = winds_finer (pos k) (pos m) q es (omega (arith, ints))

-- the common point lies on the edge, on the finer grid
pub met_on : (m : ℕ) (e : Edge) (q u : Point) (h : Meets m e q u) → IsOn (refined_edge (h.grid * m) e) h.point
met_on m e q u h = subst (λ (g : Edge). IsOn g h.point) (refined_twice h.grid m e) h.second

-- what a shorter way on a finer grid meets the way meets
pub met_longer : (k m : ℕ) (e : Edge) (q u x : Point) → 0 < k → IsOn (refined k q, refined k u) x → Meets (k * m) e (refined k q) x → Meets m e q u
met_longer k m e q u x some on h = record {
  grid = h.grid * k;
  positive = product_some h.grid k h.positive some;
  point = h.point;
  first =
      subst (λ (s : Edge). IsOn s h.point) (λ i. (sym (scale_twice (pos h.grid) (pos k) q) i, sym (scale_twice (pos h.grid) (pos k) u) i))
      (on_between (refined h.grid (refined k q)) (refined h.grid (refined k u)) (refined h.grid (refined k q)) (refined h.grid x) h.point
      (start_on (refined h.grid (refined k q)) (refined h.grid (refined k u))) (on_finer h.grid (refined k q) (refined k u) x on) h.first);
  second = subst (λ (s : Edge). IsOn s h.point) (λ i. (same e.0 i, same e.1 i)) h.second;
}
  where
    same : (p : Point) → refined h.grid (refined (k * m) p) ≡ refined (h.grid * k) (refined m p)
    same p = ap (refined h.grid) (scale_twice (pos k) (pos m) p) ∙ sym (scale_twice (pos h.grid) (pos k) (refined m p))
