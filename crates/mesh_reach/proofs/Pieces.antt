-- Lemmas over points and lists: pieces that were drawn along edges hold points near these.
use Rattle.std.proofs.Common.{◌≡◌, ℕ, ◌*◌, ◌≤◌, ◌⊎◌, inl, inr, List, [], ◌∷◌, refl, sym, subst, not, true, false, arith}
use Rattle.std.specs.Prelude.{IsTrue, pos, Bool}
use Rattle.std.specs.List.{All, Contains}
use Rattle.std.specs.Ordering.{int_eq}
use Rattle.std.proofs.Math.Nat.{mul-le-mul_right}
use Rattle.std.proofs.lemmas.Bool.Decides.{Decides-int_eq}
use Rattle.std.proofs.lemmas.List.Elements.{All-nil, All-cons, All-head, All-tail, All-weaker, All-contains}
use Rattle.mesh_plane.specs.Plane.{Point, Edge}
use Rattle.mesh_plane.specs.Winding.{boundary, fan, winding, holds, crossing_on, pieces_total}
use Rattle.mesh_plane.proofs.Whole.{linear}
use Rattle.mesh_lattice.specs.Clean.{IsOn, refined_edge}
use Rattle.mesh_reach.specs.Reach.{IsReached, IsByEnd, IsReachedByOne, HoldsNear}
use Rattle.mesh_reach.proofs.JoinPoints.{IsBy, by_itself}
use Rattle.mesh_reach.proofs.Lists.{lists_reach, segments_reach}

-- a piece whose points are near the ends of one of some edges
pub record IsAlong (b : ℕ) (es : List Edge) (piece : List Point) : Type 0 where
  pub edge : Edge
  pub listed : Contains es edge
  pub near : All (IsByEnd b edge) piece

-- an end of one of some edges
pub record IsEndOf (es : List Edge) (v : Point) : Type 0 where
  pub edge : Edge
  pub listed : Contains es edge
  pub end : (edge.0 ≡ v) ⊎ (edge.1 ≡ v)

by_end : (b : ℕ) (e : Edge) (v p : Point) → (e.0 ≡ v) ⊎ (e.1 ≡ v) → IsBy b v p → IsByEnd b e p
by_end b e v p (inl h) near = inl (subst (λ (u : Point). IsBy b u p) (sym h) near)
by_end b e v p (inr h) near = inr (subst (λ (u : Point). IsBy b u p) (sym h) near)

-- the triangles from such an end over edges with their ends near it are such pieces
pub fan_along : (b : ℕ) (es : List Edge) (v : Point) → IsEndOf es v → (gs : List Edge) →
    All (λ (g : Edge). IsBy b v g.0 × IsBy b v g.1) gs → All (IsAlong b es) (fan v gs)
fan_along b es v end [] h = All-nil (IsAlong b es)
fan_along b es v end (g ∷ gs) h =
    let both = All-head (λ (g : Edge). IsBy b v g.0 × IsBy b v g.1) g gs h in
    let near = IsByEnd b end.edge in
    All-cons (IsAlong b es) (v ∷ g.0 ∷ g.1 ∷ []) (fan v gs)
    (record {
      edge = end.edge;
      listed = end.listed;
      near =
          All-cons near v (g.0 ∷ g.1 ∷ []) (by_end b end.edge v v end.end (by_itself b v))
          (All-cons near g.0 (g.1 ∷ []) (by_end b end.edge v g.0 end.end both.0)
          (All-cons near g.1 [] (by_end b end.edge v g.1 end.end both.1) (All-nil near)));
    })
    (fan_along b es v end gs (All-tail (λ (g : Edge). IsBy b v g.0 × IsBy b v g.1) g gs h))

-- what such a piece holds is near the edge
pub holds_near : (b : ℕ) (es : List Edge) (piece : List Point) → IsAlong b es piece → HoldsNear b es piece
holds_near b es piece h m q held =
    record { edge = h.edge; listed = h.listed; reached = lists_reach b m h.edge piece q h.near held }

-- an edge that was drawn with its ends near those of one of some edges
pub record IsDrawnAlong (b : ℕ) (es : List Edge) (g : Edge) : Type 0 where
  pub edge : Edge
  pub listed : Contains es edge
  pub start : IsByEnd b edge g.0
  pub end : IsByEnd b edge g.1

pub drawn_at_end : (b : ℕ) (es : List Edge) (v : Point) → IsEndOf es v →
    (g : Edge) → IsBy b v g.0 × IsBy b v g.1 → IsDrawnAlong b es g
drawn_at_end b es v end g h = record {
  edge = end.edge;
  listed = end.listed;
  start = by_end b end.edge v g.0 end.end h.0;
  end = by_end b end.edge v g.1 end.end h.1;
}

-- each point of such an edge is near that one
pub drawn_near : (b m : ℕ) (es : List Edge) (g : Edge) (q : Point) → IsDrawnAlong b es g → IsOn (refined_edge m g) q →
    IsReachedByOne b m es q
drawn_near b m es g q h on =
    record { edge = h.edge; listed = h.listed; reached = segments_reach b m h.edge g q h.start h.end on }

-- what is near to some edges is so to more edges, and within more
pub reached_more : (a b m : ℕ) (es all : List Edge) (q : Point) → a ≤ b → All (Contains all) es →
    IsReachedByOne a m es q → IsReachedByOne b m all q
reached_more a b m es all q more listed h = record {
  edge = h.edge;
  listed = All-contains (Contains all) es h.edge listed h.listed;
  reached = record {
    grid = r.grid;
    some = r.some;
    nearest = r.nearest;
    on_edge = r.on_edge;
    reached = let s = r.reached in omega (arith, s, mul-le-mul_right ((r.grid * m) * (r.grid * m)) more);
  };
}
  where
    r : IsReached a m h.edge q
    r = h.reached

pub drawn_more : (a b : ℕ) (es all : List Edge) → a ≤ b → All (Contains all) es →
    (g : Edge) → IsDrawnAlong a es g → IsDrawnAlong b all g
drawn_more a b es all more listed g h = record {
  edge = h.edge;
  listed = All-contains (Contains all) es h.edge listed h.listed;
  start = by_end_more h.edge g.0 h.start;
  end = by_end_more h.edge g.1 h.end;
}
  where
    by_end_more : (e : Edge) (p : Point) → IsByEnd a e p → IsByEnd b e p
    by_end_more e p (inl n) = inl (omega (arith, n, more))
    by_end_more e p (inr n) = inr (omega (arith, n, more))

-- where the windings of pieces do not add up to 0, what each that holds the point shows is so
pub held_one : (R : Type 0) (m : ℕ) (q : Point) (pieces : List (List Point)) →
    All (λ (piece : List Point). IsTrue (holds m q piece) → R) pieces →
    (pieces_total (crossing_on m q) pieces ≡ pos 0 → ⊥) → R
held_one R m q [] h some = absurd (some refl)
held_one R m q (piece ∷ pieces) h some =
    by (held_one R m q pieces (All-tail Shows piece pieces h)) (int_eq (winding m q (boundary piece)) (pos 0)) refl
  where
    Shows : List Point → Type 0
    Shows one = IsTrue (holds m q one) → R

    by : ((pieces_total (crossing_on m q) pieces ≡ pos 0 → ⊥) → R) →
        (t : Bool) → int_eq (winding m q (boundary piece)) (pos 0) ≡ t → R
    by others true e =
        let none : winding m q (boundary piece) ≡ pos 0 = (Decides-int_eq (winding m q (boundary piece)) (pos 0)).0 e in
        others (λ (rest : pieces_total (crossing_on m q) pieces ≡ pos 0). some (omega (arith, linear, none, rest)))
    by others false e = All-head Shows piece pieces h (λ i. not (e i))

pub held_by_one : (b m : ℕ) (es : List Edge) (q : Point) (pieces : List (List Point)) → All (HoldsNear b es) pieces →
    (pieces_total (crossing_on m q) pieces ≡ pos 0 → ⊥) → IsReachedByOne b m es q
held_by_one b m es q pieces h some =
    held_one (IsReachedByOne b m es q) m q pieces
    (All-weaker (HoldsNear b es) (λ (piece : List Point). IsTrue (holds m q piece) → IsReachedByOne b m es q)
    (λ piece k. k m q) pieces h) some
