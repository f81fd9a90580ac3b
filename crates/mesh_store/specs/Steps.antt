-- What the steps of the splitting do to lists of counted segments, whatever order they stand in:
-- each fact speaks of the sums of every function over the list.
use Rattle.std.specs.Prelude.{ℕ, ◌+◌, ◌*◌, ◌-◌, ◌^◌, ◌≡◌, Bool, true, false, cond, List, [], ◌∷◌, map, reverse, ℤ, pos, ◌+ℤ◌, ◌-ℤ◌}
use Rattle.std.specs.Prelude.{◌*ℤ◌, ◌≤ℤ◌, ◌<ℤ◌, unsigned_abs, max, int_lt, IsTrue}
use Rattle.mesh_plane.specs.Order.{point_lt}
use Rattle.mesh_plane.specs.Plane.{Point, Edge}
use Rattle.mesh_plane.specs.Winding.{sum_of}
use Rattle.mesh_lattice.specs.Split.{same_edge, same_ends, occurs, EdgeSplit, after, IsLegal}
use Rattle.mesh_lattice.specs.Counted.{Counted, bit, along, net, counted_net, times}
use Rattle.mesh_lattice.specs.Split.{AreClear}
use Rattle.mesh_lattice.specs.Counted.{size}
use Rattle.mesh_lattice.specs.Counted.{IsRoomy}

-- the lesser end first, by x and then by y
abbrev pub IsForward : Edge → Type 0
IsForward e = IsTrue (point_lt e.0 e.1)

-- how many of the counted segments run just from the first end to the second
abbrev pub exactly : Edge → List Counted → ℤ
exactly q ks = sum_of (λ (k : Counted). bit (same_edge q k.0)) ks

-- the same segments, in any order
abbrev pub AreSame : List Counted → List Counted → Type 0
AreSame old new = (g : Counted → ℤ) → sum_of g new ≡ sum_of g old

-- one segment was taken out
abbrev pub IsTaken : List Counted → List Counted → Counted → Type 0
IsTaken old new k = (g : Counted → ℤ) → sum_of g old ≡ sum_of g new +ℤ g k

-- one segment was put in
abbrev pub IsPut : List Counted → List Counted → Counted → Type 0
IsPut old new k = (g : Counted → ℤ) → sum_of g new ≡ sum_of g old +ℤ g k

-- the count of a segment that stands was raised by that of `k`, which has the same ends
pub record IsRaised (old new : List Counted) (k : Counted) : Type 0 where
  pub was : ℤ
  pub stood : pos 0 <ℤ exactly k.0 old
  pub totals : (g : Counted → ℤ) → sum_of g new +ℤ g (k.0, was) ≡ sum_of g old +ℤ g (k.0, was +ℤ k.1)

-- a segment was put in whose ends did not stand
pub record IsNew (old new : List Counted) (k : Counted) : Type 0 where
  pub absent : times k.0 old ≡ pos 0
  pub totals : IsPut old new k

-- nothing was done, since the ends don't stand
pub record IsKept (old new : List Counted) (k : Counted) : Type 0 where
  pub absent : times k.0 old ≡ pos 0
  pub same : new ≡ old

-- raised where the answer is yes, else kept
abbrev pub AddsIf : Bool → List Counted → List Counted → Counted → Type 0
AddsIf true old new k = IsRaised old new k
AddsIf false old new k = IsKept old new k

-- clear of each segment of a list
abbrev pub IsClearOf : Edge → List Counted → Type 0
IsClearOf e ks = (f : Edge) → pos 0 <ℤ exactly f ks → AreClear e f

-- any two segments of a list are clear of each other
abbrev pub AllClear : List Counted → Type 0
AllClear ks = (e : Edge) → pos 0 <ℤ exactly e ks → IsClearOf e ks

-- the sum of the two differences of the ends' coordinates
abbrev pub extent : Edge → ℕ
extent e = unsigned_abs (e.1.0 -ℤ e.0.0) + unsigned_abs (e.1.1 -ℤ e.0.1)

-- there is room for one more count
abbrev pub HaveRoom : List Counted → Counted → Type 0
HaveRoom ks k = IsRoomy (sum_of size ks +ℤ size k)

-- the size of a count, once for each step of the extent, at least once: cutting doesn't raise the sum of it
abbrev pub weight : Counted → ℤ
weight k = pos (unsigned_abs k.1 * max 1 (extent k.0))

-- the work that a waiting and a live segment still are: each step of the splitting lowers the sum
abbrev pub waiting_work : Counted → ℤ
waiting_work k = pos (4 * extent k.0 - 2)

-- the work of a live segment
abbrev pub live_work : Counted → ℤ
live_work k = pos (4 * extent k.0 - 3)

-- the work of all waiting and live segments
abbrev pub work : List Counted → List Counted → ℤ
work todo live = sum_of waiting_work todo +ℤ sum_of live_work live

-- the weight of all waiting and live segments
abbrev pub total_weight : List Counted → List Counted → ℤ
total_weight todo live = sum_of weight todo +ℤ sum_of weight live

-- the number of times that ends stand, once they were put: at least once
abbrev pub at_least_once : Bool → ℤ → ℤ
at_least_once b z = cond b (cond (int_lt (pos 0) z) z (pos 1)) z

-- a segment was put in, or its count was added to the waiting or the live segment with its ends
pub record Puts (todo live todo' live' : List Counted) (k : Counted) : Type 0 where
  pub counts : (q : Edge) → counted_net q todo' +ℤ counted_net q live'
      ≡ (counted_net q todo +ℤ counted_net q live) +ℤ (k.1 *ℤ along q k.0)
  pub once : (q : Edge) → times q todo' +ℤ times q live'
      ≡ at_least_once (same_ends q k.0) (times q todo +ℤ times q live)
  pub work_grows : work todo' live' ≤ℤ (work todo live +ℤ waiting_work k)
  pub weight_grows : total_weight todo' live' ≤ℤ (total_weight todo live +ℤ weight k)
  pub live_ends : (q : Edge) → exactly q live' ≡ exactly q live

-- the two pieces of a segment were put in, one after the other
pub record PutsPieces (todo live todo' live' : List Counted) (k : Counted) (c : Point) : Type 0 where
  pub between : List Counted
  pub beside : List Counted
  pub first : Puts todo live between beside ((k.0.0, c), k.1)
  pub second : Puts between beside todo' live' ((c, k.0.1), k.1)

-- the waiting, the live and the held segments are those of a list of edges, each once, with its net count
pub record AreCountOf (es : List Edge) (todo live held : List Counted) : Type 0 where
  pub counts : (q : Edge) → (counted_net q todo +ℤ counted_net q live) +ℤ counted_net q held ≡ net q es
  pub once : (q : Edge) → (times q todo +ℤ times q live) +ℤ times q held ≡ bit (occurs q es)

-- a split of the segment with these ends
abbrev pub split_at : Edge → Point → EdgeSplit
split_at e c = record { ends = e; at = c }

-- splits in the order in which they were made, as a list with the latest first
abbrev pub latest_first : List (Edge × Point) → List EdgeSplit
latest_first made = map (λ (s : Edge × Point). split_at s.0 s.1) (reverse made)

-- a state that these splits of the given edges lead to, all of them legal
pub record IsReachedBySplits (given : List Edge) (splits : List EdgeSplit) (todo live held : List Counted) : Type 0 where
  pub legal : IsLegal given splits
  pub count : AreCountOf (after splits given) todo live held

-- a segment in hand was made live or split: the state stays one that legal splits lead to, live segments stay
-- clear of each other, and less work is left
pub record Settles (splits : List EdgeSplit) (todo live : List Counted) (splits' : List EdgeSplit) (todo' live' : List Counted) (k : Counted) : Type 0 where
  pub reached : (given : List Edge) → IsReachedBySplits given splits todo live (k ∷ [])
      → IsReachedBySplits given splits' todo' live' []
  pub clear : AllClear live → AllClear live'
  pub work_falls : work todo' live' <ℤ (work todo live +ℤ waiting_work k)
  pub weight_stays : total_weight todo' live' ≤ℤ (total_weight todo live +ℤ weight k)

-- a segment in hand was made live, whatever it meets, or split: the state stays one that legal splits lead to, and less
-- work is left
pub record Moves (splits : List EdgeSplit) (todo live : List Counted) (splits' : List EdgeSplit) (todo' live' : List Counted) (k : Counted) : Type 0 where
  pub reached : (given : List Edge) → IsReachedBySplits given splits todo live (k ∷ [])
      → IsReachedBySplits given splits' todo' live' []
  pub work_falls : work todo' live' <ℤ (work todo live +ℤ waiting_work k)
  pub weight_stays : total_weight todo' live' ≤ℤ (total_weight todo live +ℤ weight k)

-- segments that legal splits of the given edges lead to, whether or not they meet, with room for their counts
pub record IsPile (given : List Edge) (splits : List EdgeSplit) (todo live : List Counted) : Type 0 where
  pub reached : IsReachedBySplits given splits todo live []
  pub light : total_weight todo live ≤ℤ pos (2 ^ 97)

-- legal splits lead to what is there now wherever they lead to what was there
abbrev pub KeepsPile : List EdgeSplit → List Counted → List Counted → List EdgeSplit → List Counted → List Counted → Type 0
KeepsPile splits todo live splits' todo' live' =
    (given : List Edge) → IsPile given splits todo live → IsPile given splits' todo' live'

-- each of the first edges is one of the second, in either direction
abbrev pub AreAmong : List Edge → List Edge → Type 0
AreAmong es fs = (e : Edge) → occurs e es ≡ true → occurs e fs ≡ true

-- no ends stand twice
pub record StandOnce (todo live : List Counted) : Type 0 where
  pub most : (q : Edge) → (times q todo +ℤ times q live) ≤ℤ pos 1

-- no segment waits, and the live ones, to which these splits of the given edges lead, are clear of each other
pub record IsSettled (given : List Edge) (splits : List EdgeSplit) (live : List Counted) : Type 0 where
  pub pile : IsPile given splits [] live
  pub clear : AllClear live
