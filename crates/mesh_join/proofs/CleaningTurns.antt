-- Lemmas over points and lists: no two neighbouring sections of a cleaned contour run on in one direction.
use Rattle.std.proofs.Common.{◌≡◌, ◌≢◌, ◌⊎◌, inl, inr, refl, sym, ◌∙◌, ap, subst, arith, true, false, List, [], ◌∷◌, ◌++◌}
use Rattle.std.specs.Prelude.{pos, ◌<ℤ◌, neg_ℤ}
use Rattle.std.specs.List.{All}
use Rattle.std.proofs.lemmas.Bool.{true≢false, cases_Bool}
use Rattle.std.proofs.lemmas.List.Elements.{All-head, All-tail, All-nil, All-cons, All-weaker}
use Rattle.mesh_plane.specs.Plane.{Point, Edge, minus, cross, dot}
use Rattle.mesh_plane.specs.Winding.{route, boundary, same_point}
use Rattle.mesh_plane.proofs.Whole.{linear}
use Rattle.mesh_plane.proofs.Ring.{ring, var, neg, ◌⊖◌, cross_of, dot_of}
use Rattle.mesh_plane.specs.Turning.{turns_at, last_of}
use Rattle.mesh_join.specs.Cleaned.{changes_from, kept_between, without_end, cleaned_sections, RunsOn, IsCleanContour}
use Rattle.mesh_plane.proofs.Comparing.{points_swap}
use Rattle.mesh_plane.proofs.ClosedLists.{route_length}
use Rattle.mesh_join.proofs.CleaningVectors.{SameWay, SameWay-straight, SameWay-ahead, SameWay-self, SameWay-apart, judged, judged_ahead, turns_at-from_self, turns_at-to_self, turns_at-back, turns_at-straight}
use Rattle.mesh_join.proofs.CleaningPass.{changes_from-same, changes_from-apart, kept_between-kept, kept_between-passed}
use Rattle.mesh_join.proofs.CleaningLoop.{round_to}
use Rattle.mesh_join.proofs.CleaningStart.{started, Turned, Found, none_inside, first_inside, end_after_lap, started-found, started-cleaned}

-- ---- turns along an open list

-- of the list `h`, `p`, `xs`, `z` each point but the ends turns
abbrev pub Turning : Point → Point → List Point → Point → Type 0
Turning h p [] z = turns_at h p z ≡ true
Turning h p (x ∷ xs) z = (turns_at h p x ≡ true) × Turning p x xs z

-- no neighbours are equal in the list `p`, `ws`
abbrev pub Apart : Point → List Point → Type 0
Apart p [] = Unit {0}
Apart p (w ∷ ws) = (same_point p w ≡ false) × Apart w ws

pub changes_from-Apart : (p : Point) (zs : List Point) → Apart p (changes_from p zs)
changes_from-Apart p [] = tt
changes_from-Apart p (z ∷ zs) = elim (cases_Bool (same_point p z)) [
  | inl e ↦ subst (Apart p) (sym (changes_from-same p z zs e)) (changes_from-Apart p zs)
  | inr e ↦ subst (Apart p) (sym (changes_from-apart p z zs e)) (e, changes_from-Apart z zs)
]

-- from the kept point `p`, to which the way came from `h`, straight on to `r`, before which `y` stands
Turning-on : (h p y r : Point) (ws : List Point) → Apart r ws → SameWay p y r → turns_at h p r ≡ true → Turning h p (kept_between y r ws) (last_of r ws)
Turning-on h p y r [] n s k = k
Turning-on h p y r (z ∷ ws) n s k = by (cases_Bool (turns_at y r z)) (λ h p y. Turning-on h p y z ws n.1)
  where
    by : (turns_at y r z ≡ true) ⊎ (turns_at y r z ≡ false) → ((h p y : Point) → SameWay p y z → turns_at h p z ≡ true → Turning h p (kept_between y z ws) (last_of z ws))
        → Turning h p (kept_between y r (z ∷ ws)) (last_of z ws)
    by (inl e) ih =
        subst (λ xs. Turning h p xs (last_of z ws)) (sym (kept_between-kept y r z ws e))
        (k, ih p r r (SameWay-self r z n.0) (judged p y r z s ∙ e))
    by (inr e) ih =
        let on : turns_at p r z ≡ false = judged p y r z s ∙ e in
        let ahead : SameWay z r p = SameWay-ahead p r z (SameWay-apart p y r s) on in
        subst (λ xs. Turning h p xs (last_of z ws)) (sym (kept_between-passed y r z ws e))
        (ih h p r (SameWay-straight p r z n.0 on) (judged_ahead h p z r ahead ∙ k))

-- from `q` straight on to `r`, before which `y` stands, where `k` is the first point that is kept
pub Turning-from : (q y r k : Point) (ws ms : List Point) → Apart r ws → SameWay q y r → kept_between y r ws ≡ k ∷ ms → Turning q k ms (last_of r ws)
Turning-from q y r k [] ms n s e = absurd (nothing e)
  where
    nothing : [] ≡ k ∷ ms → ⊥
    nothing g = cc
Turning-from q y r k (z ∷ ws) ms n s e = by (cases_Bool (turns_at y r z)) (λ y. Turning-from q y z k ws ms n.1)
  where
    Whole : List Point → Type 0
    Whole [] = Unit {0}
    Whole (x ∷ xs) = Turning q x xs (last_of z ws)

    by : (turns_at y r z ≡ true) ⊎ (turns_at y r z ≡ false) → ((y : Point) → SameWay q y z → kept_between y z ws ≡ k ∷ ms → Turning q k ms (last_of z ws)) → Turning q k ms (last_of z ws)
    by (inl i) ih =
        let whole : Turning q r (kept_between r z ws) (last_of z ws) = Turning-on q r r z ws n.1 (SameWay-self r z n.0) (judged q y r z s ∙ i) in
        let at : Whole (r ∷ kept_between r z ws) = whole in
        subst Whole (sym (kept_between-kept y r z ws i) ∙ e) at
    by (inr i) ih = ih r (SameWay-straight q r z n.0 (judged q y r z s ∙ i)) (sym (kept_between-passed y r z ws i) ∙ e)

-- ---- the last kept point sees the last point as the one before it does

abbrev before_last : Point → Point → List Point → Point
before_last y r [] = y
before_last y r (z ∷ ws) = before_last r z ws

pub last_kept : (p y r : Point) (ws : List Point) → Apart r ws → SameWay p y r → SameWay (last_of p (kept_between y r ws)) (before_last y r ws) (last_of r ws)
last_kept p y r [] n s = s
last_kept p y r (z ∷ ws) n s = by (cases_Bool (turns_at y r z)) (λ p y. last_kept p y z ws n.1)
  where
    Goal : List Point → Type 0
    Goal xs = SameWay (last_of p xs) (before_last r z ws) (last_of z ws)

    by : (turns_at y r z ≡ true) ⊎ (turns_at y r z ≡ false) → ((p y : Point) → SameWay p y z → SameWay (last_of p (kept_between y z ws)) (before_last y z ws) (last_of z ws)) → Goal (kept_between y r (z ∷ ws))
    by (inl i) ih = subst Goal (sym (kept_between-kept y r z ws i)) (ih r r (SameWay-self r z n.0))
    by (inr i) ih = subst Goal (sym (kept_between-passed y r z ws i)) (ih p r (SameWay-straight p r z n.0 (judged p y r z s ∙ i)))

pub before_last-append : (y r : Point) (ws : List Point) (q k : Point) → before_last y r (ws ++ q ∷ k ∷ []) ≡ q
before_last-append y r [] q k = refl
before_last-append y r (w ∷ ws) q k = before_last-append r w ws q k

-- ---- round a closed list

-- an edge and the next one, which starts where the first ends and does not run on
pub record MeetsAndTurns (c : Edge × Edge) : Type 0 where
  pub meets : c.0.1 ≡ c.1.0
  pub turns : turns_at c.0.0 c.0.1 c.1.1 ≡ true

corners : (h n z w : Point) (ns : List Point) → Turning h n ns z → turns_at (last_of n ns) z w ≡ true → All MeetsAndTurns (route (h, n) (route n ns z) (z, w))
corners h n z w [] t k = All-cons MeetsAndTurns ((h, n), (n, z)) (((n, z), (z, w)) ∷ []) (record { meets = refl; turns = t }) (All-cons MeetsAndTurns ((n, z), (z, w)) [] (record { meets = refl; turns = k }) (All-nil MeetsAndTurns))
corners h n z w (x ∷ xs) t k = All-cons MeetsAndTurns ((h, n), (n, x)) (route (n, x) (route x xs z) (z, w)) (record { meets = refl; turns = t.0 }) (corners n x z w xs t.1 k)

All-firsts : (Q : Edge → Type 0) (e z : Edge) (es : List Edge) → All (λ (c : Edge × Edge). Q c.0) (route e es z) → All Q (e ∷ es)
All-firsts Q e z [] h = All-cons Q e [] (All-head (λ (c : Edge × Edge). Q c.0) (e, z) [] h) (All-nil Q)
All-firsts Q e z (x ∷ xs) h =
    All-cons Q e (x ∷ xs) (All-head (λ (c : Edge × Edge). Q c.0) (e, x) (route x xs z) h) (All-firsts Q x z xs (All-tail (λ (c : Edge × Edge). Q c.0) (e, x) (route x xs z) h))

-- the way by `p` does not go on to `z` in the direction from `a` to `p`
not_on : (a p z : Point) → turns_at a p z ≡ true → cross (minus p a) (minus z p) ≡ pos 0 → pos 0 <ℤ dot (minus p a) (minus z p) → ⊥
not_on a p z k flat ahead =
    let c : cross (minus p a) (minus p z) ≡ neg_ℤ (cross (minus p a) (minus z p)) =
    ring (a.0 ∷ a.1 ∷ p.0 ∷ p.1 ∷ z.0 ∷ z.1 ∷ [])
    (cross_of (var 2 ⊖ var 0) (var 3 ⊖ var 1) (var 2 ⊖ var 4) (var 3 ⊖ var 5))
    (neg (cross_of (var 2 ⊖ var 0) (var 3 ⊖ var 1) (var 4 ⊖ var 2) (var 5 ⊖ var 3)))
    refl in
    let d : dot (minus p a) (minus p z) ≡ neg_ℤ (dot (minus p a) (minus z p)) =
    ring (a.0 ∷ a.1 ∷ p.0 ∷ p.1 ∷ z.0 ∷ z.1 ∷ [])
    (dot_of (var 2 ⊖ var 0) (var 3 ⊖ var 1) (var 2 ⊖ var 4) (var 3 ⊖ var 5))
    (neg (dot_of (var 2 ⊖ var 0) (var 3 ⊖ var 1) (var 4 ⊖ var 2) (var 5 ⊖ var 3)))
    refl in
    true≢false (sym k ∙ turns_at-straight a p z (c ∙ ap neg_ℤ flat) (omega (arith, linear)))

MeetsAndTurns-proper : (c : Edge × Edge) → MeetsAndTurns c → c.0.0 ≢ c.0.1
MeetsAndTurns-proper c h e = true≢false (sym h.turns ∙ ap (λ p. turns_at p c.0.1 c.1.1) e ∙ turns_at-from_self c.0.1 c.1.1)

MeetsAndTurns-turns : (c : Edge × Edge) → MeetsAndTurns c → RunsOn c.0 c.1 → ⊥
MeetsAndTurns-turns c h r =
    let way : RunsOn c.0 (c.0.1, c.1.1) = subst (λ p. RunsOn c.0 (p, c.1.1)) (sym h.meets) r in
    not_on c.0.0 c.0.1 c.1.1 h.turns way.0 way.1

closed_clean : (k n : Point) (ns : List Point) → Turning k n ns k → turns_at (last_of n ns) k n ≡ true → IsCleanContour (boundary (k ∷ n ∷ ns))
closed_clean k n ns t e =
    let all : All MeetsAndTurns (boundary (boundary (k ∷ n ∷ ns))) = corners k n k n ns t e in
    record {
      many = omega (arith, route_length n ns k);
      proper =
          All-firsts (λ (e : Edge). e.0 ≢ e.1) (k, n) (k, n) (route n ns k) (All-weaker MeetsAndTurns (λ (c : Edge × Edge). c.0.0 ≢ c.0.1) MeetsAndTurns-proper (boundary (boundary (k ∷ n ∷ ns))) all);
      closed = All-weaker MeetsAndTurns (λ (c : Edge × Edge). c.0.1 ≡ c.1.0) (λ c h. h.meets) (boundary (boundary (k ∷ n ∷ ns))) all;
      turns = All-weaker MeetsAndTurns (λ (c : Edge × Edge). RunsOn c.0 c.1 → ⊥) MeetsAndTurns-turns (boundary (boundary (k ∷ n ∷ ns))) all;
    }

-- ---- the cleaned contour

started-clean : (q p : Point) (zs : List Point) → same_point q p ≡ false → IsCleanContour (started q p zs)
started-clean q p zs n = cases (kept_between q p (changes_from p zs)) refl
  where
    same : SameWay q q p
    same = SameWay-self q p n

    cases : (inside : List Point) → kept_between q p (changes_from p zs) ≡ inside → IsCleanContour (started q p zs)
    cases [] e =
        let t : Turned q p q p zs = none_inside q p q p zs n same (λ x. refl) e in
        let l : Point = last_of p (changes_from p zs) in
        subst IsCleanContour (sym t.edges) (closed_clean q l [] (turns_at-back q l (points_swap q l ∙ t.apart)) (turns_at-back l q t.apart))
    cases (k ∷ ks) e =
        let t : Found q p k q p zs = first_inside q p k q p zs ks same (λ x. refl) e in
        subst IsCleanContour (sym (started-found q p k zs n t)) (found t)
      where
        found : (t : Found q p k q p zs) → IsCleanContour (boundary (k ∷ t.rest))
        found t =
            let all : List Point = changes_from p (zs ++ q ∷ k ∷ []) in
            let apart : Apart p all = changes_from-Apart p (zs ++ q ∷ k ∷ []) in
            let end : last_of p all ≡ k = end_after_lap q p k zs n t.apart in
            let turning : Turning q k t.rest k = subst (Turning q k t.rest) end (Turning-from q q p k all t.rest apart same t.kept) in
            let before : before_last q p all ≡ q = ap (before_last q p) (round_to q p k zs n t.apart) ∙ before_last-append q p (without_end q (changes_from p zs)) q k in
            let seen : SameWay (last_of q (kept_between q p all)) (before_last q p all) (last_of p all) = last_kept q q p all apart same in
            let near : SameWay (last_of k t.rest) q k =
            subst (λ x. SameWay (last_of k t.rest) q x) end (subst (λ x. SameWay (last_of k t.rest) x (last_of p all)) before (subst (λ ws. SameWay (last_of q ws) (before_last q p all) (last_of p all)) t.kept seen)) in
            by t.rest turning near
          where
            by : (ms : List Point) → Turning q k ms k → SameWay (last_of k ms) q k → IsCleanContour (boundary (k ∷ ms))
            by [] t s = absurd (true≢false (sym t ∙ turns_at-to_self q k))
            by (m ∷ ms) t s = closed_clean k m ms t.1 (judged (last_of m ms) q k m s ∙ t.0)

-- two points that differ
pub cleaned_sections-clean : (q p : Point) (zs : List Point) → same_point q p ≡ false → IsCleanContour (cleaned_sections (q ∷ p ∷ zs))
cleaned_sections-clean q p zs n = subst IsCleanContour (started-cleaned q p zs n) (started-clean q p zs n)
