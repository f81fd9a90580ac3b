-- Lemmas over points: two ends that are all of a point, and four in their order round it.
use Rattle.std.proofs.Common.{◌≡◌, ◌⊎◌, inl, inr, ℕ, zero, suc, ◌<◌, Bool, true, false, List, length, get_or, sym, ◌∙◌, subst, arith}
use Rattle.mesh_plane.specs.Plane.{Point, Edge}
use Rattle.mesh_lattice.specs.Counted.{Counted}
use Rattle.mesh_lattice.specs.Split.{occurs}
use Rattle.mesh_regions.specs.Star.{AreCounterclockwise, AreNeighbours}
use Rattle.mesh_boundary.specs.Private.Rounds.{AreFourRound, AreTurning, AreTwoRound}
use Rattle.mesh_boundary.specs.Private.Stars.{leaving, AreAllAt, CountSplit, IsAmong}
use Rattle.mesh_boundary.proofs.Levels.{segment_leaving}
use Rattle.mesh_boundary.proofs.StarLists.{segment_at}

-- the segment that leaves at an end stands among the edges
leaving_stands : (es : List Edge) (ks : List Counted) (x : ℕ × Bool) → CountSplit es ks → x.0 < length ks → occurs (leaving ks x).0 es ≡ true
leaving_stands es ks x counts low = (segment_leaving es ks x (segment_at es ks x.0 counts low)).stands

-- ---- two

one_of_two : (ks : List Counted) (star : List (ℕ × Bool)) (f : Edge) → length star ≡ 2 → IsAmong ks star f
    → (f ≡ (leaving ks (get_or star 0 (0, false))).0) ⊎ (f ≡ (leaving ks (get_or star 1 (0, false))).0)
one_of_two ks star f two h = by h.place (omega (arith, h.within, two)) h.same
  where
    by : (n : ℕ) → n < 2 → (leaving ks (get_or star n (0, false))).0 ≡ f
        → (f ≡ (leaving ks (get_or star 0 (0, false))).0) ⊎ (f ≡ (leaving ks (get_or star 1 (0, false))).0)
    by zero l e = inl (sym e)
    by (suc zero) l e = inr (sym e)
    by (suc (suc n)) l e = absurd (omega (arith, l))

swapped : {A B : Type 0} → A ⊎ B → B ⊎ A
swapped (inl h) = inr h
swapped (inr h) = inl h

next_of_two : (es : List Edge) (p : Point) (a b : Edge) → occurs a es ≡ true → occurs b es ≡ true → a.0 ≡ p → b.0 ≡ p
    → ((f : Edge) → occurs f es ≡ true → f.0 ≡ p → (f ≡ a) ⊎ (f ≡ b)) → AreNeighbours es a b
next_of_two es p a b a_stands b_stands a_at b_at all = record {
  first = a_stands;
  second = b_stands;
  one_start = a_at ∙ sym b_at;
  others = λ f stands start. inl (all f stands (start ∙ a_at));
}

pub two_are_round : (es : List Edge) (ks : List Counted) (star : List (ℕ × Bool)) (p : Point) (x y : ℕ × Bool) → length star ≡ 2 → x ≡ get_or star 0 (0, false) → y ≡ get_or star 1 (0, false)
    → x.0 < length ks → y.0 < length ks → (leaving ks x).0.0 ≡ p → (leaving ks y).0.0 ≡ p → CountSplit es ks → AreAllAt es ks p star → AreTwoRound es ks x y
two_are_round es ks star p x y two x_is y_is x_low y_low x_at y_at counts all = record {
  on = next_of_two es p (leaving ks x).0 (leaving ks y).0 x_stands y_stands x_at y_at either;
  back = next_of_two es p (leaving ks y).0 (leaving ks x).0 y_stands x_stands y_at x_at (λ f stands start. swapped (either f stands start));
}
  where
    x_stands : occurs (leaving ks x).0 es ≡ true
    x_stands = leaving_stands es ks x counts x_low

    y_stands : occurs (leaving ks y).0 es ≡ true
    y_stands = leaving_stands es ks y counts y_low

    either : (f : Edge) → occurs f es ≡ true → f.0 ≡ p → (f ≡ (leaving ks x).0) ⊎ (f ≡ (leaving ks y).0)
    either f stands start =
        subst (λ (u : ℕ × Bool). (f ≡ (leaving ks u).0) ⊎ (f ≡ (leaving ks y).0)) (sym x_is)
        (subst (λ (u : ℕ × Bool). (f ≡ (leaving ks (get_or star 0 (0, false))).0) ⊎ (f ≡ (leaving ks u).0)) (sym y_is)
        (one_of_two ks star f two (all f stands start)))

-- ---- four

abbrev OneOf : Edge → Edge → Edge → Edge → Edge → Type 0
OneOf f a b c d = ((f ≡ a) ⊎ (f ≡ b)) ⊎ ((f ≡ c) ⊎ (f ≡ d))

record AreFourAt (es : List Edge) (p : Point) (a b c d : Edge) : Type 0 where
  a_stands : occurs a es ≡ true
  b_stands : occurs b es ≡ true
  c_stands : occurs c es ≡ true
  d_stands : occurs d es ≡ true
  a_at : a.0 ≡ p
  b_at : b.0 ≡ p
  c_at : c.0 ≡ p
  d_at : d.0 ≡ p
  all : (f : Edge) → occurs f es ≡ true → f.0 ≡ p → OneOf f a b c d
  turning : AreTurning a b c d

rotate_one : (f a b c d : Edge) → OneOf f a b c d → OneOf f b c d a
rotate_one f a b c d (inl (inl h)) = inr (inr h)
rotate_one f a b c d (inl (inr h)) = inl (inl h)
rotate_one f a b c d (inr (inl h)) = inl (inr h)
rotate_one f a b c d (inr (inr h)) = inr (inl h)

rotated : (es : List Edge) (p : Point) (a b c d : Edge) → AreFourAt es p a b c d → AreFourAt es p b c d a
rotated es p a b c d h = record {
  a_stands = h.b_stands;
  b_stands = h.c_stands;
  c_stands = h.d_stands;
  d_stands = h.a_stands;
  a_at = h.b_at;
  b_at = h.c_at;
  c_at = h.d_at;
  d_at = h.a_at;
  all = λ f stands start. rotate_one f a b c d (h.all f stands start);
  turning = record { first = h.turning.second; second = h.turning.third; third = h.turning.fourth; fourth = h.turning.first };
}

next_of_four : (es : List Edge) (p : Point) (a b c d : Edge) → AreFourAt es p a b c d → AreNeighbours es a b
next_of_four es p a b c d h = record {
  first = h.a_stands;
  second = h.b_stands;
  one_start = h.a_at ∙ sym h.b_at;
  others = λ f stands start. by f (h.all f stands (start ∙ h.a_at));
}
  where
    by : (f : Edge) → OneOf f a b c d → ((f ≡ a) ⊎ (f ≡ b)) ⊎ AreCounterclockwise b f a
    by f (inl e) = inl e
    by f (inr (inl e)) = inr (subst (λ (g : Edge). AreCounterclockwise b g a) (sym e) (inr (inr (h.turning.first, h.turning.second))))
    by f (inr (inr e)) = inr (subst (λ (g : Edge). AreCounterclockwise b g a) (sym e) (inr (inl (h.turning.fourth, h.turning.first))))

round_of_four : (es : List Edge) (ks : List Counted) (p : Point) (x y z w : ℕ × Bool) → AreFourAt es p (leaving ks x).0 (leaving ks y).0 (leaving ks z).0 (leaving ks w).0
    → AreFourRound es ks x y z w
round_of_four es ks p x y z w h =
    let a = (leaving ks x).0 in
    let b = (leaving ks y).0 in
    let c = (leaving ks z).0 in
    let d = (leaving ks w).0 in
    let second = rotated es p a b c d h in
    let third = rotated es p b c d a second in
    let fourth = rotated es p c d a b third in
    record {
      first = next_of_four es p a b c d h;
      second = next_of_four es p b c d a second;
      third = next_of_four es p c d a b third;
      fourth = next_of_four es p d a b c fourth;
    }

one_of_four : (ks : List Counted) (star : List (ℕ × Bool)) (f : Edge) → length star ≡ 4 → IsAmong ks star f
    → OneOf f (leaving ks (get_or star 0 (0, false))).0 (leaving ks (get_or star 1 (0, false))).0 (leaving ks (get_or star 2 (0, false))).0 (leaving ks (get_or star 3 (0, false))).0
one_of_four ks star f four h = by h.place (omega (arith, h.within, four)) h.same
  where
    at : ℕ → Edge
    at n = (leaving ks (get_or star n (0, false))).0

    by : (n : ℕ) → n < 4 → at n ≡ f → OneOf f (at 0) (at 1) (at 2) (at 3)
    by zero l e = inl (inl (sym e))
    by (suc zero) l e = inl (inr (sym e))
    by (suc (suc zero)) l e = inr (inl (sym e))
    by (suc (suc (suc zero))) l e = inr (inr (sym e))
    by (suc (suc (suc (suc n)))) l e = absurd (omega (arith, l))

pub turning_as : (a b c d e f g h : Edge) → a ≡ e → b ≡ f → c ≡ g → d ≡ h → AreTurning a b c d → AreTurning e f g h
turning_as a b c d e f g h first second third fourth turning =
    subst (λ (q : (Edge × Edge) × (Edge × Edge)). AreTurning q.0.0 q.0.1 q.1.0 q.1.1) (λ i. ((first i, second i), (third i, fourth i))) turning

-- ends at a point that are all of those that are listed there
pub record AreFourListed (ks : List Counted) (star : List (ℕ × Bool)) (p : Point) (x y z w : ℕ × Bool) : Type 0 where
  pub four : length star ≡ 4
  pub x_is : x ≡ get_or star 0 (0, false)
  pub y_is : y ≡ get_or star 1 (0, false)
  pub z_is : z ≡ get_or star 2 (0, false)
  pub w_is : w ≡ get_or star 3 (0, false)
  pub x_low : x.0 < length ks
  pub y_low : y.0 < length ks
  pub z_low : z.0 < length ks
  pub w_low : w.0 < length ks
  pub x_at : (leaving ks x).0.0 ≡ p
  pub y_at : (leaving ks y).0.0 ≡ p
  pub z_at : (leaving ks z).0.0 ≡ p
  pub w_at : (leaving ks w).0.0 ≡ p

module _ (es : List Edge) (ks : List Counted) (star : List (ℕ × Bool)) (p : Point) (x y z w : ℕ × Bool) (listed : AreFourListed ks star p x y z w) (counts : CountSplit es ks)
    (all : AreAllAt es ks p star) where
  abbrev pub leads : ℕ × Bool → Edge
  leads u = (leaving ks u).0

  one : (f : Edge) → occurs f es ≡ true → f.0 ≡ p → OneOf f (leads x) (leads y) (leads z) (leads w)
  one f stands start =
      subst (λ (u : ℕ × Bool). OneOf f (leads u) (leads y) (leads z) (leads w)) (sym listed.x_is)
      (subst (λ (u : ℕ × Bool). OneOf f (leads (get_or star 0 (0, false))) (leads u) (leads z) (leads w)) (sym listed.y_is)
      (subst (λ (u : ℕ × Bool). OneOf f (leads (get_or star 0 (0, false))) (leads (get_or star 1 (0, false))) (leads u) (leads w)) (sym listed.z_is)
      (subst (λ (u : ℕ × Bool). OneOf f (leads (get_or star 0 (0, false))) (leads (get_or star 1 (0, false))) (leads (get_or star 2 (0, false))) (leads u)) (sym listed.w_is)
      (one_of_four ks star f listed.four (all f stands start)))))

  stands_at : (u : ℕ × Bool) → u.0 < length ks → occurs (leads u) es ≡ true
  stands_at u low = leaving_stands es ks u counts low

  -- the second and the third stand in the other order
  pub crossed_forth : AreTurning (leads x) (leads z) (leads y) (leads w) → AreFourRound es ks x z y w
  crossed_forth turning =
      round_of_four es ks p x z y w (record {
        a_stands = stands_at x listed.x_low;
        b_stands = stands_at z listed.z_low;
        c_stands = stands_at y listed.y_low;
        d_stands = stands_at w listed.w_low;
        a_at = listed.x_at;
        b_at = listed.z_at;
        c_at = listed.y_at;
        d_at = listed.w_at;
        all = λ f stands start. by f (one f stands start);
        turning = turning;
      })
    where
      by : (f : Edge) → OneOf f (leads x) (leads y) (leads z) (leads w) → OneOf f (leads x) (leads z) (leads y) (leads w)
      by f (inl (inl h)) = inl (inl h)
      by f (inl (inr h)) = inr (inl h)
      by f (inr (inl h)) = inl (inr h)
      by f (inr (inr h)) = inr (inr h)

  -- the fourth stands after the first
  pub crossed_back : AreTurning (leads x) (leads w) (leads y) (leads z) → AreFourRound es ks x w y z
  crossed_back turning =
      round_of_four es ks p x w y z (record {
        a_stands = stands_at x listed.x_low;
        b_stands = stands_at w listed.w_low;
        c_stands = stands_at y listed.y_low;
        d_stands = stands_at z listed.z_low;
        a_at = listed.x_at;
        b_at = listed.w_at;
        c_at = listed.y_at;
        d_at = listed.z_at;
        all = λ f stands start. by f (one f stands start);
        turning = turning;
      })
    where
      by : (f : Edge) → OneOf f (leads x) (leads y) (leads z) (leads w) → OneOf f (leads x) (leads w) (leads y) (leads z)
      by f (inl (inl h)) = inl (inl h)
      by f (inl (inr h)) = inr (inl h)
      by f (inr (inl h)) = inr (inr h)
      by f (inr (inr h)) = inl (inr h)
