-- Lemmas over points: two segments that share one end and lead apart from it meet nowhere else.
use Rattle.std.proofs.Common.{◌≡◌, ◌⊎◌, inl, inr, ⊎_elim, true, sym, ◌∙◌, ap, refl, arith}
use Rattle.std.specs.Prelude.{ℤ, pos}
use Rattle.std.proofs.lemmas.Bool.{both_ways}
use Rattle.mesh_plane.specs.Plane.{Point, Edge, turn}
use Rattle.mesh_plane.proofs.Crossings.{turn_cycle, turn_swap}
use Rattle.mesh_plane.proofs.Whole.{linear}
use Rattle.mesh_lattice.specs.Split.{is_end, AreClear, AreOpposite, IsInside, Meets, at_start_of_second, at_end_of_second, at_start_of_first, at_end_of_first, at_crossing}
use Rattle.mesh_lattice.proofs.Boxes.{turn_start, turn_end}
use Rattle.mesh_lattice.proofs.Ends.{decides_end}

-- an end of an edge on the line from another end of it to a point beside it is that other end
lead_apart : (e : Edge) (p q r : Point) → (p ≡ e.0) ⊎ (p ≡ e.1) → (q ≡ e.0) ⊎ (q ≡ e.1) → (turn e.0 e.1 r ≡ pos 0 → ⊥) → turn q r p ≡ pos 0 → p ≡ q
lead_apart e p q r (inl a) (inl b) beside line = a ∙ sym b
lead_apart e p q r (inr a) (inr b) beside line = a ∙ sym b
lead_apart e p q r (inr a) (inl b) beside line =
    let on : turn e.0 r e.1 ≡ pos 0 = ap (λ (x : Point). turn x r e.1) (sym b) ∙ ap (turn q r) (sym a) ∙ line in
    absurd (beside (omega (arith, linear, on, turn_swap e.0 e.1 r)))
lead_apart e p q r (inl a) (inr b) beside line =
    let on : turn e.1 r e.0 ≡ pos 0 = ap (λ (x : Point). turn x r e.0) (sym b) ∙ ap (turn q r) (sym a) ∙ line in
    absurd (beside (turn_cycle e.0 e.1 r ∙ on))

start_end : (e : Edge) → is_end e.0 e ≡ true
start_end e = (decides_end e.0 e).1 (inl refl)

end_end : (e : Edge) → is_end e.1 e ≡ true
end_end e = (decides_end e.1 e).1 (inr refl)

-- an end of an edge does not lie beside it
end_flat : (e : Edge) (q : Point) → is_end q e ≡ true → turn e.0 e.1 q ≡ pos 0
end_flat e q h = ⊎_elim (λ (a : q ≡ e.0). ap (turn e.0 e.1) a ∙ turn_start e.0 e.1) (λ (b : q ≡ e.1). ap (turn e.0 e.1) b ∙ turn_end e.0 e.1) ((decides_end q e).0 h)

not_opposite : (s t : ℤ) → (s ≡ pos 0) ⊎ (t ≡ pos 0) → AreOpposite s t → ⊥
not_opposite s t (inl z) (inl h) = omega (arith, linear, h.0)
not_opposite s t (inl z) (inr h) = omega (arith, linear, h.0)
not_opposite s t (inr z) (inl h) = omega (arith, linear, h.1)
not_opposite s t (inr z) (inr h) = omega (arith, linear, h.1)

-- no end of an edge lies inside a segment from an end of it to a point beside it
none_from_start : (e f : Edge) (p : Point) → is_end p e ≡ true → is_end f.0 e ≡ true → (turn e.0 e.1 f.1 ≡ pos 0 → ⊥) → IsInside f p → ⊥
none_from_start e f p h k beside i =
    let same = lead_apart e p f.0 f.1 ((decides_end p e).0 h) ((decides_end f.0 e).0 k) beside i.on_line in
    both_ways _ i.no_end ((decides_end p f).1 (inl same))

-- the same of one that leads to the end
none_to_end : (e f : Edge) (p : Point) → is_end p e ≡ true → is_end f.1 e ≡ true → (turn e.0 e.1 f.0 ≡ pos 0 → ⊥) → IsInside f p → ⊥
none_to_end e f p h k beside i =
    let line : turn f.1 f.0 p ≡ pos 0 = omega (arith, linear, i.on_line, turn_cycle f.1 f.0 p, turn_swap f.0 f.1 p) in
    let same = lead_apart e p f.1 f.0 ((decides_end p e).0 h) ((decides_end f.1 e).0 k) beside line in
    both_ways _ i.no_end ((decides_end p f).1 (inr same))

pub clear_from_start : (e f : Edge) → is_end f.0 e ≡ true → (turn e.0 e.1 f.1 ≡ pos 0 → ⊥) → AreClear e f
clear_from_start e f h beside c m = by m h beside
  where
    by : {e f : Edge} {c : Point} → Meets e f c → is_end f.0 e ≡ true → (turn e.0 e.1 f.1 ≡ pos 0 → ⊥) → ⊥
    by {e} {f} (at_start_of_second i) h beside = both_ways _ i.no_end h
    by {e} {f} (at_end_of_second i) h beside = beside i.on_line
    by {e} {f} (at_start_of_first i) h beside = none_from_start e f e.0 (start_end e) h beside i
    by {e} {f} (at_end_of_first i) h beside = none_from_start e f e.1 (end_end e) h beside i
    by {e} {f} (at_crossing i) h beside = not_opposite _ _ (inl (end_flat e f.0 h)) i.second_parted

pub clear_to_end : (e f : Edge) → is_end f.1 e ≡ true → (turn e.0 e.1 f.0 ≡ pos 0 → ⊥) → AreClear e f
clear_to_end e f h beside c m = by m h beside
  where
    by : {e f : Edge} {c : Point} → Meets e f c → is_end f.1 e ≡ true → (turn e.0 e.1 f.0 ≡ pos 0 → ⊥) → ⊥
    by {e} {f} (at_start_of_second i) h beside = beside i.on_line
    by {e} {f} (at_end_of_second i) h beside = both_ways _ i.no_end h
    by {e} {f} (at_start_of_first i) h beside = none_to_end e f e.0 (start_end e) h beside i
    by {e} {f} (at_end_of_first i) h beside = none_to_end e f e.1 (end_end e) h beside i
    by {e} {f} (at_crossing i) h beside = not_opposite _ _ (inr (end_flat e f.1 h)) i.second_parted
