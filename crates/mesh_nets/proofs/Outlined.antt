-- Lemmas over lists: nets are outlined one after another.
use Rattle.std.proofs.Common.{◌≡◌, ℕ, ◌+◌, ◌<◌, ◌≤◌, inl, inr, refl, sym, ◌∙◌, ap, subst, arith, List, [], ◌∷◌, ◌++◌, map, length, get_or}
use Rattle.std.specs.List.{flat_map}
use Rattle.std.specs.declared.vec.Vec.{Vec}
use Rattle.std.specs.declared.alloc.Global.{Global}
use Rattle.std.proofs.lemmas.List.{get_or-map, length-append, length-map}
use Rattle.std.proofs.Math.ListN.{get_or-append}
use Rattle.std.proofs.Math.Nat.{eq-or-lt_of_le}
use Rattle.std.proofs.Math.Seq.{get_or-append_seam}
use Rattle.mesh_plane.specs.Plane.{Point}
use Rattle.mesh_num.specs.FlatContours.{HoldsContours, flat_contours, points_at}
use Rattle.mesh_num.specs.Paths.{contours_of, shapes_of}
use Rattle.mesh_num.specs.declared.shape.buffer.FlatContoursBuffer.{FlatContoursBuffer}
use Rattle.mesh_num.proofs.FlatContours.{found_from}
use Rattle.mesh_nets.specs.declared.outlines.Outline.{Outline}
use Rattle.mesh_nets.specs.Private.Outlines.{AreOutlines, IsOutline}

abbrev pub nets_in : List (Vec (Vec (Vec Point Global) Global) Global) → List (List (List (List Point)))
nets_in nets = map (λ net. shapes_of net.items) nets

pub net_at : (nets : List (Vec (Vec (Vec Point Global) Global) Global)) (i : ℕ) (net : Vec (Vec (Vec Point Global) Global) Global) → i < length nets → net ≡ get_or nets i net →
    get_or (nets_in nets) i [] ≡ shapes_of net.items
net_at nets i net low is = get_or-map (λ z. shapes_of z.items) nets i net [] low ∙ ap (λ z. shapes_of z.items) (sym is)

-- a buffer with contours is a source of them
pub found_contours : {I W U : Type 0} (buffer : FlatContoursBuffer I W U) (contours : List (List Point)) → HoldsContours buffer contours → flat_contours buffer ≡ contours
found_contours buffer contours h =
    (λ i. map (points_at (h.points i)) (h.ranges i)) ∙ found_from [] contours (flat_map (λ p. p) contours) refl

pub no_outlines : {I W U : Type 0} (nets : List (List (List (List Point)))) (outlines : List (Outline I W U)) → outlines ≡ [] → AreOutlines nets 0 outlines
no_outlines nets outlines none = record {
  count = ap length none;
  own = λ k d low. let empty : length outlines ≡ 0 = ap length none in absurd (omega arith);
}

pub outlines_more : {I W U : Type 0} (nets : List (Vec (Vec (Vec Point Global) Global) Global)) (n : ℕ) (net : Vec (Vec (Vec Point Global) Global) Global) (old new : List (Outline I W U))
    (outline : Outline I W U) → n < length nets → net ≡ get_or nets n net → AreOutlines (nets_in nets) n old → IsOutline (contours_of (shapes_of net.items)) outline →
    new ≡ old ++ outline ∷ [] → AreOutlines (nets_in nets) (n + 1) new
outlines_more {I} {W} {U} nets n net old new outline within is h own more = record {
  count = ap length more ∙ (length-append old (outline ∷ []) ∙ ap (λ (m : ℕ). m + 1) h.count);
  own = λ k d low.
      let lower : k < length (old ++ outline ∷ []) = subst (λ (list : List (Outline I W U)). k < length list) more low in
      subst (λ (list : List (Outline I W U)). IsOutline (contours_of (get_or (nets_in nets) k [])) (get_or list k d)) (sym more) (at k d lower);
}
  where
    at : (k : ℕ) (d : Outline I W U) → k < length (old ++ outline ∷ []) → IsOutline (contours_of (get_or (nets_in nets) k [])) (get_or (old ++ outline ∷ []) k d)
    at k d low =
        let under : k ≤ length old = omega (arith, length-append old (outline ∷ [])) in
        elim (eq-or-lt_of_le under) [
          | inl same ↦
              let here : get_or (old ++ outline ∷ []) k d ≡ outline = rw same (get_or-append_seam old outline [] d) in
              let place : n ≡ k = sym h.count ∙ sym same in
              let mine : IsOutline (contours_of (get_or (nets_in nets) k [])) outline =
              subst (λ (m : ℕ). IsOutline (contours_of (get_or (nets_in nets) m [])) outline) place (rw (net_at nets n net within is) own) in
              subst (IsOutline (contours_of (get_or (nets_in nets) k []))) (sym here) mine
          | inr less ↦ subst (IsOutline (contours_of (get_or (nets_in nets) k []))) (sym (get_or-append old (outline ∷ []) d k less)) (h.own k d less)
        ]

-- the outline at a place is that of the net there
pub outline_at : {I W U : Type 0} (nets : List (List (List (List Point)))) (n i : ℕ) (outlines : List (Outline I W U)) (outline : Outline I W U) → AreOutlines nets n outlines → i < n →
    outline ≡ get_or outlines i outline → IsOutline (contours_of (get_or nets i [])) outline
outline_at nets n i outlines outline h low is =
    let count = h.count in
    subst (IsOutline (contours_of (get_or nets i []))) (sym is) (h.own i outline (omega (arith, count, low)))

pub nets_count : (nets : List (Vec (Vec (Vec Point Global) Global) Global)) → length (nets_in nets) ≡ length nets
nets_count nets = length-map nets (λ net. shapes_of net.items)
