-- Lemmas over near nets: each net as one shape, squares in 64 bits, and what is answered.
use Rattle.std.proofs.Common.{◌≡◌, ◌∙◌, ℕ, ◌*◌, ◌<◌, ◌≤◌, ◌^◌, List, [], ◌∷◌, ◌++◌, map, sym, ap, subst, arith}
use Rattle.std.specs.List.{All}
use Rattle.std.specs.declared.vec.Vec.{Vec}
use Rattle.std.specs.declared.alloc.Global.{Global}
use Rattle.std.proofs.Math.Nat.{mul-le-mul}
use Rattle.std.proofs.lemmas.List.{map-append}
use Rattle.std.proofs.lemmas.List.Elements.{All-weaker}
use Rattle.std.proofs.lemmas.Simd.{map-map}
use Rattle.mesh_plane.specs.Plane.{Point}
use Rattle.mesh_num.specs.Paths.{paths_of, shapes_of}
use Rattle.mesh_nets.specs.Nets.{AreClearances, IsNetClearance}
use Rattle.mesh_nets.specs.declared.nets.NetClearance.{NetClearance}
use Rattle.mesh_arrays.specs.NetClearances.{AnswersClearances, clearances_of, nets_of}
use Rattle.mesh_arrays.specs.ShapeRooms.{ShapeLists}
use Rattle.mesh_arrays.specs.Slivers.{AreShapesIn}
use Rattle.mesh_arrays.specs.declared.nets.FlatNetClearance.{FlatNetClearance}

-- ---- each net as one shape

-- one list more, of one item
pub alone_more : {A : Type 0} (lists new : List (Vec A Global)) (list : Vec A Global) (xs : List A) (x : A) → new ≡ lists ++ list ∷ [] → list.items ≡ x ∷ [] →
    paths_of lists ≡ map (λ y. y ∷ []) xs → paths_of new ≡ map (λ y. y ∷ []) (xs ++ x ∷ [])
alone_more {A} lists new list xs x pushed is so_far =
    let items : Vec A Global → List A = λ p. p.items in
    let alone : A → List A = λ y. y ∷ [] in
    ap (λ (ls : List (Vec A Global)). paths_of ls) pushed
    ∙ map-append items lists (list ∷ [])
    ∙ ap (λ l. l ++ list.items ∷ []) so_far
    ∙ ap (λ l. map alone xs ++ l ∷ []) is
    ∙ sym (map-append alone xs (x ∷ []))

-- nets whose one shape has all their contours
pub nets_alone : {A : Type 0} (nets : List (Vec (Vec (Vec A Global) Global) Global)) (contours : List (Vec (Vec A Global) Global)) → paths_of nets ≡ map (λ c. c ∷ []) contours →
    map (λ net. shapes_of net.items) nets ≡ nets_of (shapes_of contours)
nets_alone {A} nets contours same =
    let items : Vec (Vec (Vec A Global) Global) Global → List (Vec (Vec A Global) Global) = λ n. n.items in
    let shapes : List (Vec (Vec A Global) Global) → List (List (List A)) = λ s. shapes_of s in
    let alone : Vec (Vec A Global) Global → List (Vec (Vec A Global) Global) = λ c. c ∷ [] in
    let paths : Vec (Vec A Global) Global → List (List A) = λ c. paths_of c.items in
    let one : List (List A) → List (List (List A)) = λ c. c ∷ [] in
    sym (map-map shapes items nets)
    ∙ ap (map shapes) same
    ∙ map-map shapes alone contours
    ∙ sym (map-map one paths contours)

-- ---- squares in 64 bits

in_range : (distance squared : ℕ) → distance < 2 ^ 32 → squared < distance * distance → squared < 2 ^ 64
in_range distance squared small nearer =
    let most : distance ≤ 2 ^ 32 = omega arith in
    let wide : distance * distance ≤ 2 ^ 32 * 2 ^ 32 = mul-le-mul most most in
    omega (arith, wide, nearer)

pub all_in_range : (nets : List (List (List (List Point)))) (distance : ℕ) (found : List NetClearance) → distance < 2 ^ 32 → AreClearances nets (distance * distance) found →
    All (λ (pair : NetClearance). pair.squared < 2 ^ 64) found
all_in_range nets distance found small near =
    All-weaker (IsNetClearance nets (distance * distance)) (λ (pair : NetClearance). pair.squared < 2 ^ 64)
    (λ (pair : NetClearance) (is : IsNetClearance nets (distance * distance) pair). in_range distance pair.squared small is.nearer) found near.each

-- ---- what is answered

pub answers : {F : Type 0} (point_of : F → Point) (given : ShapeLists F) (distance : ℕ) (contours : List (Vec (Vec Point Global) Global)) (nets : List (Vec (Vec (Vec Point Global) Global) Global))
    (found : List NetClearance) (flat : Vec FlatNetClearance Global) → AreShapesIn point_of given (shapes_of contours) → paths_of nets ≡ map (λ c. c ∷ []) contours →
    AreClearances (map (λ net. shapes_of net.items) nets) (distance * distance) found → clearances_of flat.items ≡ found → AnswersClearances point_of given distance flat
answers point_of given distance contours nets found flat asked same near told = record {
  nets = shapes_of contours;
  asked = asked;
  clearances =
      subst (λ (pairs : List NetClearance). AreClearances (nets_of (shapes_of contours)) (distance * distance) pairs) (sym told)
      (subst (λ (all : List (List (List (List Point)))). AreClearances all (distance * distance) found) (nets_alone nets contours same) near);
}
