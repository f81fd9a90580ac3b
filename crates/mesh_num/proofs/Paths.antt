-- Lemmas over points and lists: the contours of shapes, one shape after another.
use Rattle.std.proofs.Common.{◌≡◌, ℕ, ◌+◌, ◌-◌, ◌^◌, ◌<◌, ◌≤◌, min, List, [], ◌∷◌, ◌++◌, length, take, get_or, map, sym, ap, ◌∙◌, arith}
use Rattle.std.specs.declared.vec.Vec.{Vec}
use Rattle.std.specs.declared.alloc.Global.{Global}
use Rattle.std.proofs.lemmas.List.{map_more, take-map, get_or-map, append-nil, take_all, length-take, length-map, length-append, get_or-take}
use Rattle.std.proofs.lemmas.List.Concat.{flat_map-append, get_or-flat_map}
use Rattle.mesh_num.specs.Paths.{paths_of, shapes_of, contours_of, counted}

-- one shape more
pub contours_more :
    {X : Type 0} (shapes : List (Vec (Vec X Global) Global)) (i : ℕ) (d : Vec (Vec X Global) Global) → i < length shapes →
    contours_of (shapes_of (take (i + 1) shapes)) ≡ contours_of (shapes_of (take i shapes)) ++ paths_of (get_or shapes i d).items
contours_more {X} shapes i d h =
    let f : Vec (Vec X Global) Global → List (List X) = λ s. paths_of s.items in
    let same : List (List X) → List (List X) = λ s. s in
    ap contours_of (map_more f shapes i d h)
    ∙ flat_map-append same (map f (take i shapes)) (f (get_or shapes i d) ∷ [])
    ∙ ap (λ p. contours_of (map f (take i shapes)) ++ p) (append-nil (f (get_or shapes i d)))

-- how many contours one shape more adds
length_more :
    {X : Type 0} (shapes : List (Vec (Vec X Global) Global)) (shape : Vec (Vec X Global) Global) (i : ℕ) → i < length shapes →
    shape ≡ get_or shapes i shape →
    length (contours_of (shapes_of (take (i + 1) shapes))) ≡ length (contours_of (shapes_of (take i shapes))) + length shape.items
length_more {X} shapes shape i h is =
    let items : Vec X Global → List X = λ p. p.items in
    ap length (contours_more shapes i shape h)
    ∙ length-append (contours_of (shapes_of (take i shapes))) (paths_of (get_or shapes i shape).items)
    ∙ ap (λ n. length (contours_of (shapes_of (take i shapes))) + n)
    (length-map (get_or shapes i shape).items items ∙ ap (λ s. length s.items) (sym is))

-- the path at `index` that a `usize` counts is the one at `index` of all
pub counted_at :
    {X : Type 0} (paths : List (List X)) (index : ℕ) → index < length (counted paths) →
    get_or (counted paths) index [] ≡ get_or paths index []
counted_at paths index h =
    let fewer : length (counted paths) ≡ min (2 ^ 64 - 1) (length paths) = length-take (2 ^ 64 - 1) paths in
    let within : index < 2 ^ 64 - 1 = omega arith in
    get_or-take (2 ^ 64 - 1) paths index [] within

-- the contour at `j` of the shape at `i` comes after the contours of the shapes before it
pub contour_at :
    {X : Type 0} (shapes : List (Vec (Vec X Global) Global)) (i j : ℕ) (d : Vec (Vec X Global) Global) (e : Vec X Global) →
    i < length shapes → j < length (get_or shapes i d).items →
    get_or (contours_of (shapes_of shapes)) (length (contours_of (shapes_of (take i shapes))) + j) [] ≡ (get_or (get_or shapes i d).items j e).items
contour_at {X} shapes i j d e h k =
    let f : Vec (Vec X Global) Global → List (List X) = λ s. paths_of s.items in
    let same : List (List X) → List (List X) = λ s. s in
    let items : Vec X Global → List X = λ p. p.items in
    let there : get_or (shapes_of shapes) i (f d) ≡ f (get_or shapes i d) = get_or-map f shapes i d (f d) h in
    let within : i < length (shapes_of shapes) = omega (arith, length-map shapes f) in
    let inside : j < length (get_or (shapes_of shapes) i (f d)) = rw there (omega (arith, length-map (get_or shapes i d).items items)) in
    rw (← take-map f i shapes)
    (get_or-flat_map same (shapes_of shapes) i j (f d) [] within inside
    ∙ ap (λ p. get_or p j []) there
    ∙ get_or-map items (get_or shapes i d).items j e [] k)

-- the path that is found after the shapes before its own
pub path_found :
    {X : Type 0} (shapes : List (Vec (Vec X Global) Global)) (shape : Vec (Vec X Global) Global) (path : Vec X Global) (i j index : ℕ) →
    i < length shapes → shape ≡ get_or shapes i shape → j < length shape.items → path ≡ get_or shape.items j path →
    length (contours_of (shapes_of (take i shapes))) + j ≡ index → index < length (counted (contours_of (shapes_of shapes))) →
    path.items ≡ get_or (counted (contours_of (shapes_of shapes))) index []
path_found {X} shapes shape path i j index h is k at place within =
    let inside : j < length (get_or shapes i shape).items = rw (← is) k in
    let found : (get_or (get_or shapes i shape).items j path).items ≡ path.items = ap (λ s. (get_or s.items j path).items) (sym is) ∙ ap (λ p. p.items) (sym at) in
    sym (counted_at (contours_of (shapes_of shapes)) index within
    ∙ ap (λ n. get_or (contours_of (shapes_of shapes)) n []) (sym place)
    ∙ contour_at shapes i j shape path h inside
    ∙ found)

-- no path is left after all shapes
pub none_left :
    {X : Type 0} (shapes : List (Vec (Vec X Global) Global)) (i left index : ℕ) → length shapes ≤ i →
    length (contours_of (shapes_of (take i shapes))) + left ≡ index → index < length (counted (contours_of (shapes_of shapes))) → ⊥
none_left {X} shapes i left index past place within =
    let all : length (contours_of (shapes_of (take i shapes))) ≡ length (contours_of (shapes_of shapes)) = ap (λ s. length (contours_of (shapes_of s))) (take_all i shapes past) in
    let fewer : length (counted (contours_of (shapes_of shapes))) ≡ min (2 ^ 64 - 1) (length (contours_of (shapes_of shapes))) = length-take (2 ^ 64 - 1) (contours_of (shapes_of shapes)) in
    omega arith

-- one shape's contours before the wanted one
pub skipped_more :
    {X : Type 0} (shapes : List (Vec (Vec X Global) Global)) (shape : Vec (Vec X Global) Global) (i left index : ℕ) → i < length shapes →
    shape ≡ get_or shapes i shape → length (contours_of (shapes_of (take i shapes))) + left ≡ index → length shape.items ≤ left →
    length (contours_of (shapes_of (take (i + 1) shapes))) + (left - length shape.items) ≡ index
skipped_more {X} shapes shape i left index h is place enough =
    let more : length (contours_of (shapes_of (take (i + 1) shapes))) ≡ length (contours_of (shapes_of (take i shapes))) + length shape.items =
    length_more shapes shape i h is in
    omega arith

-- one shape's contours counted
pub counted_more :
    {X : Type 0} (shapes : List (Vec (Vec X Global) Global)) (shape : Vec (Vec X Global) Global) (i count : ℕ) → i < length shapes →
    shape ≡ get_or shapes i shape → count ≡ min (2 ^ 64 - 1) (length (contours_of (shapes_of (take i shapes)))) →
    min (count + length shape.items) (2 ^ 64 - 1) ≡ min (2 ^ 64 - 1) (length (contours_of (shapes_of (take (i + 1) shapes))))
counted_more {X} shapes shape i count h is before =
    let more : length (contours_of (shapes_of (take (i + 1) shapes))) ≡ length (contours_of (shapes_of (take i shapes))) + length shape.items =
    length_more shapes shape i h is in
    omega arith

-- all shapes' contours counted
pub counted_all :
    {X : Type 0} (shapes : List (Vec (Vec X Global) Global)) (i : ℕ) → length shapes ≤ i →
    min (2 ^ 64 - 1) (length (contours_of (shapes_of (take i shapes)))) ≡ length (counted (contours_of (shapes_of shapes)))
counted_all {X} shapes i past =
    ap (λ s. min (2 ^ 64 - 1) (length (contours_of (shapes_of s)))) (take_all i shapes past)
    ∙ sym (length-take (2 ^ 64 - 1) (contours_of (shapes_of shapes)))
