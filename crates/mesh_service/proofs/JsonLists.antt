-- Lemmas over lists: values of JSON in lists and in objects, and lists that vectors hold.
use Rattle.std.proofs.Common.{◌≡◌, ℕ, List, [], ◌∷◌, Bool, false, Option, None, Some, refl, ap}
use Rattle.std.specs.Prelude.{ℤ, pos, negsuc, map, ◌||◌}
use Rattle.std.specs.declared.alloc.Global.{Global}
use Rattle.std.specs.declared.vec.Vec.{Vec}
use Rattle.serde_json.specs.Data.{Data, array}
use Rattle.serde_json.specs.Find.{is_float, of_integer}
use Rattle.serde_json.specs.View.{items_of}
use Rattle.serde_json.specs.Written.{has_float}
use Rattle.mesh_boolean.specs.Overlaps.{Overlap, overlap_of, overlaps_of}
use Rattle.mesh_boolean.specs.declared.overlaps.ZoneOverlap.{ZoneOverlap}
use Rattle.mesh_num.specs.Paths.{paths_of, shapes_of}
use Rattle.mesh_plane.specs.Plane.{Point, Edge}
use Rattle.mesh_service.specs.Lines.{point_data, edge_data, list_data, edges_data, near_edges_data, near_shapes_data, shapes_data}
use Rattle.mesh_service.specs.Lines.{overlap_data, overlaps_data, near_overlaps_data}
use Rattle.mesh_service.specs.Lines.{measured_shapes_data, near_measured_shapes_data, number_or_null}
use Rattle.mesh_service.specs.declared.distances.Distances.{Distances}

whole_no_float : (z : ℤ) → is_float (of_integer z) ≡ false
whole_no_float (pos n) = refl
whole_no_float (negsuc n) = refl

point_no_float : (p : Point) → has_float (point_data p) ≡ false
point_no_float p = rw (whole_no_float p.0, whole_no_float p.1) refl

edge_no_float : (e : Edge) → has_float (edge_data e) ≡ false
edge_no_float e = rw (point_no_float e.0, point_no_float e.1) refl

-- a list has no float where none of its values has one
list_no_float : {A : Type 0} (value : A → Data) → ((a : A) → has_float (value a) ≡ false) → (xs : List A) → has_float (list_data value xs) ≡ false
list_no_float value none [] = refl
list_no_float value none (x ∷ xs) = rw (none x) (list_no_float value none xs)

pub edges_no_float : (lists : List (List Edge)) → has_float (edges_data lists) ≡ false
edges_no_float lists = rw (list_no_float (list_data edge_data) (list_no_float edge_data edge_no_float) lists) refl

-- a list of shapes has no float
listed_no_float : (shapes : List (List (List Point))) → has_float (list_data (list_data (list_data point_data)) shapes) ≡ false
listed_no_float shapes = list_no_float (list_data (list_data point_data)) (list_no_float (list_data point_data) (list_no_float point_data point_no_float)) shapes

pub shapes_no_float : (shapes : List (List (List Point))) → has_float (shapes_data shapes) ≡ false
shapes_no_float shapes = rw (listed_no_float shapes) refl

overlap_no_float : (o : Overlap) → has_float (overlap_data o) ≡ false
overlap_no_float o = rw (listed_no_float o.1.1) refl

pub overlaps_no_float : (found : List Overlap) → has_float (overlaps_data found) ≡ false
overlaps_no_float found = rw (list_no_float overlap_data overlap_no_float found) refl

-- nor with a nearness
pub near_edges_no_float : (nearness : ℕ) (lists : List (List Edge)) → has_float (near_edges_data nearness lists) ≡ false
near_edges_no_float nearness lists = rw (list_no_float (list_data edge_data) (list_no_float edge_data edge_no_float) lists) refl

pub near_shapes_no_float : (nearness : ℕ) (shapes : List (List (List Point))) → has_float (near_shapes_data nearness shapes) ≡ false
near_shapes_no_float nearness shapes = rw (listed_no_float shapes) refl

-- nor with distances
number_no_float : (n : Option ℕ) → has_float (number_or_null n) ≡ false
number_no_float None = refl
number_no_float (Some n) = refl

none_of_three : (a b c : Bool) → a ≡ false → b ≡ false → c ≡ false → (a || (b || (c || false))) ≡ false
none_of_three a b c e f h = rw (e, f, h) refl

pub measured_no_float : (told : Distances) (shapes : List (List (List Point))) → has_float (measured_shapes_data told shapes) ≡ false
measured_no_float told shapes = none_of_three _ _ _ (number_no_float told.clearance) (number_no_float told.reach) (listed_no_float shapes)

pub near_measured_no_float : (nearness : ℕ) (told : Distances) (shapes : List (List (List Point))) → has_float (near_measured_shapes_data nearness told shapes) ≡ false
near_measured_no_float nearness told shapes = none_of_three _ _ _ (number_no_float told.clearance) (number_no_float told.reach) (listed_no_float shapes)

pub near_overlaps_no_float : (nearness : ℕ) (found : List Overlap) → has_float (near_overlaps_data nearness found) ≡ false
near_overlaps_no_float nearness found = rw (list_no_float overlap_data overlap_no_float found) refl

items_same : {A B : Type 0} (f : A → Data) (g : B → Data) (h : A → B) → ((a : A) → f a ≡ g (h a)) → (xs : List A) → items_of (map f xs) ≡ items_of (map g (map h xs))
items_same f g h same [] = refl
items_same f g h same (x ∷ xs) = rw (same x, items_same f g h same xs) refl

-- a list of vectors is the list of the lists that they hold
pub vectors_listed : {A : Type 0} (value : A → Data) (xs : List (Vec A Global)) → list_data (λ (v : Vec A Global). list_data value v.items) xs ≡ list_data (list_data value) (paths_of xs)
vectors_listed value xs = ap array (items_same (λ v. list_data value v.items) (list_data value) (λ v. v.items) (λ v. refl) xs)

-- and so is a list of vectors of vectors
pub shapes_listed : {A : Type 0} (value : A → Data) (xs : List (Vec (Vec A Global) Global)) → list_data (λ (s : Vec (Vec A Global) Global). list_data (λ (v : Vec A Global). list_data value v.items) s.items) xs ≡ list_data (list_data (list_data value)) (shapes_of xs)
shapes_listed value xs =
    ap array (items_same (λ s. list_data (λ v. list_data value v.items) s.items) (list_data (list_data value)) (λ s. paths_of s.items) (λ s. vectors_listed value s.items) xs)

-- a list of the program's overlaps is the list of what they hold
pub overlaps_listed : {C W U : Type 0} (found : List (ZoneOverlap C W U)) → list_data (λ (o : ZoneOverlap C W U). overlap_data (overlap_of o)) found ≡ list_data overlap_data (overlaps_of found)
overlaps_listed found = ap array (items_same (λ o. overlap_data (overlap_of o)) overlap_data overlap_of (λ o. refl) found)
