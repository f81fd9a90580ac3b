-- Lemmas over options: what is read of several parts where each of them is there.
use Rattle.std.proofs.Common.{◌≡◌, ◌∙◌, ℕ, List, [], ◌∷◌, Bool, Option, Some, option_map, option_and_then, length, get_or, sym, ap, arith}
use Rattle.std.specs.Prelude.{ℤ, codes}
use Rattle.serde_json.specs.Data.{Data, Items}
use Rattle.serde_json.specs.Find.{get}
use Rattle.serde_json.specs.View.{view, items_view}
use Rattle.serde_json.specs.declared.value.Value.{Value}
use Rattle.mesh_plane.specs.Plane.{Point}
use Rattle.mesh_stroke.specs.Caps.{CapKind}
use Rattle.mesh_join.specs.declared.style.StrokeSide.{StrokeSide}
use Rattle.mesh_join.specs.Styles.{JoinStyle}
use Rattle.mesh_stroke.specs.Styles.{StrokeStyle}
use Rattle.mesh_drawing.specs.Parts.{both, choices_with, stroke_style_with}
use Rattle.mesh_request.specs.Reading.{pair_of, triple_of, vertex_with, coordinate_of, area_of, flag_of, choices_in, cap_of, uncapped_in, stroke_style_in, stroke_of, stroke_with, paths_in}

both_some : {A B : Type 0} (a : Option A) (b : Option B) (x : A) (y : B) → a ≡ Some x → b ≡ Some y → both a b ≡ Some (x, y)
both_some {A} {B} a b x y e f = ap (λ (o : Option A). both o b) e ∙ ap (λ (o : Option B). both (Some x) o) f

three_some : {A B C : Type 0} (a : Option A) (b : Option B) (c : Option C) (x : A) (y : B) (z : C) → a ≡ Some x → b ≡ Some y → c ≡ Some z → both a (both b c) ≡ Some (x, (y, z))
three_some a b c x y z e f h = both_some a (both b c) x (y, z) e (both_some b c y z f h)

-- ---- lists of numbers

-- the coordinate that a list holds at a place
coordinate_at : (unit : ℕ) (vs : List Value) (k : ℕ) (found : Value) (x : ℤ) → found ≡ get_or vs k found → Some x ≡ coordinate_of unit (view found) →
    coordinate_of unit (view (get_or vs k found)) ≡ Some x
coordinate_at unit vs k found x here said = ap (λ (v : Value). coordinate_of unit (view v)) (sym here) ∙ sym said

-- a list of three is a vertex by its coordinates
pub triple_said : (unit : ℕ) (vs : List Value) (u v w : Value) (x y z : ℤ) → length vs ≡ 3 →
    u ≡ get_or vs 0 u → v ≡ get_or vs 1 v → w ≡ get_or vs 2 w →
    Some x ≡ coordinate_of unit (view u) → Some y ≡ coordinate_of unit (view v) → Some z ≡ coordinate_of unit (view w) →
    triple_of unit (items_view vs) ≡ Some (record { point = (x, y); width = z })
triple_said unit [] u v w x y z n e f h k l m = absurd (omega arith)
triple_said unit (a ∷ []) u v w x y z n e f h k l m = absurd (omega arith)
triple_said unit (a ∷ b ∷ []) u v w x y z n e f h k l m = absurd (omega arith)
triple_said unit (a ∷ b ∷ d ∷ []) u v w x y z n e f h k l m =
    let vs : List Value = a ∷ b ∷ d ∷ [] in
    ap (option_map vertex_with) (three_some _ _ _ x y z (coordinate_at unit vs 0 u x e k) (coordinate_at unit vs 1 v y f l) (coordinate_at unit vs 2 w z h m))
triple_said unit (a ∷ b ∷ d ∷ t ∷ vs) u v w x y z n e f h k l m = absurd (omega arith)

-- a list of two is a point by its coordinates
pub pair_said : (unit : ℕ) (vs : List Value) (u v : Value) (x y : ℤ) → length vs ≡ 2 → u ≡ get_or vs 0 u → v ≡ get_or vs 1 v →
    Some x ≡ coordinate_of unit (view u) → Some y ≡ coordinate_of unit (view v) → pair_of unit (items_view vs) ≡ Some (x, y)
pair_said unit [] u v x y n e f k l = absurd (omega arith)
pair_said unit (a ∷ []) u v x y n e f k l = absurd (omega arith)
pair_said unit (a ∷ b ∷ []) u v x y n e f k l =
    let vs : List Value = a ∷ b ∷ [] in
    both_some _ _ x y (coordinate_at unit vs 0 u x e k) (coordinate_at unit vs 1 v y f l)
pair_said unit (a ∷ b ∷ t ∷ vs) u v x y n e f k l = absurd (omega arith)

-- what a list is read as where a value is that list
pub of_list : {A : Type 0} (reads : Items → Option A) (found : Option Items) (items : Items) (r : Option A) → Some items ≡ found → reads items ≡ r → r ≡ option_and_then reads found
of_list reads found items r e read = sym (ap (option_and_then reads) (sym e) ∙ read)

-- ---- members of objects

pub choices_said : (unit : ℕ) (d : Data) (area : ℕ) (clockwise all : Bool) (a b c : Option Data) → a ≡ get (codes "min_area") d → b ≡ get (codes "clockwise") d → c ≡ get (codes "collinear") d →
    Some area ≡ area_of unit a → Some clockwise ≡ flag_of b → Some all ≡ flag_of c → Some (record { least_area = area; clockwise = clockwise; all_vertices = all }) ≡ choices_in unit d
choices_said unit d area clockwise all a b c e f g h k l =
    sym (ap (option_map choices_with) (three_some _ _ _ area clockwise all (ap (area_of unit) (sym e) ∙ sym h) (ap flag_of (sym f) ∙ sym k) (ap flag_of (sym g) ∙ sym l)))

pub stroke_style_said : (unit : ℕ) (d : Data) (uncapped : ℤ × (StrokeSide × JoinStyle)) (start end : CapKind) (a b : Option Data) → a ≡ get (codes "start") d → b ≡ get (codes "end") d →
    Some uncapped ≡ uncapped_in unit d → cap_of unit a ≡ Some start → cap_of unit b ≡ Some end → stroke_style_in unit d ≡ Some (stroke_style_with (uncapped, (start, end)))
stroke_style_said unit d uncapped start end a b f g h k l =
    ap (option_map stroke_style_with) (three_some _ _ _ uncapped start end (sym h) (ap (cap_of unit) (sym f) ∙ k) (ap (cap_of unit) (sym g) ∙ l))

pub stroke_said : (unit : ℕ) (d : Data) (closed : Bool) (style : StrokeStyle) (paths : List (List Point)) (a b : Option Data) → a ≡ get (codes "closed") d → b ≡ get (codes "style") d →
    Some closed ≡ flag_of a → option_and_then (stroke_style_in unit) b ≡ Some style → paths_in unit d ≡ Some paths → stroke_of unit d ≡ Some (stroke_with (closed, (style, paths)))
stroke_said unit d closed style paths a b e f h k l =
    ap (option_map stroke_with) (three_some _ _ _ closed style paths (ap flag_of (sym e) ∙ sym h) (ap (option_and_then (stroke_style_in unit)) (sym f) ∙ k) l)
