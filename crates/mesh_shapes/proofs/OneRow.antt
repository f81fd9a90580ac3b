-- Lemmas over lists: all edges in one row.
use Rattle.std.proofs.Common.{zero, suc, ◌≡◌, ℕ, ◌<◌, List, [], ◌∷◌, refl, ap, subst, sym, arith}
use Rattle.std.specs.Prelude.{slice_index_or, Vec}
use Rattle.std.specs.declared.alloc.Global.{Global}
use Rattle.std.specs.List.{filter}
use Rattle.mesh_plane.specs.Plane.{Edge}
use Rattle.mesh_lattice.specs.declared.places.Mark.{Mark}
use Rattle.mesh_lattice.specs.Marks.{AreRising}
use Rattle.mesh_lattice.specs.Rows.{reaches_row, AreRows}

all_reach : {T : Type 0} (es : List (Edge × T)) → es ≡ filter (reaches_row [] 0) es
all_reach {T} [] = refl
all_reach {T} (e ∷ es) = ap (λ (l : List (Edge × T)). e ∷ l) (all_reach es)

none_rise : AreRising []
none_rise = record { rising = λ i j d first within. search arith }

pub one_row : {T : Type 0} (row : Vec (Edge × T) Global) → AreRows [] (row ∷ []) row.items
one_row {T} row = record { rising = none_rise; len = refl; rows = rows }
  where
    rows : (i : ℕ) (d : Vec (Edge × T) Global) → i < 1 → (slice_index_or (row ∷ []) i d).items ≡ filter (reaches_row [] i) row.items
    rows zero d within = all_reach row.items
    rows (suc i) d within = search arith

-- the same of lists that are equal to these
pub in_one_row : {T : Type 0} (row : Vec (Edge × T) Global) (marks : List Mark) (lists : List (Vec (Edge × T) Global)) → marks ≡ [] → lists ≡ row ∷ []
    → AreRows marks lists row.items
in_one_row {T} row marks lists none one =
    subst (λ (l : List (Vec (Edge × T) Global)). AreRows marks l row.items) (sym one)
    (subst (λ (ms : List Mark). AreRows ms (row ∷ []) row.items) (sym none) (one_row row))
