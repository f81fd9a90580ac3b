-- Lemmas over lists: how many cuts there are.
use Rattle.std.proofs.Common.{◌≡◌, ℕ, ◌+◌, ◌-◌, List, get_or, length, add-one, ap, ◌∙◌, length-append}
use Rattle.mesh_plane.specs.Plane.{Point}
use Rattle.mesh_in_line.specs.Private.Lines.{cuts, cuts_to}
use Rattle.mesh_in_line.proofs.Cutting.{cuts_many}

pub more_splits : (a : ℕ → Point) (firsts : List ℕ) (k : ℕ) → length (cuts_to a firsts (k + 1)) ≡ (k - (get_or firsts k 0 + 1)) + length (cuts_to a firsts k)
more_splits a firsts k =
    ap (λ (n : ℕ). length (cuts_to a firsts n)) (add-one k)
    ∙ (length-append (cuts a k (get_or firsts k 0) (k - (get_or firsts k 0 + 1))) (cuts_to a firsts k)
    ∙ ap (λ (n : ℕ). n + length (cuts_to a firsts k)) (cuts_many a k (get_or firsts k 0) (k - (get_or firsts k 0 + 1))))
