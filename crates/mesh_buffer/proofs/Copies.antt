-- Lemmas over lists: copies of contours are the contours, and may be combined where these may be buffered.
use Rattle.std.proofs.Common.{◌≡◌, ℕ, List, [], ◌∷◌, refl}
use Rattle.std.specs.List.{AllZip, each_same}
use Rattle.std.specs.Vec.{vec_len}
use Rattle.std.specs.declared.vec.Vec.{Vec}
use Rattle.std.specs.declared.alloc.Global.{Global}
use Rattle.mesh_plane.specs.Plane.{Point}
use Rattle.mesh_num.specs.Paths.{paths_of}
use Rattle.mesh_stroke.specs.Styles.{StrokeStyle}
use Rattle.mesh_boolean.specs.declared.rule.BooleanFillRule.{BooleanFillRule}
use Rattle.mesh_boolean.specs.declared.rule.BooleanRule.{BooleanRule}
use Rattle.mesh_operands.specs.Combining.{MayBeCombined}
use Rattle.mesh_buffer.specs.Buffers.{MayBeBuffered, with_strokes}

-- each contour is copied point by point
abbrev IsCopy : Vec Point Global → Vec Point Global → Type 0
IsCopy v w = AllZip (λ (p q : Point). q ≡ p) v.items w.items × (vec_len w ≡ vec_len v)

pub copies_are : (contours copies : List (Vec Point Global)) → AllZip IsCopy contours copies → paths_of copies ≡ paths_of contours
copies_are [] [] h = refl
copies_are [] (w ∷ ws) h = absurd h
copies_are (v ∷ vs) [] h = absurd h
copies_are (v ∷ vs) (w ∷ ws) h = λ k. each_same v.items w.items h.0.0 k ∷ copies_are vs ws h.1 k

-- what may be buffered may be combined with its strokes
pub may_combine : (unit : ℕ) (rule : BooleanRule) (fill : BooleanFillRule) (style : StrokeStyle) (contours : List (List Point)) → MayBeBuffered unit style contours → MayBeCombined unit (with_strokes rule fill style contours)
may_combine unit rule fill style contours may = (may.0, record { safe = may.1; fit = tt })
