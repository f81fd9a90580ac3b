-- Lemmas over lists: a butt cap leaves a limit as it is, another has that of its triangles.
use Rattle.std.proofs.Common.{◌≡◌, ℕ, true, false, sym}
use Rattle.std.specs.Prelude.{ℤ, pos, ◌≤ℤ◌}
use Rattle.std.proofs.lemmas.Bool.{true≢false}
use Rattle.mesh_plane.specs.Plane.{Edge}
use Rattle.mesh_num.specs.Segments.{proper_edges}
use Rattle.mesh_stroke.specs.Caps.{CapKind}
use Rattle.mesh_stroke.specs.Caps.CapKind.{Butt, Square, Round, Custom}
use Rattle.mesh_stroke.specs.Strokes.{cap_at}
use Rattle.mesh_inner.specs.Inner.{HasCapRoom}
use Rattle.mesh_inner.specs.Private.Ends.{is_butt}
use Rattle.mesh_inner.specs.Private.Walks.{IsLimit}
use Rattle.mesh_inner.specs.Room.{FansHaveRoom}
use Rattle.mesh_inner.proofs.Limits.{limit_of}

module _ (unit : ℕ) (radius : ℤ) where
  butt_leaves : (t : ℕ) (kind : CapKind) (e : Edge) → is_butt kind ≡ true → HasCapRoom unit radius t kind e
  butt_leaves t Butt e h = tt
  butt_leaves t Square e h = absurd (true≢false (sym h))
  butt_leaves t (Round options) e h = absurd (true≢false (sym h))
  butt_leaves t (Custom points) e h = absurd (true≢false (sym h))

  abbrev Drawn : ℕ → CapKind → Edge → Type 0
  Drawn t kind e = FansHaveRoom t e.1 (proper_edges (cap_at unit radius kind e))

  drawn_room : (t : ℕ) (kind : CapKind) (e : Edge) → is_butt kind ≡ false → (Drawn t kind e → HasCapRoom unit radius t kind e) × (HasCapRoom unit radius t kind e → Drawn t kind e)
  drawn_room t Butt e h = absurd (true≢false h)
  drawn_room t Square e h = (λ k. k, λ k. k)
  drawn_room t (Round options) e h = (λ k. k, λ k. k)
  drawn_room t (Custom points) e h = (λ k. k, λ k. k)

  pub butt_limit : (kind : CapKind) (e : Edge) (limit : ℤ) → is_butt kind ≡ true → IsLimit limit (λ t. (pos t ≤ℤ limit) × HasCapRoom unit radius t kind e)
  butt_limit kind e limit h t = (λ k. (k, butt_leaves t kind e h), λ k. k.0)

  pub drawn_limit : (kind : CapKind) (e : Edge) (limit least : ℤ) → is_butt kind ≡ false
      → IsLimit least (λ t. (pos t ≤ℤ limit) × FansHaveRoom t e.1 (proper_edges (cap_at unit radius kind e)))
      → IsLimit least (λ t. (pos t ≤ℤ limit) × HasCapRoom unit radius t kind e)
  drawn_limit kind e limit least h own =
      limit_of least (λ t. (pos t ≤ℤ limit) × Drawn t kind e) (λ t. (pos t ≤ℤ limit) × HasCapRoom unit radius t kind e) own
      (λ t k. (k.0, (drawn_room t kind e h).0 k.1)) (λ t k. (k.0, (drawn_room t kind e h).1 k.1))
