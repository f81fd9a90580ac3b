-- Lemmas over clearances: what is found to be enough keeps all edges apart.
use Rattle.std.proofs.Common.{◌≡◌, ℕ, ◌<◌, ◌≤◌, ◌⊎◌, inl, inr, ⊎_elim, Bool, List, [], length, get_or, sym, ap, subst, arith}
use Rattle.std.specs.Prelude.{Option, None, Some, IsTrue, MatchOption}
use Rattle.std.specs.List.{All}
use Rattle.std.proofs.lemmas.List.Elements.{All-nil, All-weaker}
use Rattle.mesh_plane.specs.Plane.{Point, Edge}
use Rattle.mesh_clearance.specs.Clearance.{AreApart, AreAllApart, IsClearance}
use Rattle.mesh_clearance.proofs.Symmetries.{apart_less}
use Rattle.mesh_nets.specs.declared.nets.NetClearance.{NetClearance}
use Rattle.mesh_nets.specs.Nets.{AreClearances, AreNetsApart, IsListed, edges_of}

no_edges : (d : ℕ) (fs : List Edge) → AreAllApart d [] fs
no_edges d fs = All-nil (λ (e : Edge). All (AreApart d e) fs)

no_sections : (d : ℕ) (es : List Edge) → AreAllApart d es []
no_sections d es = λ k e low. All-nil (AreApart d _)

pub kept_apart : (found : Option ℕ) (es fs : List Edge) (d : ℕ) (enough : Bool) → MatchOption found ((es ≡ []) ⊎ (fs ≡ [])) (IsClearance es fs) →
    (IsTrue enough → MatchOption found (Unit {0}) (λ t. d ≤ t)) → IsTrue enough → AreAllApart d es fs
kept_apart None es fs d enough (inl e) said holds = subst (λ (xs : List Edge). AreAllApart d xs fs) (sym e) (no_edges d fs)
kept_apart None es fs d enough (inr e) said holds = subst (λ (xs : List Edge). AreAllApart d es xs) (sym e) (no_sections d es)
kept_apart (Some t) es fs d enough h said holds =
    All-weaker (λ (e : Edge). All (AreApart t e) fs) (λ (e : Edge). All (AreApart d e) fs)
    (λ (e : Edge) (k : All (AreApart t e) fs). All-weaker (AreApart t e) (AreApart d e) (λ (f : Edge) (l : AreApart t e f). apart_less d t e f (said holds) l) fs k)
    es h.apart

-- where no pair of nets is listed, all are apart
pub none_near : (nets : List (List (List (List Point)))) (t : ℕ) (found : List NetClearance) → AreClearances nets t found → length found ≡ 0 →
    (i j : ℕ) → i < j → j < length nets → AreNetsApart t (edges_of (get_or nets i [])) (edges_of (get_or nets j []))
none_near nets t found h none i j order within =
    ⊎_elim (λ (k : IsListed found i j). absurd (let low = k.1.1 in omega (arith, none, low)))
    (λ (k : AreNetsApart t (edges_of (get_or nets i [])) (edges_of (get_or nets j []))). k)
    (h.others i j order within)
