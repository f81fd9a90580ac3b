-- Lemmas over points and lists: legal splits of pieces stay in their boxes and leave what lies apart as it is.
use Rattle.std.proofs.Common.{◌≡◌, inl, inr, Bool, true, false, cond, ◌||◌, List, [], ◌∷◌, ◌++◌, refl, sym, ◌∙◌, ap, subst}
use Rattle.std.proofs.lemmas.Bool.{or_right}
use Rattle.mesh_plane.specs.Plane.{Point, Edge}
use Rattle.mesh_lattice.specs.Split.{IsInBox, EdgeSplit, same_ends, is_end, occurs, split_edge, split_by, after, add_split, IsLegal, no_cut, split}
use Rattle.mesh_lattice.proofs.Each.{Each, each_append}
use Rattle.mesh_lattice.proofs.KeptBySplits.{Boxed, cut_box, after_append}
use Rattle.mesh_lattice.proofs.SoundSplits.{legal_boxed}
use Rattle.mesh_lattice.proofs.Splits.{occurs_append}
use Rattle.mesh_apart.specs.Apart.{Box, LiesInBox, Piece}
use Rattle.mesh_apart.proofs.Boxes.{within_between}
use Rattle.mesh_apart.proofs.Pieces.{LiesIn, AreApart, lies_same, lies_where_occurs, lies_once}

-- ---- splits stay in boxes

-- what holds of an edge holds of both parts that a split in its box leaves
abbrev pub IsKept : (Edge → Type 0) → Type 0
IsKept Q = (e : Edge) (c : Point) → Q e → IsInBox e c → Q (e.0, c) × Q (c, e.1)

pub in_box_kept : (b : Box) → IsKept (LiesInBox b)
in_box_kept b e c h box = let w = within_between b e c h box in ((h.0, w), (w, h.1))

pub lies_kept : (ps : List Piece) → IsKept (LiesIn ps)
lies_kept [] e c h box = absurd h
lies_kept (p ∷ ps) e c (inl h) box = let r = in_box_kept p.box e c h box in (inl r.0, inl r.1)
lies_kept (p ∷ ps) e c (inr h) box = let r = lies_kept ps e c h box in (inr r.0, inr r.1)

cut_each : (Q : Edge → Type 0) → IsKept Q → (k : EdgeSplit) → IsInBox k.ends k.at → (es : List Edge) → Each Q es → Each Q (split_by k es)
cut_each Q kept k box [] h = tt
cut_each Q kept k box (e ∷ es) h = each_append Q (split_edge k e) (split_by k es) (by (same_ends e k.ends) refl) (cut_each Q kept k box es h.1)
  where
    by : (b : Bool) → same_ends e k.ends ≡ b → Each Q (cond b ((e.0, k.at) ∷ (k.at, e.1) ∷ []) (e ∷ []))
    by true t = let r = kept e k.at h.0 (cut_box k e box t) in (r.0, (r.1, tt))
    by false t = (h.0, tt)

pub after_each : (Q : Edge → Type 0) → IsKept Q → (ks : List EdgeSplit) → Boxed ks → (es : List Edge) → Each Q es → Each Q (after ks es)
after_each Q kept [] boxed es h = h
after_each Q kept (k ∷ ks) boxed es h = cut_each Q kept k boxed.0 (after ks es) (after_each Q kept ks boxed.1 es h)

-- legal splits split segments in boxes of the pieces
abbrev pub AreSplitsIn : List Piece → List EdgeSplit → Type 0
AreSplitsIn ps ks = Each (λ (k : EdgeSplit). LiesIn ps k.ends) ks

add_in : (ps : List Piece) (e : Edge) (c : Point) (ks : List EdgeSplit) → LiesIn ps e → AreSplitsIn ps ks → AreSplitsIn ps (add_split e c ks)
add_in ps e c ks h k = by (is_end c e)
  where
    by : (b : Bool) → AreSplitsIn ps (cond b ks ((record { ends = e; at = c }) ∷ ks))
    by true = k
    by false = (h, k)

pub legal_in : (ps : List Piece) (es : List Edge) (ks : List EdgeSplit) → IsLegal es ks → Each (LiesIn ps) es → AreSplitsIn ps ks
legal_in ps es ks legal lies = by legal lies
  where
    by : {es : List Edge} {ks : List EdgeSplit} → IsLegal es ks → Each (LiesIn ps) es → AreSplitsIn ps ks
    by no_cut lies = tt
    by (split {given} {ks} {e} {f} {c} l x y m) lies =
        let each : Each (LiesIn ps) (after ks given) = after_each (LiesIn ps) (lies_kept ps) ks (legal_boxed given ks l) given lies in
        add_in ps f c (add_split e c ks) (lies_where_occurs ps (after ks given) each f y)
        (add_in ps e c ks (lies_where_occurs ps (after ks given) each e x) (by l lies))

-- ---- splits leave what lies apart

cut_apart : (ps qs : List Piece) → AreApart ps qs → (k : EdgeSplit) → LiesIn ps k.ends → (es : List Edge) → Each (LiesIn qs) es → split_by k es ≡ es
cut_apart ps qs apart k lies [] h = refl
cut_apart ps qs apart k lies (e ∷ es) h = by (same_ends e k.ends) refl (cut_apart ps qs apart k lies es h.1)
  where
    by : (b : Bool) → same_ends e k.ends ≡ b → split_by k es ≡ es → cond b ((e.0, k.at) ∷ (k.at, e.1) ∷ []) (e ∷ []) ++ split_by k es ≡ e ∷ es
    by true t rest = absurd (lies_once ps qs apart e (lies_same ps e k.ends t lies) h.0)
    by false t rest = ap (λ (l : List Edge). e ∷ l) rest

pub after_apart : (ps qs : List Piece) → AreApart ps qs → (ks : List EdgeSplit) → AreSplitsIn ps ks → (es : List Edge) → Each (LiesIn qs) es → after ks es ≡ es
after_apart ps qs apart [] lies es h = refl
after_apart ps qs apart (k ∷ ks) lies es h =
    ap (split_by k) (after_apart ps qs apart ks lies.1 es h) ∙ cut_apart ps qs apart k lies.0 es h

-- ---- splits of two lists, one after the other

pub after_more : (xs ys : List EdgeSplit) (es : List Edge) → after (xs ++ ys) es ≡ after xs (after ys es)
after_more [] ys es = refl
after_more (k ∷ xs) ys es = ap (split_by k) (after_more xs ys es)

add_more : (e : Edge) (c : Point) (xs ys : List EdgeSplit) → add_split e c xs ++ ys ≡ add_split e c (xs ++ ys)
add_more e c xs ys = by (is_end c e)
  where
    by : (b : Bool) → cond b xs ((record { ends = e; at = c }) ∷ xs) ++ ys ≡ cond b (xs ++ ys) ((record { ends = e; at = c }) ∷ (xs ++ ys))
    by true = refl
    by false = refl

-- splits of the second list are legal with the first before it
pub legal_second : (first es : List Edge) (ks : List EdgeSplit) → IsLegal es ks → IsLegal (first ++ es) ks
legal_second first es ks legal = by legal
  where
    stands : (es : List Edge) (ks : List EdgeSplit) (e : Edge) → occurs e (after ks es) ≡ true → occurs e (after ks (first ++ es)) ≡ true
    stands es ks e o =
        ap (occurs e) (after_append ks first es)
        ∙ (occurs_append e (after ks first) (after ks es) ∙ or_right (occurs e (after ks first)) (occurs e (after ks es)) o)

    by : {es : List Edge} {ks : List EdgeSplit} → IsLegal es ks → IsLegal (first ++ es) ks
    by no_cut = no_cut
    by (split {given} {ks} {e} {f} {c} l x y m) = split (by l) (stands given ks e x) (stands given ks f y) m

-- splits of the first list are legal after those of the second, where these leave the first as it is
pub legal_first : (es second : List Edge) (xs ys : List EdgeSplit) → IsLegal es xs → after ys es ≡ es → IsLegal (es ++ second) ys → IsLegal (es ++ second) (xs ++ ys)
legal_first es second xs ys legal same later = by legal same later
  where
    or_left : (x y : Bool) → x ≡ true → (x || y) ≡ true
    or_left x y h = ap (λ (b : Bool). b || y) h

    stands : (es : List Edge) (xs : List EdgeSplit) → after ys es ≡ es → (e : Edge) → occurs e (after xs es) ≡ true → occurs e (after (xs ++ ys) (es ++ second)) ≡ true
    stands es xs same e o =
        ap (occurs e) (after_more xs ys (es ++ second) ∙ (ap (after xs) (after_append ys es second ∙ ap (λ (l : List Edge). l ++ after ys second) same) ∙ after_append xs es (after ys second)))
        ∙ (occurs_append e (after xs es) (after xs (after ys second)) ∙ or_left (occurs e (after xs es)) (occurs e (after xs (after ys second))) o)

    by : {es : List Edge} {xs : List EdgeSplit} → IsLegal es xs → after ys es ≡ es → IsLegal (es ++ second) ys → IsLegal (es ++ second) (xs ++ ys)
    by no_cut same later = later
    by (split {given} {ks} {e} {f} {c} l x y m) same later =
        subst (IsLegal (given ++ second)) (sym (add_more f c (add_split e c ks) ys ∙ ap (add_split f c) (add_more e c ks ys)))
        (split (by l same later) (stands given ks same e x) (stands given ks same f y) m)

-- the splits of both, and what they leave
pub after_both : (ps qs : List Piece) → AreApart ps qs → AreApart qs ps → (es fs : List Edge) (xs ys : List EdgeSplit) → AreSplitsIn ps xs → AreSplitsIn qs ys
    → Each (LiesIn ps) es → Each (LiesIn qs) (after ys fs) → after (xs ++ ys) (es ++ fs) ≡ after xs es ++ after ys fs
after_both ps qs apart back es fs xs ys inx iny lies others =
    after_more xs ys (es ++ fs)
    ∙ (ap (after xs) (after_append ys es fs ∙ ap (λ (l : List Edge). l ++ after ys fs) (after_apart qs ps back ys iny es lies))
    ∙ (after_append xs es (after ys fs)
    ∙ ap (λ (l : List Edge). after xs es ++ l) (after_apart ps qs apart xs inx (after ys fs) others)))
