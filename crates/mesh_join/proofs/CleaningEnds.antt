-- Lemmas over points and lists: the ends of a cleaned contour's sections are points of the contour.
use Rattle.std.proofs.Common.{◌-◌, Bool, true, false, cond, List, [], ◌∷◌, ◌++◌, length, take, drop}
use Rattle.std.specs.List.{All}
use Rattle.std.proofs.lemmas.List.Elements.{All-append, All-nil, All-cons, All-head, All-tail, All-take, All-drop}
use Rattle.mesh_plane.specs.Plane.{Point, Edge}
use Rattle.mesh_plane.specs.Winding.{same_point}
use Rattle.mesh_plane.specs.Turning.{turns_at}
use Rattle.mesh_plane.proofs.ClosedLists.{boundary_all}
use Rattle.mesh_join.specs.Cleaned.{changes_from, without_repeats, without_end, without_repeated_end}
use Rattle.mesh_join.specs.Cleaned.{kept_between, kept_inside, kept_round, last_first}
use Rattle.mesh_join.specs.Cleaned.{begun, cleaned_points, cleaned_sections}

either_list : (P : Point → Type 0) (b : Bool) (xs ys : List Point) → All P xs → All P ys → All P (cond b xs ys)
either_list P true xs ys h k = h
either_list P false xs ys h k = k

all_changes : (P : Point → Type 0) (p : Point) (qs : List Point) → All P qs → All P (changes_from p qs)
all_changes P p [] h = h
all_changes P p (q ∷ qs) h =
    let t = All-tail P q qs h in
    either_list P (same_point p q) (changes_from p qs) (q ∷ changes_from q qs) (all_changes P p qs t) (All-cons P q (changes_from q qs) (All-head P q qs h) (all_changes P q qs t))

all_without_repeats : (P : Point → Type 0) (ps : List Point) → All P ps → All P (without_repeats ps)
all_without_repeats P [] h = h
all_without_repeats P (p ∷ ps) h = All-cons P p (changes_from p ps) (All-head P p ps h) (all_changes P p ps (All-tail P p ps h))

all_without_end : (P : Point → Type 0) (p : Point) (xs : List Point) → All P xs → All P (without_end p xs)
all_without_end P p [] h = h
all_without_end P p (x ∷ []) h = either_list P (same_point p x) [] (x ∷ []) (All-nil P) h
all_without_end P p (x ∷ y ∷ ys) h = All-cons P x (without_end p (y ∷ ys)) (All-head P x (y ∷ ys) h) (all_without_end P p (y ∷ ys) (All-tail P x (y ∷ ys) h))

all_without_repeated_end : (P : Point → Type 0) (ps : List Point) → All P ps → All P (without_repeated_end ps)
all_without_repeated_end P [] h = h
all_without_repeated_end P (p ∷ ps) h = All-cons P p (without_end p ps) (All-head P p ps h) (all_without_end P p ps (All-tail P p ps h))

all_kept_between : (P : Point → Type 0) (p0 p1 : Point) (ps : List Point) → P p1 → All P ps → All P (kept_between p0 p1 ps)
all_kept_between P p0 p1 [] q h = All-nil P
all_kept_between P p0 p1 (p2 ∷ ps) q h =
    let k = all_kept_between P p1 p2 ps (All-head P p2 ps h) (All-tail P p2 ps h) in
    either_list P (turns_at p0 p1 p2) (p1 ∷ kept_between p1 p2 ps) (kept_between p1 p2 ps) (All-cons P p1 (kept_between p1 p2 ps) q k) k

all_kept_round : (P : Point → Type 0) (ps : List Point) → All P ps → All P (kept_round ps)
all_kept_round P [] h = h
all_kept_round P (p ∷ []) h = All-nil P
all_kept_round P (p ∷ q ∷ ps) h =
    let hp = All-head P p (q ∷ ps) h in
    let t = All-tail P p (q ∷ ps) h in
    let hq = All-head P q ps t in
    all_kept_between P p q (ps ++ p ∷ q ∷ []) hq (All-append P ps (p ∷ q ∷ []) (All-tail P q ps t) (All-cons P p (q ∷ []) hp (All-cons P q [] hq (All-nil P))))

all_last_first : (P : Point → Type 0) (xs : List Point) → All P xs → All P (last_first xs)
all_last_first P xs h = All-append P (drop (length xs - 1) xs) (take (length xs - 1) xs) (All-drop P (length xs - 1) xs h) (All-take P (length xs - 1) xs h)

all_begun : (P : Point → Type 0) (inside round : List Point) → All P round → All P (begun inside round)
all_begun P [] round h = all_last_first P round h
all_begun P (p ∷ ps) round h = h

pub cleaned_points-all : (P : Point → Type 0) (points : List Point) → All P points → All P (cleaned_points points)
cleaned_points-all P points h =
    all_begun P (kept_inside (without_repeats points)) (kept_round (without_repeated_end (without_repeats points)))
    (all_kept_round P (without_repeated_end (without_repeats points)) (all_without_repeated_end P (without_repeats points) (all_without_repeats P points h)))

-- what holds of all points of a contour holds of the ends of its sections
pub cleaned_sections-ends : (P : Point → Type 0) (points : List Point) → All P points → All (λ (e : Edge). P e.0 × P e.1) (cleaned_sections points)
unfolding cleaned_sections
cleaned_sections-ends P points h = boundary_all P (cleaned_points points) (cleaned_points-all P points h)
