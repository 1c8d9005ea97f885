-- Marks are made until no rule is left that makes one: then they are those of the decided candidates.
use Rattle.std.proofs.Common.{◌≡◌, ℕ, zero, suc, ◌+◌, ◌<◌, Bool, true, false, ◌&&◌, ◌||◌, cond, List, [], ◌∷◌, length, get_or, set, Option, None, Some, refl, sym, ap, subst, ◌∙◌, arith, inl, inr}
use Rattle.std.specs.Prelude.{count_by, position, is_some, is_none, ◌==◌}
use Rattle.std.specs.List.{list_any, AllZip, All, Any}
use Rattle.std.specs.Option.{OnSome}
use Rattle.std.proofs.lemmas.Bool.{false≢true, or_cases, or_left, or_right, and_parts, and_from, eq-eqb}
use Rattle.std.proofs.lemmas.List.{get_or_default}
use Rattle.std.proofs.lemmas.List.Elements.{All-head, All-tail, AllZip-get_or, length_all_zip}
use Rattle.std.proofs.lemmas.List.Folds.{Any-from_list_any, list_any_at}
use Rattle.std.proofs.lemmas.List.Quantifiers.{position-Some}
use Rattle.std.proofs.lemmas.List.Sums.{sum_by-set}
use Rattle.std.proofs.lemmas.Option.{none-some}
use Rattle.qu_base.specs.declared.party.ObjectId.{ObjectId}
use Rattle.qu_base.proofs.Numbered.{tested_object}
use Rattle.qu_stamp.specs.declared.candidate.Candidate.{Candidate}
use Rattle.qu_stamp.specs.Candidate.{same}
use Rattle.qu_stamp.specs.Stamp.{same_stamp}
use Rattle.qu_stamp.proofs.Order.{same-self, same_stamp-self, equal_by_same, equal_by_same_stamp}
use Rattle.qu_world.specs.State.{WorldState}
use Rattle.qu_claims.specs.Accepted.{is_accepted}
use Rattle.qu_known.specs.declared.tracked.Tracked.{Tracked}
use Rattle.qu_known.specs.Tracked.{is_tracked_as, is_tracked}
use Rattle.qu_marks.specs.Tracker.{is_established, IsDecidedIn, is_child, is_next, SettlesTo, IsSettled, IsDecidedMark, AreAccepted}
use Rattle.qu_marks.proofs.DecidedWorlds.{accepted_by_decided}
use Rattle.qu_marks.proofs.Places.{position_none}

-- ---- pairs

pub is_of-self : (tracked : Tracked) → is_tracked_as tracked.object tracked.candidate tracked ≡ true
is_of-self tracked = and_from _ _ (eq-eqb (tracked.object).0 (tracked.object).0 refl) (same-self tracked.candidate)

pub is_of_equal : (object : ObjectId) (candidate : Candidate) (tracked : Tracked)
    → is_tracked_as object candidate tracked ≡ true → (tracked.object ≡ object) × (tracked.candidate ≡ candidate)
is_of_equal object candidate tracked it =
    let parts : (((tracked.object).0 == object.0) ≡ true) × (same tracked.candidate candidate ≡ true) =
    and_parts _ _ it in
    (tested_object tracked.object object parts.0, equal_by_same tracked.candidate candidate parts.1)

pub is_tracked_at : (all : List Tracked) (place : ℕ) (default : Tracked) → place < length all
    → is_tracked (get_or all place default).object (get_or all place default).candidate all ≡ true
unfolding is_tracked
is_tracked_at all place default below =
    let here : Tracked = get_or all place default in
    list_any_at (is_tracked_as here.object here.candidate) all place default below (is_of-self here)

-- where a tracked candidate stands
pub record IsTrackedAt (object : ObjectId) (candidate : Candidate) (all : List Tracked) : Type 0 where
  pub place : ℕ
  pub below : place < length all
  pub found : Tracked
  pub at : get_or all place found ≡ found
  pub object_is : found.object ≡ object
  pub candidate_is : found.candidate ≡ candidate

pub stands_in : (object : ObjectId) (candidate : Candidate) (all : List Tracked)
    → is_tracked object candidate all ≡ true → IsTrackedAt object candidate all
unfolding is_tracked
stands_in object candidate all tracked =
    let any : Any (λ (it : Tracked). is_tracked_as object candidate it ≡ true) all =
    Any-from_list_any (is_tracked_as object candidate) all tracked in
    let same : (any.1.object ≡ object) × (any.1.candidate ≡ candidate) = is_of_equal object candidate any.1 any.4 in
    record { place = any.0; below = any.2; found = any.1; at = any.3; object_is = same.0; candidate_is = same.1 }

-- ---- one mark

sound_is_decided : (world : WorldState) (object : ObjectId) (candidate : Candidate) (mark : Option ℕ)
    → is_some mark ≡ true → OnSome mark (IsDecidedIn world object candidate) → IsDecidedIn world object candidate
sound_is_decided world object candidate None some sound = absurd (false≢true some)
sound_is_decided world object candidate (Some event) some sound = sound

child_decides : (world : WorldState) (tracked child : Tracked) → is_child tracked child ≡ true
    → IsDecidedMark world child → is_accepted world tracked.object tracked.candidate ≡ true
    → IsDecidedIn world tracked.object tracked.candidate
child_decides world tracked child rests sound accepted =
    let parts : (is_some child.decided ≡ true)
    × (((child.object).0 == (tracked.object).0 && same_stamp child.candidate.prior tracked.candidate.stamp)
    ≡ true) = and_parts _ _ rests in
    let same : (((child.object).0 == (tracked.object).0) ≡ true)
    × (same_stamp child.candidate.prior tracked.candidate.stamp ≡ true) = and_parts _ _ parts.1 in
    let decided : IsDecidedIn world tracked.object child.candidate =
    subst (λ (object : ObjectId). IsDecidedIn world object child.candidate)
    (tested_object child.object tracked.object same.0)
    (sound_is_decided world child.object child.candidate child.decided parts.0 sound) in
    IsDecidedIn.as_prior tracked.candidate child.candidate decided
    (equal_by_same_stamp child.candidate.prior tracked.candidate.stamp same.1) accepted

-- what the next mark is made of is decided
pub next_is_decided : (world : WorldState) (all : List Tracked) (tracked : Tracked)
    → is_next world all tracked ≡ true → All (IsDecidedMark world) all
    → is_accepted world tracked.object tracked.candidate ≡ true → (is_none tracked.decided ≡ true)
    × IsDecidedIn world tracked.object tracked.candidate
unfolding is_next
next_is_decided world all tracked next sound accepted =
    let parts : (is_none tracked.decided ≡ true)
    × ((is_established world tracked.object tracked.candidate || list_any (is_child tracked) all) ≡ true) =
    and_parts _ _ next in (
      parts.0,
      elim (or_cases (is_established world tracked.object tracked.candidate) (list_any (is_child tracked) all)
          parts.1) [
            | inl established ↦ IsDecidedIn.by_acceptors tracked.candidate accepted established
            | inr rested ↦
                let any : Any (λ (it : Tracked). is_child tracked it ≡ true) all =
                Any-from_list_any (is_child tracked) all rested in
                child_decides world tracked any.1 any.4 (subst (IsDecidedMark world) any.3 (sound any.0 any.1 any.2))
                accepted
          ],
    )

-- marks that were made are right, and earlier ones stay; others may follow
abbrev pub MarksTo : WorldState → ℕ → ObjectId → Candidate → Option ℕ → Option ℕ → Type 0
MarksTo world event object candidate (Some earlier) new = new ≡ Some earlier
MarksTo world event object candidate None None = Unit {0}
MarksTo world event object candidate None (Some now) = (now ≡ event) × IsDecidedIn world object candidate

pub record IsMarked (world : WorldState) (event : ℕ) (old new : Tracked) : Type 0 where
  pub object : new.object ≡ old.object
  pub candidate : new.candidate ≡ old.candidate
  pub mark : MarksTo world event old.object old.candidate old.decided new.decided

marks_to-self : (world : WorldState) (event : ℕ) (object : ObjectId) (candidate : Candidate) (mark : Option ℕ)
    → MarksTo world event object candidate mark mark
marks_to-self world event object candidate None = tt
marks_to-self world event object candidate (Some earlier) = refl

pub marks-self : (world : WorldState) (event : ℕ) (all : List Tracked) → AllZip (IsMarked world event) all all
marks-self world event [] = tt
marks-self world event (tracked ∷ later) = (
  record {
    object = refl;
    candidate = refl;
    mark = marks_to-self world event tracked.object tracked.candidate
        tracked.decided;
  },
  marks-self world event later,
)

zip_set : (R : Tracked → Tracked → Type 0) (xs ys : List Tracked) (place : ℕ) (y default : Tracked)
    → AllZip R xs ys → (place < length xs → R (get_or xs place default) y) → AllZip R xs (set ys place y)
zip_set R [] [] place y default all here = tt
zip_set R [] (b ∷ bs) place y default all here = absurd all
zip_set R (a ∷ rest) [] place y default all here = absurd all
zip_set R (a ∷ rest) (b ∷ bs) zero y default all here = (here (omega arith), all.1)
zip_set R (a ∷ rest) (b ∷ bs) (suc place) y default all here =
    (all.0, zip_set R rest bs place y default all.1 (λ below. here (omega arith)))

-- a mark is one that was there, or one of these
mark_sound : (world : WorldState) (event : ℕ) (object : ObjectId) (candidate : Candidate) (old new : Option ℕ)
    → MarksTo world event object candidate old new → OnSome old (IsDecidedIn world object candidate)
    → OnSome new (IsDecidedIn world object candidate)
mark_sound world event object candidate (Some earlier) None marks sound = absurd (none-some earlier marks)
mark_sound world event object candidate (Some earlier) (Some now) marks sound = sound
mark_sound world event object candidate None None marks sound = tt
mark_sound world event object candidate None (Some now) marks sound = marks.1

marked_sound : (world : WorldState) (event : ℕ) (old new : Tracked) → IsMarked world event old new
    → IsDecidedMark world old → IsDecidedMark world new
marked_sound world event old new marked sound =
    let there : OnSome new.decided (IsDecidedIn world old.object old.candidate) =
    mark_sound world event old.object old.candidate old.decided new.decided marked.mark sound in
    rw (marked.object, marked.candidate) there

pub all_sound : (world : WorldState) (event : ℕ) (old new : List Tracked) → AllZip (IsMarked world event) old new
    → All (IsDecidedMark world) old → All (IsDecidedMark world) new
all_sound world event old new marks sound place default below =
    let same : length old ≡ length new = length_all_zip (IsMarked world event) old new marks in
    let before : place < length old = omega arith in
    marked_sound world event (get_or old place default) (get_or new place default)
    (AllZip-get_or (IsMarked world event) old new place default default marks before) (sound place default before)

-- the marked ones are of the same candidates
pub is_tracked-zip : (world : WorldState) (event : ℕ) (old new : List Tracked)
    → AllZip (IsMarked world event) old new → (object : ObjectId) (candidate : Candidate)
    → is_tracked object candidate new ≡ is_tracked object candidate old
unfolding is_tracked
is_tracked-zip world event [] [] marks object candidate = refl
is_tracked-zip world event [] (new ∷ news) marks object candidate = absurd marks
is_tracked-zip world event (old ∷ olds) [] marks object candidate = absurd marks
is_tracked-zip world event (old ∷ olds) (new ∷ news) marks object candidate =
    let here : is_tracked_as object candidate new
    ≡ is_tracked_as object candidate old = rw (marks.0.object, marks.0.candidate) refl in
    ap (λ (test : Bool). test || is_tracked object candidate news) here ∙
    ap (λ (test : Bool). is_tracked_as object candidate old || test)
    (is_tracked-zip world event olds news marks.1 object candidate)

mark_again : (world : WorldState) (event : ℕ) (object : ObjectId) (candidate : Candidate) (old new : Option ℕ)
    → is_none new ≡ true → IsDecidedIn world object candidate → MarksTo world event object candidate old new
    → MarksTo world event object candidate old (Some event)
mark_again world event object candidate (Some earlier) None none decided marks = absurd (none-some earlier marks)
mark_again world event object candidate (Some earlier) (Some now) none decided marks = absurd (false≢true none)
mark_again world event object candidate None new none decided marks = (refl, decided)

remark : (world : WorldState) (event : ℕ) (old new : Tracked) → is_none new.decided ≡ true
    → IsDecidedIn world new.object new.candidate → IsMarked world event old new
    → IsMarked world event old (record new { decided = Some event })
remark world event old new none decided marked =
    let decided_there : IsDecidedIn world old.object old.candidate = rw (marked.object, marked.candidate) at decided in
    record {
      object = marked.object;
      candidate = marked.candidate;
      mark = mark_again world event old.object old.candidate old.decided new.decided none decided_there marked.mark;
    }

-- the next mark is right too
pub marks-set : (world : WorldState) (event : ℕ) (old all : List Tracked) (place : ℕ) (tracked : Tracked)
    → AreAccepted world old → All (IsDecidedMark world) old → AllZip (IsMarked world event) old all
    → position (is_next world all) all ≡ Some place → tracked ≡ get_or all place tracked
    → AllZip (IsMarked world event) old (set all place (record tracked { decided = Some event }))
marks-set world event old all place tracked accepted sound marks next is =
    let found : (place < length all) × (is_next world all (get_or all place tracked) ≡ true)
    × ((k : ℕ) → k < place → is_next world all (get_or all k tracked) ≡ false) =
    position-Some (is_next world all) all place tracked next in
    let ready : is_next world all tracked ≡ true = ap (is_next world all) is ∙ found.1 in
    let known : is_tracked tracked.object tracked.candidate all ≡ true =
    ap (λ (it : Tracked). is_tracked it.object it.candidate all) is ∙ is_tracked_at all place tracked found.0 in
    let held : is_accepted world tracked.object tracked.candidate ≡ true =
    sym (accepted tracked.object tracked.candidate)
    ∙ sym (is_tracked-zip world event old all marks tracked.object tracked.candidate) ∙ known in
    let decided : (is_none tracked.decided ≡ true) × IsDecidedIn world tracked.object tracked.candidate =
    next_is_decided world all tracked ready (all_sound world event old all marks sound) held in
    zip_set (IsMarked world event) old all place (record tracked { decided = Some event }) tracked marks
    (λ below. remark world event (get_or old place tracked) tracked decided.0 decided.1
    (subst (λ (it : Tracked). IsMarked world event (get_or old place tracked) it) (sym is)
    (AllZip-get_or (IsMarked world event) old all place tracked tracked marks below)))

-- ---- no mark is left to make

is_none_false : (mark : Option ℕ) → is_none mark ≡ false → is_some mark ≡ true
is_none_false None none = absurd (false≢true (sym none))
is_none_false (Some event) none = refl

not_next : (none first second : Bool) → (none && (first || second)) ≡ false → (first || second) ≡ true → none ≡ false
not_next true first second not_both one = absurd (false≢true (sym not_both ∙ one))
not_next false first second not_both one = refl

-- where no rule is left, each decided candidate is marked
marked_by_decided : (world : WorldState) (all : List Tracked)
    → ((place : ℕ) (default : Tracked) → place < length all
    → is_next world all (get_or all place default) ≡ false)
    → ((object : ObjectId) (candidate : Candidate) → is_accepted world object candidate ≡ true
    → is_tracked object candidate all ≡ true) → (object : ObjectId) (candidate : Candidate)
    → IsDecidedIn world object candidate → (place : ℕ) (found : Tracked) → place < length all
    → get_or all place found ≡ found → found.object ≡ object → found.candidate ≡ candidate
    → is_some found.decided ≡ true
unfolding is_next
marked_by_decided world all closed known object candidate (IsDecidedIn.by_acceptors same accepted established)
    place found below at object_is candidate_is =
    let not_ready : is_next world all found ≡ false = ap (is_next world all) (sym at) ∙ closed place found below in
    let here : is_established world found.object found.candidate ≡ true = rw (object_is, candidate_is) established in
    is_none_false found.decided
    (not_next (is_none found.decided) (is_established world found.object found.candidate)
    (list_any (is_child found) all) not_ready (or_left _ (list_any (is_child found) all) here))
marked_by_decided world all closed known object candidate (IsDecidedIn.as_prior same child decided prior accepted)
    place found below at object_is candidate_is =
    let not_ready : is_next world all found ≡ false = ap (is_next world all) (sym at) ∙ closed place found below in
    let other : IsTrackedAt object child all =
    stands_in object child all (known object child (accepted_by_decided world object child decided)) in
    let marked : is_some other.found.decided ≡ true =
    marked_by_decided world all closed known object child decided other.place other.found other.below other.at
    other.object_is other.candidate_is in
    let same_place : ((other.found.object).0 == (found.object).0) ≡ true =
    eq-eqb _ _ (ap (λ (it : ObjectId). it.0) (other.object_is ∙ sym object_is)) in
    let rests_on : other.found.candidate.prior ≡ found.candidate.stamp =
    ap (λ (it : Candidate). it.prior) other.candidate_is ∙ prior ∙ ap (λ (it : Candidate). it.stamp)
    (sym candidate_is) in
    let same_prior : same_stamp other.found.candidate.prior found.candidate.stamp ≡ true =
    ap (λ stamp. same_stamp stamp found.candidate.stamp) rests_on ∙ same_stamp-self found.candidate.stamp in
    let child_of : is_child found other.found ≡ true = and_from _ _ marked (and_from _ _ same_place same_prior) in
    let some : list_any (is_child found) all ≡ true =
    list_any_at (is_child found) all other.place other.found other.below
    (ap (is_child found) other.at ∙ child_of) in
    is_none_false found.decided
    (not_next (is_none found.decided) (is_established world found.object found.candidate)
    (list_any (is_child found) all) not_ready (or_right (is_established world found.object found.candidate) _ some))

settles_to : (world : WorldState) (event : ℕ) (object : ObjectId) (candidate : Candidate) (old new : Option ℕ)
    → MarksTo world event object candidate old new → (IsDecidedIn world object candidate → is_some new ≡ true)
    → SettlesTo world event object candidate old new
settles_to world event object candidate (Some earlier) new marks complete = marks
settles_to world event object candidate None None marks complete = λ decided. false≢true (complete decided)
settles_to world event object candidate None (Some now) marks complete = marks

is_settled : (world : WorldState) (event : ℕ) (old new : Tracked) → IsMarked world event old new
    → (IsDecidedIn world new.object new.candidate → is_some new.decided ≡ true) → IsSettled world event old new
is_settled world event old new marked complete =
    let there : IsDecidedIn world old.object old.candidate → is_some new.decided ≡ true =
    rw (marked.object, marked.candidate) at complete in
    record {
      object = marked.object;
      candidate = marked.candidate;
      mark = settles_to world event old.object old.candidate old.decided new.decided marked.mark there;
    }

zip_with : (R S : Tracked → Tracked → Type 0) (P : Tracked → Type 0) → ((x y : Tracked) → R x y → P y → S x y)
    → (xs ys : List Tracked) → AllZip R xs ys → All P ys → AllZip S xs ys
zip_with R S P each [] [] zips all = tt
zip_with R S P each [] (y ∷ ys) zips all = absurd zips
zip_with R S P each (x ∷ xs) [] zips all = absurd zips
zip_with R S P each (x ∷ xs) (y ∷ ys) zips all =
    (each x y zips.0 (All-head P y ys all), zip_with R S P each xs ys zips.1 (All-tail P y ys all))

pub all_settled : (world : WorldState) (event : ℕ) (old all : List Tracked) → AreAccepted world old
    → AllZip (IsMarked world event) old all → position (is_next world all) all ≡ None
    → AllZip (IsSettled world event) old all
all_settled world event old all accepted marks none =
    let closed : (place : ℕ) (default : Tracked) → place < length all
    → is_next world all (get_or all place default) ≡ false =
    λ place default below. position_none (is_next world all) all none place default below in
    let known : (object : ObjectId) (candidate : Candidate) → is_accepted world object candidate ≡ true
    → is_tracked object candidate all ≡ true =
    λ object candidate held. is_tracked-zip world event old all marks object candidate
    ∙ accepted object candidate ∙ held in
    zip_with (IsMarked world event) (IsSettled world event)
    (λ (it : Tracked). IsDecidedIn world it.object it.candidate → is_some it.decided ≡ true)
    (is_settled world event) old all marks
    (λ place default below decided.
    let it : Tracked = get_or all place default in
    marked_by_decided world all closed known it.object it.candidate decided place it below
    (get_or_default all place it default below) refl refl)

abbrev left : Tracked → ℕ
left tracked = cond (is_none tracked.decided) 1 0

-- a mark made leaves one fewer to make
pub fewer_left : (world : WorldState) (event : ℕ) (all : List Tracked) (place : ℕ) (tracked : Tracked)
    → position (is_next world all) all ≡ Some place → tracked ≡ get_or all place tracked
    → count_by (λ (it : Tracked). is_none it.decided) (set all place (record tracked { decided = Some event }))
    < count_by (λ (it : Tracked). is_none it.decided) all
unfolding is_next
fewer_left world event all place tracked next is =
    let found : (place < length all) × (is_next world all (get_or all place tracked) ≡ true)
    × ((k : ℕ) → k < place → is_next world all (get_or all k tracked) ≡ false) =
    position-Some (is_next world all) all place tracked next in
    let ready : is_next world all tracked ≡ true = ap (is_next world all) is ∙ found.1 in
    let open_now : is_none tracked.decided ≡ true =
    (and_parts (is_none tracked.decided) (is_established world tracked.object tracked.candidate || list_any
    (is_child tracked) all) ready).0 in
    let sums : count_by (λ (it : Tracked). is_none it.decided)
    (set all place (record tracked { decided = Some event })) + left (get_or all place tracked) ≡ count_by
    (λ (it : Tracked). is_none it.decided) all + 0 =
    sum_by-set left all place (record tracked { decided = Some event }) tracked found.0 in
    let one : left (get_or all place tracked) ≡ 1 = ap left (sym is) ∙ ap (λ (test : Bool). cond test 1 0) open_now in
    omega arith
