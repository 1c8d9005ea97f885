-- The state once candidates of different objects are accepted.
use Rattle.std.proofs.Common.{◌≡◌, ℕ, zero, suc, ◌<◌, Bool, true, false, cond, List, [], ◌∷◌, ◌++◌, length, set, take, get_or, Option, None, Some, refl, sym, subst, ap, ◌∙◌, append_assoc, arith}
use Rattle.std.specs.Prelude.{◌==◌, slice_get, option_map}
use Rattle.std.specs.List.{AllByRecursion}
use Rattle.std.proofs.lemmas.Bool.{eqb-true, eq-eqb, false≢true}
use Rattle.std.proofs.lemmas.List.{append-nil, length-set}
use Rattle.std.proofs.lemmas.Option.{none-some, same_Some}
use Rattle.qu_base.specs.declared.party.ObjectId.{ObjectId}
use Rattle.qu_stamp.specs.declared.candidate.Candidate.{Candidate}
use Rattle.qu_stamp.specs.Stamp.{is_below}
use Rattle.qu_history.specs.declared.limits.TheConstants.{HISTORY_LIMIT}
use Rattle.qu_history.specs.History.{ObjectHistory, latest}
use Rattle.qu_mends.specs.declared.accepted.Accepted.{Accepted}
use Rattle.qu_rows.specs.State.{ReplicaState, AreHistories}
use Rattle.qu_mends.specs.Table.{candidates_in}
use Rattle.qu_rows.specs.Allowed.{MayAccept, MayAcceptAll}
use Rattle.qu_fitting.specs.Holding.{with_candidate, stored_with, stored_all, accepted_of, accept, accept_all, with_histories}
use Rattle.qu_fitting.proofs.Accepting.{other_history, put_history, length-with_candidate}
use Rattle.qu_fitting.proofs.OwnHistories.{accept-histories}

-- ---- one after the other

-- a candidate of another object may still be accepted
may_after : (state : ReplicaState) (first other : Accepted) → (other.object ≡ first.object → ⊥)
    → MayAccept state other → MayAccept (accept state first) other
may_after state first other apart may =
    let same : slice_get (with_candidate (first.object).0 first.candidate state.histories) (other.object).0
    ≡ slice_get state.histories (other.object).0 =
    other_history (first.object).0 (other.object).0 first.candidate state.histories
    (λ (at : (other.object).0 ≡ (first.object).0). apart (ap (λ (number : ℕ). record { 0 = number }) at)) in
    record {
      known = subst (λ (count : ℕ). (other.object).0 < count)
          (sym (length-with_candidate (first.object).0 first.candidate state.histories)) may.known;
      later = subst (λ (it : Option ObjectHistory).
          is_below (latest (candidates_in it)) other.candidate.stamp ≡ true) (sym same) may.later;
      room = subst (λ (it : Option ObjectHistory). length (candidates_in it) < HISTORY_LIMIT) (sym same) may.room;
      in_time = may.in_time;
    }

pub all_after : (state : ReplicaState) (first : Accepted) (later : List Accepted)
    → AllByRecursion (λ other. other.object ≡ first.object → ⊥) later → MayAcceptAll state later
    → MayAcceptAll (accept state first) later
all_after state first [] apart may = tt
all_after state first (other ∷ later) apart may = (
  may_after state first other apart.0 may.0,
  may.1,
  all_after state first later apart.1 may.2,
)

pub accept_all-histories : (state : ReplicaState) (accepted : List Accepted) → AreHistories state
    → MayAcceptAll state accepted → AreHistories (accept_all state accepted)
unfolding accept_all
accept_all-histories state [] own may = own
accept_all-histories state (first ∷ later) own may =
    accept_all-histories (accept state first) later (accept-histories state first own may.0)
    (all_after state first later may.1 may.2)

-- ---- the histories

-- the histories with these candidates
abbrev pub with_candidates : List Accepted → List ObjectHistory → List ObjectHistory
with_candidates [] histories = histories
with_candidates (first ∷ later) histories =
    with_candidates later (with_candidate (first.object).0 first.candidate histories)

pub accept_all-is : (state : ReplicaState) (accepted : List Accepted) → accept_all state accepted ≡ record state {
  histories = with_candidates accepted state.histories;
  versions = state.versions ++ stored_all accepted;
}
unfolding accept_all
accept_all-is state [] = λ i. record state { versions = sym (append-nil state.versions) i }
accept_all-is state (first ∷ later) =
    accept_all-is (accept state first) later
    ∙ (λ i. record state {
      histories = with_candidates later (with_candidate (first.object).0 first.candidate state.histories);
      versions = append_assoc state.versions (stored_with first) (stored_all later) i;
    })

pub candidates-snoc : (accepted : List Accepted) (last : Accepted) (histories : List ObjectHistory)
    → with_candidates (accepted ++ last ∷ []) histories
    ≡ with_candidate (last.object).0 last.candidate (with_candidates accepted histories)
candidates-snoc [] last histories = refl
candidates-snoc (first ∷ later) last histories =
    candidates-snoc later last (with_candidate (first.object).0 first.candidate histories)

pub histories-snoc : (grown : List ObjectHistory) (last : ObjectHistory) (histories : List ObjectHistory)
    → with_histories (grown ++ last ∷ []) histories ≡ set (with_histories grown histories) (last.object).0 last
histories-snoc [] last histories = refl
histories-snoc (first ∷ later) last histories = histories-snoc later last (set histories (first.object).0 first)

pub length-with_histories : (grown histories : List ObjectHistory)
    → length (with_histories grown histories) ≡ length histories
length-with_histories [] histories = refl
length-with_histories (first ∷ later) histories =
    length-with_histories later (set histories (first.object).0 first)
    ∙ length-set histories (first.object).0 first

-- candidates of other objects leave the history of this one
pub others_leave : (object : ObjectId) (accepted : List Accepted) (histories : List ObjectHistory)
    → AllByRecursion (λ other. other.object ≡ object → ⊥) accepted
    → slice_get (with_candidates accepted histories) object.0 ≡ slice_get histories object.0
others_leave object [] histories apart = refl
others_leave object (first ∷ later) histories apart =
    others_leave object later (with_candidate (first.object).0 first.candidate histories) apart.1
    ∙ other_history (first.object).0 object.0 first.candidate histories
    (λ (at : object.0 ≡ (first.object).0). apart.0 (ap (λ (number : ℕ). record { 0 = number }) (sym at)))

grows_by : (number : ℕ) (candidate : Candidate) (histories : List ObjectHistory)
    → slice_get (with_candidate number candidate histories) number
    ≡ option_map (λ (it : ObjectHistory). record it { candidates = it.candidates ++ candidate ∷ [] })
    (slice_get histories number)
unfolding with_candidate
grows_by number candidate [] = refl
grows_by zero candidate (history ∷ later) = refl
grows_by (suc number) candidate (history ∷ later) = grows_by number candidate later

-- what a candidate makes of the history of its object depends on that history alone
grown_alike : (number : ℕ) (candidate : Candidate) (histories others : List ObjectHistory)
    → slice_get histories number ≡ slice_get others number
    → slice_get (with_candidate number candidate histories) number
    ≡ slice_get (with_candidate number candidate others) number
grown_alike number candidate histories others same =
    grows_by number candidate histories
    ∙ ap (option_map (λ (it : ObjectHistory). record it { candidates = it.candidates ++ candidate ∷ [] })) same
    ∙ sym (grows_by number candidate others)

-- one more history that grew
pub grown_more : (accepted : List Accepted) (last : Accepted) (grown : List ObjectHistory) (history : ObjectHistory)
    (histories : List ObjectHistory)
    → AllByRecursion (λ other. other.object ≡ last.object → ⊥) accepted
    → with_histories grown histories ≡ with_candidates accepted histories
    → slice_get (with_candidate (last.object).0 last.candidate histories) (last.object).0 ≡ Some history
    → (history.object).0 ≡ (last.object).0
    → with_histories (grown ++ history ∷ []) histories ≡ with_candidates (accepted ++ last ∷ []) histories
grown_more accepted last grown history histories apart so_far found place =
    let before : List ObjectHistory = with_candidates accepted histories in
    let here : slice_get (with_candidate (last.object).0 last.candidate before) (last.object).0 ≡ Some history =
    grown_alike (last.object).0 last.candidate before histories (others_leave last.object accepted histories apart)
    ∙ found in
    histories-snoc grown history histories
    ∙ ap (λ (it : List ObjectHistory). set it (history.object).0 history) so_far
    ∙ ap (λ (at : ℕ). set before at history) place
    ∙ put_history (last.object).0 last.candidate before history here
    ∙ sym (candidates-snoc accepted last histories)

-- ---- which is accepted

-- the one at this place may be accepted, and those before it are of other objects
pub one_of : (state : ReplicaState) (accepted : List Accepted) (place : ℕ) (one : Accepted)
    → MayAcceptAll state accepted → place < length accepted → one ≡ get_or accepted place one
    → MayAccept state one × AllByRecursion (λ other. other.object ≡ one.object → ⊥) (take place accepted)
one_of state [] place one may within is = absurd (omega (arith, within))
one_of state (first ∷ later) zero one may within is = (subst (MayAccept state) (sym is) may.0, tt)
one_of state (first ∷ later) (suc place) one may within is =
    let inner : place < length later = omega (arith, within) in
    let rest : MayAccept state one × AllByRecursion (λ other. other.object ≡ one.object → ⊥) (take place later) =
    one_of state later place one may.2 inner is in
    (rest.0, (apart_at later place may.1 inner is, rest.1))
  where
    apart_at : (later : List Accepted) (place : ℕ) → AllByRecursion (λ other. other.object ≡ first.object → ⊥) later
        → place < length later → one ≡ get_or later place one → first.object ≡ one.object → ⊥
    apart_at [] place apart within is = absurd (omega (arith, within))
    apart_at (other ∷ later) zero apart within is =
        λ same. apart.0 (sym (ap (λ (it : Accepted). it.object) is) ∙ sym same)
    apart_at (other ∷ later) (suc place) apart within is =
        apart_at later place apart.1 (omega (arith, within)) is

found_of : (object : ObjectId) (test : Bool) (first : Accepted) (later : Option Accepted) (one : Accepted)
    → (first.object).0 == object.0 ≡ test → (later ≡ Some one → (one.object).0 ≡ object.0)
    → cond test (Some first) later ≡ Some one → (one.object).0 ≡ object.0
found_of object true first later one is so_far found =
    ap (λ (it : Accepted). (it.object).0) (sym (same_Some first one found)) ∙ eqb-true _ _ is
found_of object false first later one is so_far found = so_far found

accepted_of-object : (object : ObjectId) (accepted : List Accepted) (one : Accepted)
    → accepted_of object accepted ≡ Some one → (one.object).0 ≡ object.0
accepted_of-object object [] one found = absurd (none-some one found)
accepted_of-object object (first ∷ later) one found =
    found_of object ((first.object).0 == object.0) first (accepted_of object later) one refl
    (accepted_of-object object later one) found

-- the history of an object, with what is accepted of it
abbrev pub history_of : List ObjectHistory → ObjectId → Option Accepted → Option ObjectHistory
history_of histories object None = slice_get histories object.0
history_of histories object (Some one) =
    slice_get (with_candidate (one.object).0 one.candidate histories) (one.object).0

-- a candidate of another object changes nothing of it
history_of-other : (first : Accepted) (histories : List ObjectHistory) (object : ObjectId) (found : Option Accepted)
    → (object.0 ≡ (first.object).0 → ⊥) → ((one : Accepted) → found ≡ Some one → (one.object).0 ≡ object.0)
    → history_of (with_candidate (first.object).0 first.candidate histories) object found
    ≡ history_of histories object found
history_of-other first histories object None other is =
    other_history (first.object).0 object.0 first.candidate histories other
history_of-other first histories object (Some one) other is =
    grown_alike (one.object).0 one.candidate (with_candidate (first.object).0 first.candidate histories) histories
    (other_history (first.object).0 (one.object).0 first.candidate histories
    (λ same. other (sym (is one refl) ∙ same)))

pub accepted_grows : (state : ReplicaState) (object : ObjectId) (accepted : List Accepted)
    (histories : List ObjectHistory) → MayAcceptAll state accepted
    → slice_get (with_candidates accepted histories) object.0
    ≡ history_of histories object (accepted_of object accepted)
accepted_grows state object [] histories may = refl
accepted_grows state object (first ∷ later) histories may =
    by ((first.object).0 == object.0) refl
    (accepted_grows state object later (with_candidate (first.object).0 first.candidate histories) may.2)
  where
    by : (test : Bool) → (first.object).0 == object.0 ≡ test
        → slice_get (with_candidates later (with_candidate (first.object).0 first.candidate histories)) object.0
        ≡ history_of (with_candidate (first.object).0 first.candidate histories) object (accepted_of object later)
        → slice_get (with_candidates later (with_candidate (first.object).0 first.candidate histories)) object.0
        ≡ history_of histories object (cond test (Some first) (accepted_of object later))
    by true is so_far =
        let same : (first.object).0 ≡ object.0 = eqb-true _ _ is in
        ap (slice_get (with_candidates later (with_candidate (first.object).0 first.candidate histories))) (sym same)
        ∙ others_leave first.object later (with_candidate (first.object).0 first.candidate histories) may.1
    by false is so_far =
        so_far
        ∙ history_of-other first histories object (accepted_of object later)
        (λ same. false≢true (sym is ∙ eq-eqb _ _ (sym same))) (accepted_of-object object later)

pub accepted_may : (state : ReplicaState) (object : ObjectId) (accepted : List Accepted) (one : Accepted)
    → MayAcceptAll state accepted → accepted_of object accepted ≡ Some one → MayAccept state one
accepted_may state object [] one may found = absurd (none-some one found)
accepted_may state object (first ∷ later) one may found =
    by ((first.object).0 == object.0) found (accepted_may state object later one may.2)
  where
    by : (test : Bool) → cond test (Some first) (accepted_of object later) ≡ Some one
        → (accepted_of object later ≡ Some one → MayAccept state one) → MayAccept state one
    by true is so_far = subst (MayAccept state) (same_Some first one is) may.0
    by false is so_far = so_far is
